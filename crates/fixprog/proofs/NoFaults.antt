-- What a list of faults that is empty says of its parts.
use Rattle.std.specs.Prelude.{◌≡◌, ℕ, ◌+◌, ◌<◌, ◌≤◌, nat_lt, not, Bool, true, false, List, [], ◌∷◌}
use Rattle.std.specs.Prelude.{◌++◌, refl}
use Rattle.std.proofs.Common.{arith}
use Rattle.fixprog.specs.declared.fault.ProgKind.{ProgKind}
use Rattle.fixprog.specs.Faults.{Before, fault_if, weight_faults}

-- no faults in front
pub none_front : {A : Type 0} (xs ys : List A) → xs ++ ys ≡ [] → xs ≡ []
none_front [] ys h = refl
none_front (x ∷ xs) ys h = absurd (cc)

-- and none behind
pub none_behind : {A : Type 0} (xs ys : List A) → xs ++ ys ≡ [] → ys ≡ []
none_behind [] ys h = h
none_behind (x ∷ xs) ys h = absurd (cc)

-- a test that must hold holds
pub not_if : (b : Bool) (k : ProgKind) (i j : ℕ) → fault_if (not b) k i j ≡ [] → b ≡ true
not_if true k i j h = refl
not_if false k i j h = absurd (cc)

-- a test that must not hold does not
pub no_if : (b : Bool) (k : ProgKind) (i j : ℕ) → fault_if b k i j ≡ [] → b ≡ false
no_if true k i j h = absurd (cc)
no_if false k i j h = refl

-- a shift is by at most 63 places
pub short_by : (n : ℕ) → nat_lt 63 n ≡ false → n < 64
short_by n h = grind arith

-- what is written weighs at most 128
pub light : (b : Before) (w i : ℕ) → weight_faults b w i ≡ [] → b.weight + w ≤ 128
light b w i h = let e : nat_lt 128 (b.weight + w) ≡ false = no_if _ _ _ _ h in grind arith
