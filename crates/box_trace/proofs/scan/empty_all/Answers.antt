use Rattle.std.proofs.Common.{◌≡◌, ◌∙◌, ◌<◌, ℕ, zero, suc, List, [], ◌∷◌, Option, Some, None}
use Rattle.std.proofs.Common.{length, slice_get, ap, arith, refl}
use Rattle.std.specs.Prelude.{replicate}
use Rattle.box_trace.proofs.scan.empty_all.Goals as goal

some_same : {X : Type 0} (a b : Option X) → Some a ≡ Some b → a ≡ b
some_same a b e = cc

-- a list that has nothing else
all_none : {X : Type 0} (xs : List (Option X))
    → ((i : ℕ) → i < length xs → slice_get xs i ≡ Some None) → xs ≡ replicate (length xs) None
all_none [] none = refl
all_none (x ∷ xs) none =
    ap (λ y. y ∷ xs) (some_same x None (none zero (omega arith)))
    ∙ ap (λ ys. None ∷ ys) (all_none xs (λ i l. none (suc i) (omega (arith, l))))

pub returns : goal.returns
returns c =
    all_none c.loop-k.ends (λ i l. c.loop-k.invariant.none i
    (omega (arith, c.loop-k-test.false, l, c.loop-k.invariant.long)))
    ∙ ap (λ (n : ℕ). replicate n None) c.loop-k.invariant.long
