-- Numbers in base 128, digit by digit.
use Rattle.std.proofs.Common.{◌≡◌, ◌≤◌, ◌<◌, ◌+◌, ◌-◌, ◌*◌, ◌/◌, ◌%◌, ◌^◌, ◌++◌, ◌∷◌, [], ⊎_elim, ℕ}
use Rattle.std.proofs.Common.{zero, suc, true, false, List, length, refl, sym, ap, subst, ◌∙◌}
use Rattle.std.proofs.Common.{arith, append_assoc}
use Rattle.std.proofs.Math.Nat.{pow-succ'}
use Rattle.std.specs.Prelude.{nat_lt}
use Rattle.std.proofs.lemmas.Bool.{cases_lt}
use Rattle.cert_bytes.specs.Spelling.{digits}

pub last_digit : (k n : ℕ) → n < 128 → digits (suc k) n ≡ n ∷ []
unfolding digits
last_digit k n l = let t : nat_lt n 128 ≡ true = grind (arith, l) in rw t refl

pub first_digit : (k n : ℕ) → 128 ≤ n → digits (suc k) n ≡ (n % 128 + 128) ∷ digits k (n / 128)
unfolding digits
first_digit k n l = let t : nat_lt n 128 ≡ false = grind (arith, l) in rw t refl

pub digits_most : (k n : ℕ) → length (digits k n) ≤ k
unfolding digits
digits_most zero n = omega arith
digits_most (suc k) n = ⊎_elim
    (λ l. let e = ap length (last_digit k n l) in omega (arith, e))
    (λ l. let e = ap length (first_digit k n l) in
    let m = digits_most k (n / 128) in omega (arith, e, m))
    (cases_lt n 128)

pub digits_some : (k n : ℕ) → 1 ≤ length (digits (suc k) n)
digits_some k n = ⊎_elim
    (λ l. let e = ap length (last_digit k n l) in omega (arith, e))
    (λ l. let e = ap length (first_digit k n l) in omega (arith, e))
    (cases_lt n 128)

-- ---- digits that are written one by one

further : (left rest : ℕ) → 128 ≤ rest → rest < 128 ^ left
    → (k : ℕ) × (left ≡ suc (suc k)) × (rest / 128 < 128 ^ suc k)
further zero rest l r = absurd (let z : rest < 1 = r in omega (arith, z, l))
further (suc zero) rest l r = absurd (let z : rest < 128 = r in omega (arith, z, l))
further (suc (suc k)) rest l r =
    let e : 128 ^ suc (suc k) ≡ 128 * 128 ^ suc k = pow-succ' 128 (suc k) in
    (k, refl, omega (arith, e, r))

-- a number below a power has no more digits than that
pub digits_below : (j k n : ℕ) → n < 128 ^ suc k → length (digits j n) ≤ suc k
unfolding digits
digits_below zero k n l = omega arith
digits_below (suc j) k n l = ⊎_elim
    (λ s. let e = ap length (last_digit j n s) in omega (arith, e))
    (λ s. let f = further (suc k) n s l in
    let e = ap length (first_digit j n s) in
    let h = digits_below j f.0 (n / 128) f.2 in
    let same = f.1 in
    omega (arith, e, h, same))
    (cases_lt n 128)

less_one : (left k : ℕ) → left ≡ suc (suc k) → left - 1 ≡ suc k
less_one left k e = omega (arith, e)

pub fewer_left : (left rest : ℕ) → 128 ≤ rest → rest < 128 ^ left
    → (1 ≤ left - 1) × (rest / 128 < 128 ^ (left - 1))
fewer_left left rest l r = let f = further left rest l r in let e = less_one left f.0 f.1 in
    (omega (arith, e), subst (λ (k : ℕ). rest / 128 < 128 ^ k) (sym e) f.2)

pub one_written : (out new total : List ℕ) (left rest : ℕ) → 128 ≤ rest
    → rest < 128 ^ left → new ≡ out ++ (rest % 128 + 128) ∷ [] → out ++ digits left rest ≡ total
    → new ++ digits (left - 1) (rest / 128) ≡ total
one_written out new total left rest l r n e =
    let f = further left rest l r in
    let digit : digits left rest ≡ (rest % 128 + 128) ∷ digits (left - 1) (rest / 128) =
    ap (λ (k : ℕ). digits k rest) f.1 ∙ first_digit (suc f.0) rest l
    ∙ ap (λ (k : ℕ). (rest % 128 + 128) ∷ digits k (rest / 128)) (sym (less_one left f.0 f.1)) in
    ap (λ (s : List ℕ). s ++ digits (left - 1) (rest / 128)) n
    ∙ append_assoc out ((rest % 128 + 128) ∷ []) (digits (left - 1) (rest / 128))
    ∙ ap (λ (s : List ℕ). out ++ s) (sym digit)
    ∙ e

pub last_written : (out new total : List ℕ) (left rest : ℕ) → rest < 128 → 1 ≤ left
    → new ≡ out ++ rest ∷ [] → out ++ digits left rest ≡ total → new ≡ total
last_written out new total zero rest l s n e = absurd (let z : 1 ≤ 0 = s in omega (arith, z))
last_written out new total (suc left) rest l s n e =
    n ∙ ap (λ (s : List ℕ). out ++ s) (sym (last_digit left rest l)) ∙ e
