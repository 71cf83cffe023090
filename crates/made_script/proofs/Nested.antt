-- The polynomial by its powers alone.
use Rattle.std.proofs.Common.{◌≡◌, ◌≤◌, ◌<◌, ◌+◌, ◌-◌, ◌++◌, ℕ, zero, suc, true, false, nat_lt}
use Rattle.std.proofs.Common.{refl, sym, ap, ◌∙◌, arith, codes}
use Rattle.std.proofs.lemmas.Grind.{common_steps}
use Rattle.made_script.specs.Script.{Bytes, literal, in_parentheses, horner, factor, EndsInALiteral}
use Rattle.made_script.specs.Script.{AreNested}

pub factor_inside : (n i : ℕ) (text : Bytes) → i + 1 < n
    → factor n i text ≡ codes "(" ++ text ++ codes ")"
factor_inside n i text lt =
    let inside : nat_lt (i + 1) n ≡ true = grind (arith, common_steps) in rw inside refl

pub factor_last : (n i : ℕ) (text : Bytes) → n ≤ i + 1 → factor n i text ≡ text
factor_last n i text le =
    let last : nat_lt (i + 1) n ≡ false = grind (arith, common_steps) in rw last refl

by_powers : (powers n i : ℕ) (text : Bytes) → i < n → n - (i + 1) ≡ powers
    → in_parentheses powers text ≡ factor n i text
by_powers zero n i text lt e = sym (factor_last n i text (omega arith))
by_powers (suc powers) n i text lt e = sym (factor_inside n i text (omega arith))

pub ends : EndsInALiteral
ends n = let none : n - n ≡ 0 = omega arith in ap (horner n) none

pub nested : AreNested
nested n i lt =
    let more : n - i ≡ suc (n - (i + 1)) = omega arith in
    ap (horner i) more ∙ ap (λ text. text ++ codes " * x + " ++ literal i)
    (by_powers (n - (i + 1)) n i (horner (i + 1) (n - (i + 1))) lt refl)
