-- Texts that aren't read as literals.
use Rattle.std.proofs.Common.{◌≡◌, ◌↔◌, ℕ, Bool, true, false, List, Result, Err, refl, subst}
use Rattle.fx_model.specs.declared.Literal.{Literal}
use Rattle.literal.specs.declared.reading.LiteralFault.{LiteralFault}
use Rattle.literal.specs.declared.reading.LiteralFault.TheVariants.{BadLiteral, LiteralLimit}
use Rattle.literal.specs.Spelling.{Spelling, Spells, IsLiteral, IsWithin}
use Rattle.literal.specs.Normal.{IsPastLimits}
use Rattle.script_nodes.specs.Literals.{LiteralsAreTested}
use Rattle.fixprog.specs.Faults.{is_literal}

false_by : (b : Bool) → (b ≡ true → ⊥) → b ≡ false
false_by true h = absurd (h refl)
false_by false h = refl

abbrev fails : LiteralFault → Result Literal LiteralFault
fails f = Err f

-- a text that is no literal, or one past its limits
pub not_read : (text : List ℕ) (f : LiteralFault) → LiteralsAreTested
    → ((fails f ≡ fails BadLiteral) ↔ ¬ IsLiteral text)
    → ((fails f ≡ fails LiteralLimit) ↔ IsPastLimits text)
    → ((x y : Spelling) → Spells text x → Spells text y → x ≡ y) → is_literal text ≡ false
not_read text BadLiteral tested bad past one = false_by (is_literal text) (λ h. let r =
    (tested text).0 h in bad.0 refl (r.spelling, r.spells))
not_read text LiteralLimit tested bad past one =
    false_by (is_literal text) (λ h. let r = (tested text).0 h in let p = past.0 refl in
    p.beyond (subst IsWithin (one r.spelling p.spelling r.spells p.spells) r.within))
