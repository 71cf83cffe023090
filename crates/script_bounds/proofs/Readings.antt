-- What a text that was read stands for.
use Rattle.std.proofs.Common.{◌≡◌, ℕ, List, Bool, Some, None, Result, Err, ◌↔◌, refl, sym, ap, ◌∙◌}
use Rattle.std.proofs.Common.{subst}
use Rattle.fx_model.specs.Fraction.{Fraction}
use Rattle.fx_model.specs.Grid.{signed}
use Rattle.fx_model.specs.Expression.{literal_value}
use Rattle.fx_model.specs.declared.Literal.{Literal}
use Rattle.literal.specs.declared.reading.LiteralFault.{LiteralFault}
use Rattle.literal.specs.declared.reading.LiteralFault.TheVariants as fault
use Rattle.literal.specs.Spelling.{Spelling, Spells, IsLiteral, IsWithin, written}
use Rattle.literal.specs.Normal.{IsReading, IsPastLimits}
use Rattle.script_bounds.specs.Texts.{IsNumber}

abbrev failed : LiteralFault → Result Literal LiteralFault
failed f = Err f

module _ (negative : Bool) (text : List ℕ) (one : (x y : Spelling) → Spells text x
    → Spells text y → x ≡ y) where
  same_value : (l : Literal) (r : IsReading text l) (x : Fraction) → IsNumber negative text x
      → signed negative (literal_value l) ≡ x
  same_value l r x n = ap (signed negative) (r.normal.value ∙ ap (λ s. literal_value (written s))
      (one r.spelling n.spelling r.spells n.spells)) ∙ sym n.value

  pub within_limits : (l : Literal) → IsReading text l → (x : Fraction)
      → (Some (signed negative (literal_value l)) ≡ Some x) ↔ IsNumber negative text x
  within_limits l r x = (is, λ n. ap Some (same_value l r x n))
    where
      some_out : (y : Fraction) → Some y ≡ Some x → y ≡ x
      some_out y e = cc

      is : Some (signed negative (literal_value l)) ≡ Some x → IsNumber negative text x
      is e = record {
        spelling = r.spelling;
        spells = r.spells;
        within = r.within;
        value = sym (some_out _ e) ∙ ap (signed negative) r.normal.value;
      }

  no_number : (f : LiteralFault) → ((failed f ≡ failed fault.BadLiteral) ↔ ¬ IsLiteral text)
      → ((failed f ≡ failed fault.LiteralLimit) ↔ IsPastLimits text) → (x : Fraction)
      → IsNumber negative text x → ⊥
  no_number fault.BadLiteral bad past x n = bad.0 refl (n.spelling, n.spells)
  no_number fault.LiteralLimit bad past x n = let p = past.0 refl in
      p.beyond (subst (λ s. IsWithin s) (one n.spelling p.spelling n.spells p.spells) n.within)

  pub past_limits : (f : LiteralFault) → ((failed f ≡ failed fault.BadLiteral) ↔ ¬ IsLiteral text)
      → ((failed f ≡ failed fault.LiteralLimit) ↔ IsPastLimits text) → (x : Fraction)
      → (None ≡ Some x) ↔ IsNumber negative text x
  past_limits f bad past x = (λ e. cc e, λ n. absurd (no_number f bad past x n))
