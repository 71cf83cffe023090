-- The literal of a text is what the text is read as.
use Rattle.std.proofs.Common.{◌≡◌, ℕ, List, Bool, true, false, Result, Err, ◌↔◌, refl, ap, sym}
use Rattle.std.proofs.Common.{subst, ◌∙◌, if◌then◌else◌}
use Rattle.fx_model.specs.declared.Literal.{Literal}
use Rattle.literal.specs.declared.reading.LiteralFault.{LiteralFault}
use Rattle.literal.specs.declared.reading.LiteralFault.TheVariants as fault
use Rattle.literal.specs.Spelling.{Spelling, Spells, IsLiteral, written, IsWithin}
use Rattle.literal.specs.Normal.{nought, IsPastLimits}
use Rattle.script_nodes.specs.Literals.{parts_of, normal_of, is_read_as, literal_of, ReadsLiterals}
use Rattle.script_nodes.proofs.Spelled.{spelled}
use Rattle.script_nodes.proofs.NormalOnce.{normal_is}
use Rattle.script_nodes.proofs.Readable.{read_test}

abbrev number : Spelling → Literal
number x = normal_of x.form (written x)

pub parts_are : (text : List ℕ) (x : Spelling) → Spells text x → parts_of text ≡ x
parts_are text x s = ap parts_of (sym s.bytes) ∙ spelled x s.parts

pub reads_literals : ReadsLiterals
unfolding literal_of
reads_literals text l r =
    let x = r.spelling in
    let parts : parts_of text ≡ x = parts_are text x r.spells in
    ap (λ (y : Spelling). if is_read_as text y then number y else nought) parts
    ∙ ap (λ b. if b then number x else nought) ((read_test text x).1 (r.spells, r.within))
    ∙ normal_is x.form x.whole x.fraction x.exponent l r.spells.parts.whole r.within r.normal

not_read : (text : List ℕ) → (Spells text (parts_of text) × IsWithin (parts_of text) → ⊥)
    → literal_of text ≡ nought
unfolding literal_of
not_read text n = by_test (is_read_as text (parts_of text)) (read_test text (parts_of text)).0
  where
    by_test : (b : Bool) → (b ≡ true → Spells text (parts_of text) × IsWithin (parts_of text))
        → (if b then number (parts_of text) else nought) ≡ nought
    by_test true h = absurd (n (h refl))
    by_test false h = refl

none_is_zero : (text : List ℕ) → ¬ IsLiteral text → literal_of text ≡ nought
none_is_zero text n = not_read text (λ s. n (parts_of text, s.0))

past_is_zero : (text : List ℕ) → IsPastLimits text → literal_of text ≡ nought
past_is_zero text p =
    not_read text (λ s. p.beyond (subst IsWithin (parts_are text p.spelling p.spells) s.1))

-- a text that isn't read
pub fault_is_zero : (text : List ℕ) (f : LiteralFault)
    → ((◌≡◌ {A = Result Literal LiteralFault} (Err f) (Err fault.BadLiteral)) ↔ ¬ IsLiteral text)
    → ((◌≡◌ {A = Result Literal LiteralFault} (Err f) (Err fault.LiteralLimit)) ↔ IsPastLimits text)
    → literal_of text ≡ nought
fault_is_zero text fault.BadLiteral bad past = none_is_zero text (bad.0 refl)
fault_is_zero text fault.LiteralLimit bad past = past_is_zero text (past.0 refl)
