-- Which of all texts are read as literals.
use Rattle.std.proofs.Common.{◌≡◌, ◌⊎◌, ℕ, List, Bool, true, false, inl, inr, refl, ap, sym, subst}
use Rattle.std.proofs.Common.{◌∙◌, if◌then◌else◌, true≢false}
use Rattle.std.specs.Bool.{Decides}
use Rattle.literal.specs.Spelling.{Spelling, Spells, IsLiteral, written, IsWithin}
use Rattle.literal.specs.Normal.{nought, IsReading, IsPastLimits}
use Rattle.script_nodes.specs.Literals.{parts_of, normal_of, is_read_as, literal_of}
use Rattle.script_nodes.specs.Literals.{LiteralsAreTold, LiteralsAreTested, SpelledOnce}
use Rattle.script_nodes.proofs.LiteralReads.{parts_are}
use Rattle.script_nodes.proofs.NormalOnce.{normal_form}
use Rattle.script_nodes.proofs.Readable.{spelled_test, within_test, read_test}

read_within : (text : List ℕ) (x : Spelling) → parts_of text ≡ x → Spells text x → IsWithin x
    → IsReading text (literal_of text)
unfolding literal_of
read_within text x e s w =
    let l = normal_of x.form (written x) in
    let read : literal_of text ≡ l =
    ap (λ (y : Spelling). if is_read_as text y then normal_of y.form (written y) else nought) e
    ∙ ap (λ b. if b then l else nought) ((read_test text x).1 (s, w)) in
    subst (IsReading text) (sym read) (record {
      spelling = x;
      spells = s;
      within = w;
      normal = normal_form x.form x.whole x.fraction x.exponent s.parts.whole w;
    })

pub literals_are_told : LiteralsAreTold
literals_are_told text = by_tests _ _ (spelled_test text x) (within_test x.form x.whole (written x))
  where
    x : Spelling
    x = parts_of text

    by_tests : (a b : Bool) → Decides a (Spells text x) → Decides b (IsWithin x)
        → IsReading text (literal_of text) ⊎ (IsPastLimits text ⊎ ¬ IsLiteral text)
    by_tests true true p q = inl (read_within text x refl (p.0 refl) (q.0 refl))
    by_tests true false p q = inr
        (inl (record { spelling = x; spells = p.0 refl; beyond = λ w. true≢false (sym (q.1 w)) }))
    by_tests false b p q = inr
        (inr (λ l. true≢false (sym (p.1 (subst (Spells text) (sym (parts_are text l.0 l.1)) l.1)))))

pub spelled_once : SpelledOnce
spelled_once text x y s t = sym (parts_are text x s) ∙ parts_are text y t

pub literals_are_tested : LiteralsAreTested
literals_are_tested text = (
  λ h. let p = (read_test text (parts_of text)).0 h in
      read_within text (parts_of text) refl p.0 p.1,
  λ r.
      let e : parts_of text ≡ r.spelling = parts_are text r.spelling r.spells in
      (read_test text (parts_of text)).1
      (subst (λ x. Spells text x × IsWithin x) (sym e) (r.spells, r.within)),
)
