-- A variable without an entry, once all entries have been read.
use Rattle.std.specs.Prelude.{◌≡◌, ℕ, List, [], length, slice_get, Option, Some, None, refl, map}
use Rattle.std.proofs.Common.{sym, ap, ◌∙◌, subst, arith, Vec, Global, IfOk, Ok, Err, Result}
use Rattle.std.proofs.lemmas.Option.{slice_get_within}
use Rattle.script_words.specs.declared.lex.Token.{Token}
use Rattle.script_words.specs.Lex.{Lexes}
use Rattle.script_nodes.specs.Known.{Name}
use Rattle.script_nodes.specs.Literals.{ReadsLiterals}
use Rattle.point_values.specs.Rows.{Row}
use Rattle.point_text.specs.declared.fault.PointFault.{PointFault}
use Rattle.point_text.specs.Points.{name, parts_of, IsShortText, SpellsPoint}
use Rattle.point_text.specs.PointFaults.{IsPointFault, end_of}
use Rattle.point_text.specs.Gathered.{Gathering, Gathered, gathered, IsMissing}
use Rattle.point_text.proofs.Gathering.{spelled}
use Rattle.point_text.proofs.Places.{unset_or_set, AreDistinct}
use Rattle.point_text.proofs.Parts.{Has, name_of_entry}
use Rattle.point_text.proofs.Machine.{at_name}
use Rattle.point_text.proofs.Stops.{missing_fault, bad_fault}
use Rattle.point_text.proofs.Spelled.{some_at}
use Rattle.point_text.proofs.Refused.{gathered_stands}

missing_by : ReadsLiterals → (variables : List Name) (text : List ℕ) (tokens : List Token)
    (rows : List (Option Row)) (f : PointFault) → AreDistinct variables → IsShortText text
    → Lexes 0 text tokens None → Gathering variables text tokens [] rows
    → IsMissing rows (length text) f → IsPointFault variables text f
missing_by law variables text tokens rows f distinct short lexed g m =
    let st = gathered_stands law variables text tokens [] rows g in
    let l = slice_get_within rows m.place None m.unset in
    let c = g.count in
    let v = some_at variables m.place (omega arith) in
    let parts = ap (parts_of text) st.1 ∙ g.parts in
    let none : ¬ Has (parts_of text st.0.before) (name v.0) = λ h.
    let e = name_of_entry g.entries v.0 (subst (λ ps. Has ps (name v.0)) parts h) in
    let w = g.set e.0 e.1 e.2 in
    let same : w.0 ≡ m.place =
    distinct w.0 m.place v.0 (w.3.there ∙ ap (λ x. Some x) e.3) v.1 in
    unset_or_set (slice_get rows w.0) w.1 (ap (slice_get rows) same ∙ m.unset) w.2 in
    subst (IsPointFault variables text) (sym m.fault)
    (missing_fault variables text tokens None g.entries m.place v.0 short lexed st.0 parts refl v.1
    none)

pub missing_told : ReadsLiterals → (variables : List Name) (text : List ℕ) (tokens : List Token)
    (bad : Option ℕ) (rows : List (Option Row)) (len : ℕ) (f : PointFault) → AreDistinct variables
    → IsShortText text → Lexes 0 text tokens bad → bad ≡ None
    → Gathered variables text tokens [] rows → len ≡ length text → IsMissing rows len f
    → IsPointFault variables text f
missing_told law variables text tokens bad rows len f distinct short lexed none (gathered g) e m =
    missing_by law variables text tokens rows f distinct short
    (subst (Lexes 0 text tokens) none lexed) g (subst (λ n. IsMissing rows n f) e m)

-- a byte begins no token, behind whole entries
pub bad_told : ReadsLiterals → (variables : List Name) (text : List ℕ) (tokens : List Token) (bad :
    Option ℕ) (rows : List (Option Row)) (at : ℕ) (end f : PointFault)
    → IsShortText text → Lexes 0 text tokens bad → Gathered variables text tokens [] rows
    → bad ≡ Some at
    → end ≡ end_of text bad → end ≡ f → IsPointFault variables text f
bad_told law variables text tokens bad rows at end f short lexed (gathered g) b e q =
    subst (IsPointFault variables text) (sym (ap (end_of text) b) ∙ sym e ∙ q)
    (bad_fault variables text tokens bad at_name at short lexed
    (gathered_stands law variables text tokens [] rows g).0 b)

-- all rows are set, and no byte begins no token
pub spelled_all : (variables : List Name) (text : List ℕ) (tokens : List Token) (bad : Option ℕ)
    (rows : List (Option Row)) {E : Type 0} (r : Result (Vec Row Global) E)
    → IsShortText text → Lexes 0 text tokens bad → bad ≡ None
    → Gathered variables text tokens [] rows
    → length rows ≡ length variables → IfOk r (λ all. length all.items ≡ length rows)
    → IfOk r (λ all. rows ≡ map (λ x. Some x) all.items)
    → IfOk r (λ all. SpellsPoint variables text all.items)
spelled_all variables text tokens bad rows (Ok all) short lexed none g n c a =
    spelled variables text tokens rows all.items short (subst (Lexes 0 text tokens) none lexed) g a
    (c ∙ n)
spelled_all variables text tokens bad rows (Err e) short lexed none g n c a = tt
