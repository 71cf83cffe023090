-- The first refusal of a text that is read.
use Rattle.std.proofs.Common.{◌≡◌, ℕ, List, length, Option, None, true, sym, ap, ◌∙◌, subst}
use Rattle.std.specs.List.{slice_get}
use Rattle.std.specs.Option.{is_some}
use Rattle.script_shape.specs.declared.due.Due.{Due}
use Rattle.script_shape.specs.Tree.{IsScript}
use Rattle.script_shape.specs.Roles.{script_leaves, LeavesAreOfTrees}
use Rattle.script_judge.specs.declared.refusal.Refusal.{Refusal}
use Rattle.script_judge.specs.declared.fault.Fault.{Fault}
use Rattle.script_judge.specs.declared.formula.Formula.{Formula}
use Rattle.script_judge.specs.Reading.{Reading, IsReadable, IsReadingOf, fault}
use Rattle.script_judge.specs.Front.{said_in, ReadsFronts}
use Rattle.script_judge.specs.Judging.{IsFirstFault}
use Rattle.script_judge.specs.First.{first_of, refusal_of, IsFirstRefusal, read}
use Rattle.script_judge.proofs.FirstLaws.{second_none}
use Rattle.script_judge.proofs.Whole.{ends}
use Rattle.script_grammar.specs.Judgement.{has_formula}
use Rattle.script_grammar.proofs.Once.{first_none}
use Rattle.script_grammar.proofs.Accepted.{reading_leaves}
use Rattle.script_grammar.proofs.FrontLeaves.{roles, formula_ends, leaves_say}

module _ (text : List ℕ) (r : Reading) (len : ℕ) (h : IsReadingOf text r) (l : len ≡ length text)
    (f j o : Option Refusal) (e : f ≡ fault len r) (g : o ≡ first_of f j) where
  pub first_read : ReadsFronts → IsReadable text
      → (found : Option Fault) × IsFirstFault r.leaves found × (j ≡ refusal_of r found)
      → IsFirstRefusal text o
  first_read fronts k found =
      let same : o ≡ first_of (fault (length text) r) (refusal_of r found.0) =
      g ∙ ap (λ x. first_of x j) (e ∙ ap (λ n. fault n r) l)
      ∙ ap (first_of (fault (length text) r)) found.2 in
      subst (IsFirstRefusal text) (sym same)
      (read {said = said_in r.leaves} k h (leaves_say fronts r.leaves h.roles) found.1)

  -- where there is none, the formula has ended
  pub formula_there : LeavesAreOfTrees → (rs : List Due) → roles r.leaves ≡ rs → o ≡ None
      → (formula : Option Formula)
      → (j ≡ None → has_formula rs ≡ true → is_some formula ≡ true) → is_some formula ≡ true
  formula_there are rs q none formula whole =
      let both : first_of f j ≡ None = sym g ∙ none in
      let end = ends len r (slice_get r.words r.taken) (sym e ∙ first_none f j both) in
      let script : IsScript r.words = (h.shape.whole end.1).1 in
      let leaves : r.leaves ≡ script_leaves script.0 =
      reading_leaves are r text script.0 h script.1 in
      whole (second_none f j both)
      (ap has_formula (sym q ∙ ap roles leaves) ∙ formula_ends script.0)
