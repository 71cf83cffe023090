-- What is said of an assignment over one list of nodes is said over another in which the first n
-- have the same values.
use Rattle.std.proofs.Common.{◌≡◌, ◌<◌, ℕ, zero, suc, List, [], ◌∷◌, Option, Some, sym, subst, ◌∙◌}
use Rattle.std.specs.Prelude.{slice_get}
use Rattle.std.specs.Option.{IsSomeAnd}
use Rattle.std.specs.List.{AllByRecursion}
use Rattle.fx_model.specs.Fraction.{Fraction}
use Rattle.fx_model.specs.Expression.{Assignment, value}
use Rattle.fx_model.specs.declared.ExprId.{ExprId}
use Rattle.fx_model.specs.declared.Node.{Node}
use Rattle.facts.specs.declared.fact.Fact.{Fact}
use Rattle.facts.specs.declared.fact.Fact.TheVariants as fact
use Rattle.facts.specs.declared.fact.Slot.{Slot}
use Rattle.facts.specs.declared.fact.Slot.TheVariants as slot
use Rattle.facts.specs.declared.hint.Need.{Need}
use Rattle.facts.specs.declared.hint.Need.TheVariants.{NotZero, Below, Above}
use Rattle.facts.specs.declared.hint.HintRow.{HintRow}
use Rattle.facts.specs.Holds.{Holds}
use Rattle.facts.specs.Order.{slot_of}
use Rattle.facts.specs.Rows.{IsMet, RowIsTrue}
use Rattle.goals.specs.declared.goal.Goal.{Goal}
use Rattle.goals.specs.declared.line.Line.{Line}
use Rattle.goals.specs.declared.line.Line.TheVariants as line
use Rattle.goals.specs.Lies.{OfBoth}
use Rattle.goals.specs.Holds.{LineHolds}
use Rattle.theorem_list.specs.Promises.{RowsAreTrue}
use Rattle.cert_checker.specs.Met.{SlotIsAmong, NeedIsAmong, RowIsAmong, GoalHolds, LinesHold}

-- the first n expressions have the same values
abbrev pub AreSame : ℕ → List Node → List Node → Assignment → Type 0
AreSame n ns ms a = (x : ExprId) → x.0 < n → value ns a x ≡ value ms a x

pub turned : (n : ℕ) (ns ms : List Node) (a : Assignment) → AreSame n ns ms a → AreSame n ms ns a
turned n ns ms a e x l = sym (e x l)

module _ (n : ℕ) (ns ms : List Node) (a : Assignment) (same : AreSame n ns ms a) where
  one : (x : ExprId) (P : Fraction → Type 0) → x.0 < n → IsSomeAnd (value ns a x) P
      → IsSomeAnd (value ms a x) P
  one x P l h = subst (λ o. IsSomeAnd o P) (same x l) h

  both : (x y : ExprId) (P : Fraction → Fraction → Type 0) → x.0 < n → y.0 < n
      → OfBoth ns a x y P → OfBoth ms a x y P
  both x y P l k h =
      let Q : Option Fraction → Type 0 = λ o. IsSomeAnd o (λ v. IsSomeAnd (value ms a y) (P v)) in
      let R : Option Fraction → Type 0 = λ o. IsSomeAnd (value ns a x) (λ v. IsSomeAnd o (P v)) in
      subst Q (same x l) (subst R (same y k) h)

  pub fact_moved : (f : Fact) → SlotIsAmong n (slot_of f) → Holds ns a f → Holds ms a f
  fact_moved (fact.Bnd x i) l h = one x _ l h
  fact_moved (fact.Abs x s) l h = one x _ l h
  fact_moved (fact.Rel x y e) l h = both x y _ l.0 l.1 h
  fact_moved (fact.Fix x k) l h = one x _ l h
  fact_moved (fact.Nzr x) l h = one x _ l h
  fact_moved fact.Void l h = h

  pub facts_moved : (facts : List Fact)
      → AllByRecursion (λ (f : Fact). SlotIsAmong n (slot_of f)) facts
      → AllByRecursion (Holds ns a) facts → AllByRecursion (Holds ms a) facts
  facts_moved [] l h = tt
  facts_moved (f ∷ facts) l h = (fact_moved f l.0 h.0, facts_moved facts l.1 h.1)

  pub needs_moved : (needs : List Need) → AllByRecursion (NeedIsAmong n) needs
      → AllByRecursion (IsMet ns a) needs → AllByRecursion (IsMet ms a) needs
  needs_moved [] l h = tt
  needs_moved (NotZero x ∷ needs) l h = (one x _ l.0 h.0, needs_moved needs l.1 h.1)
  needs_moved (Below x end apart ∷ needs) l h = (one x _ l.0 h.0, needs_moved needs l.1 h.1)
  needs_moved (Above x end apart ∷ needs) l h = (one x _ l.0 h.0, needs_moved needs l.1 h.1)

  pub nonzero_moved : (divisors : List ExprId) → AllByRecursion (λ (d : ExprId). d.0 < n) divisors
      → AllByRecursion (λ d. Holds ns a (fact.Nzr d)) divisors
      → AllByRecursion (λ d. Holds ms a (fact.Nzr d)) divisors
  nonzero_moved [] l h = tt
  nonzero_moved (d ∷ divisors) l h = (one d _ l.0 h.0, nonzero_moved divisors l.1 h.1)

  line_moved : (s : Slot) (l : Line) → SlotIsAmong n s → LineHolds ns a s l → LineHolds ms a s l
  line_moved (slot.Bnd x) (line.In i) l h = one x _ l h
  line_moved (slot.Rel x y) (line.In i) l h = both x y _ l.0 l.1 h
  line_moved (slot.Rel x y) line.None l h = both x y _ l.0 l.1 h
  line_moved (slot.Bnd x) line.None l h = absurd h
  line_moved (slot.Abs x) (line.In i) l h = absurd h
  line_moved (slot.Abs x) line.None l h = absurd h
  line_moved (slot.Fix x) (line.In i) l h = absurd h
  line_moved (slot.Fix x) line.None l h = absurd h
  line_moved (slot.Nzr x) (line.In i) l h = absurd h
  line_moved (slot.Nzr x) line.None l h = absurd h
  line_moved slot.Void (line.In i) l h = absurd h
  line_moved slot.Void line.None l h = absurd h
  line_moved s line.Empty l h = absurd h

  goal_moved : (g : Goal) (l : Line) → SlotIsAmong n g.of → GoalHolds ns a g l → GoalHolds ms a g l
  goal_moved g l named h = record {
    line = line_moved g.of l named h.line;
    fact = h.fact;
    settles = h.settles;
    holds = fact_moved h.fact (subst (SlotIsAmong n) (sym h.settles.0) named) h.holds;
  }

  pub lines_moved : (goals : List Goal) (lines : List Line)
      → AllByRecursion (λ (g : Goal). SlotIsAmong n g.of) goals → LinesHold ns a goals lines
      → LinesHold ms a goals lines
  lines_moved [] [] l h = tt
  lines_moved (g ∷ goals) (line ∷ lines) l h =
      (goal_moved g line l.0 h.0, lines_moved goals lines l.1 h.1)
  lines_moved [] (line ∷ lines) l h = absurd h
  lines_moved (g ∷ goals) [] l h = absurd h

module _ (n : ℕ) (ns ms : List Node) (a : Assignment) (same : AreSame n ns ms a) where
  row_moved : (row : HintRow) → RowIsAmong n row → RowIsTrue ns a row → RowIsTrue ms a row
  row_moved row l h z m v r =
      let back = turned n ns ms a same in
      sym (same row.left l.left) ∙ h (nonzero_moved n ms ns a back row.divisors l.divisors z)
      (needs_moved n ms ns a back row.needs l.needs m) v (same row.right l.right ∙ r)

  row_at : (hints : List HintRow) (k : ℕ) (row : HintRow) → AllByRecursion (RowIsAmong n) hints
      → slice_get hints k ≡ Some row → RowIsAmong n row
  row_at [] k row l e = cc
  row_at (r ∷ hints) zero row l e = let q : r ≡ row = cc in subst (RowIsAmong n) q l.0
  row_at (r ∷ hints) (suc k) row l e = row_at hints k row l.1 e

  pub rows_moved : (hints : List HintRow) → AllByRecursion (RowIsAmong n) hints
      → RowsAreTrue ns a hints → RowsAreTrue ms a hints
  rows_moved hints l h k row e = row_moved row (row_at hints k row l e) (h k row e)
