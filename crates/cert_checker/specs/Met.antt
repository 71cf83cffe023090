-- What meets a subject, and what the lines of an accepted certificate say of it.
use Rattle.std.specs.Prelude.{◌<◌, ⊤, ℕ, List, [], ◌∷◌, length, Some}
use Rattle.std.specs.List.{AllByRecursion}
use Rattle.fx_model.specs.Expression.{Assignment, IsOrdered}
use Rattle.fx_model.specs.declared.ExprId.{ExprId}
use Rattle.fx_model.specs.declared.Node.{Node}
use Rattle.facts.specs.declared.fact.Fact.{Fact}
use Rattle.facts.specs.declared.fact.Slot.{Slot}
use Rattle.facts.specs.declared.fact.Slot.TheVariants as slot
use Rattle.facts.specs.declared.hint.Need.{Need}
use Rattle.facts.specs.declared.hint.Need.TheVariants.{NotZero, Below, Above}
use Rattle.facts.specs.declared.hint.HintRow.{HintRow}
use Rattle.facts.specs.Holds.{Holds}
use Rattle.facts.specs.Order.{slot_of}
use Rattle.goals.specs.declared.goal.Goal.{Goal}
use Rattle.goals.specs.declared.line.Line.{Line}
use Rattle.goals.specs.Settles.{Settles}
use Rattle.goals.specs.Holds.{LineHolds}
use Rattle.theorem_list.specs.Promises.{RowsAreTrue}
use Rattle.cert_bytes.specs.declared.item.Item.{Item}
use Rattle.cert_bytes.specs.declared.order.DueItem.TheVariants.{Head}
use Rattle.cert_checker.specs.declared.subject.Subject.{Subject}
use Rattle.cert_checker.specs.Steps.{case_facts}
use Rattle.cert_checker.specs.Contexts.{Context, first}
use Rattle.cert_checker.specs.Accepted.{LeadsTo, AreInOrder, Accepts}

-- ---- what a subject names

-- the expressions that a slot is about are among the first n
abbrev pub SlotIsAmong : ℕ → Slot → Type 0
SlotIsAmong n (slot.Bnd x) = x.0 < n
SlotIsAmong n (slot.Abs x) = x.0 < n
SlotIsAmong n (slot.Rel x y) = (x.0 < n) × (y.0 < n)
SlotIsAmong n (slot.Fix x) = x.0 < n
SlotIsAmong n (slot.Nzr x) = x.0 < n
SlotIsAmong n slot.Void = ⊤

-- that of a constraint
abbrev pub NeedIsAmong : ℕ → Need → Type 0
NeedIsAmong n (NotZero x) = x.0 < n
NeedIsAmong n (Below x end apart) = x.0 < n
NeedIsAmong n (Above x end apart) = x.0 < n

-- those of a hint's row
pub record RowIsAmong (n : ℕ) (row : HintRow) : Type 0 where
  pub left : row.left.0 < n
  pub right : row.right.0 < n
  pub divisors : AllByRecursion (λ (d : ExprId). d.0 < n) row.divisors
  pub needs : AllByRecursion (NeedIsAmong n) row.needs

-- The facts of the cases, the goals and the rows of the hints name nodes of the script.
pub record NamesNodes (s : Subject) : Type 0 where
  pub facts : AllByRecursion
      (AllByRecursion (λ (f : Fact). SlotIsAmong (length s.nodes) (slot_of f))) s.cases
  pub goals : AllByRecursion (λ (g : Goal). SlotIsAmong (length s.nodes) g.of) s.goals
  pub hints : AllByRecursion (RowIsAmong (length s.nodes)) s.hints

-- ---- what an assignment meets

-- The rows of the hints are true of the assignment, and the facts of one of the cases hold of it.
pub record MeetsOver (nodes : List Node) (s : Subject) (a : Assignment) : Type 0 where
  pub rows : RowsAreTrue nodes a s.hints
  pub case : ℕ
  pub within : case < length s.cases
  pub facts : AllByRecursion (Holds nodes a) (case_facts s.cases case)

-- that over the script's own nodes
abbrev pub Meets : Subject → Assignment → Type 0
Meets s a = MeetsOver s.nodes s a

-- The line says something true of its goal, and a fact that settles the goal holds.
pub record GoalHolds (nodes : List Node) (a : Assignment) (g : Goal) (l : Line) : Type 0 where
  pub line : LineHolds nodes a g.of l
  pub fact : Fact
  pub settles : Settles g fact
  pub holds : Holds nodes a fact

-- This is so of each goal and its line.
abbrev pub LinesHold : List Node → Assignment → List Goal → List Line → Type 0
LinesHold nodes a [] [] = ⊤
LinesHold nodes a (g ∷ goals) (l ∷ lines) = GoalHolds nodes a g l × LinesHold nodes a goals lines
LinesHold nodes a _ _ = ⊥

-- ---- what acceptance promises

-- Over the nodes of the certificate: each line of an accepted one holds of every assignment that
-- meets the subject there.
abbrev pub HoldsOverCertificates : Type 0
HoldsOverCertificates = (s : Subject) (items : List Item) (lines : List Line)
    (accepted : Accepts s items lines) (a : Assignment)
    → IsOrdered s.nodes → MeetsOver accepted.end.nodes s a
    → LinesHold accepted.end.nodes a s.goals lines

-- Over the script's own nodes: each line of an accepted certificate holds of every assignment that
-- meets the subject, whoever wrote it.
abbrev pub AcceptedHolds : Type 0
AcceptedHolds = (s : Subject) (items : List Item) (lines : List Line)
    → IsOrdered s.nodes → NamesNodes s → Accepts s items lines → (a : Assignment) → Meets s a
    → LinesHold s.nodes a s.goals lines

-- The same of items in order, whatever the bytes are that spell them.
abbrev pub InOrderHolds : Type 0
InOrderHolds = (s : Subject) (items : List Item) (end : Context) → IsOrdered s.nodes
    → NamesNodes s → AreInOrder (Some Head) items → LeadsTo s (first s) items end
    → (a : Assignment) → Meets s a → LinesHold s.nodes a s.goals end.lines
