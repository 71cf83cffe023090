-- How items are judged.
use Rattle.std.specs.Prelude.{◌≡◌, ◌<◌, ◌≤◌, ◌+◌, ⊤, true, false, ℕ, zero, suc, min, List, [], ◌∷◌}
use Rattle.std.specs.Prelude.{length, slice_get, Option, Some, None, Result, Ok, Err}
use Rattle.fx_model.specs.Expression.{ChildrenBelow}
use Rattle.fx_model.specs.declared.ExprId.{ExprId}
use Rattle.fx_model.specs.declared.Node.{Node}
use Rattle.fx_model.specs.declared.Node.TheVariants.{Var}
use Rattle.expr_dag.specs.Nodes.{IsAbsent}
use Rattle.facts.specs.declared.fact.Fact.{Fact}
use Rattle.facts.specs.declared.fact.Fact.TheVariants as fact
use Rattle.facts.specs.declared.hint.HintMark.{HintMark}
use Rattle.goals.specs.declared.goal.Goal.{Goal}
use Rattle.goals.specs.Settles.{Settles}
use Rattle.cert_bytes.specs.declared.item.Item.{Item}
use Rattle.cert_bytes.specs.declared.item.Item.TheVariants as item
use Rattle.cert_bytes.specs.Due.{is_of_root}
use Rattle.cert_bytes.specs.declared.item.StepRow.{StepRow}
use Rattle.cert_checker.specs.declared.fault.CheckFault.{CheckFault}
use Rattle.cert_checker.specs.declared.fault.CheckFault.TheVariants.{BadStep, BadPremise, BadCut}
use Rattle.cert_checker.specs.declared.fault.CheckFault.TheVariants.{GoalMissing}
use Rattle.cert_checker.specs.declared.fault.CheckFault.TheVariants.{HintMark as HintFault}
use Rattle.cert_checker.specs.declared.fault.CheckFault.TheVariants.{WrongScript, BadNode, BadCases}
use Rattle.cert_checker.specs.declared.open.Citable.{Citable}
use Rattle.cert_checker.specs.Contexts.{Context}
use Rattle.cert_checker.specs.declared.subject.Subject.{Subject}
use Rattle.cert_checker.specs.Steps.{step_fact, Givens, givens, IsCiting, IsConcluded}
use Rattle.cert_checker.specs.declared.fault.TakeStop.{TakeStop}
use Rattle.cert_checker.specs.declared.fault.TakeStop.TheVariants.{Check, OutOfMemory}

-- ---- nodes and marks

-- a variable is one of the script's
abbrev pub IsVariableBelow : ℕ → Node → Type 0
IsVariableBelow n (Var v) = v < n
IsVariableBelow n _ = ⊤

-- A node behind the script's own: it is made of earlier ones, is none of them, and there is room
-- for it.
pub record IsFurther (variables : ℕ) (nodes : List Node) (n : Node) : Type 0 where
  pub room : length nodes < 1024
  pub children : ChildrenBelow (length nodes) n
  pub variable : IsVariableBelow variables n
  pub absent : IsAbsent nodes n

-- the next node is the script's own
abbrev pub IsOwn : List Node → List Node → Node → Type 0
IsOwn own nodes n = slice_get own (length nodes) ≡ Some n

-- as long as the script has one, the next node is its own
abbrev pub JudgesNode : List Node → ℕ → List Node → Node → Option CheckFault → Type 0
JudgesNode own variables nodes n None = (length nodes < length own → IsOwn own nodes n)
    × (length own ≤ length nodes → IsFurther variables nodes n)
JudgesNode own variables nodes n (Some (WrongScript k)) =
    (k ≡ length nodes) × (k < length own) × ¬ IsOwn own nodes n
JudgesNode own variables nodes n (Some (BadNode k)) = (k ≡ length nodes) × (length own ≤ k)
    × ¬ IsFurther variables nodes n
JudgesNode own variables nodes n (Some _) = ⊥

-- ---- ends of sections

-- the step that is named for the goal may be cited, and settles it
abbrev pub IsSettledBy : List Citable → Goal → ℕ → Type 0
IsSettledBy steps g r = (f : Fact) × (step_fact steps r ≡ Some f) × Settles g f

-- each goal has its step
abbrev pub AreSettled : List Citable → List Goal → List ℕ → Type 0
AreSettled steps [] [] = ⊤
AreSettled steps (g ∷ goals) (r ∷ refs) = IsSettledBy steps g r × AreSettled steps goals refs
AreSettled steps _ _ = ⊥

-- Goal k, from 0, is the first that isn't settled by its step, or has none, or is a step without a
-- goal.
abbrev pub IsFirstMissing : List Citable → List Goal → List ℕ → ℕ → Type 0
IsFirstMissing steps (g ∷ goals) (r ∷ refs) zero = ¬ IsSettledBy steps g r
IsFirstMissing steps (g ∷ goals) (r ∷ refs) (suc k) =
    IsSettledBy steps g r × IsFirstMissing steps goals refs k
IsFirstMissing steps (g ∷ goals) [] zero = ⊤
IsFirstMissing steps [] (r ∷ refs) zero = ⊤
IsFirstMissing steps _ _ k = ⊥

-- the expression is a variable
abbrev pub IsVariable : List Node → ExprId → Type 0
IsVariable nodes x = (n : ℕ) × (slice_get nodes x.0 ≡ Some (Var n))

-- a section so many cuts deep may be cut along it
abbrev pub MayBeCut : List Node → ℕ → ExprId → Type 0
MayBeCut nodes depth x = IsVariable nodes x × (depth < 64)

-- ---- what is judged of each kind of item: nothing is wrong with it, or this is

-- what a step cites comes before what it concludes
abbrev pub JudgesStep : Givens → List Citable → ℕ → StepRow → Option CheckFault → Type 0
JudgesStep g steps next r None = IsConcluded g steps r
JudgesStep g steps next r (Some (BadPremise k)) = (k ≡ next) × ¬ IsCiting steps r
JudgesStep g steps next r (Some (BadStep k)) =
    (k ≡ next) × IsCiting steps r × ¬ IsConcluded g steps r
JudgesStep g steps next r (Some _) = ⊥

-- A cut must go along a variable, in a section fewer than 64 cuts deep; else its fault names the
-- section.
abbrev pub JudgesCut : List Node → ℕ → ℕ → ExprId → Option CheckFault → Type 0
JudgesCut nodes depth section x None = MayBeCut nodes depth x
JudgesCut nodes depth section x (Some (BadCut k)) = (k ≡ section) × ¬ MayBeCut nodes depth x
JudgesCut nodes depth section x (Some _) = ⊥

-- goals are named from 1
abbrev pub JudgesLeaf : List Citable → List Goal → ℕ → List ℕ → Option CheckFault → Type 0
JudgesLeaf steps goals section refs None = AreSettled steps goals refs
JudgesLeaf steps goals section refs (Some (GoalMissing k (suc g))) =
    (k ≡ section) × IsFirstMissing steps goals refs g
JudgesLeaf steps goals section refs (Some _) = ⊥

-- A dead end must cite a step whose fact is VOID; else its fault names the section, with 0 as the
-- goal.
abbrev pub JudgesDead : List Citable → ℕ → ℕ → Option CheckFault → Type 0
JudgesDead steps section r None = step_fact steps r ≡ Some fact.Void
JudgesDead steps section r (Some (GoalMissing k zero)) =
    (k ≡ section) × ¬ (step_fact steps r ≡ Some fact.Void)
JudgesDead steps section r (Some _) = ⊥

-- there are at least the script's nodes; the first that is missing is named
abbrev pub JudgesCount : List Node → ℕ → Option CheckFault → Type 0
JudgesCount own n None = length own ≤ n
JudgesCount own n (Some (WrongScript k)) = (k ≡ n) × (n < length own)
JudgesCount own n (Some _) = ⊥

-- there are as many marks as hints; the first without a partner is named, from 1
abbrev pub JudgesMarks : List HintMark → ℕ → Option CheckFault → Type 0
JudgesMarks marks n None = n ≡ length marks
JudgesMarks marks n (Some (HintFault k)) = (k ≡ min n (length marks) + 1) × ¬ (n ≡ length marks)
JudgesMarks marks n (Some _) = ⊥

-- the mark is that of the hint with this number, from 0
abbrev pub JudgesMark : List HintMark → ℕ → HintMark → Option CheckFault → Type 0
JudgesMark marks k m None = slice_get marks k ≡ Some m
JudgesMark marks k m (Some (HintFault h)) = (h ≡ k + 1) × ¬ (slice_get marks k ≡ Some m)
JudgesMark marks k m (Some _) = ⊥

-- ---- items

-- an item by itself, whatever number of cases it tells
abbrev pub JudgesContent : Subject → Context → Item → Option CheckFault → Type 0
JudgesContent s c (item.Nodes n) o = JudgesCount s.nodes n o
JudgesContent s c (item.Node n) o = JudgesNode s.nodes s.variables c.nodes n o
JudgesContent s c (item.Marks n) o = JudgesMarks s.marks n o
JudgesContent s c (item.Mark m) o = JudgesMark s.marks c.marked m o
JudgesContent s c (item.Cases n) o = o ≡ None
JudgesContent s c (item.Step r) o = JudgesStep (givens s c) c.steps c.next r o
JudgesContent s c (item.Cut x ps) o = JudgesCut c.nodes (length c.cuts) c.section x o
JudgesContent s c (item.Leaf refs) o = JudgesLeaf c.steps s.goals c.section refs o
JudgesContent s c (item.Dead r) o = JudgesDead c.steps c.section r o
JudgesContent s c item.End o = o ≡ None

-- how many root sections follow where the sections begin with this item: one, where it tells no
-- number
abbrev pub cases_told : Item → ℕ
cases_told (item.Cases n) = n
cases_told _ = 1

-- Where the sections begin with the item, it tells as many as the script has cases.
abbrev pub HasCases : Subject → Context → Item → Type 0
HasCases s c i = c.begun ≡ false → is_of_root i ≡ true → cases_told i ≡ length s.cases

-- The number of cases comes before what else is wrong with the item.
abbrev pub JudgesItem : Subject → Context → Item → Option CheckFault → Type 0
JudgesItem s c i None = HasCases s c i × JudgesContent s c i None
JudgesItem s c i (Some (BadCases k)) = (k ≡ cases_told i) × ¬ HasCases s c i
JudgesItem s c i (Some f) = HasCases s c i × JudgesContent s c i (Some f)

-- ---- what a call answers

-- nothing is wrong, or the fault that is answered is; where memory isn't found nothing is said
abbrev pub IsJudged : {X : Type 0} → (Option CheckFault → Type 0) → Result X TakeStop → Type 0
IsJudged judges (Ok x) = judges None
IsJudged judges (Err (Check f)) = judges (Some f)
IsJudged judges (Err OutOfMemory) = ⊤
