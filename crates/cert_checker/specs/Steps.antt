-- When a step is concluded.
use Rattle.std.specs.Prelude.{◌≡◌, ◌<◌, ◌==◌, ⊤, ℕ, Bool, true, false, List, [], ◌∷◌, length}
use Rattle.std.specs.Prelude.{slice_get, slice_index_or, if◌then◌else◌, Option, Some, None}
use Rattle.fx_model.specs.declared.ExprId.{ExprId}
use Rattle.fx_model.specs.declared.Node.{Node}
use Rattle.fx_model.specs.declared.Node.TheVariants.{Var}
use Rattle.interval.specs.Results.{whole_interval}
use Rattle.facts.specs.declared.fact.Fact.{Fact}
use Rattle.facts.specs.declared.fact.Slot.{Slot}
use Rattle.facts.specs.declared.fact.Fact.TheVariants as fact
use Rattle.facts.specs.declared.hint.HintRow.{HintRow}
use Rattle.facts.specs.Order.{slot_of, IsStronger, meet_of, AreUnlike}
use Rattle.theorem_list.specs.Concludes.{concludes}
use Rattle.cert_bytes.specs.declared.item.StepRow.{StepRow}
use Rattle.cert_checker.specs.declared.given.Given.{Given}
use Rattle.cert_checker.specs.declared.given.Given.TheVariants.{Hypothesis, Variable, Piece}
use Rattle.cert_checker.specs.declared.open.Citable.{Citable}
use Rattle.cert_checker.specs.Contexts.{Context, open_piece}
use Rattle.cert_checker.specs.Given.{given_of}
use Rattle.cert_checker.specs.declared.subject.Subject.{Subject}

-- ---- what a step cites

-- the fact of the step with this number, where it may be cited
abbrev pub step_fact : List Citable → ℕ → Option Fact
step_fact [] n = None
step_fact (s ∷ steps) n = if s.number == n then Some s.fact else step_fact steps n

-- The fact in front of the others, where it and all of them were found.
abbrev pub before : Option Fact → Option (List Fact) → Option (List Fact)
before (Some f) (Some fs) = Some (f ∷ fs)
before _ _ = None

-- the facts of several steps, where each may be cited
abbrev pub step_facts : List Citable → List ℕ → Option (List Fact)
step_facts steps [] = Some []
step_facts steps (n ∷ ns) = before (step_fact steps n) (step_facts steps ns)

-- the facts that were found, or that one wasn't
abbrev pub Found : Option (List Fact) → List Fact → Bool → Type 0
Found facts premises true = facts ≡ Some premises
Found facts premises false = facts ≡ None

-- f is the fact of the step that is cited, if one is
abbrev pub IsMetWith : List Citable → Option ℕ → Option Fact → Type 0
IsMetWith steps None f = f ≡ None
IsMetWith steps (Some n) f = (step_fact steps n ≡ f) × ¬ (f ≡ None)

-- the stated fact and the one that it is met with are on one slot, or one of them is VOID
abbrev pub IsLike : Fact → Option Fact → Type 0
IsLike f None = ⊤
IsLike f (Some w) = ¬ AreUnlike f w

-- The step cites these premises, and is met with this fact, if any. They are facts of earlier steps
-- of the open sections.
pub record Cites (steps : List Citable) (row : StepRow) (premises : List Fact)
    (with : Option Fact) : Type 0 where
  pub found : step_facts steps row.premises ≡ Some premises
  pub met : IsMetWith steps row.with with
  pub like : IsLike row.fact with

-- what a step cites may be cited
abbrev pub IsCiting : List Citable → StepRow → Type 0
IsCiting steps row = (premises : List Fact) × (with : Option Fact) × Cites steps row premises with

-- ---- what it concludes

-- each node of the fact is in the list
abbrev pub AreKnown : List Node → Fact → Type 0
AreKnown nodes (fact.Bnd x i) = x.0 < length nodes
AreKnown nodes (fact.Abs x s) = x.0 < length nodes
AreKnown nodes (fact.Rel x y e) = (x.0 < length nodes) × (y.0 < length nodes)
AreKnown nodes (fact.Fix x k) = x.0 < length nodes
AreKnown nodes (fact.Nzr x) = x.0 < length nodes
AreKnown nodes fact.Void = ⊤

-- The node of the expression, or none where its number is outside the list.
abbrev pub node_of : List Node → ExprId → Option Node
node_of nodes x = slice_get nodes x.0

-- Fact number `k` of the list, from 0, or none behind its end.
abbrev pub fact_of : List Fact → ℕ → Option Fact
fact_of facts k = slice_get facts k

-- the whole line, where the node is a variable
abbrev pub variable_fact : ExprId → Option Node → Option Fact
variable_fact x (Some (Var n)) = Some (fact.Bnd x whole_interval)
variable_fact x _ = None

-- The first fact where there is one, else the second.
abbrev pub or_else : Option Fact → Option Fact → Option Fact
or_else (Some f) o = Some f
or_else None o = o

-- the whole line for a variable of the fact, the first where there are two
abbrev pub whole_line : List Node → Fact → Option Fact
whole_line nodes (fact.Bnd x i) = variable_fact x (slice_get nodes x.0)
whole_line nodes (fact.Abs x s) = variable_fact x (slice_get nodes x.0)
whole_line nodes (fact.Rel x y e) =
    or_else (variable_fact x (slice_get nodes x.0)) (variable_fact y (slice_get nodes y.0))
whole_line nodes (fact.Fix x k) = variable_fact x (slice_get nodes x.0)
whole_line nodes (fact.Nzr x) = variable_fact x (slice_get nodes x.0)
whole_line nodes fact.Void = None

-- where no premises are cited
abbrev pub without : List Fact → Option Fact → Option Fact
without [] o = o
without (p ∷ ps) o = None

-- The fact of a rule that takes no argument: none unless the step states 0 for it.
abbrev pub only_for : ℕ → Option Fact → Option Fact
only_for arg o = if arg == 0 then o else None

-- the slot that is aimed at: that of the stated fact, and where this is VOID that of the fact that
-- it is met with
abbrev pub target_of : Fact → Option Fact → Slot
target_of fact.Void (Some w) = slot_of w
target_of f w = slot_of f

-- what the hypotheses of a case say
abbrev pub case_facts : List (List Fact) → ℕ → List Fact
case_facts cases k = slice_index_or cases k []

-- What rules draw on beside premises: the facts of the case that is open, the rows of the hints,
-- the nodes, and the piece that is open.
pub record Givens : Type 0 where
  pub facts : List Fact
  pub hints : List HintRow
  pub nodes : List Node
  pub piece : Option Fact

-- What rules draw on in this context: the facts of the case and the piece that are open, the nodes,
-- and the subject's hints.
abbrev pub givens : Subject → Context → Givens
givens s c = record {
  facts = case_facts s.cases c.case;
  hints = s.hints;
  nodes = c.nodes;
  piece = open_piece c.cuts;
}

-- What a step is given: hypothesis number arg, the whole line for a variable, or the piece of the
-- cut that made the section.
abbrev pub given_fact : Givens → StepRow → Given → Option Fact
given_fact g row Hypothesis = slice_get g.facts row.arg
given_fact g row Variable = only_for row.arg (whole_line g.nodes row.fact)
given_fact g row Piece = only_for row.arg g.piece

-- What is given, without premises; or else what the rule of the list concludes.
abbrev pub gives_by : Givens → StepRow → List Fact → Option Fact → Option Given → Option Fact
gives_by g row premises with (Some given) = without premises (given_fact g row given)
gives_by g row premises with None =
    concludes g.nodes g.hints row.rule row.arg premises (target_of row.fact with)

-- What the rule of a step gives.
abbrev pub gives : Givens → StepRow → List Fact → Option Fact → Option Fact
gives g row premises with = gives_by g row premises with (given_of row.rule)

-- a fact met with another, where there are both; none where they are on two slots
abbrev pub met_with : Option Fact → Option Fact → Option Fact
met_with None w = None
met_with (Some f) None = Some f
met_with (Some f) (Some w) = meet_of f w

-- The fact is as strong as the stated one, or stronger.
abbrev pub IsEnough : Option Fact → Fact → Type 0
IsEnough None f = ⊥
IsEnough (Some c) f = IsStronger c f

-- The stated fact is no stronger than what the rule gives, met with the fact that is cited for
-- that.
pub record Concludes (g : Givens) (row : StepRow) (premises : List Fact)
    (with : Option Fact) : Type 0 where
  pub known : AreKnown g.nodes row.fact
  pub enough : IsEnough (met_with (gives g row premises with) with) row.fact

-- the step cites what it may, and is concluded
abbrev pub IsConcluded : Givens → List Citable → StepRow → Type 0
IsConcluded g steps row = (premises : List Fact) × (with : Option Fact)
    × Cites steps row premises with × Concludes g row premises with
