-- What is true of an assignment that meets a script.
use Rattle.std.specs.Prelude.{◌≡◌, ℕ, List, [], Some, Contains, length, slice_get}
use Rattle.std.specs.List.{AllByRecursion}
use Rattle.fx_model.specs.declared.Node.{Node}
use Rattle.fx_model.specs.Expression.{Assignment, IsOrdered, value}
use Rattle.pair_closure.specs.Reached.{Has}
use Rattle.facts.specs.declared.fact.Fact.{Fact}
use Rattle.facts.specs.declared.hint.HintMark.TheVariants.{Checked}
use Rattle.facts.specs.declared.hint.HintRow.{HintRow}
use Rattle.facts.specs.Holds.{Holds}
use Rattle.facts.specs.Rows.{RowIsTrue}
use Rattle.goals.specs.Settles.{Settles}
use Rattle.goals.specs.Holds.{LineHolds}
use Rattle.goals.specs.declared.line.Line.{Line}
use Rattle.theorem_list.specs.Promises.{RowsAreTrue}
use Rattle.script_claims.specs.declared.claim.Claim.{Claim}
use Rattle.script_claims.specs.Facts.{slot_of, goal_of, facts_of}
use Rattle.script_claims.specs.Meets.{IsTrueAt}
use Rattle.script_hints.specs.declared.hint.Hint.{Hint}
use Rattle.script_grammar.specs.Spells.{View}
use Rattle.script_grammar.specs.Names.{HintIsOf, NamesNodes}
use Rattle.script_grammar.specs.Cases.{cases_of}
use Rattle.script_meets.specs.Meets.{Meets}
use Rattle.rule_universe.specs.Worlds.{World}
use Rattle.rewrite_hints.specs.Rows.{IsRowOf}
use Rattle.rewrite_hints.specs.Marks.{IsMarkOf, AreRows}
use Rattle.universe.specs.Universes.{IsUniverse}
use Rattle.box_tree.specs.Root.{plan_by}
use Rattle.box_tree.specs.Covers.{LieInBox}
use Rattle.script_truths.specs.Kept.{IsExtended}

-- ---- over the script's own nodes

-- all of the claims are true of the assignment
abbrev pub AreTrue : View → Assignment → List Claim → Type 0
AreTrue s a claims = AllByRecursion (IsTrueAt s.nodes a) claims

-- Of an assignment that meets the script all claims of some case are true.
abbrev pub SomeCaseIsMet : Type 0
SomeCaseIsMet = (s : View) (a : Assignment) → Meets a s → (case : ℕ)
    × (claims : List Claim) × (slice_get (cases_of s) case ≡ Some claims) × AreTrue s a claims

-- The facts of claims as hypotheses, with bounds rounded outward, hold where the claims are true.
abbrev pub TrueFactsHold : Type 0
TrueFactsHold = (s : View) (a : Assignment) (claims : List Claim)
    → AreTrue s a claims → AllByRecursion (Holds s.nodes a) (facts_of claims)

-- The row of a hint that is checked, its sides being the same by their normal forms, is true of
-- every assignment.
abbrev pub CheckedRowsAreTrue : Type 0
CheckedRowsAreTrue = (nodes : List Node) (h : Hint) (row : HintRow)
    → IsOrdered nodes → HintIsOf (length nodes) h → IsMarkOf nodes h Checked → IsRowOf nodes h row
    → (a : Assignment) → RowIsTrue nodes a row

-- All rows of a script, checked or assumed, are true of each assignment that meets it.
abbrev pub MetRowsAreTrue : Type 0
MetRowsAreTrue = (s : View) (a : Assignment) → IsOrdered s.nodes → NamesNodes s → Meets a s
    → (rows : List HintRow) → AreRows s.nodes s.hints.rewrites rows → RowsAreTrue s.nodes a rows

-- ---- over the universe

-- u is the script's universe in which these claims are assumed. What the script names is its nodes,
-- and each node of both is made of earlier ones.
pub record HasUniverse (s : View) (claims : List Claim) (u : World) : Type 0 where
  pub names : NamesNodes s
  pub ordered : IsOrdered s.nodes
  pub universe : IsUniverse s claims u
  pub nodes : IsOrdered u.nodes

-- The nodes of the universe are the script's, with more behind them.
abbrev pub UniversesExtend : Type 0
UniversesExtend = (s : View) (claims : List Claim) (u : World)
    → HasUniverse s claims u → IsExtended s.nodes u.nodes

-- This is so of each script, its universe in which some claims are assumed, and every assignment.
abbrev pub OfUniverses : (View → List Claim → World → Assignment → Type 0) → Type 0
OfUniverses P = (s : View) (claims : List Claim) (u : World) (a : Assignment)
    → HasUniverse s claims u → P s claims u a

-- This is so of each assignment that meets the script and of which these claims are true.
abbrev pub WhereMet : (View → List Claim → World → Assignment → Type 0) → Type 0
WhereMet P = OfUniverses (λ s claims u a. Meets a s → AreTrue s a claims → P s claims u a)

-- All hypotheses of the universe hold of it;
abbrev pub HypothesesHold : View → List Claim → World → Assignment → Type 0
HypothesesHold s claims u a = (f : Fact) → Contains u.hypotheses f → Holds u.nodes a f

-- all its rows are true of it;
abbrev pub HintsAreTrue : View → List Claim → World → Assignment → Type 0
HintsAreTrue s claims u a = RowsAreTrue u.nodes a u.hints

-- and its values lie in the whole box of the plan that the claims give, however often that halves
-- boxes.
abbrev pub LiesInWholeBox : View → List Claim → World → Assignment → Type 0
LiesInWholeBox s claims u a = (depth : ℕ)
    → LieInBox (plan_by claims s.hints depth) (value u.nodes a) []

-- ---- goals

-- Where a fact settles a goal and holds over the universe, the goal is true, with bounds exactly as
-- they are written.
abbrev pub SettledGoalsAreTrue : View → List Claim → World → Assignment → Type 0
SettledGoalsAreTrue s claims u a = (c : Claim)
    → Has s.goals c → (f : Fact) → Settles (goal_of c) f → Holds u.nodes a f → IsTrueAt s.nodes a c

-- A line of a goal that holds over the universe holds over the script.
abbrev pub GoalLinesHold : View → List Claim → World → Assignment → Type 0
GoalLinesHold s claims u a = (c : Claim) → Has s.goals c
    → (l : Line) → LineHolds u.nodes a (slot_of c) l → LineHolds s.nodes a (slot_of c) l
