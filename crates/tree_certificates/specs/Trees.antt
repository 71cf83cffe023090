-- Trees of boxes: the lines that their leaves show, and which have a certificate.
use Rattle.std.specs.Prelude.{◌≡◌, ◌⊎◌, ◌≤◌, ◌<◌, ◌+◌, ◌^◌, ⊤, ℕ, List, [], ◌∷◌, ◌++◌, length}
use Rattle.std.specs.Prelude.{Option, Some, None}
use Rattle.fx_model.specs.declared.ExprId.{ExprId}
use Rattle.fx_model.specs.declared.Node.{Node}
use Rattle.dyadic.specs.declared.number.Dyadic.{Dyadic}
use Rattle.dyadic.specs.Rising.{IsRising}
use Rattle.interval.specs.declared.interval.Interval.{Interval}
use Rattle.expr_dag.specs.Nodes.{IsInLimits}
use Rattle.facts.specs.declared.fact.Fact.{Fact}
use Rattle.facts.specs.declared.fact.Slot.TheVariants as slot
use Rattle.facts.specs.declared.hint.HintRow.{HintRow}
use Rattle.goals.specs.declared.goal.Goal.{Goal}
use Rattle.goals.specs.declared.line.Line.{Line}
use Rattle.goals.specs.Settles.{Settles}
use Rattle.derivation.specs.Derivations.{Setting, At}
use Rattle.derivation.specs.Known.{Piece}
use Rattle.derivation.specs.Exists.{table_at}
use Rattle.cert_bytes.specs.Certificates.{HasShortParts}
use Rattle.cert_checker.specs.declared.open.OpenCut.{OpenCut}
use Rattle.cert_checker.specs.declared.subject.Subject.{Subject}
use Rattle.cert_checker.specs.Contexts.{piece_fact}
use Rattle.cert_checker.specs.Faults.{IsVariable, JudgesNode}
use Rattle.cert_checker.specs.Steps.{case_facts}
use Rattle.cert_checker.specs.After.{with_cited}
use Rattle.tree_certificates.specs.Traces.{IsCutTo}

-- A box that isn't cut, or is cut along a variable at some points, with a box for each piece in
-- order, and what its range is there.
mutual
  -- A box that isn't cut, or one that is cut along a variable at some points into these pieces.
  pub data Tree : Type 0 where
    leaf : Tree
    cut : ExprId → List Dyadic → Trees → Tree

  -- The pieces of a cut in order, each with the variable's range in it and the tree of its box.
  pub data Trees : Type 0 where
    last : Trees
    next : Interval → Tree → Trees → Trees

-- ---- the lines that leaves show
-- each line, with the table's fact on the goal's slot
abbrev pub lines_at : At → List Goal → List Line → List Line
lines_at at (g ∷ goals) (l ∷ lines) = with_cited l (at g.of) ∷ lines_at at goals lines
lines_at at _ lines = lines

-- where VOID is known a leaf shows nothing
abbrev pub leaf_lines : Option Fact → At → List Goal → List Line → List Line
leaf_lines (Some v) at goals lines = lines
leaf_lines None at goals lines = lines_at at goals lines

module _ (u : Setting) (height : ℕ) (goals : List Goal) where
  abbrev mutual
    -- the lines with those of the tree's leaves
    pub lines_of_tree : Tree → List Piece → List Line → List Line
    lines_of_tree leaf pieces lines =
        leaf_lines (table_at u height pieces slot.Void) (table_at u height pieces) goals lines
    lines_of_tree (cut x points trees) pieces lines = lines_of_trees x trees pieces lines

    pub lines_of_trees : ExprId → Trees → List Piece → List Line → List Line
    lines_of_trees x last pieces lines = lines
    lines_of_trees x (next i tree trees) pieces lines =
        lines_of_trees x trees pieces (lines_of_tree tree ((x, i) ∷ pieces) lines)

-- ---- how many steps there may be
abbrev mutual
  -- so many for each box
  pub steps_in : ℕ → Tree → ℕ
  steps_in most leaf = most
  steps_in most (cut x points trees) = most + steps_in_each most trees

  pub steps_in_each : ℕ → Trees → ℕ
  steps_in_each most last = 0
  steps_in_each most (next i tree trees) = steps_in most tree + steps_in_each most trees

-- ---- which trees have a certificate
-- each goal has a fact that settles it
abbrev pub AllSettled : At → List Goal → Type 0
AllSettled at [] = ⊤
AllSettled at (g ∷ goals) = ((f : Fact) × (at g.of ≡ Some f) × Settles g f) × AllSettled at goals

-- the cut of a box at these points, with so many pieces entered and so many steps around
abbrev pub cut_of : ExprId → List Dyadic → ℕ → ℕ → OpenCut
cut_of x points entered around =
    record { var = x; points = points; entered = entered; around = around }

-- 1 to 63 points that rise
pub record ArePoints (points : List Dyadic) : Type 0 where
  pub some : 1 ≤ length points
  pub few : length points ≤ 63
  pub rising : IsRising points

-- VOID is known, or each goal is settled.
abbrev pub IsSettledLeaf : At → List Goal → Type 0
IsSettledLeaf at goals = ((v : Fact) × (at slot.Void ≡ Some v))
    ⊎ ((at slot.Void ≡ None) × AllSettled at goals)

module _ (u : Setting) (height : ℕ) (goals : List Goal) where
  abbrev mutual
    -- At each leaf VOID is known, or each goal is settled. A box so many cuts deep is cut along a
    -- variable, and the line's pieces at the points leave of its box the boxes below it.
    pub IsProved : Tree → List Piece → ℕ → Type 0
    IsProved leaf pieces depth = IsSettledLeaf (table_at u height pieces) goals
    IsProved (cut x points trees) pieces depth = IsVariable u.nodes x × (depth < 64)
        × ArePoints points × AreProved x points trees 0 pieces (depth + 1)

    pub AreProved : ExprId → List Dyadic → Trees → ℕ → List Piece → ℕ → Type 0
    AreProved x points last k pieces depth = k ≡ length points + 1
    AreProved x points (next i tree trees) k pieces depth =
        (k ≤ length points) × ((p : Fact) × (piece_fact (cut_of x points 0 0) k ≡ Some p)
        × IsCutTo (table_at u height pieces) p (x, i))
        × IsProved tree ((x, i) ∷ pieces) depth × AreProved x points trees (k + 1) pieces depth

-- ---- what a certificate is judged against
-- Each node is one that the checker takes behind those before it, and can be written.
abbrev pub AreTaken : Subject → List Node → List Node → Type 0
AreTaken subject before [] = ⊤
AreTaken subject before (n ∷ rest) = JudgesNode subject.nodes subject.variables before n None
    × IsInLimits n × HasShortParts n × AreTaken subject (before ++ n ∷ []) rest

-- The subject is what derivations of the case with this number use: their hypotheses are that case,
-- their nodes begin with its own, and its goals and marks can be counted.
pub record IsSubjectOf (subject : Subject)
    (case : ℕ) (u : Setting) (hints : List HintRow) (goals : List Goal) : Type 0 where
  pub facts : case_facts subject.cases case ≡ u.hypotheses
  pub rows : subject.hints ≡ hints
  pub wanted : subject.goals ≡ goals
  pub few_goals : length goals ≤ 65535
  pub few_marks : length subject.marks < 2 ^ 16
  pub own : length subject.nodes ≤ length u.nodes
  pub taken : AreTaken subject [] u.nodes
