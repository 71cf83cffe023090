-- The evaluation of claims and hints at a point: whether a number is too wide, and the text.
use Rattle.std.specs.Prelude.{◌≡◌, ◌&&◌, List, [], ◌∷◌, ◌++◌, length, Option, None, Some, Bool, All}
use Rattle.std.specs.List.{AllByRecursion, list_all, list_any}
use Rattle.fx_model.specs.Fraction.{Fraction}
use Rattle.fx_model.specs.Expression.{Assignment, value}
use Rattle.fx_model.specs.declared.ExprId.{ExprId}
use Rattle.fx_model.specs.declared.Node.{Node}
use Rattle.facts.specs.declared.hint.HintMark.{HintMark}
use Rattle.script_claims.specs.declared.claim.Claim.{Claim}
use Rattle.script_claims.specs.Facts.{HasNormalBounds}
use Rattle.script_hints.specs.declared.hint.Hint.{Hint}
use Rattle.script_hints.specs.Needs.{HasNormalBounds as HasNormalHintBounds}
use Rattle.point_values.specs.declared.place.Place.{Place}
use Rattle.point_values.specs.declared.place.Place.TheVariants as place
use Rattle.point_values.specs.Among.{AreAmong}
use Rattle.point_values.specs.Rows.{Row, assignment_of}
use Rattle.point_values.specs.Numbers.{entry_numbers, node_numbers, claim_numbers, marked_numbers}
use Rattle.point_values.specs.Numbers.{wide_from, or_else}
use Rattle.point_values.specs.Truth.{claim_holds, marked_holds}
use Rattle.point_values.specs.Text.{Bytes, hypothesis_line, goal_line, hint_line, point_line}
use Rattle.point_values.specs.Text.{lines_from}

-- What is judged at a point: claims and hints over nodes, with a mark for each hint. The cases say
-- which hypotheses are taken together.
pub record Subject : Type 0 where
  pub nodes : List Node
  pub hypotheses : List Claim
  pub cases : List (List Claim)
  pub goals : List Claim
  pub hints : List (Hint × HintMark)

-- These can be evaluated: bounds of claims and hints are normal, each claim of a case is one of the
-- hypotheses, and each hint has a mark.
pub record CanEvaluate (hypotheses : List Claim) (cases : List (List Claim)) (goals : List Claim)
    (hints : List Hint) (marks : List HintMark) : Type 0 where
  pub assumed : All HasNormalBounds hypotheses
  pub in_cases : AllByRecursion (All HasNormalBounds) cases
  pub among : AreAmong hypotheses cases
  pub claimed : All HasNormalBounds goals
  pub hinted : All HasNormalHintBounds hints
  pub marked : length marks ≡ length hints

-- the first of one list with the first of the other, and so on
abbrev pub pairs : {A B : Type 0} → List A → List B → List (A × B)
pairs [] ys = []
pairs (x ∷ xs) [] = []
pairs (x ∷ xs) (y ∷ ys) = (x, y) ∷ pairs xs ys

-- ---- with these values of expressions
-- all claims of some case hold, and each assumed hint
abbrev pub meets_with : (ExprId → Option Fraction) → List (List Claim) → List (Hint × HintMark)
    → Bool
meets_with v cases hints = list_any (list_all (claim_holds v)) cases
    && list_all (marked_holds v) hints

-- the hypotheses, the goals, the assumed hints, and whether the point meets all that is assumed
abbrev pub lines_with : (ExprId → Option Fraction) → List Claim → List (List Claim) → List Claim
    → List (Hint × HintMark) → Bytes
lines_with v hypotheses cases goals hints = lines_from (hypothesis_line v) 0 hypotheses
    ++ (lines_from (goal_line v) 0 goals
    ++ (lines_from (hint_line v) 0 hints ++ point_line (meets_with v cases hints)))

-- the first hypothesis, goal or hint with a number that isn't below 2^127
abbrev pub wide_with : (ExprId → Option Fraction) → List Claim → List Claim → List (Hint × HintMark)
    → Option Place
wide_with v hypotheses goals hints =
    or_else (wide_from place.Hypothesis (claim_numbers v) 0 hypotheses)
    (or_else (wide_from place.Goal (claim_numbers v) 0 goals)
    (wide_from place.Hint (marked_numbers v) 0 hints))

-- ---- at an assignment
-- the values of the expressions
abbrev pub values_at : Subject → Assignment → ExprId → Option Fraction
values_at s a = value s.nodes a

-- The first place with a number that isn't below 2^127, or none: entries by variable, nodes,
-- hypotheses, goals, hints.
abbrev pub wide_place : Subject → List Row → Option Place
wide_place s rows =
    or_else (wide_from place.Entry entry_numbers 0 rows)
    (or_else (wide_from place.Node (node_numbers (values_at s (assignment_of rows))) 0 s.nodes)
    (wide_with (values_at s (assignment_of rows)) s.hypotheses s.goals s.hints))

-- a number of the evaluation is too wide, and this is the first place of one
abbrev pub IsTooWide : Subject → List Row → Place → Type 0
IsTooWide s rows p = wide_place s rows ≡ Some p

-- each is below 2^127
abbrev pub IsNarrow : Subject → List Row → Type 0
IsNarrow s rows = wide_place s rows ≡ None

-- whether the assignment meets what is assumed
abbrev pub meets : Subject → Assignment → Bool
meets s a = meets_with (values_at s a) s.cases s.hints

-- the text
abbrev pub evaluation_of : Subject → Assignment → Bytes
evaluation_of s a = lines_with (values_at s a) s.hypotheses s.cases s.goals s.hints

-- what is judged of these
abbrev pub subject_of : List Node → List Claim → List (List Claim) → List Claim → List Hint
    → List HintMark → Subject
subject_of nodes hypotheses cases goals hints marks =
    record {
      nodes = nodes;
      hypotheses = hypotheses;
      cases = cases;
      goals = goals;
      hints =
          pairs hints marks;
    }
