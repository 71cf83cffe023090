-- The row of a hint, and why it is true of an assignment.
use Rattle.std.specs.Prelude.{◌≡◌, ◌<◌, List, map, length}
use Rattle.fx_model.specs.Expression.{Assignment, IsOrdered}
use Rattle.fx_model.specs.declared.Node.{Node}
use Rattle.poly_normal.specs.Mark.{HaveEqualValues}
use Rattle.facts.specs.declared.hint.HintRow.{HintRow}
use Rattle.facts.specs.Rows.{RowIsTrue}
use Rattle.script_hints.specs.declared.hint.Hint.{Hint}
use Rattle.script_hints.specs.Needs.{need_of}
use Rattle.script_hints.specs.Meets.{MeetsHint}
use Rattle.rewrite_hints.specs.Divisors.{AreDivisors}

-- the hint with the divisors that occur in its left side, and its constraints with rounded bounds
pub record IsRowOf (nodes : List Node) (h : Hint) (row : HintRow) : Type 0 where
  pub left : row.left ≡ h.left
  pub right : row.right ≡ h.right
  pub needs : row.needs ≡ map need_of h.constraints
  pub divisors : AreDivisors nodes h.left row.divisors

-- The row of a hint whose left side is a node is true of each assignment that meets the hint. (That
-- the left side has a value is what the divisors are there for.)
abbrev pub RowsAreTrue : Type 0
RowsAreTrue = (nodes : List Node) (a : Assignment) (h : Hint) (row : HintRow) → IsOrdered nodes
    → h.left.0 < length nodes → IsRowOf nodes h row → MeetsHint nodes a h → RowIsTrue nodes a row

-- A hint whose sides have equal values wherever both have one is met by each assignment.
abbrev pub EqualSidesAreMet : Type 0
EqualSidesAreMet = (nodes : List Node) (a : Assignment) (h : Hint)
    → HaveEqualValues nodes h.left h.right → MeetsHint nodes a h
