-- The line of a goal that isn't settled in a box.
use Rattle.std.specs.Prelude.{ℕ, ◌+◌, ◌++◌, codes, List, [], ◌∷◌, slice_get, Option, Some, None}
use Rattle.std.specs.Prelude.{nat_lt, if◌then◌else◌}
use Rattle.std.specs.List.{join_by}
use Rattle.std.specs.Fmt.{decimal}
use Rattle.fx_model.specs.declared.ExprId.{ExprId}
use Rattle.fx_model.specs.declared.Node.{Node}
use Rattle.fx_model.specs.declared.Node.TheVariants.{Var}
use Rattle.script_nodes.specs.Known.{Name}
use Rattle.script_grammar.specs.Spells.{View}
use Rattle.box_tree.specs.Regions.{PlanParts}
use Rattle.box_tree.specs.Plans.{range_at}
use Rattle.report.specs.Lines.{Bytes, interval_text}

-- A variable's name as it is printed: nothing at all where it has none.
abbrev pub name_or_empty : Option Name → Bytes
name_or_empty (Some name) = name
name_or_empty None = []

-- the name of a variable: `Var i` has the i-th name
abbrev pub name_at : List Name → Option Node → Bytes
name_at names (Some (Var i)) = name_or_empty (slice_get names i)
name_at names _ = []

-- a variable with its range in the box at the path
abbrev pub range_text : View → PlanParts → List ℕ → ExprId → Bytes
range_text s plan path x = name_at s.variables (slice_get s.nodes x.0) ++ codes " in "
    ++ interval_text (range_at plan path x)

-- the variables with their ranges; without any, the whole box
abbrev pub box_text : View → PlanParts → List ℕ → List ExprId → Bytes
box_text s plan path [] = codes "the whole box"
box_text s plan path (x ∷ xs) = join_by (range_text s plan path) (codes ", ") (x ∷ xs)

-- which case it is, where there are more than one
abbrev pub case_text : ℕ → ℕ → Bytes
case_text cases case =
    if nat_lt 1 cases then codes "case " ++ decimal (case + 1) ++ codes ", " else []

-- Goals and cases are counted from 0, and printed from 1. The plan is that of the case. The ranges
-- are those of the split variables, in the order in which hints first name them.
abbrev pub unproved_text : View → PlanParts → ℕ → ℕ → List ℕ → ℕ → Bytes
unproved_text s plan cases case path goal =
    codes "unproved: goal " ++ decimal (goal + 1) ++ codes " at " ++ case_text cases case
    ++ box_text s plan path s.hints.order ++ codes "\n"
