-- What hints say, by recursion on their trees. Expressions are read from the left, in the order of
-- writing.
use Rattle.std.specs.Prelude.{ℕ, nat_lt, ◌==◌, List, [], ◌∷◌, ◌++◌, Bool, true, false, None}
use Rattle.std.specs.Prelude.{if◌then◌else◌}
use Rattle.std.specs.List.{list_any}
use Rattle.fx_model.specs.declared.ExprId.{ExprId}
use Rattle.dyadic.specs.declared.number.Dyadic.{Dyadic}
use Rattle.dyadic.specs.declared.number.End.{End}
use Rattle.dyadic.specs.declared.number.End.TheVariants as end
use Rattle.interval.specs.Results.{point_of}
use Rattle.literal_order.specs.declared.written.Written.{Written}
use Rattle.literal_order.specs.Values.{written_value}
use Rattle.script_shape.specs.Expressions.{AnyName}
use Rattle.script_shape.specs.Hints.{Need, nonzero, below, not_above, above, not_below, NeedList}
use Rattle.script_shape.specs.Hints.{last_need, more_needs, Needs, always, provided, Points}
use Rattle.script_shape.specs.Hints.{last_point, more_points, CutForm, in_four, pieces, at_points}
use Rattle.script_shape.specs.Hints.{Names, last_name, more_names, Halving, halved_by, with_goal}
use Rattle.script_shape.specs.Hints.{Hint, rewrite, like, split, halving, Hints, no_hint, hint}
use Rattle.script_nodes.specs.Written.{bound_written}
use Rattle.script_nodes.specs.Definitions.{name_text}
use Rattle.script_nodes.specs.Operators.{digits_text, number_of}
use Rattle.script_nodes.specs.Known.{Known, PlacedNode, named}
use Rattle.script_nodes.specs.Values.{expr_value}
use Rattle.script_hints.specs.declared.hint.Constraint.{Constraint}
use Rattle.script_hints.specs.declared.hint.Constraint.TheVariants as constraint
use Rattle.script_hints.specs.declared.hint.Cutting.{Cutting}
use Rattle.script_hints.specs.declared.hint.Cutting.TheVariants as cutting
use Rattle.script_hints.specs.declared.hint.HintList.{HintList}

-- ---- bounds and constraints

-- what is known, with the constraints so far
abbrev pub NeedsSoFar : Type 0
NeedsSoFar = Known × List Constraint

-- one more need: the constraint f of the expression, the last
abbrev pub one_more : (ExprId → Constraint) → PlacedNode → List Constraint → NeedsSoFar
one_more f p ns = (p.0, ns ++ (f p.1 ∷ []))

-- One more need as a constraint, the last, with the nodes of its expression; its bound stays as it
-- is written.
abbrev pub with_need : Need → NeedsSoFar → NeedsSoFar
with_need (nonzero e zero_text) s = one_more constraint.NotZero (expr_value None e s.0) s.1
with_need (below e b) s =
    one_more (λ x. constraint.Below x (bound_written b) true) (expr_value None e s.0) s.1
with_need (not_above e b) s =
    one_more (λ x. constraint.Below x (bound_written b) false) (expr_value None e s.0) s.1
with_need (above e b) s =
    one_more (λ x. constraint.Above x (bound_written b) true) (expr_value None e s.0) s.1
with_need (not_below e b) s =
    one_more (λ x. constraint.Above x (bound_written b) false) (expr_value None e s.0) s.1

-- the needs of the list, in order
abbrev pub with_need_list : NeedList → NeedsSoFar → NeedsSoFar
with_need_list (last_need n) s = with_need n s
with_need_list (more_needs n l) s = with_need_list l (with_need n s)

-- the needs of a rewriting; none where it has none
abbrev pub needs_value : Needs → Known → NeedsSoFar
needs_value always k = (k, [])
needs_value (provided l) k = with_need_list l (k, [])

-- ---- cuts

-- The point is the greatest number of the grid that isn't above the bound. Where there is none,
-- there is no point.
abbrev pub with_end : List Dyadic → End → List Dyadic
with_end ps end.Low = ps
with_end ps (end.At x) = ps ++ (x ∷ [])
with_end ps end.High = ps

-- One more point: the bound rounded down to the grid, or none where no number of the grid is that
-- low.
abbrev pub with_point : List Dyadic → Written → List Dyadic
with_point ps w = with_end ps (point_of (written_value w)).lo

-- The points so far and those of the list, in the order of writing.
abbrev pub with_points : Points → List Dyadic → List Dyadic
with_points (last_point b) ps = with_point ps (bound_written b)
with_points (more_points b l) ps = with_points l (with_point ps (bound_written b))

-- the pieces that digits ask for; a script has no more than 64
abbrev pub piece_count : ℕ → ℕ
piece_count n = if nat_lt n 64 then n else 64

-- four pieces where none is asked for, so many pieces, or the points
abbrev pub cutting_of : CutForm → Cutting
cutting_of in_four = cutting.Pieces 4
cutting_of (pieces n) = cutting.Pieces (piece_count (number_of (digits_text n)))
cutting_of (at_points l) = cutting.Points (with_points l [])

-- ---- split variables

-- whether they are one expression
abbrev pub same_number : ExprId → ExprId → Bool
same_number x y = x.0 == y.0

-- the variables with one more, unless it is among them
abbrev pub with_variable : List ExprId → ExprId → List ExprId
with_variable xs x = if list_any (same_number x) xs then xs else xs ++ (x ∷ [])

-- what is known, with the hints so far
abbrev pub HintsSoFar : Type 0
HintsSoFar = Known × HintList

-- The variable is noted in the order of split variables, unless it is there already.
abbrev pub ordered : HintList → ExprId → HintList
ordered l x = record l { order = with_variable l.order x }

-- The variable is halved and noted in the order of split variables; each list has it once, at its
-- first place.
abbrev pub halved : HintList → ExprId → HintList
halved l x = record l { halves = with_variable l.halves x; order = with_variable l.order x }

-- one more variable is halved, with what is known behind it
abbrev pub halved_at : PlacedNode → HintList → HintsSoFar
halved_at p l = (p.0, halved l p.1)

-- One more variable is halved, found by its name; a name that has a value stands for that.
abbrev pub with_halved : AnyName → HintsSoFar → HintsSoFar
with_halved n s = halved_at (named s.0 (name_text n)) s.1

-- All variables of the list are halved, in the order of writing.
abbrev pub with_names : Names → HintsSoFar → HintsSoFar
with_names (last_name n) s = with_halved n s
with_names (more_names n l) s = with_names l (with_halved n s)

-- ---- hints

-- One more rewriting of `x` to `y` with these constraints, the last, and what is known behind them.
abbrev pub rewrites_to : ExprId → ExprId → NeedsSoFar → HintList → HintsSoFar
rewrites_to x y ns l = (
  ns.0,
  record l { rewrites = l.rewrites ++ (record { left = x; right = y; constraints = ns.1 } ∷ []) },
)

-- One more rewriting of `x` to the placed expression, the last; its needs are read behind both
-- sides.
abbrev pub rewrites_left : ExprId → PlacedNode → Needs → HintList → HintsSoFar
rewrites_left x b n l = rewrites_to x b.1 (needs_value n b.0) l

-- one more likeness of x and b, the last
abbrev pub likens : ExprId → PlacedNode → HintList → HintsSoFar
likens x b l = (b.0, record l { likes = l.likes ++ ((x, b.1) ∷ []) })

-- one more cut of x, the last
abbrev pub with_cut : HintList → ExprId → Cutting → HintList
with_cut l x c = record l { cuts = l.cuts ++ (record { var = x; cut = c } ∷ []) }

-- One more cut along the placed variable, which is also noted in the order of split variables.
abbrev pub cuts_along : PlacedNode → CutForm → HintList → HintsSoFar
cuts_along p c l = (p.0, with_cut (ordered l p.1) p.1 (cutting_of c))

-- of an expression for which variables are halved, the nodes alone
abbrev pub with_halving : Halving → HintsSoFar → HintsSoFar
with_halving (halved_by e n) s = with_names n ((expr_value None e s.0).0, s.1)
with_halving (with_goal e h) s = with_halving h ((expr_value None e s.0).0, s.1)

-- The hints so far and one more, with the nodes of its expressions, read in the order of writing.
abbrev pub with_hint : Hint → HintsSoFar → HintsSoFar
with_hint (rewrite a b n) s =
    rewrites_left (expr_value None a s.0).1 (expr_value None b (expr_value None a s.0).0) n s.1
with_hint (like a b) s =
    likens (expr_value None a s.0).1 (expr_value None b (expr_value None a s.0).0) s.1
with_hint (split n c) s = cuts_along (named s.0 (name_text n)) c s.1
with_hint (halving h) s = with_halving h s

-- What is known behind the hints, and what they say.
abbrev pub with_hints : Hints → HintsSoFar → HintsSoFar
with_hints no_hint s = s
with_hints (hint h l) s = with_hints l (with_hint h s)

-- no hint
abbrev pub no_hints : HintList
no_hints = record { rewrites = []; likes = []; cuts = []; halves = []; order = [] }
