-- The rule of rewriting hints, number 80 of the list, as a function from a hint's row, premises and
-- a target to its conclusion. What doesn't fit gives nothing.
use Rattle.std.specs.Prelude.{◌&&◌, not, nat_lt, length, Bool, true, false, List, [], ◌∷◌, Option}
use Rattle.std.specs.Prelude.{None}
use Rattle.fx_model.specs.Grid.{Bound, le_bound}
use Rattle.fx_model.specs.declared.ExprId.{ExprId}
use Rattle.fx_model.specs.declared.Node.{Node}
use Rattle.dyadic.specs.Ends.{bound_of}
use Rattle.interval.specs.Intervals.{range_of}
use Rattle.expr_dag.specs.Shapes.{is_known, are_known}
use Rattle.facts.specs.declared.hint.Need.{Need}
use Rattle.facts.specs.declared.hint.Need.TheVariants as need
use Rattle.facts.specs.declared.hint.HintRow.{HintRow}
use Rattle.facts.specs.declared.fact.Fact.{Fact}
use Rattle.facts.specs.declared.fact.Slot.{Slot}
use Rattle.facts.specs.declared.fact.Fact.TheVariants as fact
use Rattle.facts.specs.declared.fact.Slot.TheVariants as slot
use Rattle.facts.specs.Order.{is_same}
use Rattle.facts.specs.Conclusions.{given_if, only_if}

-- ---- constraints
-- the first bound is at most the second; below it, where they are to be apart
abbrev pub is_under : Bool → Bound → Bound → Bool
is_under true b c = not (le_bound c b)
is_under false b c = le_bound b c

-- the fact shows that the constraint holds: NZR of the expression, or BND with an interval on its
-- side of the bound
abbrev pub shows : List Node → Need → Fact → Bool
shows nodes (need.NotZero x) (fact.Nzr z) = is_known nodes x && is_same z x
shows nodes (need.Below x end apart) (fact.Bnd z j) =
    (is_known nodes x && is_same z x) && is_under apart (range_of j).high (bound_of end)
shows nodes (need.Above x end apart) (fact.Bnd z j) =
    (is_known nodes x && is_same z x) && is_under apart (bound_of end) (range_of j).low
shows nodes _ _ = false

-- there is one fact for each constraint, in their order, which shows it
abbrev pub show_needs : List Node → List Need → List Fact → Bool
show_needs nodes [] [] = true
show_needs nodes (n ∷ ns) (p ∷ ps) = shows nodes n p && show_needs nodes ns ps
show_needs nodes _ _ = false

-- first NZR of each divisor, in their order, and then one fact for each constraint
abbrev pub show_row : List Node → List ExprId → List Need → List Fact → Bool
show_row nodes [] needs ps = show_needs nodes needs ps
show_row nodes (d ∷ ds) needs (p ∷ ps) =
    shows nodes (need.NotZero d) p && show_row nodes ds needs ps
show_row nodes (d ∷ ds) needs [] = false

-- ---- the rule
-- the fact on b, said of a: BND, ABS, FIX or NZR
abbrev pub rewritten : ExprId → ExprId → Fact → Slot → Option Fact
rewritten a b (fact.Bnd x i) (slot.Bnd e) = only_if (is_same x b && is_same e a) (fact.Bnd e i)
rewritten a b (fact.Abs x s) (slot.Abs e) = only_if (is_same x b && is_same e a) (fact.Abs e s)
rewritten a b (fact.Fix x k) (slot.Fix e) = only_if (is_same x b && is_same e a) (fact.Fix e k)
rewritten a b (fact.Nzr x) (slot.Nzr e) = only_if (is_same x b && is_same e a) (fact.Nzr e)
rewritten a b _ _ = None

-- 80: for a hint `a -> b`, from a BND, ABS, FIX or NZR fact on b, NZR of each divisor of the row,
-- and a fact for each of its constraints: the same fact on a. Nothing from more than 65535
-- premises.
abbrev pub rewriting_rule : HintRow → List Node → List Fact → Slot → Option Fact
rewriting_rule row nodes (p ∷ ps) t =
    given_if (nat_lt (length ps) 65535 && (are_known nodes row.left row.right
    && show_row nodes row.divisors row.needs ps)) (rewritten row.left row.right p t)
rewriting_rule row nodes [] t = None
