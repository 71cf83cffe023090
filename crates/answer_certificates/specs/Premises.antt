-- How many premises instances have together beyond four each.
use Rattle.std.specs.Prelude.{◌≤◌, ◌+◌, ◌*◌, List, ◌++◌, length}
use Rattle.fx_model.specs.declared.ExprId.{ExprId}
use Rattle.fx_model.specs.declared.Node.{Node}
use Rattle.expr_dag.specs.Nodes.{IsAt, IsLawful}
use Rattle.pair_closure.specs.Closure.{Pair}
use Rattle.facts.specs.declared.hint.HintRow.{HintRow}
use Rattle.script_hints.specs.declared.hint.Hint.{Hint}
use Rattle.script_grammar.specs.Few.{constraints_in}
use Rattle.rule_instances.specs.InOrder.{instance_list}
use Rattle.rule_universe.specs.Sizes.{beyond_four}
use Rattle.rewrite_hints.specs.Marks.{AreRows}

-- Over at most 1,024 nodes a hint asks for its right side, for each divisor of its left side, and
-- for each of its constraints, with four kinds of facts; each other instance has four premises at
-- most.
abbrev pub PremisesAreFew : Type 0
PremisesAreFew = (nodes more : List Node)
    (pairs : List Pair) (hints : List Hint) (rows : List HintRow)
    → ((x : ExprId) (n : Node) → IsAt (nodes ++ more) x n → IsLawful x.0 n)
    → length (nodes ++ more) ≤ 1024 → AreRows nodes hints rows
    → beyond_four (instance_list (nodes ++ more) pairs rows)
    ≤ 4 * (1025 * length hints + constraints_in hints)
