-- Beside each instance of the shrinking rule stands the instance of the rule for "no multiple is
-- left" with the same premises.
use Rattle.std.specs.Prelude.{◌≡◌, List}
use Rattle.fx_model.specs.declared.Node.{Node}
use Rattle.pair_closure.specs.Closure.{Pair}
use Rattle.pair_closure.specs.Reached.{Has}
use Rattle.facts.specs.declared.fact.Slot.TheVariants.{Void}
use Rattle.facts.specs.declared.hint.HintRow.{HintRow}
use Rattle.facts.specs.declared.instance.Instance.{Instance}
use Rattle.rule_instances.specs.Slots.{rule}
use Rattle.rule_instances.specs.Instances.{IsInstance}

-- Beside each instance of rule 28 stands the instance of rule 90 with the same premises.
abbrev pub IsClosed : Type 0
IsClosed = (nodes : List Node) (pairs : List Pair) (hints : List HintRow) (i : Instance)
    → IsInstance nodes (Has pairs) hints i → i.rule ≡ 28
    → IsInstance nodes (Has pairs) hints (rule 90 i.premises Void)
