-- Rules over any nodes.
use Rattle.std.specs.Prelude.{List}
use Rattle.fx_model.specs.declared.Node.{Node}
use Rattle.facts.specs.declared.hint.HintRow.{HintRow}
use Rattle.derivation.specs.Lists.{RuleList}

-- For each list of nodes and each list of rows of hints, a list of rules.
abbrev pub Rules : Type 0
Rules = List Node → List HintRow → RuleList
