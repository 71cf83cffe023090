-- What a script gives is about its nodes.
use Rattle.std.specs.Prelude.{List, map, length}
use Rattle.std.specs.List.{AllByRecursion}
use Rattle.fx_model.specs.Expression.{IsOrdered}
use Rattle.facts.specs.declared.fact.Fact.{Fact}
use Rattle.facts.specs.declared.hint.HintRow.{HintRow}
use Rattle.facts.specs.Order.{slot_of}
use Rattle.goals.specs.declared.goal.Goal.{Goal}
use Rattle.script_claims.specs.Facts.{goal_of, facts_of}
use Rattle.script_grammar.specs.Spells.{View}
use Rattle.script_grammar.specs.Names.{NamesNodes}
use Rattle.rule_universe.specs.Licensed.{RowIsKnown}
use Rattle.rewrite_hints.specs.Marks.{AreRows}
use Rattle.script_truths.specs.Kept.{SlotIsOf}

-- The facts of hypotheses are about nodes of the script;
abbrev pub FactsAreNamed : Type 0
FactsAreNamed = (s : View) → NamesNodes s
    → AllByRecursion (λ (f : Fact). SlotIsOf (length s.nodes) (slot_of f)) (facts_of s.hypotheses)

-- so are its goals,
abbrev pub GoalsAreNamed : Type 0
GoalsAreNamed = (s : View) → NamesNodes s
    → AllByRecursion (λ (g : Goal). SlotIsOf (length s.nodes) g.of) (map goal_of s.goals)

-- and the rows of its hints.
abbrev pub RowsAreNamed : Type 0
RowsAreNamed = (s : View) → IsOrdered s.nodes → NamesNodes s → (rows : List HintRow)
    → AreRows s.nodes s.hints.rewrites rows → AllByRecursion (RowIsKnown (length s.nodes)) rows
