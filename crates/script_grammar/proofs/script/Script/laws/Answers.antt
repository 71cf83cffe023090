use Rattle.std.proofs.Common.{◌≤◌, length, subst}
use Rattle.std.specs.List.{AllByRecursion}
use Rattle.script_cases.specs.Cases.{cases}
use Rattle.script_grammar.specs.CountedHints.{HasFewHints}
use Rattle.script_grammar.specs.SplitRanges.{HaveRanges}
use Rattle.script_grammar.specs.Ranges.{HasFewCases}
use Rattle.script_grammar.specs.Names.{NamesNodes}
use Rattle.script_grammar.specs.Spells.{View}
use Rattle.script_grammar.proofs.script.Script.laws.Goals as goal

pub returns-clause-names : goal.returns-clause-names
returns-clause-names c =
    subst NamesNodes c.self.view_is (c.spelled_name_nodes.ensures _ _ c.self.invariant.0)

pub returns-clause-few : goal.returns-clause-few
returns-clause-few c = subst (λ (v : View). HasFewHints v.hints) c.self.view_is
    (c.spelled_have_few_hints.ensures _ _ c.self.invariant.0)

pub returns-clause-goals : goal.returns-clause-goals
returns-clause-goals c =
    let few = c.spelled_have_few_goals.ensures _ _ c.self.invariant.0 in
    subst (λ (v : View). length v.goals ≤ 128) c.self.view_is few

pub returns-clause-ranges : goal.returns-clause-ranges
returns-clause-ranges c = subst (λ (v : View). AllByRecursion (λ claims. HaveRanges claims v.hints)
    (cases v.parts)) c.self.view_is (c.spelled_have_ranges.ensures _ _ c.self.invariant.0)

pub returns-clause-cases : goal.returns-clause-cases
returns-clause-cases c =
    subst HasFewCases c.self.view_is (c.spelled_have_few_cases.ensures _ _ c.self.invariant.0)
