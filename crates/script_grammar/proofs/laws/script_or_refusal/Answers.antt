use Rattle.script_grammar.proofs.Once.{spells_once, never_both, spells_all}
use Rattle.script_grammar.proofs.FirstsExist.{firsts_exist}
use Rattle.script_grammar.proofs.GoalSpans.{goals_have_spans}
use Rattle.script_grammar.proofs.laws.script_or_refusal.Goals as goal

pub returns-clause-once : goal.returns-clause-once
returns-clause-once c = spells_once c.lexed_once.ensures c.leaves_are_of_trees.ensures.are
    c.scripts_are_read.ensures c.spans_are_read.ensures

pub returns-clause-never_both : goal.returns-clause-never_both
returns-clause-never_both c = never_both c.firsts_are_unique.ensures

pub returns-clause-all : goal.returns-clause-all
returns-clause-all c = spells_all c.reads_scripts.ensures

pub returns-clause-spans : goal.returns-clause-spans
returns-clause-spans c = goals_have_spans

pub returns-clause-answered : goal.returns-clause-answered
returns-clause-answered c = firsts_exist c.lexed_all.ensures c.shapes_exist.ensures
    c.literals_are_told.ensures.told c.literals_are_told.ensures.once c.fronts_are_read.ensures
