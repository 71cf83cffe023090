use Rattle.program_truths.proofs.Promised.{scripts_tell_runs, scripts_are_scripts, no_run_wraps}
use Rattle.program_truths.proofs.Promised.{outputs_lie}
use Rattle.program_truths.proofs.laws.no_run_wraps.Goals as goal

pub returns-clause-tells : goal.returns-clause-tells
returns-clause-tells c = scripts_tell_runs c.ends_before_quiet.ensures c.values_stay.ensures
    c.literals_are_told.ensures.told c.literals_are_told.ensures.once
    c.script_or_refusal.ensures.once
    c.words_are_alone.ensures c.spelled_are_sound.ensures.faultless

pub returns-clause-never : goal.returns-clause-never
returns-clause-never c = no_run_wraps c.ends_before_quiet.ensures c.values_stay.ensures
    c.literals_are_told.ensures.told c.literals_are_told.ensures.once
    c.script_or_refusal.ensures.once
    c.words_are_alone.ensures c.spelled_are_sound.ensures.faultless

pub returns-clause-lie : goal.returns-clause-lie
returns-clause-lie c = outputs_lie c.ends_before_quiet.ensures c.values_stay.ensures
    c.literals_are_told.ensures.told c.literals_are_told.ensures.once
    c.script_or_refusal.ensures.once
    c.words_are_alone.ensures c.spelled_are_sound.ensures.faultless

pub returns-clause-scripts : goal.returns-clause-scripts
returns-clause-scripts c = scripts_are_scripts c.ends_before_quiet.ensures c.values_stay.ensures
    c.literals_are_told.ensures.told c.literals_are_told.ensures.once
    c.literals_are_told.ensures.tested c.leaves_are_of_trees.ensures.spell
    c.script_or_refusal.ensures.once c.words_are_alone.ensures
    c.spelled_are_sound.ensures.faultless c.spelled_are_sound.ensures.text
    c.spelled_are_sound.ensures.short
