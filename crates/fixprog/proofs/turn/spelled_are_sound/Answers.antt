use Rattle.fixprog.proofs.Sound.{spells_all, spelled_faultless, scripts_are_text}
use Rattle.fixprog.proofs.Shortness.{scripts_are_short}
use Rattle.fixprog.proofs.turn.spelled_are_sound.Goals as goal

pub returns-clause-all : goal.returns-clause-all
returns-clause-all c = spells_all

pub returns-clause-faultless : goal.returns-clause-faultless
returns-clause-faultless c = spelled_faultless

pub returns-clause-text : goal.returns-clause-text
returns-clause-text c = scripts_are_text

pub returns-clause-short : goal.returns-clause-short
returns-clause-short c = scripts_are_short
