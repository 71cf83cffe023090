use Rattle.script_judge.proofs.Whole.{reads_scripts}
use Rattle.script_judge.proofs.reading.reads_scripts.Goals as goal

pub returns : goal.returns
returns c = reads_scripts
