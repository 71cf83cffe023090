use Rattle.script_words.proofs.Quiet.{ends_before}
use Rattle.script_words.proofs.laws.ends_before_quiet.Goals as goal

pub returns : goal.returns
returns c = ends_before
