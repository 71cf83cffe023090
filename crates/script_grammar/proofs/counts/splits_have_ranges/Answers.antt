use Rattle.script_grammar.proofs.HintRanges.{splits_have_ranges}
use Rattle.script_grammar.proofs.counts.splits_have_ranges.Goals as goal

pub returns : goal.returns
returns c = splits_have_ranges
