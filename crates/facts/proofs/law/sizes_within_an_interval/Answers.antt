use Rattle.facts.proofs.Within.{size_within-none, size_within-some}
use Rattle.facts.proofs.law.sizes_within_an_interval.Goals as goal

pub returns : goal.returns
returns c = record { none = size_within-none; some = size_within-some }
