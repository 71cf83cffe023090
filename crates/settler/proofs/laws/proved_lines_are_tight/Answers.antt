use Rattle.settler.proofs.Tight.{proved_tight}
use Rattle.settler.proofs.laws.proved_lines_are_tight.Goals as goal

pub returns : goal.returns
returns c = proved_tight
