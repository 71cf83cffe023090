use Rattle.grid_words.specs.Nearest.{down_is, up_is}
use Rattle.grid_words.proofs.roundings.Goals as goal

pub returns : goal.returns
returns c = record { down = down_is; up = up_is }
