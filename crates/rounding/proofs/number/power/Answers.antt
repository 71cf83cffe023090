use Rattle.std.proofs.Common.{arith, ap, ◌∙◌, pos}
use Rattle.std.proofs.lemmas.Int.{ints}
use Rattle.fx_model.specs.Powers.{scaled}
use Rattle.fx_model.specs.Cut.{on_grid}
use Rattle.rounding.proofs.Places.{one_scaled}
use Rattle.rounding.proofs.number.power.Goals as goal

pub number-requires : goal.number-requires
number-requires c = on_grid 1 _ (omega arith) (omega (arith, ints)) (omega (arith, ints))

pub returns : goal.returns
returns c = c.number.ensures ∙ ap (scaled (pos 1)) (omega (arith, ints)) ∙ one_scaled c.args.place
