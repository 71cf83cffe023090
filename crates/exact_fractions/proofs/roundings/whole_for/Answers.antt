use Rattle.std.proofs.Common.{◌≡◌, ◌∙◌, sym, subst, arith, to_z, of_z}
use Rattle.std.specs.Int.{w128}
use Rattle.std.specs.Prelude.{ℤ, ◌<◌, ◌^◌}
use Rattle.std.specs.Int.RustNames.{unsigned_abs}
use Rattle.std.proofs.lemmas.Int.{ints}
use Rattle.rounding.proofs.Chosen.{chosen_is}
use Rattle.exact_fractions.specs.Beside.{as_neighbours}
use Rattle.exact_fractions.proofs.Sides.{chosen_one}
use Rattle.exact_fractions.proofs.roundings.whole_for.Goals as goal

pub returns-clause-value : goal.returns-clause-value
returns-clause-value c =
    let k : to_z w128 (of_z w128 c.chosen.result) ≡ c.chosen.result = omega (arith, ints) in
    k ∙ c.chosen.ensures ∙ chosen_is c.args.dir (as_neighbours c.wholes_beside.result) _
    c.wholes_beside.ensures.value

pub returns-clause-small : goal.returns-clause-small
returns-clause-small c =
    let k : to_z w128 (of_z w128 c.chosen.result) ≡ c.chosen.result = omega (arith, ints) in
    let s = c.wholes_beside.ensures.small in
    subst (λ (z : ℤ). unsigned_abs z < 2 ^ 127) (sym (k ∙ c.chosen.ensures))
    (chosen_one (λ z. unsigned_abs z < 2 ^ 127) c.args.dir
    (as_neighbours c.wholes_beside.result) s.floor s.ceiling s.near_low s.near_high)
