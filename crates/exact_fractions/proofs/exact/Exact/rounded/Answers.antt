use lib.IntN.{neg_ℤ}
use Rattle.std.proofs.Common.{◌≡◌, ap, ◌∙◌, arith, to_z, of_z, pos, ◌-ℤ◌}
use Rattle.std.specs.Int.{w128, w32}
use Rattle.std.proofs.lemmas.Int.{ints}
use Rattle.fx_model.specs.Powers.{whole}
use Rattle.exact_fractions.proofs.Rounded.{rounded_given}
use Rattle.exact_fractions.proofs.exact.Exact.rounded.Goals as goal

pub returns-in-Some : goal.returns-in-Some
returns-in-Some c =
    let w : to_z w128 (of_z w128 c.whole_for.result) ≡ c.whole_for.result = omega (arith, ints) in
    let l : to_z w32 (of_z w32 c.from-lsb.result) ≡ c.args.r.lsb =
    omega (arith, ints, c.from-lsb.ensures) in
    let k : to_z w32 (of_z w32 (pos 0 -ℤ to_z w32 (of_z w32 c.from-lsb.result)))
    ≡ neg_ℤ c.args.r.lsb = omega (arith, ints, c.from-lsb.ensures, l) in
    let g = c.in-Some.ensures in
    rounded_given c.args.r.dir c.args.r.lsb _ _ _ _ _ _ _ k l g.0 g.1 c.whole_for.ensures.value
    (c.whole.ensures ∙ ap whole w) c.scaled-in-Some.ensures
