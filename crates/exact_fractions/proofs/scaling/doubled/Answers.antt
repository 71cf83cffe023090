use Rattle.std.proofs.Common.{◌≡◌, ◌∙◌, arith, to_z, of_z}
use Rattle.std.specs.Int.{w128}
use Rattle.std.proofs.lemmas.Int.{ints}
use Rattle.exact_fractions.proofs.Powers.{doubled_given, doubled_wide}
use Rattle.exact_fractions.proofs.scaling.doubled.Goals as goal

pub lowest-requires : goal.lowest-requires
lowest-requires c =
    let n : to_z w128 (of_z w128 c.num.result) ≡ c.num.result = omega (arith, ints) in
    let s : to_z w128 (of_z w128 c.in-Some.num) ≡ c.in-Some.num = omega (arith, ints) in
    let e = c.in-Some.ensures in
    (doubled_given c.args.x c.args.k _ _ _ _ _ c.den.ensures (n ∙ c.num.ensures)
    c.without_twos-den.ensures e.0 (s ∙ e.1)).small

pub returns-in-Some : goal.returns-in-Some
returns-in-Some c =
    let n : to_z w128 (of_z w128 c.num.result) ≡ c.num.result = omega (arith, ints) in
    let s : to_z w128 (of_z w128 c.in-Some.num) ≡ c.in-Some.num = omega (arith, ints) in
    let e = c.in-Some.ensures in
    let g = doubled_given c.args.x c.args.k _ _ _ _ _ c.den.ensures (n ∙ c.num.ensures)
    c.without_twos-den.ensures e.0 (s ∙ e.1) in
    (g.narrow, c.lowest.ensures ∙ g.value)

pub returns-in-None : goal.returns-in-None
returns-in-None c =
    let n : to_z w128 (of_z w128 c.num.result) ≡ c.num.result = omega (arith, ints) in
    doubled_wide c.args.x c.args.k _ _ _ _ c.den.ensures (n ∙ c.num.ensures)
    c.without_twos-den.ensures c.in-None.ensures
