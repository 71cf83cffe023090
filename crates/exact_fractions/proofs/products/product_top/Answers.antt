use Rattle.std.proofs.Common.{◌≡◌, arith, to_z, of_z}
use Rattle.std.specs.Int.{w128}
use Rattle.std.proofs.lemmas.Int.{ints}
use Rattle.exact_fractions.proofs.Factors.{product_top}
use Rattle.exact_fractions.proofs.products.product_top.Goals as goal

pub returns : goal.returns
returns c =
    let a : to_z w128 (of_z w128 c.cofactor.result) ≡ c.cofactor.result = omega (arith, ints) in
    let b : to_z w128 (of_z w128 c.cofactor-2.result) ≡ c.cofactor-2.result = omega (arith, ints) in
    let n : to_z w128 (of_z w128 c.num.result) ≡ c.num.result = omega (arith, ints) in
    let m : to_z w128 (of_z w128 c.num-2.result) ≡ c.num-2.result = omega (arith, ints) in
    rw (
      product_top c.args.x c.args.y,
      ← c.requires.first,
      ← c.requires.second,
      ← c.num.ensures,
      ← c.num-2.ensures,
    ) (let h = c.signed_product.ensures in
    rw (a, b, c.cofactor.ensures, c.cofactor-2.ensures, n, m) at h)
