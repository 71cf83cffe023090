use Rattle.std.proofs.Common.{◌≡◌, ap, ◌∙◌, sym, arith, to_z, of_z}
use Rattle.std.specs.Int.{w128}
use Rattle.std.specs.Prelude.{ℤ, pos, int_lt}
use Rattle.std.specs.Int.RustNames.{unsigned_abs}
use Rattle.std.proofs.lemmas.Int.{ints}
use Rattle.exact_fractions.proofs.Sides.{sides_from, sides_below}
use Rattle.exact_fractions.proofs.roundings.wholes_beside.Goals as goal

pub returns-then-is_negative-clause-value : goal.returns-then-is_negative-clause-value
returns-then-is_negative-clause-value c =
    let n : to_z w128 (of_z w128 c.num.result) ≡ c.num.result = omega (arith, ints) in
    let m : to_z w128 (of_z w128 c.num-2.result) ≡ c.num-2.result = omega (arith, ints) in
    let a : to_z w128 (of_z w128 c.signed.result) ≡ c.signed.result = omega (arith, ints) in
    let b : to_z w128 (of_z w128 c.signed-then-is_negative.result)
    ≡ c.signed-then-is_negative.result = omega (arith, ints) in
    let e : to_z w128 (of_z w128 c.signed-then-is_negative-2.result)
    ≡ c.signed-then-is_negative-2.result = omega (arith, ints) in
    let f : to_z w128 (of_z w128 c.signed-then-is_negative-3.result)
    ≡ c.signed-then-is_negative-3.result = omega (arith, ints) in
    sides_below c.args.x.num c.num.result _ _ c.args.x.den c.sizes_beside-s.result _ c.num.ensures
    (c.unsigned_abs.ensures.value ∙ ap unsigned_abs n) c.den.ensures
    c.args.x.small.lowest.positive
    (ap (λ (z : ℤ). int_lt z (pos 0)) (c.num.ensures ∙ sym c.num-2.ensures ∙ sym m)
    ∙ sym c.is_negative.ensures ∙ c.if-is_negative.true) c.sizes_beside-s.ensures
    (a ∙ c.signed.ensures) (b ∙ c.signed-then-is_negative.ensures) (e
    ∙ c.signed-then-is_negative-2.ensures) (f ∙ c.signed-then-is_negative-3.ensures)

pub returns-else-is_negative-clause-value : goal.returns-else-is_negative-clause-value
returns-else-is_negative-clause-value c =
    let n : to_z w128 (of_z w128 c.num.result) ≡ c.num.result = omega (arith, ints) in
    let m : to_z w128 (of_z w128 c.num-2.result) ≡ c.num-2.result = omega (arith, ints) in
    let a : to_z w128 (of_z w128 c.signed-else-is_negative.result)
    ≡ c.signed-else-is_negative.result = omega (arith, ints) in
    let b : to_z w128 (of_z w128 c.signed-else-is_negative-2.result)
    ≡ c.signed-else-is_negative-2.result = omega (arith, ints) in
    let e : to_z w128 (of_z w128 c.signed-else-is_negative-3.result)
    ≡ c.signed-else-is_negative-3.result = omega (arith, ints) in
    let f : to_z w128 (of_z w128 c.signed-else-is_negative-4.result)
    ≡ c.signed-else-is_negative-4.result = omega (arith, ints) in
    sides_from c.args.x.num c.num.result _ _ c.args.x.den c.sizes_beside-s.result _ c.num.ensures
    (c.unsigned_abs.ensures.value ∙ ap unsigned_abs n) c.den.ensures
    c.args.x.small.lowest.positive
    (ap (λ (z : ℤ). int_lt z (pos 0)) (c.num.ensures ∙ sym c.num-2.ensures ∙ sym m)
    ∙ sym c.is_negative.ensures ∙ c.if-is_negative.false) c.sizes_beside-s.ensures
    (a ∙ c.signed-else-is_negative.ensures) (b ∙ c.signed-else-is_negative-2.ensures) (e
    ∙ c.signed-else-is_negative-3.ensures) (f ∙ c.signed-else-is_negative-4.ensures)
