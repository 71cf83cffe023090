use Rattle.std.proofs.Common.{◌≡◌, ap, ◌∙◌, arith, to_z, of_z}
use Rattle.std.specs.Int.{w128}
use Rattle.std.proofs.lemmas.Int.{ints}
use Rattle.std.specs.Prelude.{pos, int_lt, ℤ}
use Rattle.std.specs.Int.RustNames.{unsigned_abs}
use Rattle.exact_fractions.specs.Reduced.{signed_number}
use Rattle.exact_fractions.proofs.Powers.{halved_given, halved_wide}
use Rattle.exact_fractions.proofs.scaling.halved.Goals as goal

pub lowest-requires : goal.lowest-requires
lowest-requires c =
    let n : to_z w128 (of_z w128 c.num.result) ≡ c.num.result = omega (arith, ints) in
    let m : to_z w128 (of_z w128 c.num-in-Some.result) ≡ c.num-in-Some.result =
    omega (arith, ints) in
    let s : to_z w128 (of_z w128 c.signed.result) ≡ c.signed.result = omega (arith, ints) in
    let e = c.in-Some.ensures in
    (halved_given c.args.x c.args.k _ _ _ _ _ _ (c.unsigned_abs.ensures.value
    ∙ ap unsigned_abs (n ∙ c.num.ensures)) c.den.ensures c.without_twos-size.ensures e.0 e.1
    (s ∙ c.signed.ensures ∙ ap (λ t. signed_number t c.without_twos-size.result.0)
    (c.is_negative.ensures
    ∙ ap (λ (z : ℤ). int_lt z (pos 0)) (m ∙ c.num-in-Some.ensures)))).small

pub returns-in-Some : goal.returns-in-Some
returns-in-Some c =
    let n : to_z w128 (of_z w128 c.num.result) ≡ c.num.result = omega (arith, ints) in
    let m : to_z w128 (of_z w128 c.num-in-Some.result) ≡ c.num-in-Some.result =
    omega (arith, ints) in
    let s : to_z w128 (of_z w128 c.signed.result) ≡ c.signed.result = omega (arith, ints) in
    let e = c.in-Some.ensures in
    let g = halved_given c.args.x c.args.k _ _ _ _ _ _ (c.unsigned_abs.ensures.value
    ∙ ap unsigned_abs (n ∙ c.num.ensures)) c.den.ensures c.without_twos-size.ensures e.0 e.1
    (s ∙ c.signed.ensures ∙ ap (λ t. signed_number t c.without_twos-size.result.0)
    (c.is_negative.ensures ∙ ap (λ (z : ℤ). int_lt z (pos 0)) (m ∙ c.num-in-Some.ensures))) in
    (g.narrow, c.lowest.ensures ∙ g.value)

pub returns-in-None : goal.returns-in-None
returns-in-None c =
    let n : to_z w128 (of_z w128 c.num.result) ≡ c.num.result = omega (arith, ints) in
    halved_wide c.args.x c.args.k _ _ _ _ (c.unsigned_abs.ensures.value
    ∙ ap unsigned_abs (n ∙ c.num.ensures)) c.den.ensures c.without_twos-size.ensures
    c.in-None.ensures
