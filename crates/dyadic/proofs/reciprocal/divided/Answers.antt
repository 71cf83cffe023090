use Rattle.std.proofs.Common.{◌≡◌, ◌*◌, ◌%◌, arith, refl, ◌∙◌}
use Rattle.std.proofs.Math.Nat.{mod-eq_of_lt}
use Rattle.std.proofs.lemmas.Nat.{div-add-mod', mul-lt}
use Rattle.dyadic.proofs.RatioLemmas.{guess_is_right}
use Rattle.dyadic.proofs.reciprocal.divided.Goals as goal

pub returns-then-rest-divisor-clause-value : goal.returns-then-rest-divisor-clause-value
returns-then-rest-divisor-clause-value c =
    let n = c.args.n in let d = c.args.d in let guess = c.guessed-guess.result in
    let kept : n * 2305843009213693952 % 340282366920938463463374607431768211456
    ≡ n * 2305843009213693952 = mod-eq_of_lt (omega arith) in
    let small = mul-lt guess d 18446744073709551616 18446744073709551616
    c.guessed-guess.type_inv c.ranges.d.fits in
    guess_is_right (n * 2305843009213693952 % 340282366920938463463374607431768211456)
    (guess * d) _ refl (omega arith) (omega arith) (omega arith) ∙ kept

pub returns-else-rest-divisor-clause-value : goal.returns-else-rest-divisor-clause-value
returns-else-rest-divisor-clause-value c =
    let n = c.args.n in
    let kept : n * 2305843009213693952 % 340282366920938463463374607431768211456
    ≡ n * 2305843009213693952 = mod-eq_of_lt (omega arith) in
    div-add-mod' (n * 2305843009213693952 % 340282366920938463463374607431768211456) c.args.d ∙ kept
