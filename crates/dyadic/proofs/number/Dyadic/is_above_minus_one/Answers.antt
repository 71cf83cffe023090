use Rattle.std.specs.Prelude.{◌≡◌, ◌<◌, ◌≤◌, ◌^◌, ◌≤ℤ◌, ◌*ℤ◌, ◌+ℤ◌, pos, negsuc, min}
use Rattle.std.specs.Int.RustNames.{unsigned_abs}
use Rattle.std.proofs.Common.{arith, lit≤, ap, sym, subst, ◌∙◌}
use Rattle.std.proofs.lemmas.Int.{ints}
use Rattle.std.proofs.Math.Nat.{pow-le-pow_right}
use Rattle.dyadic.proofs.OrderLemmas.{above_whole, above_whole_out, above_part, above_part_out}
use Rattle.dyadic.proofs.number.Dyadic.is_above_minus_one.Goals as goal

pub returns-then-exponent-ge0 : goal.returns-then-exponent-ge0
returns-then-exponent-ge0 c = let m = c.args.self.mantissa in let e = c.args.self.exponent in
    let v = c.mantissa.ensures.value in let w = c.exponent-exponent.ensures.value in
    let up : pos 0 ≤ℤ e = omega (arith, ints, w) in (
      λ t. above_whole m e up (omega (arith, ints, v)),
      λ h. let k = above_whole_out m e up h in grind (arith, ints),
    )

pub raised-requires-clause-small : goal.raised-requires-clause-small
raised-requires-clause-small c = let p : 2 ^ c.min.result ≤ 2 ^ 60 =
    pow-le-pow_right {n = 2} (lit≤ tt) {i = c.min.result} {j = 60} (omega arith) in omega arith

pub returns : goal.returns
returns c = let m = c.args.self.mantissa in let e = c.args.self.exponent in
    let k = c.places_below.result in
    let v = c.mantissa-2.ensures.value in
    let w = c.exponent-exponent.ensures.value in let p = c.places_below.ensures in
    let h : (e +ℤ pos k) ≡ pos 0 = omega (arith, ints, w, p) in
    let s : unsigned_abs m < 1152921504606846976 =
    subst (λ x. unsigned_abs x < 1152921504606846976) v c.mantissa-2.ensures.size in
    let r : (negsuc 0 *ℤ pos (2 ^ min k 60)) ≡ c.raised.result =
    ap (λ n. negsuc 0 *ℤ pos (2 ^ n)) (sym c.min.ensures) ∙ sym c.raised.ensures in (
      λ t. above_part m e k h s (omega (arith, ints, r, v)),
      λ g. let l = above_part_out m e k h s g in grind (arith, ints),
    )
