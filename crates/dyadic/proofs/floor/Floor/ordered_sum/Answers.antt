use Rattle.std.specs.Int.Signed.{shr_z}
use Rattle.std.specs.Int.RustNames.{unsigned_abs}
use Rattle.std.proofs.Common.{◌≡◌, ◌≤◌, ◌*◌, ◌-◌, ◌^◌, ℤ, pos, ◌*ℤ◌, ◌+ℤ◌, arith, ap, sym, subst}
use Rattle.std.proofs.Common.{◌∙◌, inl, inr, ⊎_elim, to_z, of_z, w64}
use Rattle.std.proofs.lemmas.Bool.{cases_lt}
use Rattle.std.proofs.lemmas.Int.{ints, to_z-of_z}
use Rattle.dyadic.specs.Values.{value_of}
use Rattle.dyadic.proofs.GridLemmas.{same_scaled}
use Rattle.dyadic.proofs.SumLemmas.{zero_left}
use Rattle.dyadic.proofs.FloorLemmas.{raised_small, raised_size, parts_fit, sum_floored}
use Rattle.dyadic.proofs.floor.Floor.ordered_sum.Goals as goal

pub returns-then-mantissa-eq0 : goal.returns-then-mantissa-eq0
returns-then-mantissa-eq0 c = record {
  value = inl (zero_left c.args.high.mantissa c.args.high.exponent (value_of c.args.low)
      (omega (arith, ints, c.mantissa-mantissa.ensures.value))
      ∙ sym (same_scaled c.args.low.mantissa c.args.low.exponent _ _
      (omega (arith, ints, c.mantissa-rest.ensures.value)) (omega (
        arith,
        ints,
        c.exponent-place.ensures.value,
      ))));
  low = omega (arith, ints, c.exponent-place.ensures.low);
  high = omega (arith, ints);
}

pub raised-requires-clause-small : goal.raised-requires-clause-small
raised-requires-clause-small c = raised_small (to_z w64 (of_z w64 c.mantissa-mantissa.result))
    c.min-up.result c.room_above.result (omega (arith, c.min-up.ensures)) c.room_above.ensures.small

pub overflow_add-result : goal.overflow_add-result
overflow_add-result c =
    let m = to_z w64 (of_z w64 c.mantissa-mantissa.result) in
    let s = raised_small m c.min-up.result c.room_above.result
    (omega (arith, c.min-up.ensures)) c.room_above.ensures.small in
    let t = raised_size m c.raised.result c.min-up.result c.raised.ensures in
    parts_fit (to_z w64 (of_z w64 c.raised.result))
    (to_z w64 (of_z w64 c.lowered.result)) (omega (arith, ints, s, t))
    (omega (arith, ints, c.lowered.ensures.size, c.mantissa-rest.ensures.size))

pub overflow_add-result-2 : goal.overflow_add-result-2
overflow_add-result-2 c = omega (arith, ints, c.exponent-place.ensures.low)

pub returns : goal.returns
returns c =
    let gap = c.places_above-gap.result in
    let up = c.min-up.result in
    let room = c.room_above.result in
    let e : to_z w64 (of_z w64 c.mantissa-mantissa.result) ≡ c.args.high.mantissa =
    omega (arith, ints, c.mantissa-mantissa.ensures.value) in
    let f : to_z w64 (of_z w64 c.mantissa-rest.result) ≡ c.args.low.mantissa =
    omega (arith, ints, c.mantissa-rest.ensures.value) in
    record {
      value = sum_floored c.args.high.mantissa c.args.high.exponent c.args.low.mantissa
          c.args.low.exponent c.raised.result c.lowered.result _ _ gap up room (gap - up)
          c.places_above-gap.ensures (omega (arith, c.min-up.ensures))
          (⊎_elim (λ l. inl (omega (arith, c.min-up.ensures)))
          (λ l. inr (omega (arith, c.min-up.ensures))) (cases_lt room gap))
          (omega (arith, ints, c.exponent-place.ensures.value, c.exponent-place.ensures.low))
          (c.raised.ensures ∙ ap (λ (m : ℤ). m *ℤ pos (2 ^ up)) e)
          (c.lowered.ensures.value ∙ ap (λ (m : ℤ). shr_z m (2 ^ (gap - up))) f)
          (omega (arith, ints, c.lowered.ensures.size, c.mantissa-rest.ensures.size))
          (subst (λ (m : ℤ). 2305843009213693952
          ≤ unsigned_abs m * 2 ^ room) e c.room_above.ensures.long)
          (to_z-of_z w64 _ (overflow_add-result c)
          ∙ (let r : to_z w64 (of_z w64 c.raised.result) ≡ c.raised.result = omega (arith, ints) in
          let l : to_z w64 (of_z w64 c.lowered.result) ≡ c.lowered.result = omega (arith, ints) in
          (λ i. r i +ℤ l i)));
      low = omega (arith, ints, c.exponent-place.ensures.low);
      high = omega (arith, ints, c.exponent-place.ensures.low);
    }
