use Rattle.std.specs.Int.Signed.{shr_z}
use Rattle.std.specs.Int.RustNames.{unsigned_abs}
use Rattle.std.proofs.Common.{◌≡◌, ◌⊎◌, ◌≤◌, ◌*◌, ◌^◌, ℤ, pos, ◌*ℤ◌, arith, ap, subst, ◌∙◌, inl}
use Rattle.std.proofs.Common.{inr, to_z, of_z, w64}
use Rattle.std.proofs.lemmas.Int.{ints}
use Rattle.dyadic.proofs.FloorLemmas.{raised_size, zero_product, product_floored, product_is_long}
use Rattle.dyadic.proofs.floor.Floor.product.Goals as goal
use Rattle.dyadic.proofs.floor.Floor.product.Goals.{then-first-eq0-via-then-first-eq0}
use Rattle.dyadic.proofs.floor.Floor.product.Goals.{then-first-eq0-via-else-first-eq0+then-second-eq0}

pub returns-then-first-eq0-clause-floor : goal.returns-then-first-eq0-clause-floor
returns-then-first-eq0-clause-floor c =
    let none : (c.args.a.mantissa ≡ pos 0)
    ⊎ (c.args.b.mantissa ≡ pos 0) = elim c.then-first-eq0.branch [
      | then-first-eq0-via-then-first-eq0 w ↦ inl
          (omega (arith, ints, c.mantissa-first.ensures.value))
      | then-first-eq0-via-else-first-eq0+then-second-eq0 w ↦ inr
          (omega (arith, ints, c.mantissa-second.ensures.value))
    ] in
    record {
      value = inl (zero_product c.args.a.mantissa c.args.a.exponent c.args.b.mantissa
          c.args.b.exponent none);
      low = omega (arith, ints);
      high = omega (arith, ints);
    }

pub high_product-requires-clause-a_small : goal.high_product-requires-clause-a_small
high_product-requires-clause-a_small c =
    let t = raised_size (to_z w64 (of_z w64 c.mantissa-first.result)) c.raised.result
    c.room_above-left.result c.raised.ensures in omega (
      arith,
      ints,
      t,
      c.room_above-left.ensures.small,
    )

pub high_product-requires-clause-b_small : goal.high_product-requires-clause-b_small
high_product-requires-clause-b_small c =
    let t = raised_size (to_z w64 (of_z w64 c.mantissa-second.result))
    c.raised-2.result c.room_above-right.result c.raised-2.ensures in
    omega (arith, ints, t, c.room_above-right.ensures.small)

pub returns-clause-floor : goal.returns-clause-floor
returns-clause-floor c =
    let left = c.room_above-left.result in
    let right = c.room_above-right.result in
    let e : to_z w64 (of_z w64 c.mantissa-first.result) ≡ c.args.a.mantissa =
    omega (arith, ints, c.mantissa-first.ensures.value) in
    let f : to_z w64 (of_z w64 c.mantissa-second.result) ≡ c.args.b.mantissa =
    omega (arith, ints, c.mantissa-second.ensures.value) in
    let r : to_z w64 (of_z w64 c.raised.result) ≡ c.raised.result = omega (arith, ints) in
    let s : to_z w64 (of_z w64 c.raised-2.result) ≡ c.raised-2.result = omega (arith, ints) in
    let h : to_z w64 (of_z w64 c.high_product.result)
    ≡ c.high_product.result = omega (arith, ints) in
    record {
      value = product_floored c.args.a.mantissa c.args.a.exponent c.args.b.mantissa
          c.args.b.exponent c.raised.result c.raised-2.result _ _ left right
          (c.raised.ensures ∙ ap (λ (m : ℤ). m *ℤ pos (2 ^ left)) e)
          (c.raised-2.ensures ∙ ap (λ (m : ℤ). m *ℤ pos (2 ^ right)) f)
          (subst (λ (m : ℤ). 2305843009213693952
          ≤ unsigned_abs m * 2 ^ left) e c.room_above-left.ensures.long)
          (subst (λ (m : ℤ). 2305843009213693952
          ≤ unsigned_abs m * 2 ^ right) f c.room_above-right.ensures.long)
          (h ∙ c.high_product.ensures ∙ (λ i. shr_z (r i *ℤ s i) 4611686018427387904))
          (omega (arith, ints, c.product_place-two.ensures));
      low = omega (arith, ints);
      high = omega (arith, ints);
    }

pub returns-clause-long : goal.returns-clause-long
returns-clause-long c =
    let left = c.room_above-left.result in
    let right = c.room_above-right.result in
    let e : to_z w64 (of_z w64 c.mantissa-first.result) ≡ c.args.a.mantissa =
    omega (arith, ints, c.mantissa-first.ensures.value) in
    let f : to_z w64 (of_z w64 c.mantissa-second.result) ≡ c.args.b.mantissa =
    omega (arith, ints, c.mantissa-second.ensures.value) in
    let r : to_z w64 (of_z w64 c.raised.result) ≡ c.raised.result = omega (arith, ints) in
    let s : to_z w64 (of_z w64 c.raised-2.result) ≡ c.raised-2.result = omega (arith, ints) in
    let h : to_z w64 (of_z w64 c.high_product.result)
    ≡ c.high_product.result = omega (arith, ints) in
    product_is_long c.args.a.mantissa c.args.a.exponent c.args.b.mantissa c.args.b.exponent
    c.raised.result c.raised-2.result _ c.product_place-two.result left right
    (c.raised.ensures ∙ ap (λ (m : ℤ). m *ℤ pos (2 ^ left)) e)
    (c.raised-2.ensures ∙ ap (λ (m : ℤ). m *ℤ pos (2 ^ right)) f)
    (subst (λ (m : ℤ). 2305843009213693952
    ≤ unsigned_abs m * 2 ^ left) e c.room_above-left.ensures.long)
    (subst (λ (m : ℤ). 2305843009213693952
    ≤ unsigned_abs m * 2 ^ right) f c.room_above-right.ensures.long)
    (h ∙ c.high_product.ensures ∙ (λ i. shr_z (r i *ℤ s i) 4611686018427387904))
    (omega (arith, ints, c.product_place-two.ensures))
    (let t = raised_size (to_z w64 (of_z w64 c.mantissa-first.result)) c.raised.result left
    c.raised.ensures in omega (
      arith,
      t,
      c.room_above-left.ensures.small,
    ))
    (let t = raised_size (to_z w64 (of_z w64 c.mantissa-second.result)) c.raised-2.result right
    c.raised-2.ensures in omega (
      arith,
      t,
      c.room_above-right.ensures.small,
    ))
