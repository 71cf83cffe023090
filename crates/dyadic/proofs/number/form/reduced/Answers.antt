use Rattle.std.proofs.Common.{arith, ℕ, ℤ, pos, ◌≡◌, sym, subst, ◌+ℤ◌, ◌*ℤ◌, ◌∙◌, ap, ◌%◌, ◌*◌, ◌^◌}
use Rattle.std.proofs.Common.{to_z, of_z, w64}
use Rattle.std.specs.Int.Signed.{shr_z}
use Rattle.std.specs.Int.RustNames.{unsigned_abs}
use Rattle.std.proofs.lemmas.Int.{ints}
use Rattle.fx_model.specs.Grid.{IsOnGrid}
use Rattle.fx_model.specs.Powers.{scaled, scaled-shift}
use Rattle.dyadic.specs.Canonical.{IsCanonical, odd_canonical}
use Rattle.dyadic.proofs.GridLemmas.{same_scaled, same_canonical, zero_in}
use Rattle.dyadic.proofs.ShiftLemmas.{odd_shift}
use Rattle.dyadic.proofs.number.form.reduced.Goals as goal

pub returns-then-digits-eq0 : goal.returns-then-digits-eq0
returns-then-digits-eq0 c =
    c.zero.ensures.value ∙ sym (zero_in c.args.digits c.args.two (omega (arith, ints)))

-- the number without the zeros at its end
module _ (m w digits two : ℤ) (odd s n : ℕ) (shifted : m ≡ shr_z w (2 ^ s)) (same : w ≡ digits)
    (size : n ≡ unsigned_abs w) (parts : odd * 2 ^ s ≡ n) where
  without : (unsigned_abs m ≡ odd) × ((m *ℤ pos (2 ^ s)) ≡ digits)
  without = let z = odd_shift w odd s (parts ∙ size) in
      (ap unsigned_abs shifted ∙ z.0, ap (λ m. m *ℤ pos (2 ^ s)) shifted ∙ z.1 ∙ same)

  value : scaled m (two +ℤ pos s) ≡ scaled digits two
  value = scaled-shift m two s ∙ ap (λ n. scaled n two) without.1

  kept : odd % 2 ≡ 1 → IsOnGrid (scaled digits two) → IsCanonical m (two +ℤ pos s)
  kept o g =
      odd_canonical m (two +ℤ pos s) (ap (λ n. n % 2) without.0 ∙ o) (subst IsOnGrid (sym value) g)

pub overflow_add-result : goal.overflow_add-result
overflow_add-result c =
    let k = kept c.lowered.result (to_z w64 (of_z w64 c.args.digits))
    c.args.digits c.args.two c.odd_part-part.result.odd c.odd_part-part.result.shift
    c.unsigned_abs.result c.lowered.ensures.value (omega (arith, ints)) c.unsigned_abs.ensures.value
    c.odd_part-part.ensures.value c.odd_part-part.ensures.odd c.requires in
    let l = k.lowest in let h = k.highest in omega (arith, ints)

pub invariant_of-result : goal.invariant_of-result
invariant_of-result c =
    let k = kept c.lowered.result (to_z w64 (of_z w64 c.args.digits))
    c.args.digits c.args.two c.odd_part-part.result.odd c.odd_part-part.result.shift
    c.unsigned_abs.result c.lowered.ensures.value (omega (arith, ints)) c.unsigned_abs.ensures.value
    c.odd_part-part.ensures.value c.odd_part-part.ensures.odd c.requires in
    let l = k.lowest in let h = k.highest in
    record {
      canonical = same_canonical c.lowered.result (c.args.two +ℤ pos c.odd_part-part.result.shift) _
          _ (omega (arith, ints)) (omega (arith, ints)) k;
    }

pub returns : goal.returns
returns c =
    let k = kept c.lowered.result (to_z w64 (of_z w64 c.args.digits))
    c.args.digits c.args.two c.odd_part-part.result.odd c.odd_part-part.result.shift
    c.unsigned_abs.result c.lowered.ensures.value (omega (arith, ints)) c.unsigned_abs.ensures.value
    c.odd_part-part.ensures.value c.odd_part-part.ensures.odd c.requires in
    let l = k.lowest in let h = k.highest in
    same_scaled c.lowered.result (c.args.two +ℤ pos c.odd_part-part.result.shift) _ _
    (omega (arith, ints)) (omega (arith, ints))
    ∙ value c.lowered.result
    (to_z w64 (of_z w64 c.args.digits)) c.args.digits c.args.two c.odd_part-part.result.odd
    c.odd_part-part.result.shift c.unsigned_abs.result c.lowered.ensures.value
    (omega (arith, ints)) c.unsigned_abs.ensures.value c.odd_part-part.ensures.value
