use Rattle.std.proofs.Common.{◌≡◌, ◌≤◌, ◌+◌, ℕ, ℤ, pos, negsuc, ◌+ℤ◌, ◌-ℤ◌, ◌≤ℤ◌, arith, ap, ◌∙◌}
use Rattle.std.proofs.Common.{to_z, of_z, w32}
use Rattle.std.proofs.lemmas.Int.{ints}
use Rattle.dyadic.proofs.floor.product_place.Goals as goal

kept : (z : ℤ) → negsuc 4095 ≤ℤ z → z ≤ℤ pos 4095 → to_z w32 (of_z w32 z) ≡ z
kept z l h = omega (arith, ints)

module _ (e f a b : ℤ) (l r : ℕ) (p : e ≡ a) (q : f ≡ b) (e_low : negsuc 511 ≤ℤ e)
    (e_high : e ≤ℤ pos 571) (f_low : negsuc 511 ≤ℤ f) (f_high : f ≤ℤ pos 571)
    (l_few : l ≤ 61) (r_few : r ≤ 61) where
  sum_kept : to_z w32 (of_z w32 (to_z w32 (of_z w32 e) +ℤ to_z w32 (of_z w32 f))) ≡ a +ℤ b
  sum_kept = (λ i. to_z w32 (of_z w32 (kept e (omega (arith, ints)) (omega (arith, ints)) i
      +ℤ kept f (omega (arith, ints)) (omega (arith, ints)) i)))
      ∙ kept (e +ℤ f) (omega (arith, ints)) (omega (arith, ints)) ∙ (λ i. p i +ℤ q i)

  more_kept : to_z w32 (of_z w32 (to_z w32
      (of_z w32 (to_z w32 (of_z w32 e) +ℤ to_z w32 (of_z w32 f))) +ℤ pos 62)) ≡ (a +ℤ b) +ℤ pos 62
  more_kept = ap (λ z. to_z w32 (of_z w32 (z +ℤ pos 62))) sum_kept
      ∙ kept ((a +ℤ b) +ℤ pos 62) (omega (arith, ints)) (omega (arith, ints))

  up_kept : to_z w32 (l + r) ≡ pos (l + r)
  up_kept = omega (arith, ints)

  place : (to_z w32 (of_z w32 (to_z w32 (of_z w32 (to_z w32 (of_z w32
      (to_z w32 (of_z w32 e) +ℤ to_z w32 (of_z w32 f))) +ℤ pos 62)) -ℤ to_z w32 (l + r))) +ℤ pos l)
      +ℤ pos r ≡ (a +ℤ b) +ℤ pos 62
  place = let s : to_z w32 (of_z w32 (to_z w32 (of_z w32 (to_z w32
      (of_z w32 (to_z w32 (of_z w32 e) +ℤ to_z w32 (of_z w32 f))) +ℤ pos 62)) -ℤ to_z w32 (l + r)))
      ≡ ((a +ℤ b) +ℤ pos 62) -ℤ pos (l + r)
      = (λ i. to_z w32 (of_z w32 (more_kept i -ℤ up_kept i)))
      ∙ kept (((a +ℤ b) +ℤ pos 62) -ℤ pos (l + r)) (omega (arith, ints)) (omega (arith, ints)) in
      ap (λ z. (z +ℤ pos l) +ℤ pos r) s ∙ omega (arith, ints)

pub returns : goal.returns
returns c = place c.exponent.result c.exponent-2.result c.args.a.exponent
    c.args.b.exponent c.args.left c.args.right c.exponent.ensures.value c.exponent-2.ensures.value
    c.exponent.ensures.low c.exponent.ensures.high c.exponent-2.ensures.low
    c.exponent-2.ensures.high c.requires.left c.requires.right
