use Rattle.std.specs.Prelude.{◌≡◌, ◌↔◌, ℤ, Bool, true, false, Option, Some, None, IsNone, IfSome}
use Rattle.std.specs.Prelude.{refl}
use Rattle.std.proofs.Common.{sym, ap, ◌∙◌, subst, arith, to_z, of_z, w16, w32}
use Rattle.std.proofs.lemmas.Int.{ints}
use Rattle.fx_model.specs.Fraction.{Fraction}
use Rattle.fx_model.specs.Grid.{Bound, Below, At, Above}
use Rattle.fx_model.specs.Enclosure.{Range, MultiplesIn, IsEnclosure, IsOrdered, ordered_by}
use Rattle.fx_model.proofs.Enclosure.{enclosure_unique}
use Rattle.fx_model.specs.declared.Direction.TheVariants.{Dn, Up}
use Rattle.interval.specs.declared.interval.Interval.{Interval}
use Rattle.interval.specs.Intervals.{range_of}
use Rattle.interval.proofs.Intervals.{same_range}
use Rattle.interval.specs.Meets.{are_ordered, are_ordered_in, are_ordered_out}
use Rattle.interval.specs.Multiples.{IsEndUp, IsEndDown}
use Rattle.interval.proofs.ShrunkLaws.{some_multiple, shrunk_is}
use Rattle.rounding.specs.Rounded.{rounded_multiple}
use Rattle.facts.specs.declared.place.FixPlace.{FixPlace}
use Rattle.theorem_fix.specs.Beside.{rounded_below}
use Rattle.theorem_fix.proofs.Beside.{rounded_above, multiple_below, multiple_above}
use Rattle.theorem_fix.specs.Roundings.{rounded_end}
use Rattle.theorem_fix.specs.Shrunk.{shrunk_range, shrunk_of}
use Rattle.theorem_fix.proofs.ShrunkRanges.{low_grid, high_grid, shrunk_ends, shrunk_none}
use Rattle.theorem_fix.proofs.ShrunkRanges.{shrunk_some, multiple_lies}
use Rattle.theorem_fix.proofs.shrinking.shrunk.Goals as goal

end_up : (k : ℤ) (b : Bound) → IsEndUp k b (rounded_end (record { lsb = k; dir = Up }) b)
end_up k Below = refl
end_up k (At x) = record {
  multiple = rounded_multiple Up k x;
  above = rounded_above k x;
  least = λ n p h. multiple_above k x n p h;
}
end_up k Above = refl

end_down : (k : ℤ) (b : Bound) → IsEndDown k b (rounded_end (record { lsb = k; dir = Dn }) b)
end_down k Below = refl
end_down k (At x) = record {
  multiple = rounded_multiple Dn k x;
  below = rounded_below k x;
  greatest = λ n p h. multiple_below k x n p h;
}
end_down k Above = refl

-- what the call ensures of its result says that it is the shrunk interval
module _ (i : Interval) (k : FixPlace) where
  abbrev r : Range
  r = range_of i

  abbrev t : Range
  t = shrunk_range k.exponent r

  best : IsOrdered t.low t.high → IsEnclosure (MultiplesIn k.exponent r) t
  best o = shrunk_is k.exponent r t i.ordered (end_up k.exponent r.low)
      (end_down k.exponent r.high) o (low_grid i k) (high_grid i k)

  is_some : (o : Option Interval) → IsOrdered t.low t.high
      → (IsNone o ↔ ((x : Fraction) → ¬ MultiplesIn k.exponent r x)) → IfSome o (λ made.
      IsEnclosure (MultiplesIn k.exponent r) (range_of made)) → o ≡ shrunk_of i k
  is_some None w n b = let m = some_multiple k.exponent r t i.ordered (end_up k.exponent r.low)
      (end_down k.exponent r.high) w in absurd (n.0 refl m.0 m.1)
  is_some (Some j) w n b =
      let s = shrunk_some i k w in
      let e : range_of s.0 ≡ t = shrunk_ends i k s.0 s.1 in
      ap Some (same_range j s.0
      (enclosure_unique (MultiplesIn k.exponent r) (range_of j) t b (best w) ∙ sym e)) ∙ sym s.1

  is_none : (o : Option Interval) → ¬ IsOrdered t.low t.high
      → (IsNone o ↔ ((x : Fraction) → ¬ MultiplesIn k.exponent r x)) → o ≡ shrunk_of i k
  is_none o w n = none_of o (n.1 (λ x m. let l = multiple_lies k.exponent r x m.1 m.0 in
      w (ordered_by t.low t.high x l.0 l.1))) ∙ sym (shrunk_none i k w)
    where
      none_of : (o : Option Interval) → IsNone o → o ≡ None
      none_of None h = refl
      none_of (Some j) h = cc

  shrunk_only : (o : Option Interval) → (IsNone o ↔ ((x : Fraction) → ¬ MultiplesIn k.exponent r x))
      → IfSome o (λ made. IsEnclosure (MultiplesIn k.exponent r) (range_of made))
      → o ≡ shrunk_of i k
  shrunk_only o n b = by_test (are_ordered t.low t.high) refl
    where
      by_test : (c : Bool) → are_ordered t.low t.high ≡ c → o ≡ shrunk_of i k
      by_test true e = is_some o (are_ordered_in t.low t.high e) n b
      by_test false e =
          is_none o (λ w. let f : true ≡ false = sym (are_ordered_out t.low t.high w) ∙ e in cc) n

pub returns : goal.returns
returns c =
    let k : to_z w32 (of_z w32 (to_z w16 (of_z w16 c.exponent.result)))
    ≡ c.args.k.exponent = omega (arith, ints) in
    shrunk_only c.args.i c.args.k c.shrink.result
    (subst (λ k. IsNone c.shrink.result
    ↔ ((x : Fraction) → ¬ MultiplesIn k (range_of c.args.i) x)) k c.shrink.ensures.none)
    (subst (λ k. IfSome c.shrink.result (λ made. IsEnclosure (MultiplesIn k (range_of c.args.i))
    (range_of made))) k c.shrink.ensures.best)
