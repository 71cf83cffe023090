-- The ends of a shrunk interval are multiples of the grid, and the multiples in the interval lie
-- between them.
use Rattle.std.specs.Prelude.{◌≡◌, ◌≤ℤ◌, ℤ, pos, negsuc, Some, None}
use Rattle.std.proofs.Common.{sym, ap, subst, ◌∙◌, arith}
use Rattle.std.proofs.lemmas.Int.{ints, by_lt_z}
use Rattle.fx_model.specs.Fraction.{Fraction, le_trans}
use Rattle.fx_model.specs.Powers.{IsMultiple}
use Rattle.fx_model.specs.Grid.{Bound, Below, At, Above, IsOnGrid}
use Rattle.fx_model.specs.Enclosure.{Range, IsFrom, IsUpTo, Lies, BoundLe, Within, IsOrdered}
use Rattle.fx_model.specs.Rounded.{rounded}
use Rattle.fx_model.specs.declared.Rounding.{Rounding}
use Rattle.fx_model.specs.declared.Direction.{Direction}
use Rattle.fx_model.specs.declared.Direction.TheVariants.{Dn, Up}
use Rattle.dyadic.specs.Ends.{bound_of}
use Rattle.dyadic.specs.Made.{IsGridBound}
use Rattle.dyadic.proofs.Made.{grid_bound}
use Rattle.interval.specs.declared.interval.Interval.{Interval}
use Rattle.interval.specs.Intervals.{range_of}
use Rattle.interval.specs.Meets.{interval_from-none, interval_from_out}
use Rattle.interval.proofs.Outward.{outward_of-some, low_bound_self, high_bound_self}
use Rattle.interval.specs.Outward.{low_end, high_end}
use Rattle.rounding.specs.Rounded.{rounded_multiple}
use Rattle.rounding.proofs.Rounded.{rounded-finer, multiple_of_less}
use Rattle.rounding.proofs.OnGrid.{rounded_on_grid}
use Rattle.facts.specs.declared.place.FixPlace.{FixPlace}
use Rattle.facts.specs.Order.{IsWithin}
use Rattle.theorem_fix.specs.Beside.{rounded_below}
use Rattle.theorem_fix.proofs.Beside.{rounded_above, multiple_below, multiple_above}
use Rattle.theorem_fix.specs.Roundings.{rounded_end}
use Rattle.theorem_fix.specs.Shrunk.{shrunk_range, shrunk_of}

-- ---- the grid
-- below the grid's last place each of its numbers is a multiple
rounded_grid : (d : Direction) (k : ℤ) (x : Fraction) → k ≤ℤ pos 512 → IsOnGrid x
    → IsOnGrid (rounded d k x)
rounded_grid d k x h g = by_lt_z k (negsuc 511)
    (λ l. let a = g.lowest in subst IsOnGrid
    (sym (rounded-finer d g.exponent k x (omega (arith, ints)) (g.mantissa, g.is))) g)
    (λ l. rounded_on_grid d k x l h g)

end_grid : (r : Rounding) (b : Bound) → r.lsb ≤ℤ pos 512 → IsGridBound b
    → IsGridBound (rounded_end r b)
end_grid r Below h g = tt
end_grid r (At x) h g = rounded_grid r.dir r.lsb x h g
end_grid r Above h g = tt

module _ (i : Interval) (k : FixPlace) where
  t : Range
  t = shrunk_range k.exponent (range_of i)

  pub low_grid : IsGridBound (shrunk_range k.exponent (range_of i)).low
  low_grid =
      end_grid (record { lsb = k.exponent; dir = Up }) (bound_of i.lo) k.highest (grid_bound i.lo)

  pub high_grid : IsGridBound (shrunk_range k.exponent (range_of i)).high
  high_grid =
      end_grid (record { lsb = k.exponent; dir = Dn }) (bound_of i.hi) k.highest (grid_bound i.hi)

  -- it has these ends
  pub shrunk_ends : (j : Interval) → shrunk_of i k ≡ Some j
      → range_of j ≡ shrunk_range k.exponent (range_of i)
  unfolding t
  shrunk_ends j e =
      let q = interval_from_out (low_end t.low) (high_end t.high) j e in
      let a : bound_of j.lo ≡ t.low = ap bound_of q.0 ∙ low_bound_self t.low low_grid in
      let b : bound_of j.hi ≡ t.high = ap bound_of q.1 ∙ high_bound_self t.high high_grid in
      λ n. record { low = a n; high = b n }

  -- there is none where they make no interval
  pub shrunk_none : ¬ IsOrdered (shrunk_range k.exponent (range_of i)).low
      (shrunk_range k.exponent (range_of i)).high → shrunk_of i k ≡ None
  unfolding t
  shrunk_none n = interval_from-none (low_end t.low) (high_end t.high)
      (λ o. n (subst (λ b. IsOrdered b t.high) (low_bound_self t.low low_grid)
      (subst (λ b. IsOrdered (bound_of (low_end t.low)) b) (high_bound_self t.high high_grid) o)))

  -- and there is one where they do
  pub shrunk_some : IsOrdered (shrunk_range k.exponent (range_of i)).low
      (shrunk_range k.exponent (range_of i)).high → (j : Interval) × (shrunk_of i k ≡ Some j)
  unfolding t
  shrunk_some o = let s = outward_of-some t o in (s.0, s.1)

  pub shrunk_ordered : (j : Interval) → shrunk_of i k ≡ Some j → IsOrdered
      (shrunk_range k.exponent (range_of i)).low (shrunk_range k.exponent (range_of i)).high
  shrunk_ordered j e = subst (λ (r : Range). IsOrdered r.low r.high) (shrunk_ends j e) j.ordered

-- ---- multiples lie between the ends
multiple_from : (k : ℤ) (b : Bound) (x : Fraction) → IsMultiple k x → IsFrom b x
    → IsFrom (rounded_end (record { lsb = k; dir = Up }) b) x
multiple_from k Below x m l = tt
multiple_from k (At g) x m l = multiple_above k g x m l
multiple_from k Above x m l = l

multiple_up_to : (k : ℤ) (b : Bound) (x : Fraction) → IsMultiple k x → IsUpTo b x
    → IsUpTo (rounded_end (record { lsb = k; dir = Dn }) b) x
multiple_up_to k Below x m l = l
multiple_up_to k (At g) x m l = multiple_below k g x m l
multiple_up_to k Above x m l = tt

pub multiple_lies : (k : ℤ) (r : Range) (x : Fraction) → IsMultiple k x → Lies r x
    → Lies (shrunk_range k r) x
multiple_lies k r x m l = (multiple_from k r.low x m l.0, multiple_up_to k r.high x m l.1)

-- ---- of an interval further in, and of a greater power, the ends are further in
low_further : (k n : ℤ) (b c : Bound) → k ≤ℤ n → BoundLe b c → BoundLe (rounded_end
    (record { lsb = k; dir = Up }) b) (rounded_end (record { lsb = n; dir = Up }) c)
low_further k n Below Below h l = tt
low_further k n Below (At y) h l = tt
low_further k n Below Above h l = tt
low_further k n (At x) Below h l = l
low_further k n (At x) (At y) h l = multiple_above k x (rounded Up n y)
    (multiple_of_less n k (rounded Up n y) h (rounded_multiple Up n y))
    (le_trans x y (rounded Up n y) l (rounded_above n y))
low_further k n (At x) Above h l = tt
low_further k n Above Below h l = l
low_further k n Above (At y) h l = l
low_further k n Above Above h l = tt

high_further : (k n : ℤ) (b c : Bound) → k ≤ℤ n → BoundLe c b → BoundLe (rounded_end
    (record { lsb = n; dir = Dn }) c) (rounded_end (record { lsb = k; dir = Dn }) b)
high_further k n Below Below h l = tt
high_further k n (At x) Below h l = tt
high_further k n Above Below h l = tt
high_further k n Below (At y) h l = l
high_further k n (At x) (At y) h l = multiple_below k x (rounded Dn n y)
    (multiple_of_less n k (rounded Dn n y) h (rounded_multiple Dn n y))
    (le_trans (rounded Dn n y) y x (rounded_below n y) l)
high_further k n Above (At y) h l = tt
high_further k n Below Above h l = l
high_further k n (At x) Above h l = l
high_further k n Above Above h l = tt

pub shrunk_within : (i j : Interval) (k n : FixPlace) → IsWithin j i → k.exponent ≤ℤ n.exponent
    → Within (shrunk_range n.exponent (range_of j)) (shrunk_range k.exponent (range_of i))
shrunk_within i j k n w h = (
  low_further k.exponent n.exponent (bound_of i.lo) (bound_of j.lo) h w.0,
  high_further k.exponent n.exponent (bound_of i.hi) (bound_of j.hi) h w.1,
)
