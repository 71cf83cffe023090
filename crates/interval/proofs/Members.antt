-- Laws of what specs/Members defines.
use Rattle.std.specs.Prelude.{◌≡◌, ◌&&◌, true, refl}
use Rattle.std.proofs.Common.{sym, subst, ⊎_elim}
use Rattle.std.proofs.lemmas.Bool.{and_parts}
use Rattle.fx_model.specs.Fraction.{Fraction, ◌+ℚ◌, ◌-ℚ◌, ◌≤ℚ◌, zero_ℚ, one_ℚ, le_refl, le_trans}
use Rattle.fx_model.specs.Fraction.{lt_le, lt_not, le_or_lt, minus_one, plus_one}
use Rattle.fx_model.specs.Grid.{Bound, Below, At, Above, IsDown, IsUp, le_bound}
use Rattle.fx_model.specs.Enclosure.{Range, IsOrdered, IsFrom, IsUpTo, Lies, BoundLe, Within}
use Rattle.fx_model.specs.Enclosure.{IsInfimum, IsSupremum, in_enclosure, member_of, within_in}
use Rattle.fx_model.specs.Enclosure.{lower_up_to, higher_from, end_up_to, end_from}
use Rattle.dyadic.specs.Compared.{BoundLe_in, BoundLe_out}
use Rattle.dyadic.specs.Ends.{bound_of}
use Rattle.dyadic.specs.Values.{value_of}
use Rattle.dyadic.proofs.Values.{on_grid}
use Rattle.dyadic.specs.declared.number.End.{End}
use Rattle.dyadic.specs.declared.number.End.TheVariants as end
use Rattle.interval.specs.declared.interval.Interval.{Interval}
use Rattle.interval.specs.Intervals.{range_of}
use Rattle.interval.specs.Literals.{Alone}
use Rattle.interval.specs.Results.{point_of, point_of-is, has_zero}
use Rattle.interval.specs.Members.{has_one}

-- ---- ends
-- what is from b and up to c puts b at most at c
pub between : (b c : Bound) (x : Fraction) → IsFrom b x → IsUpTo c x → BoundLe b c
between Below c x p q = tt
between (At g) Below x p q = q
between (At g) (At h) x p q = le_trans g x h p q
between (At g) Above x p q = tt
between Above c x p q = absurd p

-- a number lies in its own interval
pub alone_lies : (x : Fraction) → Lies (range_of (point_of x)) x
alone_lies x = in_enclosure (Alone x) (range_of (point_of x)) x (point_of-is x) refl

-- the ends of a number's own interval are its roundings
pub alone_down : (x : Fraction) (b : Bound) → IsInfimum (Alone x) b → IsDown x b
alone_down x Below i = λ h o l. i h o (λ y e. subst (λ z. h ≤ℚ z) (sym e) l)
alone_down x (At g) i = (i.0, i.1 x refl, λ h o l. i.2 h o (λ y e. subst (λ z. h ≤ℚ z) (sym e) l))
alone_down x Above i = i

pub alone_up : (x : Fraction) (b : Bound) → IsSupremum (Alone x) b → IsUp x b
alone_up x Below i = i
alone_up x (At g) i = (i.0, i.1 x refl, λ h o l. i.2 h o (λ y e. subst (λ z. z ≤ℚ h) (sym e) l))
alone_up x Above i = λ h o l. i h o (λ y e. subst (λ z. z ≤ℚ h) (sym e) l)

-- ---- tests for a number
from_le : (b : Bound) (x : Fraction) → IsFrom b x → BoundLe b (At x)
from_le Below x p = tt
from_le (At g) x p = p
from_le Above x p = p

to_le : (c : Bound) (x : Fraction) → IsUpTo c x → BoundLe (At x) c
to_le Below x q = q
to_le (At g) x q = q
to_le Above x q = tt

-- what lies in an interval is found there
pub number_test : (r : Range) (x : Fraction) → Lies r x
    → (le_bound r.low (At x) && le_bound (At x) r.high) ≡ true
number_test r x l = rw (BoundLe_out r.low (At x) (from_le r.low x l.0))
    (BoundLe_out (At x) r.high (to_le r.high x l.1))

-- ---- intervals within intervals, by what lies in them
low_by_members : (b c p : Bound) → IsOrdered b c
    → ((x : Fraction) → IsFrom b x → IsUpTo c x → IsFrom p x) → BoundLe p b
low_by_members b c Below o f = tt
low_by_members (At g) c (At h) o f = f g (le_refl g) (end_up_to g c o)
low_by_members Below c (At h) o f = let m = member_of Below c o in
    absurd (⊎_elim (λ l. lt_not (h -ℚ one_ℚ) h (minus_one h) (f (h -ℚ one_ℚ) tt (lower_up_to c
    (h -ℚ one_ℚ) m.0 (le_trans (h -ℚ one_ℚ) h m.0 (lt_le (h -ℚ one_ℚ) h (minus_one h)) l) m.2)))
    (λ l. lt_not m.0 h l (f m.0 m.1 m.2)) (le_or_lt h m.0))
low_by_members Above c (At h) o f = absurd o
low_by_members b c Above o f = let m = member_of b c o in absurd (f m.0 m.1 m.2)

high_by_members : (b c q : Bound) → IsOrdered b c
    → ((x : Fraction) → IsFrom b x → IsUpTo c x → IsUpTo q x) → BoundLe c q
high_by_members b c Below o f = let m = member_of b c o in absurd (f m.0 m.1 m.2)
high_by_members b Below (At h) o f = tt
high_by_members b (At g) (At h) o f = f g (end_from b g o) (le_refl g)
high_by_members b Above (At h) o f = let m = member_of b Above o in
    absurd (⊎_elim (λ l. lt_not h (h +ℚ one_ℚ) (plus_one h) (f (h +ℚ one_ℚ) (higher_from b
    (h +ℚ one_ℚ) m.0 (le_trans m.0 h (h +ℚ one_ℚ) l (lt_le h (h +ℚ one_ℚ) (plus_one h))) m.1) tt))
    (λ l. lt_not h m.0 l (f m.0 m.1 m.2)) (le_or_lt m.0 h))
high_by_members b Below Above o f = tt
high_by_members b (At g) Above o f = tt
high_by_members b Above Above o f = tt

pub within_by_members : (i j : Interval) → ((x : Fraction) → Lies (range_of i) x
    → Lies (range_of j) x) → Within (range_of i) (range_of j)
within_by_members i j f = (
  low_by_members (range_of i).low (range_of i).high (range_of j).low i.ordered
      (λ x p q. let l = f x (p, q) in l.0),
  high_by_members (range_of i).low (range_of i).high (range_of j).high i.ordered
      (λ x p q. let l = f x (p, q) in l.1),
)

pub some_member : (i : Interval) → (x : Fraction) × Lies (range_of i) x
some_member i = let m = member_of (range_of i).low (range_of i).high i.ordered in (m.0, (m.1, m.2))

-- a number's own interval lies within each that it lies in
low_of_point : (x : Fraction) (b : Bound) (e : End) → IsInfimum (Alone x) b → IsFrom (bound_of e) x
    → BoundLe (bound_of e) b
low_of_point x b end.Low i l = tt
low_of_point x (At h) (end.At d) i l =
    i.2 (value_of d) (on_grid d) (λ y e. subst (λ z. value_of d ≤ℚ z) (sym e) l)
low_of_point x Below (end.At d) i l =
    i (value_of d) (on_grid d) (λ y e. subst (λ z. value_of d ≤ℚ z) (sym e) l)
low_of_point x Above (end.At d) i l = tt
low_of_point x b end.High i l = absurd l

high_of_point : (x : Fraction) (b : Bound) (e : End) → IsSupremum (Alone x) b
    → IsUpTo (bound_of e) x → BoundLe b (bound_of e)
high_of_point x b end.Low i l = absurd l
high_of_point x (At h) (end.At d) i l =
    i.2 (value_of d) (on_grid d) (λ y e. subst (λ z. z ≤ℚ value_of d) (sym e) l)
high_of_point x Below (end.At d) i l = tt
high_of_point x Above (end.At d) i l =
    i (value_of d) (on_grid d) (λ y e. subst (λ z. z ≤ℚ value_of d) (sym e) l)
high_of_point x (At h) end.High i l = tt
high_of_point x Below end.High i l = tt
high_of_point x Above end.High i l = tt

pub alone_within : (x : Fraction) (j : Interval) → Lies (range_of j) x
    → Within (range_of (point_of x)) (range_of j)
alone_within x j l = (
  low_of_point x (range_of (point_of x)).low j.lo (point_of-is x).low l.0,
  high_of_point x (range_of (point_of x)).high j.hi (point_of-is x).high l.1,
)

-- ---- what a test finds lies there
pub number_found : (r : Range) (x : Fraction)
    → (le_bound r.low (At x) && le_bound (At x) r.high) ≡ true → Lies r x
number_found r x e = let a = and_parts (le_bound r.low (At x)) (le_bound (At x) r.high) e in
    (from_in r.low (BoundLe_in r.low (At x) a.0), up_to_in r.high (BoundLe_in (At x) r.high a.1))
  where
    from_in : (b : Bound) → BoundLe b (At x) → IsFrom b x
    from_in Below l = tt
    from_in (At g) l = l
    from_in Above l = l

    up_to_in : (b : Bound) → BoundLe (At x) b → IsUpTo b x
    up_to_in Below l = l
    up_to_in (At g) l = l
    up_to_in Above l = tt

pub zero_test : (i : Interval) → Lies (range_of i) zero_ℚ → has_zero (range_of i) ≡ true
zero_test i l = number_test (range_of i) zero_ℚ l

pub zero_found : (i : Interval) → has_zero (range_of i) ≡ true → Lies (range_of i) zero_ℚ
zero_found i e = number_found (range_of i) zero_ℚ e

pub one_test : (i : Interval) → Lies (range_of i) one_ℚ → has_one (range_of i) ≡ true
one_test i l = number_test (range_of i) one_ℚ l

pub one_found : (i : Interval) → has_one (range_of i) ≡ true → Lies (range_of i) one_ℚ
one_found i e = number_found (range_of i) one_ℚ e

-- what lies in the smaller interval lies in the greater
pub grown : (i j : Interval) (x : Fraction) → Within (range_of i) (range_of j)
    → Lies (range_of i) x → Lies (range_of j) x
grown i j x w l = within_in (range_of i) (range_of j) x w l
