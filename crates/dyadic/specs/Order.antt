-- The order of numbers and of ends, by what they stand for.
use Rattle.std.specs.Prelude.{◌≡◌, Bool, true, false, cond, refl}
use Rattle.std.proofs.Common.{sym, ◌∙◌}
use Rattle.std.specs.declared.cmp.Ordering.{Ordering}
use Rattle.std.specs.declared.cmp.Ordering.TheVariants.{Less, Equal, Greater}
use Rattle.std.specs.Ordering.{ordering_reverse}
use Rattle.std.specs.Cmp.{IsTotalOrder, both_ways, on_total}
use Rattle.fx_model.specs.Fraction.{Fraction, le_ℚ, le_total, le_trans}
use Rattle.fx_model.specs.Grid.{Bound, Below, At, Above, le_bound}
use Rattle.dyadic.specs.declared.number.Dyadic.{Dyadic}
use Rattle.dyadic.specs.declared.number.End.{End}
use Rattle.dyadic.specs.Values.{value_of}
use Rattle.dyadic.specs.Ends.{bound_of}

-- how two values compare, from the test of "at most"
abbrev pub cmp_by : {K : Type 0} → (K → K → Bool) → K → K → Ordering
cmp_by le x y = cond (le x y) (cond (le y x) Equal Less) Greater

-- how two numbers compare: as the fractions that they stand for
abbrev pub value_cmp : Dyadic → Dyadic → Ordering
value_cmp a b = cmp_by le_ℚ (value_of a) (value_of b)

-- how two ends compare: as what they stand for
abbrev pub end_cmp : End → End → Ordering
end_cmp a b = cmp_by le_bound (bound_of a) (bound_of b)

-- ---- a test that is total and transitive gives a total order
turned : (s t : Bool) → (s ≡ false → t ≡ true)
    → cond s (cond t Equal Less) Greater ≡ ordering_reverse (cond t (cond s Equal Less) Greater)
turned true true f = refl
turned true false f = refl
turned false true f = refl
turned false false f = let e = f refl in cc

pub less_out : (s t : Bool) → cond s (cond t Equal Less) Greater ≡ Less → (s ≡ true) × (t ≡ false)
less_out true true e = cc
less_out true false e = (refl, refl)
less_out false t e = cc

pub equal_out : (s t : Bool) → cond s (cond t Equal Less) Greater ≡ Equal → (s ≡ true) × (t ≡ true)
equal_out true true e = (refl, refl)
equal_out true false e = cc
equal_out false t e = cc

not_true : (s : Bool) → ¬ (s ≡ true) → s ≡ false
not_true true n = absurd (n refl)
not_true false n = refl

module _ {K : Type 0} (le : K → K → Bool) (total : (x y : K) → le x y ≡ false → le y x ≡ true)
    (trans : (x y z : K) → le x y ≡ true → le y z ≡ true → le x z ≡ true) where
  chain : (x y z : K) → cmp_by le x y ≡ Less → cmp_by le y z ≡ Less → cmp_by le x z ≡ Less
  chain x y z p q =
      let a = less_out (le x y) (le y x) p in
      let b = less_out (le y z) (le z y) q in
      let h : le x z ≡ true = trans x y z a.0 b.0 in
      let n : le z x ≡ false = not_true (le z x) (λ t. let e : le z y ≡ true = trans z x y t a.0 in
      let f : le z y ≡ false = b.1 in absurd (let g : true ≡ false = sym e ∙ f in cc)) in
      cc

  alike : (x y z : K) → cmp_by le x y ≡ Equal → cmp_by le x z ≡ cmp_by le y z
  alike x y z p =
      let a = equal_out (le x y) (le y x) p in
      let h : le x z ≡ le y z = both_ways (le x z) (le y z) (trans y x z a.1) (trans x y z a.0) in
      let k : le z x ≡ le z y =
      both_ways (le z x) (le z y) (λ t. trans z x y t a.0) (λ t. trans z y x t a.1) in
      cc

  pub cmp_by_total : IsTotalOrder (cmp_by le)
  cmp_by_total = record {
    antisymm = λ x y. turned (le x y) (le y x) (total x y);
    trans = chain;
    congr = alike;
  }

-- ---- numbers
fraction_total : (x y : Fraction) → le_ℚ x y ≡ false → le_ℚ y x ≡ true
fraction_total x y e = (le_total x y e).le

fraction_trans : (x y z : Fraction) → le_ℚ x y ≡ true → le_ℚ y z ≡ true → le_ℚ x z ≡ true
fraction_trans x y z p q = (le_trans x y z (record { le = p }) (record { le = q })).le

pub value_cmp_total : IsTotalOrder value_cmp
value_cmp_total = on_total value_of (cmp_by_total le_ℚ fraction_total fraction_trans)

-- ---- bounds
pub bound_total : (b c : Bound) → le_bound b c ≡ false → le_bound c b ≡ true
bound_total Below c e = cc
bound_total (At g) Below e = refl
bound_total (At g) (At h) e = fraction_total g h e
bound_total (At g) Above e = cc
bound_total Above Below e = refl
bound_total Above (At h) e = refl
bound_total Above Above e = cc

pub bound_trans : (b c d : Bound) → le_bound b c ≡ true → le_bound c d ≡ true → le_bound b d ≡ true
bound_trans Below c d p q = refl
bound_trans (At g) Below d p q = cc
bound_trans (At g) (At h) Below p q = cc
bound_trans (At g) (At h) (At k) p q = fraction_trans g h k p q
bound_trans (At g) (At h) Above p q = refl
bound_trans (At g) Above Below p q = cc
bound_trans (At g) Above (At k) p q = cc
bound_trans (At g) Above Above p q = refl
bound_trans Above Below d p q = cc
bound_trans Above (At h) d p q = cc
bound_trans Above Above d p q = q

pub end_cmp_total : IsTotalOrder end_cmp
end_cmp_total = on_total bound_of (cmp_by_total le_bound bound_total bound_trans)
