-- The rules on multiples and on values other than 0: from stronger premises they give a fact as
-- strong, or stronger.
use Rattle.std.specs.Prelude.{◌≡◌, ◌||◌, ℤ, pos, negsuc, ◌≤ℤ◌, ◌+ℤ◌, Bool, true, false, [], ◌∷◌}
use Rattle.std.specs.Prelude.{Option, Some, None, if◌then◌else◌, refl}
use Rattle.std.specs.Int.RustNames.{int_lt}
use Rattle.std.proofs.Common.{sym, ap, subst, ◌∙◌, arith}
use Rattle.std.proofs.lemmas.Int.{ints}
use Rattle.fx_model.specs.Fraction.{Fraction, le_antisymm}
use Rattle.fx_model.specs.Grid.{Bound, Below, At, Above, le_bound}
use Rattle.fx_model.specs.Enclosure.{BoundLe, IsOrdered}
use Rattle.fx_model.specs.declared.Rounding.{Rounding}
use Rattle.fx_model.specs.declared.Node.TheVariants as node
use Rattle.dyadic.specs.declared.number.Dyadic.{Dyadic}
use Rattle.dyadic.specs.declared.number.End.{End}
use Rattle.dyadic.specs.declared.number.End.TheVariants as end
use Rattle.dyadic.specs.Values.{value_of}
use Rattle.dyadic.specs.Ends.{bound_of}
use Rattle.dyadic.proofs.Ends.{same_bound}
use Rattle.dyadic.specs.Compared.{BoundLe_in}
use Rattle.dyadic.proofs.Extremes.{BoundLe-trans}
use Rattle.interval.specs.declared.interval.Interval.{Interval}
use Rattle.rounding.proofs.Places.{less, not_less}
use Rattle.expr_dag.specs.Shapes.{is_at}
use Rattle.facts.specs.declared.place.FixPlace.{FixPlace}
use Rattle.facts.specs.declared.fact.Fact.TheVariants as fact
use Rattle.facts.specs.declared.fact.Slot.TheVariants as slot
use Rattle.facts.proofs.Laws.{IsStronger-refl}
use Rattle.facts.specs.Promises.{IsIsotone}
use Rattle.facts.specs.Premises.{Gives}
use Rattle.facts.proofs.Premises.{no_premises, one_bnd, one_fix, two_fix}
use Rattle.facts.specs.Conclusions.{fix_of}
use Rattle.facts.proofs.Conclusions.{improves_fix, improves_given, improves_only}
use Rattle.facts.specs.Places.{place_from-some, place_from_out, kept, sum_place, lesser_place}
use Rattle.theorem_arith.specs.Shapes.{is_one}
use Rattle.theorem_fix.specs.Shapes.{rounding_at}
use Rattle.theorem_fix.specs.Multiples.{literal_multiple_rule, multiple_of_negation_rule}
use Rattle.theorem_fix.specs.Multiples.{multiple_of_sum_rule, multiple_of_product_rule}
use Rattle.theorem_fix.specs.Multiples.{rounded_multiple_rule, untouched, untouched_multiple_rule}
use Rattle.theorem_fix.specs.Multiples.{number_place, point_place, number_multiple_rule}

lesser-rises : (k n l m : FixPlace) → k.exponent ≤ℤ l.exponent → n.exponent ≤ℤ m.exponent
    → (lesser_place k n).exponent ≤ℤ (lesser_place l m).exponent
lesser-rises k n l m p q =
    by_test (int_lt k.exponent n.exponent) (int_lt l.exponent m.exponent) refl refl
  where
    by_test : (b d : Bool) → int_lt k.exponent n.exponent ≡ b → int_lt l.exponent m.exponent ≡ d
        → (if b then k else n).exponent ≤ℤ (if d then l else m).exponent
    by_test true true e f = p
    by_test true false e f = let a = less k.exponent n.exponent e in omega (arith, ints)
    by_test false true e f = let a = not_less k.exponent n.exponent e in omega (arith, ints)
    by_test false false e f = q

-- the exponent, or 512 where it is above
abbrev cap : ℤ → ℤ
cap s = if int_lt (pos 512) s then pos 512 else s

cap-rises : (s t : ℤ) → s ≤ℤ t → cap s ≤ℤ cap t
cap-rises s t l = by_test (int_lt (pos 512) s) (int_lt (pos 512) t) refl refl
  where
    by_test : (b d : Bool) → int_lt (pos 512) s ≡ b → int_lt (pos 512) t ≡ d
        → (if b then pos 512 else s) ≤ℤ (if d then pos 512 else t)
    by_test true true e f = omega (arith, ints)
    by_test true false e f = let a = less (pos 512) s e in omega (arith, ints)
    by_test false true e f = let a = not_less (pos 512) s e in omega (arith, ints)
    by_test false false e f = l

cap_most : (s : ℤ) → cap s ≤ℤ pos 512
cap_most s = by_test (int_lt (pos 512) s) refl
  where
    by_test : (b : Bool) → int_lt (pos 512) s ≡ b → (if b then pos 512 else s) ≤ℤ pos 512
    by_test true e = omega (arith, ints)
    by_test false e = not_less (pos 512) s e

kept-rises : (s t : ℤ) (p : FixPlace) → s ≤ℤ t → kept s ≡ Some p
    → (q : FixPlace) × (kept t ≡ Some q) × (p.exponent ≤ℤ q.exponent)
kept-rises s t p l e =
    let same : p.exponent ≡ cap s = place_from_out (cap s) p e in
    let up : p.exponent ≤ℤ cap t = subst (λ k. k ≤ℤ cap t) (sym same) (cap-rises s t l) in
    let low = p.lowest in
    let w : negsuc 1023 ≤ℤ cap t = omega (arith, ints) in (
      record { exponent = cap t; lowest = w; highest = cap_most t },
      place_from-some (cap t) (record { lowest = w; highest = cap_most t }),
      up,
    )

-- ---- literals
pub literal_multiple_rule-isotone : IsIsotone literal_multiple_rule
literal_multiple_rule-isotone nodes [] t ps c s q = subst (λ l.
    Gives (literal_multiple_rule nodes l t) c) (sym (no_premises ps s)) (c, q, IsStronger-refl c)
literal_multiple_rule-isotone nodes (p ∷ qs) t ps c s q = cc

-- ---- multiples
pub multiple_of_negation_rule-isotone : IsIsotone multiple_of_negation_rule
multiple_of_negation_rule-isotone nodes (fact.Fix x k ∷ []) (slot.Fix e) ps c s q =
    let a = one_fix ps x k s in
    subst (λ l. Gives (multiple_of_negation_rule nodes l (slot.Fix e)) c) (sym a.1)
    (improves_only (is_at nodes e (node.Neg x)) (fact.Fix e k) (fact.Fix e a.0) (refl, a.2) c q)
multiple_of_negation_rule-isotone nodes _ _ ps c s q = cc

pub multiple_of_sum_rule-isotone : IsIsotone multiple_of_sum_rule
multiple_of_sum_rule-isotone nodes (fact.Fix x k ∷ fact.Fix y n ∷ []) (slot.Fix e) ps c s q =
    let a = two_fix ps x k y n s in
    subst (λ l. Gives (multiple_of_sum_rule nodes l (slot.Fix e)) c) (sym a.2)
    (improves_only (is_at nodes e (node.Add x y) || is_at nodes e (node.Sub x y))
    (fact.Fix e (lesser_place k n)) (fact.Fix e (lesser_place a.0 a.1))
    (refl, lesser-rises k n a.0 a.1 a.3 a.4) c q)
multiple_of_sum_rule-isotone nodes _ _ ps c s q = cc

pub multiple_of_product_rule-isotone : IsIsotone multiple_of_product_rule
multiple_of_product_rule-isotone nodes (fact.Fix x k ∷ fact.Fix y n ∷ []) (slot.Fix e) ps c s q =
    let a = two_fix ps x k y n s in
    let l : (k.exponent +ℤ n.exponent) ≤ℤ (a.0.exponent +ℤ a.1.exponent) =
    (let u = a.3 in let v = a.4 in omega (arith, ints)) in
    subst (λ l. Gives (multiple_of_product_rule nodes l (slot.Fix e)) c) (sym a.2)
    (improves_given (is_at nodes e (node.Mul x y)) (fix_of e (sum_place k n))
    (fix_of e (sum_place a.0 a.1))
    (improves_fix e (sum_place k n) (sum_place a.0 a.1)
    (λ p t. kept-rises (k.exponent +ℤ n.exponent) (a.0.exponent +ℤ a.1.exponent) p l t)) c q)
multiple_of_product_rule-isotone nodes _ _ ps c s q = cc

pub rounded_multiple_rule-isotone : IsIsotone rounded_multiple_rule
rounded_multiple_rule-isotone nodes (fact.Bnd x i ∷ []) (slot.Fix e) ps c s q =
    let a = one_bnd ps x i s in
    subst (λ l. Gives (rounded_multiple_rule nodes l (slot.Fix e)) c) (sym a.1)
    (c, q, IsStronger-refl c)
rounded_multiple_rule-isotone nodes _ _ ps c s q = cc

untouched-rises : (k n : FixPlace) (r : Option Rounding) (p : FixPlace) → k.exponent ≤ℤ n.exponent
    → untouched k r ≡ Some p
    → (m : FixPlace) × (untouched n r ≡ Some m) × (p.exponent ≤ℤ m.exponent)
untouched-rises k n None p l e = cc
untouched-rises k n (Some r) p l e =
    by_test (int_lt k.exponent r.lsb) (int_lt n.exponent r.lsb) refl refl e
  where
    by_test : (b d : Bool) → int_lt k.exponent r.lsb ≡ b
        → int_lt n.exponent r.lsb ≡ d → (if b then None else Some k) ≡ Some p
        → (m : FixPlace) × ((if d then None else Some n) ≡ Some m) × (p.exponent ≤ℤ m.exponent)
    by_test true d t u e = cc
    by_test false true t u e = absurd (let a = not_less k.exponent r.lsb t in grind (arith, ints))
    by_test false false t u e =
        (n, refl, subst (λ (z : FixPlace). z.exponent ≤ℤ n.exponent) (let g : k ≡ p = cc in g) l)

pub untouched_multiple_rule-isotone : IsIsotone untouched_multiple_rule
untouched_multiple_rule-isotone nodes (fact.Fix x k ∷ []) (slot.Fix e) ps c s q =
    let a = one_fix ps x k s in
    subst (λ l. Gives (untouched_multiple_rule nodes l (slot.Fix e)) c) (sym a.1)
    (improves_fix e (untouched k (rounding_at nodes e x)) (untouched a.0 (rounding_at nodes e x))
    (λ p t. untouched-rises k a.0 (rounding_at nodes e x) p a.2 t) c q)
untouched_multiple_rule-isotone nodes _ _ ps c s q = cc

ordered_le : (b c : Bound) → IsOrdered b c → BoundLe b c
ordered_le Below Below o = absurd o
ordered_le Below (At h) o = tt
ordered_le Below Above o = tt
ordered_le (At g) Below o = absurd o
ordered_le (At g) (At h) o = o
ordered_le (At g) Above o = tt
ordered_le Above c o = absurd o

-- what lies on both sides of a fraction is it
at_antisymm : (g : Fraction) (b : Bound) → BoundLe (At g) b → BoundLe b (At g) → b ≡ At g
at_antisymm g Below p q = absurd p
at_antisymm g (At h) p q = ap At (le_antisymm h g q p)
at_antisymm g Above p q = absurd q

-- an interval within one of a single number is that
module _ (c d : Dyadic) (j : Interval) (l : BoundLe (bound_of (end.At c)) (bound_of j.lo))
    (h : BoundLe (bound_of j.hi) (bound_of (end.At d)))
    (t : le_bound (bound_of (end.At d)) (bound_of (end.At c)) ≡ true) where
  point_down : BoundLe (bound_of (end.At d)) (bound_of (end.At c))
  point_down = BoundLe_in (bound_of (end.At d)) (bound_of (end.At c)) t

  point_inner : BoundLe (bound_of j.lo) (bound_of j.hi)
  point_inner = ordered_le (bound_of j.lo) (bound_of j.hi) j.ordered

  point_low : j.lo ≡ end.At c
  point_low = same_bound j.lo (end.At c) (at_antisymm (value_of c) (bound_of j.lo) l
      (BoundLe-trans (bound_of j.lo) (bound_of j.hi) (bound_of (end.At c)) point_inner
      (BoundLe-trans (bound_of j.hi) (bound_of (end.At d)) (bound_of (end.At c)) h point_down)))

  point_high : j.hi ≡ end.At d
  point_high = same_bound j.hi (end.At d) (at_antisymm (value_of d) (bound_of j.hi)
      (BoundLe-trans (bound_of (end.At d)) (bound_of (end.At c)) (bound_of j.hi) point_down
      (BoundLe-trans (bound_of (end.At c)) (bound_of j.lo) (bound_of j.hi) l point_inner)) h)

  point_both : point_place j.lo j.hi ≡ point_place (end.At c) (end.At d)
  point_both = ap (λ z. point_place z j.hi) point_low ∙ ap (point_place (end.At c)) point_high

point_same : (lo hi : End) (j : Interval) (p : FixPlace) → point_place lo hi ≡ Some p
    → BoundLe (bound_of lo) (bound_of j.lo) → BoundLe (bound_of j.hi) (bound_of hi)
    → point_place j.lo j.hi ≡ Some p
point_same (end.At c) (end.At d) j p e l h =
    by_test (le_bound (bound_of (end.At d)) (bound_of (end.At c))) refl e
  where
    by_test : (b : Bool) → le_bound (bound_of (end.At d)) (bound_of (end.At c)) ≡ b
        → (if b then number_place c else None) ≡ Some p → point_place j.lo j.hi ≡ Some p
    by_test true t e = point_both c d j l h t ∙ ap (λ b. if b then number_place c else None) t ∙ e
    by_test false t e = cc
point_same _ _ j p e l h = cc

pub number_multiple_rule-isotone : IsIsotone number_multiple_rule
number_multiple_rule-isotone nodes (fact.Bnd x i ∷ []) (slot.Fix e) ps c s q =
    let a = one_bnd ps x i s in
    subst (λ l. Gives (number_multiple_rule nodes l (slot.Fix e)) c) (sym a.1)
    (improves_given (is_one nodes x e) (fix_of e (point_place i.lo i.hi))
    (fix_of e (point_place a.0.lo a.0.hi))
    (improves_fix e (point_place i.lo i.hi) (point_place a.0.lo a.0.hi)
    (λ p t. (p, point_same i.lo i.hi a.0 p t a.2.0 a.2.1, omega (arith, ints)))) c q)
number_multiple_rule-isotone nodes _ _ ps c s q = cc
