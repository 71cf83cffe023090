-- The rules on multiples are sound: where the premises hold, the conclusion does.
use Rattle.std.specs.Prelude.{◌≡◌, ◌||◌, ℤ, pos, ◌≤ℤ◌, ◌+ℤ◌, ◌*ℤ◌, Bool, true, false, List, [], ◌∷◌}
use Rattle.std.specs.Prelude.{Option, Some, None, slice_get, if◌then◌else◌, refl}
use Rattle.std.specs.Int.RustNames.{int_lt, unsigned_abs}
use Rattle.std.specs.Option.{IsSomeAnd}
use Rattle.std.proofs.Common.{sym, ap, subst, ◌∙◌, ⊎_elim, arith}
use Rattle.std.proofs.lemmas.Int.{ints}
use Rattle.std.proofs.lemmas.Bool.{eqb-true, or_cases}
use Rattle.fx_model.specs.Fraction.{Fraction, ◌+ℚ◌, ◌-ℚ◌, ◌*ℚ◌, ◌≤ℚ◌, neg_ℚ, le_antisymm, le_trans}
use Rattle.fx_model.specs.Powers.{IsMultiple, scaled, scaled-zero}
use Rattle.fx_model.proofs.Powers.{scaled-add}
use Rattle.fx_model.proofs.Grid.{scaled-mul, multiple-neg}
use Rattle.fx_model.specs.Grid.{le_bound}
use Rattle.fx_model.specs.Enclosure.{Lies}
use Rattle.fx_model.specs.Expression.{Assignment, IsOrdered, value, lift₁, literal_value}
use Rattle.fx_model.specs.Rounded.{rounded}
use Rattle.fx_model.specs.declared.ExprId.{ExprId}
use Rattle.fx_model.specs.declared.Rounding.{Rounding}
use Rattle.fx_model.specs.declared.Node.{Node}
use Rattle.fx_model.specs.declared.Node.TheVariants as node
use Rattle.dyadic.specs.declared.number.Dyadic.{Dyadic}
use Rattle.dyadic.specs.declared.number.End.{End}
use Rattle.dyadic.specs.declared.number.End.TheVariants as end
use Rattle.dyadic.specs.Values.{value_of}
use Rattle.dyadic.specs.Ends.{bound_of}
use Rattle.dyadic.specs.Compared.{BoundLe_in}
use Rattle.interval.specs.Intervals.{range_of}
use Rattle.rounding.specs.Rounded.{rounded_multiple}
use Rattle.rounding.proofs.Rounded.{rounded-finer}
use Rattle.rounding.proofs.Places.{less, not_less}
use Rattle.expr_dag.specs.Shapes.{is_at}
use Rattle.expr_dag.proofs.Shapes.{node_at-value}
use Rattle.expr_dag.proofs.Lifted.{at_node, lifted₁, lifted₂}
use Rattle.facts.specs.declared.place.FixPlace.{FixPlace}
use Rattle.facts.specs.declared.fact.Fact.{Fact}
use Rattle.facts.specs.declared.fact.Fact.TheVariants as fact
use Rattle.facts.specs.declared.fact.Slot.TheVariants as slot
use Rattle.facts.specs.Holds.{Holds}
use Rattle.facts.proofs.CommonParts.{if-some, expr_same}
use Rattle.facts.proofs.Held.{multiple-lower, some-and}
use Rattle.facts.specs.Order.{is_same}
use Rattle.facts.specs.Promises.{IsSound}
use Rattle.facts.specs.Conclusions.{fix_of}
use Rattle.facts.proofs.Conclusions.{given}
use Rattle.facts.specs.Places.{place_from_out, kept, sum_place, lesser_place}
use Rattle.theorem_arith.specs.Shapes.{is_one}
use Rattle.theorem_arith.proofs.Shapes.{one_same}
use Rattle.theorem_fix.proofs.Greatest.{greatest_place_out}
use Rattle.theorem_fix.specs.Shapes.{rounding_of, rounding_at}
use Rattle.theorem_fix.specs.Multiples.{literal_place, literal_multiple_rule}
use Rattle.theorem_fix.specs.Multiples.{multiple_of_negation_rule, multiple_of_sum_rule}
use Rattle.theorem_fix.specs.Multiples.{multiple_of_product_rule, last_place, rounded_multiple_rule}
use Rattle.theorem_fix.specs.Multiples.{untouched, untouched_multiple_rule, is_zero, number_place}
use Rattle.theorem_fix.specs.Multiples.{point_place, number_multiple_rule}

-- ---- multiples
pub multiple-add : (k : ℤ) (x y : Fraction) → IsMultiple k x
    → IsMultiple k y → IsMultiple k (x +ℚ y)
multiple-add k x y m n =
    (m.0 +ℤ n.0, ap (λ z. z +ℚ y) m.1 ∙ ap (λ z. scaled m.0 k +ℚ z) n.1 ∙ scaled-add m.0 n.0 k)

pub multiple-sub : (k : ℤ) (x y : Fraction) → IsMultiple k x
    → IsMultiple k y → IsMultiple k (x -ℚ y)
multiple-sub k x y m n = multiple-add k x (neg_ℚ y) m (multiple-neg k y n)

pub multiple-mul : (k n : ℤ) (x y : Fraction) → IsMultiple k x → IsMultiple n y
    → IsMultiple (k +ℤ n) (x *ℚ y)
multiple-mul k n x y p q =
    (p.0 *ℤ q.0, ap (λ z. z *ℚ y) p.1 ∙ ap (λ z. scaled p.0 k *ℚ z) q.1 ∙ scaled-mul p.0 k q.0 n)

-- the lesser place is at most both, and a kept one at most what was to be kept
lesser_first : (k n : FixPlace) → (lesser_place k n).exponent ≤ℤ k.exponent
lesser_first k n = by_test (int_lt k.exponent n.exponent) refl
  where
    by_test : (b : Bool) → int_lt k.exponent n.exponent ≡ b
        → (if b then k else n).exponent ≤ℤ k.exponent
    by_test true e = omega (arith, ints)
    by_test false e = not_less k.exponent n.exponent e

lesser_second : (k n : FixPlace) → (lesser_place k n).exponent ≤ℤ n.exponent
lesser_second k n = by_test (int_lt k.exponent n.exponent) refl
  where
    by_test : (b : Bool) → int_lt k.exponent n.exponent ≡ b
        → (if b then k else n).exponent ≤ℤ n.exponent
    by_test true e = less k.exponent n.exponent e
    by_test false e = omega (arith, ints)

capped : (s : ℤ) → (if int_lt (pos 512) s then pos 512 else s) ≤ℤ s
capped s = by_test (int_lt (pos 512) s) refl
  where
    by_test : (b : Bool) → int_lt (pos 512) s ≡ b → (if b then pos 512 else s) ≤ℤ s
    by_test true e = less (pos 512) s e
    by_test false e = omega (arith, ints)

pub kept_at_most : (s : ℤ) (p : FixPlace) → kept s ≡ Some p → p.exponent ≤ℤ s
kept_at_most s p e = subst (λ k. k ≤ℤ s)
    (sym (place_from_out (if int_lt (pos 512) s then pos 512 else s) p e)) (capped s)

-- ---- a FIX fact of a place that may be missing
pub fix_given : (nodes : List Node) (a : Assignment) (e : ExprId) (k : Option FixPlace) (f : Fact)
    → fix_of e k ≡ Some f → ((p : FixPlace) → k ≡ Some p
    → IsSomeAnd (value nodes a e) (IsMultiple p.exponent)) → Holds nodes a f
fix_given nodes a e None f q h = cc
fix_given nodes a e (Some p) f q h = let t : fact.Fix e p ≡ f = cc in
    subst (Holds nodes a) t (h p refl)

-- ---- literals
at_literal : (nodes : List Node) (a : Assignment) (e : ExprId) (n : Option Node) (p : FixPlace)
    → IsOrdered nodes → slice_get nodes e.0 ≡ n → literal_place n ≡ Some p
    → IsSomeAnd (value nodes a e) (IsMultiple p.exponent)
at_literal nodes a e (Some (node.Lit l)) p o s q = subst (λ v. IsSomeAnd v (IsMultiple p.exponent))
    (sym (node_at-value nodes a e (node.Lit l) o s)) (greatest_place_out (literal_value l) p q)
at_literal nodes a e _ p o s q = cc

pub literal_multiple_rule-sound : IsSound literal_multiple_rule
literal_multiple_rule-sound nodes [] (slot.Fix e) f o q =
    λ a h. fix_given nodes a e (literal_place (slice_get nodes e.0)) f q
    (λ p s. at_literal nodes a e (slice_get nodes e.0) p o refl s)
literal_multiple_rule-sound nodes _ _ f o q = cc

-- ---- negations, sums, products
pub multiple_of_negation_rule-sound : IsSound multiple_of_negation_rule
multiple_of_negation_rule-sound nodes (fact.Fix x k ∷ []) (slot.Fix e) f o q = λ a h.
    let t = if-some (is_at nodes e (node.Neg x)) (fact.Fix e k) f q in
    subst (Holds nodes a) t.1 (at_node nodes a o e (node.Neg x) (IsMultiple k.exponent) t.0
    (lifted₁ neg_ℚ (value nodes a x) (IsMultiple k.exponent) (IsMultiple k.exponent)
    (λ v m. multiple-neg k.exponent v m) h.0))
multiple_of_negation_rule-sound nodes _ _ f o q = cc

pub multiple_of_sum_rule-sound : IsSound multiple_of_sum_rule
multiple_of_sum_rule-sound nodes (fact.Fix x k ∷ fact.Fix y n ∷ []) (slot.Fix e) f o q = λ a h.
    let p = lesser_place k n in
    let t = if-some (is_at nodes e (node.Add x y) || is_at nodes e (node.Sub x y))
    (fact.Fix e p) f q in
    let low = λ (v : Fraction) (m : IsMultiple k.exponent v).
    multiple-lower k.exponent p.exponent v (lesser_first k n) m in
    let high = λ (v : Fraction) (m : IsMultiple n.exponent v).
    multiple-lower n.exponent p.exponent v (lesser_second k n) m in
    subst (Holds nodes a) t.1 (⊎_elim
    (λ s. at_node nodes a o e (node.Add x y) (IsMultiple p.exponent) s
    (lifted₂ ◌+ℚ◌ (value nodes a x)
    (value nodes a y) (IsMultiple k.exponent) (IsMultiple n.exponent) (IsMultiple p.exponent)
    (λ u v l m. multiple-add p.exponent u v (low u l) (high v m)) h.0 h.1.0))
    (λ s. at_node nodes a o e (node.Sub x y) (IsMultiple p.exponent) s
    (lifted₂ ◌-ℚ◌ (value nodes a x)
    (value nodes a y) (IsMultiple k.exponent) (IsMultiple n.exponent) (IsMultiple p.exponent)
    (λ u v l m. multiple-sub p.exponent u v (low u l) (high v m)) h.0 h.1.0))
    (or_cases (is_at nodes e (node.Add x y)) (is_at nodes e (node.Sub x y)) t.0))
multiple_of_sum_rule-sound nodes _ _ f o q = cc

pub multiple_of_product_rule-sound : IsSound multiple_of_product_rule
multiple_of_product_rule-sound nodes (fact.Fix x k ∷ fact.Fix y n ∷ []) (slot.Fix e) f o q = λ a h.
    let t = given (is_at nodes e (node.Mul x y)) (fix_of e (sum_place k n)) f q in
    fix_given nodes a e (sum_place k n) f t.1
    (λ p s. at_node nodes a o e (node.Mul x y) (IsMultiple p.exponent) t.0
    (lifted₂ ◌*ℚ◌ (value nodes a x) (value nodes a y) (IsMultiple k.exponent)
    (IsMultiple n.exponent) (IsMultiple p.exponent)
    (λ u v l m. multiple-lower (k.exponent +ℤ n.exponent) p.exponent (u *ℚ v) (kept_at_most
    (k.exponent +ℤ n.exponent) p s) (multiple-mul k.exponent n.exponent u v l m)) h.0 h.1.0))
multiple_of_product_rule-sound nodes _ _ f o q = cc

-- ---- roundings
pub rounding_of_out : (n : Option Node) (x : ExprId) (r : Rounding) → rounding_of n x ≡ Some r
    → n ≡ Some (node.Round r x)
rounding_of_out (Some (node.Round s y)) x r e = let t = if-some (is_same y x) s r e in
    ap Some (ap (λ z. node.Round s z) (expr_same y x t.0) ∙ ap (λ z. node.Round z x) t.1)
rounding_of_out _ x r e = cc

-- what is known of the rounded value of x
pub at_rounding : (nodes : List Node) (a : Assignment) (e x : ExprId)
    (r : Rounding) (P : Fraction → Type 0) → IsOrdered nodes → rounding_at nodes e x ≡ Some r
    → IsSomeAnd (lift₁ (rounded r.dir r.lsb) (value nodes a x)) P → IsSomeAnd (value nodes a e) P
at_rounding nodes a e x r P o s h = subst (λ v. IsSomeAnd v P) (sym
    (node_at-value nodes a e (node.Round r x) o (rounding_of_out (slice_get nodes e.0) x r s))) h

last_known : (r : Option Rounding) (p : FixPlace) → last_place r ≡ Some p
    → (s : Rounding) × (r ≡ Some s) × (p.exponent ≡ s.lsb)
last_known None p e = cc
last_known (Some r) p e = (r, refl, place_from_out r.lsb p e)

pub rounded_multiple_rule-sound : IsSound rounded_multiple_rule
rounded_multiple_rule-sound nodes (fact.Bnd x i ∷ []) (slot.Fix e) f o q = λ a h.
    fix_given nodes a e (last_place (rounding_at nodes e x)) f q
    (λ p s. let r = last_known (rounding_at nodes e x) p s in
    at_rounding nodes a e x r.0 (IsMultiple p.exponent) o r.1
    (lifted₁ (rounded r.0.dir r.0.lsb) (value nodes a x) (Lies (range_of i))
    (IsMultiple p.exponent) (λ v l. subst (λ k. IsMultiple k (rounded r.0.dir r.0.lsb v)) (sym r.2)
    (rounded_multiple r.0.dir r.0.lsb v)) h.0))
rounded_multiple_rule-sound nodes _ _ f o q = cc

untouched_known : (k : FixPlace) (r : Option Rounding) (p : FixPlace) → untouched k r ≡ Some p
    → (s : Rounding) × (r ≡ Some s) × (s.lsb ≤ℤ k.exponent) × (k ≡ p)
untouched_known k None p e = cc
untouched_known k (Some r) p e = by_test (int_lt k.exponent r.lsb) refl e
  where
    by_test : (b : Bool) → int_lt k.exponent r.lsb ≡ b → (if b then None else Some k) ≡ Some p
        → (s : Rounding) × (Some r ≡ Some s) × (s.lsb ≤ℤ k.exponent) × (k ≡ p)
    by_test true t e = cc
    by_test false t e = (r, refl, not_less k.exponent r.lsb t, cc)

pub untouched_multiple_rule-sound : IsSound untouched_multiple_rule
untouched_multiple_rule-sound nodes (fact.Fix x k ∷ []) (slot.Fix e) f o q = λ a h.
    fix_given nodes a e (untouched k (rounding_at nodes e x)) f q
    (λ p s. let r = untouched_known k (rounding_at nodes e x) p s in
    at_rounding nodes a e x r.0 (IsMultiple p.exponent) o r.1
    (lifted₁ (rounded r.0.dir r.0.lsb) (value nodes a x)
    (IsMultiple k.exponent) (IsMultiple p.exponent)
    (λ v m. subst (λ (n : FixPlace). IsMultiple n.exponent (rounded r.0.dir r.0.lsb v)) r.3 (subst
    (IsMultiple k.exponent) (sym (rounded-finer r.0.dir k.exponent r.0.lsb v r.2 m)) m)) h.0))
untouched_multiple_rule-sound nodes _ _ f o q = cc

-- ---- one number
no_size : (z : ℤ) → unsigned_abs z ≡ 0 → z ≡ pos 0
no_size z e = omega (arith, ints)

number_multiple : (d : Dyadic) (p : FixPlace) → number_place d ≡ Some p
    → IsMultiple p.exponent (value_of d)
number_multiple d p e = by_test (is_zero d) refl e
  where
    by_test : (b : Bool) → is_zero d ≡ b → kept (if b then pos 512 else d.exponent) ≡ Some p
        → IsMultiple p.exponent (value_of d)
    by_test true t e = (
      pos 0,
      ap (λ m. scaled m d.exponent) (no_size d.mantissa (eqb-true (unsigned_abs d.mantissa) 0 t))
          ∙ scaled-zero d.exponent ∙ sym (scaled-zero p.exponent),
    )
    by_test false t e = multiple-lower d.exponent p.exponent (value_of d)
        (kept_at_most d.exponent p e) (d.mantissa, refl)

point_multiple : (lo hi : End) (x : Fraction) (p : FixPlace) → point_place lo hi ≡ Some p
    → Lies (record { low = bound_of lo; high = bound_of hi }) x → IsMultiple p.exponent x
point_multiple (end.At c) (end.At d) x p e l =
    by_test (le_bound (bound_of (end.At d)) (bound_of (end.At c))) refl e
  where
    by_test : (b : Bool) → le_bound (bound_of (end.At d)) (bound_of (end.At c)) ≡ b
        → (if b then number_place c else None) ≡ Some p → IsMultiple p.exponent x
    by_test true t e = let w : value_of d ≤ℚ value_of c =
        BoundLe_in (bound_of (end.At d)) (bound_of (end.At c)) t in
        subst (IsMultiple p.exponent) (le_antisymm (value_of c) x l.0
        (le_trans x (value_of d) (value_of c) l.1 w)) (number_multiple c p e)
    by_test false t e = cc
point_multiple _ _ x p e l = cc

pub number_multiple_rule-sound : IsSound number_multiple_rule
number_multiple_rule-sound nodes (fact.Bnd x i ∷ []) (slot.Fix e) f o q = λ a h.
    let t = given (is_one nodes x e) (fix_of e (point_place i.lo i.hi)) f q in
    fix_given nodes a e (point_place i.lo i.hi) f t.1 (λ p s.
    subst (λ z. IsSomeAnd (value nodes a z) (IsMultiple p.exponent)) (one_same nodes x e t.0)
    (some-and (value nodes a x) (Lies (range_of i)) (IsMultiple p.exponent)
    (λ v l. point_multiple i.lo i.hi v p s l) h.0))
number_multiple_rule-sound nodes _ _ f o q = cc
