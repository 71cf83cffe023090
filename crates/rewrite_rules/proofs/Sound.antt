-- The rules on differences, and those that find nothing left, are sound: where the premises hold,
-- the conclusion does.
use Rattle.std.specs.Prelude.{◌≡◌, ◌&&◌, true, List, [], ◌∷◌, Option, Some, None, slice_get, refl}
use Rattle.std.proofs.Common.{sym, ap, subst, ◌∙◌}
use Rattle.std.proofs.lemmas.Bool.{and_parts}
use Rattle.fx_model.specs.Fraction.{Fraction, ◌+ℚ◌, ◌-ℚ◌, ◌*ℚ◌, ◌≤ℚ◌, neg_ℚ, zero_ℚ, le_trans}
use Rattle.fx_model.specs.Fraction.{le_antisymm}
use Rattle.fx_model.specs.Grid.{Bound, Below, At, Above, le_bound}
use Rattle.fx_model.specs.Enclosure.{IsFrom, IsUpTo, Lies, BoundLe, Negations, Sums, Differences}
use Rattle.fx_model.specs.Enclosure.{in_enclosure, product_holds}
use Rattle.fx_model.specs.Expression.{Assignment, IsOrdered, value, node_value, lift₂}
use Rattle.fx_model.specs.declared.ExprId.{ExprId}
use Rattle.fx_model.specs.declared.Node.{Node}
use Rattle.fx_model.specs.declared.Node.TheVariants as node
use Rattle.grid_words.proofs.FractionLaws.{more-less}
use Rattle.dyadic.specs.Compared.{BoundLe_in}
use Rattle.interval.specs.declared.interval.Interval.{Interval}
use Rattle.interval.specs.Intervals.{range_of}
use Rattle.interval.specs.Results.{negation_of, negation_of-is, sum_of, sum_of-is, difference_of}
use Rattle.interval.specs.Results.{difference_of-is, product_of, product_of-is}
use Rattle.expr_dag.specs.Shapes.{is_at, is_known, are_known}
use Rattle.expr_dag.proofs.Shapes.{node_at-value}
use Rattle.expr_dag.proofs.Operands.{at_value, lifted_out, lifted_in, lifted_one}
use Rattle.facts.specs.declared.relative.RelativeError.{RelativeError}
use Rattle.facts.specs.declared.fact.Fact.{Fact}
use Rattle.facts.specs.declared.fact.Fact.TheVariants as fact
use Rattle.facts.specs.declared.fact.Slot.TheVariants as slot
use Rattle.facts.specs.Holds.{Holds}
use Rattle.facts.specs.Order.{is_same}
use Rattle.facts.proofs.CommonParts.{if-some, expr_same}
use Rattle.facts.specs.Promises.{IsSound}
use Rattle.facts.proofs.Conclusions.{given}
use Rattle.facts.proofs.Known.{HasValue, one_value, bnd_out, bnd_in, nzr_out, rel_out}
use Rattle.rewrite_rules.proofs.Numbers.{through, against, less_difference, of_sums, of_differences}
use Rattle.rewrite_rules.proofs.Numbers.{of_products, of_negations}
use Rattle.rewrite_rules.specs.Differences.{sides_of, sides_at, are_made, by_sides_rule}
use Rattle.rewrite_rules.specs.Differences.{difference_of_sums_rule, difference_of_differences_rule}
use Rattle.rewrite_rules.specs.Differences.{are_products, difference_of_products_rule}
use Rattle.rewrite_rules.specs.Differences.{are_negations, difference_of_negations_rule, is_through}
use Rattle.rewrite_rules.specs.Differences.{difference_through_rule, is_against}
use Rattle.rewrite_rules.specs.Differences.{difference_against_rule, first_by_difference_rule}
use Rattle.rewrite_rules.specs.Differences.{second_by_difference_rule}
use Rattle.rewrite_rules.specs.Nothing.{is_zero, zero_and_not_rule, void_of, both_zero_and_not_rule}

-- ---- differences
sides_out : (o : Option Node) (t : ExprId × ExprId) → sides_of o ≡ Some t
    → o ≡ Some (node.Sub t.0 t.1)
sides_out (Some (node.Sub x y)) t e = let d : (x, y) ≡ t = cc in
    ap (λ (s : ExprId × ExprId). Some (node.Sub s.0 s.1)) d
sides_out _ t e = cc

-- both sides have values, whose difference lies in the interval
record Differ (nodes : List Node) (a : Assignment) (x y : ExprId) (i : Interval)
    (u v : Fraction) : Type 0 where
  first : HasValue nodes a x u
  second : HasValue nodes a y v
  lies : Lies (range_of i) (u -ℚ v)

differ_by : (nodes : List Node) (a : Assignment) (p x y : ExprId) (i : Interval)
    → value nodes a p ≡ lift₂ ◌-ℚ◌ (value nodes a x) (value nodes a y)
    → Holds nodes a (fact.Bnd p i) → (u : Fraction) × (v : Fraction) × Differ nodes a x y i u v
differ_by nodes a p x y i e h =
    let w = bnd_out nodes a p i h in
    let k = lifted_out ◌-ℚ◌ (value nodes a x) (value nodes a y) w.0 (sym e ∙ w.1) in
    (k.0, k.1, record { first = k.2; second = k.3; lies = subst (Lies (range_of i)) k.4 w.2 })

differ_out : (nodes : List Node) (a : Assignment) (p : ExprId) (t : ExprId × ExprId) (i : Interval)
    → IsOrdered nodes → sides_at nodes p ≡ Some t → Holds nodes a (fact.Bnd p i)
    → (u : Fraction) × (v : Fraction) × Differ nodes a t.0 t.1 i u v
differ_out nodes a p t i o e h = differ_by nodes a p t.0 t.1 i
    (node_at-value nodes a p (node.Sub t.0 t.1) o (sides_out (slice_get nodes p.0) t e)) h

difference_in : (nodes : List Node) (a : Assignment) (e : ExprId) (t : ExprId × ExprId)
    (u v : Fraction) → IsOrdered nodes → sides_at nodes e ≡ Some t → HasValue nodes a t.0 u
    → HasValue nodes a t.1 v → HasValue nodes a e (u -ℚ v)
difference_in nodes a e t u v o s p q =
    node_at-value nodes a e (node.Sub t.0 t.1) o (sides_out (slice_get nodes e.0) t s)
    ∙ lifted_in ◌-ℚ◌ (value nodes a t.0) (value nodes a t.1) u v p q

-- ---- differences of sums, differences and products
record AreMade (make : ExprId → ExprId → Node) (nodes : List Node)
    (o p q : Option (ExprId × ExprId)) (t r s : ExprId × ExprId) : Type 0 where
  whole : o ≡ Some t
  left : p ≡ Some r
  right : q ≡ Some s
  first : is_at nodes t.0 (make r.0 s.0) ≡ true
  second : is_at nodes t.1 (make r.1 s.1) ≡ true

made_out : (make : ExprId → ExprId → Node) (nodes : List Node) (o p q : Option (ExprId × ExprId))
    → are_made make nodes o p q ≡ true → (t : ExprId × ExprId) × (r : ExprId × ExprId)
    × (s : ExprId × ExprId) × AreMade make nodes o p q t r s
made_out make nodes (Some t) (Some r) (Some s) e =
    let b = and_parts (is_at nodes t.0 (make r.0 s.0)) (is_at nodes t.1 (make r.1 s.1)) e in
    (t, r, s, record { whole = refl; left = refl; right = refl; first = b.0; second = b.1 })
made_out make nodes (Some t) (Some r) None e = cc
made_out make nodes (Some t) None q e = cc
made_out make nodes None p q e = cc

-- what is needed of an operation g on values and of one on intervals
record RewritesDifference (make : ExprId → ExprId → Node) (g : Fraction → Fraction → Fraction)
    (op : Interval → Interval → Interval) : Type 0 where
  computes : (a : Assignment) (v : ExprId → Option Fraction) (x y : ExprId)
      → node_value a v (make x y) ≡ lift₂ g (v x) (v y)
  holds : (i j : Interval) (x y c d : Fraction) → Lies (range_of i) (x -ℚ c)
      → Lies (range_of j) (y -ℚ d) → Lies (range_of (op i j)) (g x y -ℚ g c d)

by_sides_rule-sound : (make : ExprId → ExprId → Node) (g : Fraction → Fraction → Fraction)
    (op : Interval → Interval → Interval) → RewritesDifference make g op
    → IsSound (by_sides_rule make op)
by_sides_rule-sound make g op w nodes (fact.Bnd p i ∷ fact.Bnd q j ∷ []) (slot.Bnd e) f o k = λ a h.
    let t = if-some (are_made make nodes (sides_at nodes e) (sides_at nodes p) (sides_at nodes q))
    (fact.Bnd e (op i j)) f k in
    let m = made_out make nodes (sides_at nodes e) (sides_at nodes p) (sides_at nodes q) t.0 in
    let x = differ_out nodes a p m.1 i o m.3.left h.0 in
    let y = differ_out nodes a q m.2 j o m.3.right h.1.0 in
    let made : (z b d : ExprId) (u v : Fraction) → is_at nodes z (make b d) ≡ true
    → HasValue nodes a b u → HasValue nodes a d v → HasValue nodes a z (g u v) =
    λ z b d u v n r s. at_value nodes a z (make b d) o n ∙ w.computes a (value nodes a) b d
    ∙ lifted_in g (value nodes a b) (value nodes a d) u v r s in
    subst (Holds nodes a) t.1 (bnd_in nodes a e (op i j) (g x.0 y.0 -ℚ g x.1 y.1)
    (difference_in nodes a e m.0 (g x.0 y.0)
    (g x.1 y.1) o m.3.whole (made m.0.0 m.1.0 m.2.0 x.0 y.0 m.3.first x.2.first y.2.first)
    (made m.0.1 m.1.1 m.2.1 x.1 y.1 m.3.second x.2.second y.2.second))
    (w.holds i j x.0 y.0 x.1 y.1 x.2.lies y.2.lies))
by_sides_rule-sound make g op w nodes _ _ f o k = cc

sum_lies : (i j : Interval) (x y : Fraction) → Lies (range_of i) x → Lies (range_of j) y
    → Lies (range_of (sum_of i j)) (x +ℚ y)
sum_lies i j x y l m = in_enclosure (Sums (range_of i) (range_of j)) (range_of (sum_of i j))
    (x +ℚ y) (sum_of-is i j) (x, y, l, m, refl)

difference_lies : (i j : Interval) (x y : Fraction) → Lies (range_of i) x → Lies (range_of j) y
    → Lies (range_of (difference_of i j)) (x -ℚ y)
difference_lies i j x y l m = in_enclosure (Differences (range_of i) (range_of j))
    (range_of (difference_of i j)) (x -ℚ y) (difference_of-is i j) (x, y, l, m, refl)

product_lies : (i j : Interval) (x y : Fraction) → Lies (range_of i) x → Lies (range_of j) y
    → Lies (range_of (product_of i j)) (x *ℚ y)
product_lies i j x y l m =
    product_holds (range_of i) (range_of j) (range_of (product_of i j)) x y (product_of-is i j) l m

pub difference_of_sums_rule-sound : IsSound difference_of_sums_rule
difference_of_sums_rule-sound = by_sides_rule-sound node.Add ◌+ℚ◌ sum_of (record {
  computes = λ a v x y. refl;
  holds = λ i j x y c d l m. subst (Lies (range_of (sum_of i j))) (sym (of_sums x y c d))
      (sum_lies i j (x -ℚ c) (y -ℚ d) l m);
})

pub difference_of_differences_rule-sound : IsSound difference_of_differences_rule
difference_of_differences_rule-sound = by_sides_rule-sound node.Sub ◌-ℚ◌ difference_of (record {
  computes = λ a v x y. refl;
  holds = λ i j x y c d l m. subst (Lies (range_of (difference_of i j)))
      (sym (of_differences x y c d)) (difference_lies i j (x -ℚ c) (y -ℚ d) l m);
})

record AreProducts (nodes : List Node) (o p q : Option (ExprId × ExprId)) (a d : ExprId)
    (t r s : ExprId × ExprId) : Type 0 where
  whole : o ≡ Some t
  left : p ≡ Some r
  right : q ≡ Some s
  begins : r.0 ≡ a
  ends : s.1 ≡ d
  first : is_at nodes t.0 (node.Mul a s.0) ≡ true
  second : is_at nodes t.1 (node.Mul r.1 d) ≡ true

products_out : (nodes : List Node) (o p q : Option (ExprId × ExprId)) (a d : ExprId)
    → are_products nodes o p q a d ≡ true → (t : ExprId × ExprId) × (r : ExprId × ExprId)
    × (s : ExprId × ExprId) × AreProducts nodes o p q a d t r s
products_out nodes (Some t) (Some r) (Some s) a d e =
    let b = and_parts (is_same r.0 a && is_same s.1 d)
    (is_at nodes t.0 (node.Mul a s.0) && is_at nodes t.1 (node.Mul r.1 d)) e in
    let c = and_parts (is_same r.0 a) (is_same s.1 d) b.0 in
    let n = and_parts (is_at nodes t.0 (node.Mul a s.0)) (is_at nodes t.1 (node.Mul r.1 d)) b.1 in (
      t,
      r,
      s,
      record {
        whole = refl;
        left = refl;
        right = refl;
        begins = expr_same r.0 a c.0;
        ends = expr_same s.1 d c.1;
        first = n.0;
        second = n.1;
      },
    )
products_out nodes (Some t) (Some r) None a d e = cc
products_out nodes (Some t) None q a d e = cc
products_out nodes None p q a d e = cc

-- ab - cd, for values of a, b, c and d
product_values : (x y c d : Fraction) (i j k l : Interval) → Lies (range_of i) x
    → Lies (range_of j) (y -ℚ d) → Lies (range_of k) (x -ℚ c) → Lies (range_of l) d
    → Lies (range_of (sum_of (product_of i j) (product_of k l))) ((x *ℚ y) -ℚ (c *ℚ d))
product_values x y c d i j k l p q r s =
    subst (Lies (range_of (sum_of (product_of i j) (product_of k l)))) (sym (of_products x y c d))
    (sum_lies (product_of i j) (product_of k l) (x *ℚ (y -ℚ d)) ((x -ℚ c) *ℚ d)
    (product_lies i j x (y -ℚ d) p q) (product_lies k l (x -ℚ c) d r s))

-- where the expression has a bound, its value lies there
value_lies : (nodes : List Node) (a : Assignment) (x : ExprId) (i : Interval) (v : Fraction)
    → Holds nodes a (fact.Bnd x i) → HasValue nodes a x v → Lies (range_of i) v
value_lies nodes a x i v h e = let w = bnd_out nodes a x i h in
    subst (Lies (range_of i)) (one_value nodes a x w.0 v w.1 e) w.2

products_differ : (nodes : List Node) (a : Assignment) (e b d : ExprId)
    (t r s : ExprId × ExprId) (u v w z : Fraction) → IsOrdered nodes → sides_at nodes e ≡ Some t
    → is_at nodes t.0 (node.Mul b s.0) ≡ true → is_at nodes t.1 (node.Mul r.1 d) ≡ true
    → HasValue nodes a b u → HasValue nodes a s.0 v → HasValue nodes a r.1 w → HasValue nodes a d z
    → HasValue nodes a e ((u *ℚ v) -ℚ (w *ℚ z))
products_differ nodes a e b d t r s u v w z o g m n p q k l =
    difference_in nodes a e t (u *ℚ v) (w *ℚ z) o g
    (at_value nodes a t.0 (node.Mul b s.0) o m
    ∙ lifted_in ◌*ℚ◌ (value nodes a b) (value nodes a s.0) u v p q)
    (at_value nodes a t.1 (node.Mul r.1 d) o n
    ∙ lifted_in ◌*ℚ◌ (value nodes a r.1) (value nodes a d) w z k l)

products_hold : (nodes : List Node) (a : Assignment)
    (e b q p d : ExprId) (i j k l : Interval) (t r s : ExprId × ExprId) → IsOrdered nodes
    → AreProducts nodes (sides_at nodes e) (sides_at nodes p) (sides_at nodes q) b d t r s
    → Holds nodes a (fact.Bnd b i)
    → Holds nodes a (fact.Bnd q j) → Holds nodes a (fact.Bnd p k) → Holds nodes a (fact.Bnd d l)
    → Holds nodes a (fact.Bnd e (sum_of (product_of i j) (product_of k l)))
products_hold nodes a e b q p d i j k l t r s o m first right left last =
    let x = differ_out nodes a p r k o m.left left in
    let y = differ_out nodes a q s j o m.right right in
    with_values x.0 x.1 y.0 y.1 x.2 y.2 (subst (λ u. HasValue nodes a u x.0) m.begins x.2.first)
    (subst (λ u. HasValue nodes a u y.1) m.ends y.2.second)
  where
    with_values : (u w v z : Fraction) → Differ nodes a r.0 r.1 k u w
        → Differ nodes a s.0 s.1 j v z → HasValue nodes a b u → HasValue nodes a d z
        → Holds nodes a (fact.Bnd e (sum_of (product_of i j) (product_of k l)))
    with_values u w v z x y f g =
        bnd_in nodes a e (sum_of (product_of i j) (product_of k l)) ((u *ℚ v) -ℚ (w *ℚ z))
        (products_differ nodes a e b d t r s u v w z o m.whole m.first
        m.second f y.first x.second g)
        (product_values u v w z i j k l (value_lies nodes a b i u first f) y.lies x.lies
        (value_lies nodes a d l z last g))

pub difference_of_products_rule-sound : IsSound difference_of_products_rule
difference_of_products_rule-sound nodes
    (fact.Bnd b i ∷ fact.Bnd q j ∷ fact.Bnd p k ∷ fact.Bnd d l ∷ []) (slot.Bnd e) f o g = λ a h.
    let t = if-some (are_products nodes (sides_at nodes e) (sides_at nodes p)
    (sides_at nodes q) b d) (fact.Bnd e (sum_of (product_of i j) (product_of k l))) f g in
    let m = products_out nodes (sides_at nodes e) (sides_at nodes p) (sides_at nodes q) b d t.0 in
    subst (Holds nodes a) t.1
    (products_hold nodes a e b q p d i j k l m.0 m.1 m.2 o m.3 h.0 h.1.0 h.1.1.0 h.1.1.1.0)
difference_of_products_rule-sound nodes _ _ f o g = cc

record AreNegations (nodes : List Node) (o p : Option (ExprId × ExprId))
    (t r : ExprId × ExprId) : Type 0 where
  whole : o ≡ Some t
  part : p ≡ Some r
  first : is_at nodes t.0 (node.Neg r.0) ≡ true
  second : is_at nodes t.1 (node.Neg r.1) ≡ true

negations_out : (nodes : List Node) (o p : Option (ExprId × ExprId))
    → are_negations nodes o p ≡ true
    → (t : ExprId × ExprId) × (r : ExprId × ExprId) × AreNegations nodes o p t r
negations_out nodes (Some t) (Some r) e =
    let b = and_parts (is_at nodes t.0 (node.Neg r.0)) (is_at nodes t.1 (node.Neg r.1)) e in
    (t, r, record { whole = refl; part = refl; first = b.0; second = b.1 })
negations_out nodes (Some t) None e = cc
negations_out nodes None p e = cc

pub difference_of_negations_rule-sound : IsSound difference_of_negations_rule
difference_of_negations_rule-sound nodes (fact.Bnd p i ∷ []) (slot.Bnd e) f o g = λ a h.
    let t = if-some (are_negations nodes (sides_at nodes e) (sides_at nodes p))
    (fact.Bnd e (negation_of i)) f g in
    let m = negations_out nodes (sides_at nodes e) (sides_at nodes p) t.0 in
    let x = differ_out nodes a p m.1 i o m.2.part h.0 in
    subst (Holds nodes a) t.1 (bnd_in nodes a e (negation_of i) (neg_ℚ x.0 -ℚ neg_ℚ x.1)
    (difference_in nodes a e m.0 (neg_ℚ x.0) (neg_ℚ x.1) o m.2.whole
    (at_value nodes a m.0.0 (node.Neg m.1.0) o m.2.first
    ∙ lifted_one neg_ℚ (value nodes a m.1.0) x.0 x.2.first)
    (at_value nodes a m.0.1 (node.Neg m.1.1) o m.2.second
    ∙ lifted_one neg_ℚ (value nodes a m.1.1) x.1 x.2.second))
    (in_enclosure (Negations (range_of i)) (range_of (negation_of i)) (neg_ℚ x.0 -ℚ neg_ℚ x.1)
    (negation_of-is i) (x.0 -ℚ x.1, x.2.lies, of_negations x.0 x.1)))
difference_of_negations_rule-sound nodes _ _ f o g = cc

-- ---- through a third expression
record AreThrough (nodes : List Node) (p q : Option (ExprId × ExprId)) (r s : ExprId × ExprId)
    (b c x y : ExprId) (e : ExprId) : Type 0 where
  left : p ≡ Some r
  right : q ≡ Some s
  same : b ≡ c
  whole : is_at nodes e (node.Sub x y) ≡ true

through_out : (nodes : List Node) (e : ExprId) (p q : Option (ExprId × ExprId))
    → is_through nodes e p q ≡ true
    → (r : ExprId × ExprId) × (s : ExprId × ExprId) × AreThrough nodes p q r s r.1 s.0 r.0 s.1 e
through_out nodes e (Some r) (Some s) t =
    let b = and_parts (is_same r.1 s.0) (is_at nodes e (node.Sub r.0 s.1)) t in
    (r, s, record { left = refl; right = refl; same = expr_same r.1 s.0 b.0; whole = b.1 })
through_out nodes e (Some r) None t = cc
through_out nodes e None q t = cc

against_out : (nodes : List Node) (e : ExprId) (p q : Option (ExprId × ExprId))
    → is_against nodes e p q ≡ true
    → (r : ExprId × ExprId) × (s : ExprId × ExprId) × AreThrough nodes p q r s r.1 s.1 r.0 s.0 e
against_out nodes e (Some r) (Some s) t =
    let b = and_parts (is_same r.1 s.1) (is_at nodes e (node.Sub r.0 s.0)) t in
    (r, s, record { left = refl; right = refl; same = expr_same r.1 s.1 b.0; whole = b.1 })
against_out nodes e (Some r) None t = cc
against_out nodes e None q t = cc

pub difference_through_rule-sound : IsSound difference_through_rule
difference_through_rule-sound nodes (fact.Bnd p i ∷ fact.Bnd q j ∷ []) (slot.Bnd e) f o g = λ a h.
    let t = if-some (is_through nodes e (sides_at nodes p) (sides_at nodes q))
    (fact.Bnd e (sum_of i j)) f g in
    let m = through_out nodes e (sides_at nodes p) (sides_at nodes q) t.0 in
    let x = differ_out nodes a p m.0 i o m.2.left h.0 in
    let y = differ_out nodes a q m.1 j o m.2.right h.1.0 in
    let z : x.1 ≡ y.0 = one_value nodes a m.1.0 x.1 y.0
    (subst (λ u. HasValue nodes a u x.1) m.2.same x.2.second) y.2.first in
    subst (Holds nodes a) t.1 (bnd_in nodes a e (sum_of i j) (x.0 -ℚ y.1)
    (at_value nodes a e (node.Sub m.0.0 m.1.1) o m.2.whole
    ∙ lifted_in ◌-ℚ◌ (value nodes a m.0.0) (value nodes a m.1.1) x.0 y.1 x.2.first y.2.second)
    (subst (Lies (range_of (sum_of i j))) (ap (λ u. (x.0 -ℚ u) +ℚ (y.0 -ℚ y.1)) z
    ∙ through x.0 y.0 y.1) (sum_lies i j (x.0 -ℚ x.1) (y.0 -ℚ y.1) x.2.lies y.2.lies)))
difference_through_rule-sound nodes _ _ f o g = cc

pub difference_against_rule-sound : IsSound difference_against_rule
difference_against_rule-sound nodes (fact.Bnd p i ∷ fact.Bnd q j ∷ []) (slot.Bnd e) f o g = λ a h.
    let t = if-some (is_against nodes e (sides_at nodes p) (sides_at nodes q))
    (fact.Bnd e (difference_of i j)) f g in
    let m = against_out nodes e (sides_at nodes p) (sides_at nodes q) t.0 in
    let x = differ_out nodes a p m.0 i o m.2.left h.0 in
    let y = differ_out nodes a q m.1 j o m.2.right h.1.0 in
    let z : x.1 ≡ y.1 = one_value nodes a m.1.1 x.1 y.1
    (subst (λ u. HasValue nodes a u x.1) m.2.same x.2.second) y.2.second in
    subst (Holds nodes a) t.1 (bnd_in nodes a e (difference_of i j) (x.0 -ℚ y.0)
    (at_value nodes a e (node.Sub m.0.0 m.1.0) o m.2.whole
    ∙ lifted_in ◌-ℚ◌ (value nodes a m.0.0) (value nodes a m.1.0) x.0 y.0 x.2.first y.2.first)
    (subst (Lies (range_of (difference_of i j))) (ap (λ u. (x.0 -ℚ u) -ℚ (y.0 -ℚ y.1)) z
    ∙ against x.0 y.1 y.0) (difference_lies i j (x.0 -ℚ x.1) (y.0 -ℚ y.1) x.2.lies y.2.lies)))
difference_against_rule-sound nodes _ _ f o g = cc

-- ---- values by differences
pub first_by_difference_rule-sound : IsSound first_by_difference_rule
first_by_difference_rule-sound nodes (fact.Bnd b i ∷ fact.Bnd p j ∷ []) (slot.Bnd c) f o g = λ a h.
    let t = if-some (is_at nodes p (node.Sub c b)) (fact.Bnd c (sum_of i j)) f g in
    let v = bnd_out nodes a b i h.0 in
    let x = differ_by nodes a p c b j (at_value nodes a p (node.Sub c b) o t.0) h.1.0 in
    let z : v.0 ≡ x.1 = one_value nodes a b v.0 x.1 v.1 x.2.second in
    subst (Holds nodes a) t.1 (bnd_in nodes a c (sum_of i j) x.0 x.2.first
    (subst (Lies (range_of (sum_of i j))) (more-less x.1 x.0)
    (sum_lies i j x.1 (x.0 -ℚ x.1) (subst (Lies (range_of i)) z v.2) x.2.lies)))
first_by_difference_rule-sound nodes _ _ f o g = cc

pub second_by_difference_rule-sound : IsSound second_by_difference_rule
second_by_difference_rule-sound nodes (fact.Bnd c i ∷ fact.Bnd p j ∷ []) (slot.Bnd b) f o g = λ a h.
    let t = if-some (is_at nodes p (node.Sub c b)) (fact.Bnd b (difference_of i j)) f g in
    let v = bnd_out nodes a c i h.0 in
    let x = differ_by nodes a p c b j (at_value nodes a p (node.Sub c b) o t.0) h.1.0 in
    let z : v.0 ≡ x.0 = one_value nodes a c v.0 x.0 v.1 x.2.first in
    subst (Holds nodes a) t.1 (bnd_in nodes a b (difference_of i j) x.1 x.2.second
    (subst (Lies (range_of (difference_of i j))) (less_difference x.0 x.1)
    (difference_lies i j x.0 (x.0 -ℚ x.1) (subst (Lies (range_of i)) z v.2) x.2.lies)))
second_by_difference_rule-sound nodes _ _ f o g = cc

-- ---- nothing is left
from_zero : (b : Bound) (v : Fraction) → BoundLe (At zero_ℚ) b → IsFrom b v → zero_ℚ ≤ℚ v
from_zero Below v l p = absurd l
from_zero (At g) v l p = le_trans zero_ℚ g v l p
from_zero Above v l p = absurd p

to_zero : (b : Bound) (v : Fraction) → BoundLe b (At zero_ℚ) → IsUpTo b v → v ≤ℚ zero_ℚ
to_zero Below v l p = absurd p
to_zero (At g) v l p = le_trans v g zero_ℚ p l
to_zero Above v l p = absurd l

pub zero_and_not_rule-sound : IsSound zero_and_not_rule
zero_and_not_rule-sound nodes (fact.Bnd x i ∷ fact.Nzr y ∷ []) slot.Void f o g = λ a h.
    let r = range_of i in
    let t = if-some (is_known nodes x && (is_same x y && is_zero r)) fact.Void f g in
    let b = and_parts (is_same x y) (is_zero r) (and_parts (is_known nodes x) _ t.0).1 in
    let c = and_parts (le_bound (At zero_ℚ) r.low) (le_bound r.high (At zero_ℚ)) b.1 in
    let v = bnd_out nodes a x i h.0 in
    let w = nzr_out nodes a y h.1.0 in
    let e : w.0 ≡ v.0 =
    one_value nodes a y w.0 v.0 w.1 (subst (λ u. HasValue nodes a u v.0) (expr_same x y b.0) v.1) in
    absurd (w.2 (e ∙ le_antisymm v.0 zero_ℚ (to_zero r.high v.0 (BoundLe_in r.high (At zero_ℚ) c.1)
    v.2.1) (from_zero r.low v.0 (BoundLe_in (At zero_ℚ) r.low c.0) v.2.0)))
zero_and_not_rule-sound nodes _ _ f o g = cc

pub both_zero_and_not_rule-sound : IsSound both_zero_and_not_rule
both_zero_and_not_rule-sound nodes (fact.Rel x y d ∷ fact.Nzr z ∷ []) slot.Void f o g = λ a h.
    let t = given (are_known nodes x y && is_same z y) (void_of d) f g in
    let b = and_parts (are_known nodes x y) (is_same z y) t.0 in
    both_zero nodes a x y z d f (expr_same z y b.1) t.1 h.0 h.1.0
  where
    both_zero : (nodes : List Node) (a : Assignment) (x y z : ExprId) (d : Option RelativeError)
        (f : Fact) → z ≡ y → void_of d ≡ Some f → Holds nodes a (fact.Rel x y d)
        → Holds nodes a (fact.Nzr z) → Holds nodes a f
    both_zero nodes a x y z (Some d) f s q r n = cc
    both_zero nodes a x y z None f s q r n =
        let v = rel_out nodes a x y None r in
        let w = nzr_out nodes a z n in
        let e : w.0 ≡ v.1 =
        one_value nodes a y w.0 v.1 (subst (λ u. HasValue nodes a u w.0) s w.1) v.2.second in
        absurd (w.2 (e ∙ v.2.related.1))
both_zero_and_not_rule-sound nodes _ _ f o g = cc
