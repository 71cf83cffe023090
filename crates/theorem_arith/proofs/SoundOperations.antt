-- The rules on absolute values of operations are sound.
use Rattle.std.specs.Prelude.{◌≡◌, ◌≢◌, ◌||◌, List, [], ◌∷◌, Option, Some, None, refl}
use Rattle.std.specs.Option.{IsSomeAnd}
use Rattle.std.proofs.Common.{sym, ap, subst, ◌∙◌, ⊎_elim}
use Rattle.std.proofs.lemmas.Bool.{or_cases}
use Rattle.fx_model.specs.Fraction.{Fraction, ◌+ℚ◌, ◌-ℚ◌, ◌*ℚ◌, ◌≤ℚ◌, neg_ℚ, abs_ℚ, zero_ℚ}
use Rattle.fx_model.specs.Fraction.{abs-from, le_refl}
use Rattle.fx_model.specs.Enclosure.{IsFrom, IsUpTo, Lies, Sums, Differences, in_enclosure}
use Rattle.fx_model.specs.Enclosure.{product_holds, ordered_by, higher_from, lower_up_to}
use Rattle.fx_model.specs.Expression.{Assignment, value, lift₂}
use Rattle.fx_model.specs.declared.ExprId.{ExprId}
use Rattle.fx_model.specs.declared.Node.{Node}
use Rattle.fx_model.specs.declared.Node.TheVariants as node
use Rattle.grid_words.proofs.AbsoluteValues.{abs-not_negative, abs-neg, abs-mul, abs-div}
use Rattle.grid_words.proofs.AbsoluteValues.{abs-square, abs-add, abs-sub, abs-add_least}
use Rattle.grid_words.proofs.AbsoluteValues.{abs-sub_least, abs-add_other, abs-sub_other}
use Rattle.grid_words.specs.Products.{quotient_holds}
use Rattle.dyadic.specs.Ends.{bound_of}
use Rattle.dyadic.specs.Extremes.{greater_end}
use Rattle.interval.specs.declared.interval.Interval.{Interval}
use Rattle.interval.specs.Intervals.{range_of}
use Rattle.interval.specs.Meets.{interval_from, interval_from-some}
use Rattle.interval.proofs.Meets.{from_greater}
use Rattle.interval.specs.Results.{sum_of, sum_of-is, difference_of, difference_of-is, product_of}
use Rattle.interval.specs.Results.{product_of-is, quotient_of, quotient_of-is, half_line}
use Rattle.expr_dag.specs.Shapes.{is_at}
use Rattle.expr_dag.proofs.Shapes.{is_at_out, node_at-value}
use Rattle.expr_dag.proofs.Lifted.{at_node, lifted_quotient, lifted_twice, lifted₁, lifted₂}
use Rattle.facts.specs.declared.size.Size.{Size}
use Rattle.facts.specs.declared.fact.Fact.{Fact}
use Rattle.facts.specs.declared.fact.Fact.TheVariants as fact
use Rattle.facts.specs.declared.fact.Slot.TheVariants as slot
use Rattle.facts.specs.Parts.{size_within}
use Rattle.facts.proofs.Within.{on_half_line}
use Rattle.facts.specs.Holds.{Holds}
use Rattle.facts.proofs.CommonParts.{if-some}
use Rattle.facts.specs.Promises.{IsSound}
use Rattle.facts.specs.Conclusions.{abs_of}
use Rattle.facts.proofs.Conclusions.{given}
use Rattle.theorem_arith.specs.Bounds.{square_rule}
use Rattle.theorem_arith.specs.Sizes.{size_of_negation_rule, size_of_product_rule, size_within_part}
use Rattle.theorem_arith.specs.Sizes.{size_of_quotient_rule, least_size, size_of_sum}
use Rattle.theorem_arith.specs.Sizes.{size_of_sum_rule}
use Rattle.theorem_arith.proofs.SoundSizes.{abs_given}

-- the absolute value lies in the interval
abbrev IsSizeIn : Interval → Fraction → Type 0
IsSizeIn i v = Lies (range_of i) (abs_ℚ v)

pub size_of_negation_rule-sound : IsSound size_of_negation_rule
size_of_negation_rule-sound nodes (fact.Abs x s ∷ []) (slot.Abs e) f o q = λ a h.
    let t = if-some (is_at nodes e (node.Neg x)) (fact.Abs e s) f q in
    subst (Holds nodes a) t.1 (at_node nodes a o e (node.Neg x) (IsSizeIn s.interval) t.0
    (lifted₁ neg_ℚ (value nodes a x) (IsSizeIn s.interval) (IsSizeIn s.interval)
    (λ v l. subst (Lies (range_of s.interval)) (sym (abs-neg v)) l) h.0))
size_of_negation_rule-sound nodes _ _ f o q = cc

pub size_of_product_rule-sound : IsSound size_of_product_rule
size_of_product_rule-sound nodes (fact.Abs x s ∷ fact.Abs y t ∷ []) (slot.Abs e) f o q = λ a h.
    let k = product_of s.interval t.interval in
    let g = given (is_at nodes e (node.Mul x y)) (abs_of e (size_within k)) f q in
    abs_given nodes a e k f g.1 (at_node nodes a o e (node.Mul x y) (IsSizeIn k) g.0
    (lifted₂ ◌*ℚ◌ (value nodes a x) (value nodes a y) (IsSizeIn s.interval)
    (IsSizeIn t.interval) (IsSizeIn k)
    (λ u v l m. subst (Lies (range_of k)) (sym (abs-mul u v))
    (product_holds (range_of s.interval) (range_of t.interval) (range_of k) (abs_ℚ u) (abs_ℚ v)
    (product_of-is s.interval t.interval) l m)) h.0 h.1.0))
size_of_product_rule-sound nodes _ _ f o q = cc

-- an ABS fact of what of an interval, where there is one, is at least 0
part_given : (nodes : List Node) (a : Assignment) (e : ExprId) (k : Option Interval) (f : Fact)
    → abs_of e (size_within_part k) ≡ Some f
    → ((i : Interval) → k ≡ Some i → IsSomeAnd (value nodes a e) (IsSizeIn i)) → Holds nodes a f
part_given nodes a e None f q h = cc
part_given nodes a e (Some i) f q h = abs_given nodes a e i f q (h i refl)

pub size_of_quotient_rule-sound : IsSound size_of_quotient_rule
size_of_quotient_rule-sound nodes (fact.Abs x s ∷ fact.Abs y t ∷ []) (slot.Abs e) f o q = λ a h.
    let g = given (is_at nodes e (node.Div x y))
    (abs_of e (size_within_part (quotient_of s.interval t.interval))) f q in
    part_given nodes a e (quotient_of s.interval t.interval) f g.1
    (λ k w. let d = quotient_of-is s.interval t.interval k w in
    let n : (v : Fraction) → IsSizeIn t.interval v → v ≢ zero_ℚ =
    λ v l z. d.nonzero (subst (Lies (range_of t.interval)) (ap abs_ℚ z ∙ zero_abs) l) in
    at_node nodes a o e (node.Div x y) (IsSizeIn k) g.0
    (lifted_quotient (value nodes a x) (value nodes a y) (IsSizeIn s.interval)
    (IsSizeIn t.interval) (IsSizeIn k) n
    (λ u v l m. subst (Lies (range_of k)) (sym (abs-div u v (n v m))) (quotient_holds
    (range_of s.interval) (range_of t.interval) (range_of k) (abs_ℚ u) (abs_ℚ v) d l m)) h.0 h.1.0))
  where
    zero_abs : abs_ℚ zero_ℚ ≡ zero_ℚ
    zero_abs = abs-from zero_ℚ (le_refl zero_ℚ)
size_of_quotient_rule-sound nodes _ _ f o q = cc

-- ---- sums and differences
difference_from : (i j : Interval) (x y z : Fraction) → Lies (range_of i) x → Lies (range_of j) y
    → (x -ℚ y) ≤ℚ z → IsFrom (bound_of (difference_of i j).lo) z
difference_from i j x y z l m d = higher_from (bound_of (difference_of i j).lo) z (x -ℚ y) d
    (in_enclosure (Differences (range_of i) (range_of j)) (range_of (difference_of i j)) (x -ℚ y)
    (difference_of-is i j) (x, y, l, m, refl)).0

sum_to : (i j : Interval) (x y z : Fraction) → Lies (range_of i) x → Lies (range_of j) y
    → z ≤ℚ (x +ℚ y) → IsUpTo (bound_of (sum_of i j).hi) z
sum_to i j x y z l m d = lower_up_to (bound_of (sum_of i j).hi) z
    (x +ℚ y) d (in_enclosure (Sums (range_of i) (range_of j)) (range_of (sum_of i j)) (x +ℚ y)
    (sum_of-is i j) (x, y, l, m, refl)).1

-- what isn't below 0, isn't below the differences and isn't above the sum lies in the interval of a
-- sum's absolute value
sum_found : (i j : Interval) (x y z : Fraction) → Lies (range_of i) x → Lies (range_of j) y
    → zero_ℚ ≤ℚ z → (x -ℚ y) ≤ℚ z → (y -ℚ x) ≤ℚ z → z ≤ℚ (x +ℚ y) → (k : Interval)
    × (interval_from (least_size i j) (sum_of i j).hi ≡ Some k) × Lies (range_of k) z
sum_found i j x y z l m p d e s =
    let low : IsFrom (bound_of (least_size i j)) z =
    from_greater (greater_end half_line.lo (difference_of i j).lo)
    (difference_of j i).lo z (from_greater half_line.lo (difference_of i j).lo z
    (on_half_line z p).0 (difference_from i j x y z l m d)) (difference_from j i y x z m l e) in
    let high : IsUpTo (bound_of (sum_of i j).hi) z = sum_to i j x y z l m s in
    let o = ordered_by (bound_of (least_size i j)) (bound_of (sum_of i j).hi) z low high in (
      record { lo = least_size i j; hi = (sum_of i j).hi; ordered = o },
      interval_from-some (least_size i j) (sum_of i j).hi o,
      (low, high),
    )

-- what of two operations is needed
record IsBetweenSizes (g : Fraction → Fraction → Fraction) : Type 0 where
  least : (x y : Fraction) → (abs_ℚ x -ℚ abs_ℚ y) ≤ℚ abs_ℚ (g x y)
  other : (x y : Fraction) → (abs_ℚ y -ℚ abs_ℚ x) ≤ℚ abs_ℚ (g x y)
  most : (x y : Fraction) → abs_ℚ (g x y) ≤ℚ (abs_ℚ x +ℚ abs_ℚ y)

sum_given : (nodes : List Node) (a : Assignment) (e : ExprId) (s t : Size)
    (f : Fact) (g : Fraction → Fraction → Fraction) (u v : Option Fraction) → IsBetweenSizes g
    → abs_of e (size_of_sum s.interval t.interval) ≡ Some f → value nodes a e ≡ lift₂ g u v
    → IsSomeAnd u (IsSizeIn s.interval) → IsSomeAnd v (IsSizeIn t.interval) → Holds nodes a f
sum_given nodes a e s t f g None v b q w l m = absurd l
sum_given nodes a e s t f g (Some x) None b q w l m = absurd m
sum_given nodes a e s t f g (Some x) (Some y) b q w l m =
    let r = sum_found s.interval t.interval (abs_ℚ x) (abs_ℚ y)
    (abs_ℚ (g x y)) l m (abs-not_negative (g x y)) (b.least x y) (b.other x y) (b.most x y) in
    part_given nodes a e (interval_from (least_size s.interval t.interval)
    (sum_of s.interval t.interval).hi) f q
    (λ i k. let same : r.0 ≡ i = some_same r.0 i (sym r.1 ∙ k) in
    subst (λ o. IsSomeAnd o (IsSizeIn i)) (sym w)
    (subst (λ j. Lies (range_of j) (abs_ℚ (g x y))) same r.2))
  where
    some_same : (i j : Interval) → Some i ≡ Some j → i ≡ j
    some_same i j p = cc

pub size_of_sum_rule-sound : IsSound size_of_sum_rule
size_of_sum_rule-sound nodes (fact.Abs x s ∷ fact.Abs y t ∷ []) (slot.Abs e) f o q = λ a h.
    let g = given (is_at nodes e (node.Add x y) || is_at nodes e (node.Sub x y))
    (abs_of e (size_of_sum s.interval t.interval)) f q in
    ⊎_elim
    (λ n. sum_given nodes a e s t f ◌+ℚ◌ (value nodes a x)
    (value nodes a y) (record { least = abs-add_least; other = abs-add_other; most = abs-add }) g.1
    (node_at-value nodes a e (node.Add x y) o (is_at_out nodes e (node.Add x y) n)) h.0 h.1.0)
    (λ n. sum_given nodes a e s t f ◌-ℚ◌ (value nodes a x)
    (value nodes a y) (record { least = abs-sub_least; other = abs-sub_other; most = abs-sub }) g.1
    (node_at-value nodes a e (node.Sub x y) o (is_at_out nodes e (node.Sub x y) n)) h.0 h.1.0)
    (or_cases (is_at nodes e (node.Add x y)) (is_at nodes e (node.Sub x y)) g.0)
size_of_sum_rule-sound nodes _ _ f o q = cc

-- ---- the square, from the absolute value
pub square_rule-sound : IsSound square_rule
square_rule-sound nodes (fact.Abs x s ∷ []) (slot.Bnd e) f o q = λ a h.
    let k = product_of s.interval s.interval in
    let t = if-some (is_at nodes e (node.Mul x x)) (fact.Bnd e k) f q in
    subst (Holds nodes a) t.1 (at_node nodes a o e (node.Mul x x) (Lies (range_of k)) t.0
    (lifted_twice ◌*ℚ◌ (value nodes a x) (IsSizeIn s.interval) (Lies (range_of k))
    (λ v l. subst (Lies (range_of k)) (abs-square v)
    (product_holds (range_of s.interval) (range_of s.interval) (range_of k) (abs_ℚ v) (abs_ℚ v)
    (product_of-is s.interval s.interval) l l)) h.0))
square_rule-sound nodes _ _ f o q = cc
