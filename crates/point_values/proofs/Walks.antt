-- From node to node.
use Rattle.std.specs.Prelude.{◌≡◌, ℕ, ◌+◌, ◌<◌, List, [], ◌∷◌, ◌++◌, drop, length, map, Option}
use Rattle.std.specs.Prelude.{Some, None, Bool, true, false, if◌then◌else◌, slice_index_or, refl}
use Rattle.std.proofs.Common.{arith, sym, ap, ◌∙◌, subst, length-append, suc, ⊎_elim}
use Rattle.std.proofs.lemmas.List.{get_or_append_left, length-map, drop_all, map-append}
use Rattle.std.proofs.Math.Seq.{drop-cons, get_or-append_seam}
use Rattle.std.proofs.lemmas.Bool.{cases_lt}
use Rattle.fx_model.specs.Fraction.{Fraction}
use Rattle.fx_model.specs.Expression.{Assignment, IsOrdered, ChildrenBelow, node_value, value}
use Rattle.fx_model.specs.Expression.{same_children}
use Rattle.fx_model.proofs.Expression.{value_step}
use Rattle.fx_model.specs.declared.ExprId.{ExprId}
use Rattle.fx_model.specs.declared.Node.{Node}
use Rattle.fx_model.specs.declared.Node.TheVariants.{Var, Lit, Neg, Add, Sub, Mul, Div, Abs, Round}
use Rattle.exact_fractions.specs.declared.exact.Exact.{Exact}
use Rattle.exact_fractions.specs.Wide.{are_narrow, sum_numbers, difference_numbers}
use Rattle.exact_fractions.specs.Wide.{rounding_numbers}
use Rattle.point_values.specs.Known.{fraction_of, values_of}
use Rattle.point_values.specs.Numbers.{of_value, of_values, product_numbers, quotient_numbers}
use Rattle.point_values.specs.Numbers.{node_numbers, wide_from}
use Rattle.point_values.specs.declared.place.Place.TheVariants as place
use Rattle.point_values.proofs.Walk.{IsWalked}
use Rattle.point_values.specs.Walk.{AreKnown}

-- ---- a node's numbers are of the values of what it is made of
same_numbers : (v w : ExprId → Option Fraction) (k : ℕ) (n : Node) → ChildrenBelow k n
    → ((x : ExprId) → x.0 < k → v x ≡ w x) → node_numbers v n ≡ node_numbers w n
same_numbers v w k (Var n) h e = refl
same_numbers v w k (Lit l) h e = refl
same_numbers v w k (Neg x) h e = refl
same_numbers v w k (Add x y) h e = ap (λ u. of_values sum_numbers u (v y)) (e x h.0)
    ∙ ap (of_values sum_numbers (w x)) (e y h.1)
same_numbers v w k (Sub x y) h e = ap (λ u. of_values difference_numbers u (v y)) (e x h.0)
    ∙ ap (of_values difference_numbers (w x)) (e y h.1)
same_numbers v w k (Mul x y) h e = ap (λ u. of_values product_numbers u (v y)) (e x h.0)
    ∙ ap (of_values product_numbers (w x)) (e y h.1)
same_numbers v w k (Div x y) h e = ap (λ u. of_values quotient_numbers u (v y)) (e x h.0)
    ∙ ap (of_values quotient_numbers (w x)) (e y h.1)
same_numbers v w k (Abs x) h e = refl
same_numbers v w k (Round r x) h e = ap (of_value (rounding_numbers r.dir r.lsb)) (e x h)

-- ---- the walk
pub walk_start : (nodes : List Node) (a : Assignment) → IsWalked nodes a [] 0
walk_start nodes a = record { count = refl; known = λ x h. absurd (omega arith); narrow = refl }

numbers_here : (nodes : List Node) (a : Assignment) (vs : List (Option Exact)) (i : ℕ) (n : Node)
    → IsOrdered nodes → IsWalked nodes a vs i → i < length nodes → slice_index_or nodes i n ≡ n
    → node_numbers (values_of vs) n ≡ node_numbers (value nodes a) n
numbers_here nodes a vs i n o w h e =
    same_numbers (values_of vs) (value nodes a) i n (subst (ChildrenBelow i) e (o i n h)) w.known

split_here : (nodes : List Node) (i : ℕ) (n : Node) → i < length nodes → slice_index_or nodes i n
    ≡ n → drop i nodes ≡ n ∷ drop (i + 1) nodes
split_here nodes i n h e = drop-cons nodes i n h ∙ ap (λ m. m ∷ drop (suc i) nodes) e
    ∙ ap (λ k. n ∷ drop k nodes) (let s : suc i ≡ i + 1 = omega arith in s)

pub walk_wide : (nodes : List Node) (a : Assignment) (vs : List (Option Exact)) (i : ℕ) (n : Node)
    → IsOrdered nodes → IsWalked nodes a vs i → i < length nodes → slice_index_or nodes i n ≡ n
    → are_narrow (node_numbers (values_of vs) n) ≡ false
    → wide_from place.Node (node_numbers (value nodes a)) 0 nodes ≡ Some (place.Node i)
walk_wide nodes a vs i n o w h e f = sym w.narrow
    ∙ ap (wide_from place.Node (node_numbers (value nodes a)) i) (split_here nodes i n h e)
    ∙ ap (λ (t : Bool). if t then wide_from place.Node (node_numbers (value nodes a)) (i + 1)
    (drop (i + 1) nodes) else Some (place.Node i))
    (sym (ap are_narrow (numbers_here nodes a vs i n o w h e)) ∙ f)

longer : (vs : List (Option Exact)) (v : Option Exact) (i : ℕ) → length vs ≡ i
    → length (vs ++ (v ∷ [])) ≡ i + 1
longer vs v i e = length-append vs (v ∷ []) ∙ ap (λ k. k + 1) e

front : (vs : List (Option Exact)) (v : Option Exact) (x : ExprId) → x.0 < length vs
    → values_of (vs ++ (v ∷ [])) x ≡ values_of vs x
front vs v x h = ap (λ us. slice_index_or us x.0 None) (map-append fraction_of vs (v ∷ []))
    ∙ get_or_append_left (map fraction_of vs) (fraction_of v ∷ []) None x.0
    (subst (λ k. x.0 < k) (sym (length-map vs fraction_of)) h)

last : (vs : List (Option Exact)) (v : Option Exact) (i : ℕ) → length vs ≡ i
    → slice_index_or (map fraction_of (vs ++ (v ∷ []))) i None ≡ fraction_of v
last vs v i e = ap (λ us. slice_index_or us i None) (map-append fraction_of vs (v ∷ []))
    ∙ ap (λ k. slice_index_or (map fraction_of vs ++ (fraction_of v ∷ [])) k None)
    (sym (length-map vs fraction_of ∙ e)) ∙ get_or-append_seam (map fraction_of vs) (fraction_of v)
    [] None

pub walk_step : (nodes : List Node) (a : Assignment) (vs : List (Option Exact)) (i : ℕ) (n :
    Node) (v : Option Exact) → IsOrdered nodes → IsWalked nodes a vs i → i < length nodes
    → slice_index_or nodes i n ≡ n
    → are_narrow (node_numbers (values_of vs) n) ≡ true
    → fraction_of v ≡ node_value a (values_of vs) n → IsWalked nodes a (vs ++ (v ∷ [])) (i + 1)
walk_step nodes a vs i n v o w h e f g = record {
  count = longer vs v i w.count;
  known = λ x l. ⊎_elim (λ b. front vs v x (subst (λ k. x.0 < k) (sym w.count) b) ∙ w.known x b)
      (λ b. here x (omega arith)) (cases_lt x.0 i);
  narrow = sym
      (ap (λ (t : Bool). if t then wide_from place.Node (node_numbers (value nodes a)) (i + 1)
      (drop (i + 1) nodes) else Some (place.Node i))
      (sym (ap are_narrow (numbers_here nodes a vs i n o w h e)) ∙ f))
      ∙ sym (ap (wide_from place.Node (node_numbers (value nodes a)) i) (split_here nodes i n h e))
      ∙ w.narrow;
}
  where
    here : (x : ExprId) → x.0 ≡ i → values_of (vs ++ (v ∷ [])) x ≡ value nodes a x
    here x p = ap (λ k. slice_index_or (map fraction_of (vs ++ (v ∷ []))) k None) p
        ∙ last vs v i w.count ∙ g
        ∙ same_children a (values_of vs) (value nodes a) i n (subst (ChildrenBelow i) e (o i n h))
        w.known
        ∙ sym (value_step nodes a x n o (subst (λ k. k < length nodes) (sym p) h)
        ∙ ap (node_value a (value nodes a)) (ap (λ k. slice_index_or nodes k n) p ∙ e))

pub walk_known : (nodes : List Node) (a : Assignment) (vs : List (Option Exact)) (i : ℕ)
    → IsWalked nodes a vs i → i ≡ length nodes → AreKnown nodes a vs (length nodes)
walk_known nodes a vs i w e = subst (AreKnown nodes a vs) e w.known

pub walk_narrow : (nodes : List Node) (a : Assignment) (vs : List (Option Exact)) (i : ℕ)
    → IsWalked nodes a vs i → i ≡ length nodes
    → wide_from place.Node (node_numbers (value nodes a)) 0 nodes ≡ None
walk_narrow nodes a vs i w e = sym w.narrow
    ∙ ap (wide_from place.Node (node_numbers (value nodes a)) i) (drop_all i nodes (omega arith))
