-- The list of a pair has exactly its instances but those past a third expression, each once.
use Rattle.std.specs.Prelude.{◌≡◌, ◌≢◌, ◌⊎◌, ◌↔◌, ◌&&◌, Bool, true, false, Some, List, [], ◌∷◌}
use Rattle.std.specs.Prelude.{◌++◌, refl}
use Rattle.std.proofs.Common.{inl, inr, ap, sym, ◌∙◌, subst}
use Rattle.std.proofs.lemmas.Bool.{and_parts, and_from}
use Rattle.fx_model.specs.declared.ExprId.{ExprId}
use Rattle.fx_model.specs.declared.Node.{Node}
use Rattle.fx_model.specs.declared.Node.TheVariants.{Neg, Add, Sub, Mul, Div}
use Rattle.expr_dag.specs.Nodes.{IsAt, place_of}
use Rattle.expr_dag.proofs.Nodes.{one_node}
use Rattle.pair_closure.specs.Reached.{Has}
use Rattle.pair_closure.specs.Closure.{Pair, is_same}
use Rattle.pair_closure.specs.Among.{is_among}
use Rattle.pair_closure.proofs.Look.{among_out, among_in}
use Rattle.pair_closure.proofs.Ids.{same_ids, apart_ids, self_same, not_same}
use Rattle.pair_closure.proofs.Members.{no_member, has_first, has_all, has_left, has_right}
use Rattle.pair_closure.proofs.Members.{has_either}
use Rattle.facts.specs.declared.fact.Slot.TheVariants as slot
use Rattle.facts.specs.declared.instance.Instance.{Instance}
use Rattle.rule_instances.specs.Slots.{rule}
use Rattle.rule_instances.specs.Lists.{given}
use Rattle.rule_instances.specs.Instances.{OfPair}
use Rattle.rule_instances.specs.Instances.OfPair.{rule_36_second, rule_36_first, rule_51, rule_52}
use Rattle.rule_instances.specs.Instances.OfPair.{rule_53, rule_54, rule_55, rule_56, rule_57}
use Rattle.rule_instances.specs.Instances.OfPair.{rule_58, rule_59, rule_60, rule_61, rule_77}
use Rattle.rule_instances.specs.Instances.OfPair.{rule_78, rule_92}
use Rattle.rule_instances.specs.Found.{found, pair_rules, twin_rules, difference_rules, apart_rules}
use Rattle.rule_instances.specs.Found.{operation_rules, at_pair, past_pair}
use Rattle.rule_instances.proofs.Lists.{given_out, given_in}
use Rattle.rule_instances.proofs.OfDifferences.{found_out, found_in, one_out}

module _ (nodes : List Node) (pairs : List Pair) (number : (w : ExprId) (n : Node)
    → (place_of nodes n ≡ Some w) ↔ IsAt nodes w n) (x y : ExprId) where
  abbrev Of : Instance → Type 0
  Of = OfPair nodes (Has pairs) x y

  abbrev Differences : ExprId → List Instance
  Differences d = difference_rules x y d ++ apart_rules x y (is_same x y) d

  abbrev Quotient : ExprId → List Instance
  Quotient q = rule 55 (slot.Rel x y ∷ slot.Nzr y ∷ []) (slot.Bnd q) ∷ []

  abbrev Swapped : Instance
  Swapped = rule 59 (slot.Rel x y ∷ []) (slot.Rel y x)

  -- ---- each piece has instances of the pair alone
  twin_only : (b : Bool) → is_same x y ≡ b → (i : Instance) → Has (twin_rules x y b) i → Of i
  twin_only true e i h = subst Of (sym (one_out _ i h)) (rule_51 (same_ids x y e))
  twin_only false e i h = subst Of (sym (one_out _ i h)) rule_36_first

  apart_only : (b : Bool) → is_same x y ≡ b → (d : ExprId) → IsAt nodes d (Sub x y) → (i : Instance)
      → Has (apart_rules x y b d) i → Of i
  apart_only true e d at i h = absurd (no_member i h)
  apart_only false e d at i h = has_all Of (apart_rules x y false d)
      (rule_77 d at (apart_ids x y e), (rule_78 d at (apart_ids x y e), tt)) i h

  difference_only : (i : Instance) → Has (found (place_of nodes (Sub x y)) Differences) i → Of i
  difference_only i h =
      let g = found_out (place_of nodes (Sub x y)) Differences i h in
      let at = (number g.0 (Sub x y)).0 g.1 in
      elim (has_either (difference_rules x y g.0) (apart_rules x y (is_same x y) g.0) i g.2) [
        | inl a ↦ has_all Of (difference_rules x y g.0) (rule_52 g.0 at, (rule_53 g.0 at, tt)) i a
        | inr b ↦ apart_only (is_same x y) refl g.0 at i b
      ]

  quotient_only : (i : Instance) → Has (found (place_of nodes (Div x y)) Quotient) i → Of i
  quotient_only i h =
      let g = found_out (place_of nodes (Div x y)) Quotient i h in
      subst Of (sym (one_out _ i g.2)) (rule_55 g.0 ((number g.0 (Div x y)).0 g.1))

  swapped_only : (i : Instance) → Has (given (is_among pairs (y, x)) Swapped) i → Of i
  swapped_only i h = let g = given_out (is_among pairs (y, x)) Swapped i h in
      subst Of (sym g.1) (rule_59 (among_out pairs (y, x) g.0))

  two_out : (p q : Pair) (i j : Instance) → (Has pairs p → Has pairs q → Of j)
      → Has (given (is_among pairs p && is_among pairs q) j) i → Of i
  two_out p q i j f h =
      let g = given_out (is_among pairs p && is_among pairs q) j i h in
      let b = and_parts (is_among pairs p) (is_among pairs q) g.0 in
      subst Of (sym g.1) (f (among_out pairs p b.0) (among_out pairs q b.1))

  operation_only : (m n : Node) → IsAt nodes x m → IsAt nodes y n → (i : Instance)
      → Has (operation_rules nodes pairs x y m n) i → Of i
  operation_only (Mul a b) (Mul c d) xm yn i h =
      two_out (a, c) (b, d) i _ (λ p q. rule_56 a b c d xm yn p q) h
  operation_only (Div a b) (Div c d) xm yn i h =
      two_out (a, c) (b, d) i _ (λ p q. rule_57 a b c d xm yn p q) h
  operation_only (Neg a) (Neg b) xm yn i h = let g = given_out (is_among pairs (a, b)) _ i h in
      subst Of (sym g.1) (rule_60 a b xm yn (among_out pairs (a, b) g.0))
  operation_only (Add a b) (Add c d) xm yn i h =
      let g = found_out (place_of nodes (Div c y)) (λ s. given (is_among pairs (a, c) && is_among
      pairs (b, d)) (rule 61 (slot.Rel a c ∷ slot.Rel b d ∷ slot.Bnd s ∷ []) (slot.Rel x y))) i h in
      two_out (a, c) (b, d) i _
      (λ p q. rule_61 a b c d g.0 xm yn ((number g.0 (Div c y)).0 g.1) p q) g.2
  operation_only m n xm yn i h = absurd (no_member i h)

  -- ---- where each piece stands
  module _ (m n : Node) where
    abbrev Operations : List Instance
    Operations = operation_rules nodes pairs x y m n

    abbrev After : List Instance
    After = given (is_among pairs (y, x)) Swapped ++ Operations

    abbrev Quotients : List Instance
    Quotients = found (place_of nodes (Div x y)) Quotient ++ After

    abbrev Behind : List Instance
    Behind = found (place_of nodes (Sub x y)) Differences ++ Quotients

    abbrev Twins : List Instance
    Twins = twin_rules x y (is_same x y) ++ Behind

    all_only : IsAt nodes x m → IsAt nodes y n → (i : Instance)
        → Has (at_pair nodes pairs x y m n) i → Of i
    all_only xm yn i h = elim (has_either (pair_rules x y) Twins i h) [
      | inl a ↦ has_all Of (pair_rules x y) (rule_36_second, (rule_54, (rule_92, tt))) i a
      | inr r ↦ elim (has_either (twin_rules x y (is_same x y)) Behind i r) [
        | inl a ↦ twin_only (is_same x y) refl i a
        | inr s ↦ elim (has_either (found (place_of nodes (Sub x y)) Differences) Quotients i s) [
          | inl a ↦ difference_only i a
          | inr t ↦ elim (has_either (found (place_of nodes (Div x y)) Quotient) After i t) [
            | inl a ↦ quotient_only i a
            | inr u ↦ elim (has_either (given (is_among pairs (y, x)) Swapped) Operations i u)
                [ inl a ↦ swapped_only i a | inr b ↦ operation_only m n xm yn i b ]
          ]
        ]
      ]
    ]

    in_twins : (i : Instance) → Has (twin_rules x y (is_same x y)) i
        → Has (at_pair nodes pairs x y m n) i
    in_twins i h =
        has_right (pair_rules x y) Twins i (has_left (twin_rules x y (is_same x y)) Behind i h)

    in_differences : (i : Instance) → Has (found (place_of nodes (Sub x y)) Differences) i
        → Has (at_pair nodes pairs x y m n) i
    in_differences i h =
        has_right (pair_rules x y) Twins i (has_right (twin_rules x y (is_same x y)) Behind i
        (has_left (found (place_of nodes (Sub x y)) Differences) Quotients i h))

    in_quotients : (i : Instance) → Has Quotients i → Has (at_pair nodes pairs x y m n) i
    in_quotients i h = has_right (pair_rules x y) Twins i (has_right (twin_rules x y (is_same x y))
        Behind i (has_right (found (place_of nodes (Sub x y)) Differences) Quotients i h))

    in_swapped : (i : Instance) → Has (given (is_among pairs (y, x)) Swapped) i
        → Has (at_pair nodes pairs x y m n) i
    in_swapped i h = in_quotients i (has_right (found (place_of nodes (Div x y)) Quotient) After i
        (has_left (given (is_among pairs (y, x)) Swapped) Operations i h))

    in_operations : (i : Instance) → Has Operations i → Has (at_pair nodes pairs x y m n) i
    in_operations i h = in_quotients i (has_right (found (place_of nodes (Div x y)) Quotient) After
        i (has_right (given (is_among pairs (y, x)) Swapped) Operations i h))

    -- ---- each instance stands in its piece
    first_twin : (b : Bool) → is_same x y ≡ b → Has (pair_rules x y ++ twin_rules x y b)
        (rule 36 (slot.Rel x y ∷ slot.Nzr y ∷ []) (slot.Nzr x))
    first_twin false e = (3, refl)
    first_twin true e = subst (λ w. Has (pair_rules x y ++ twin_rules x y true)
        (rule 36 (slot.Rel x y ∷ slot.Nzr w ∷ []) (slot.Nzr x))) (same_ids x y e)
        (subst (λ w. Has (pair_rules x y ++ twin_rules x y true)
        (rule 36 (slot.Rel x y ∷ slot.Nzr x ∷ []) (slot.Nzr w))) (sym (same_ids x y e)) (0, refl))

    first_in : Has (at_pair nodes pairs x y m n)
        (rule 36 (slot.Rel x y ∷ slot.Nzr y ∷ []) (slot.Nzr x))
    first_in = elim (has_either (pair_rules x y)
        (twin_rules x y (is_same x y)) _ (first_twin (is_same x y) refl)) [
          | inl a ↦ has_left (pair_rules x y) Twins _ a
          | inr b ↦ in_twins _ b
        ]

    self_in : x ≡ y → Has (twin_rules x y (is_same x y)) (rule 51 (slot.Bnd x ∷ []) (slot.Rel x x))
    self_in e = subst (λ b. Has (twin_rules x y b) (rule 51 (slot.Bnd x ∷ []) (slot.Rel x x)))
        (sym (ap (is_same x) (sym e) ∙ self_same x)) (0, refl)

    by_difference : (d : ExprId) (i : Instance) → IsAt nodes d (Sub x y) → Has (Differences d) i
        → Has (at_pair nodes pairs x y m n) i
    by_difference d i at h = in_differences i
        (found_in (place_of nodes (Sub x y)) d Differences i ((number d (Sub x y)).1 at) h)

    by_apart : (d : ExprId) (i : Instance) → IsAt nodes d (Sub x y) → x ≢ y
        → Has (apart_rules x y false d) i → Has (at_pair nodes pairs x y m n) i
    by_apart d i at ne h =
        by_difference d i at (has_right (difference_rules x y d) (apart_rules x y (is_same x y) d) i
        (subst (λ b. Has (apart_rules x y b d) i) (sym (not_same x y ne (is_same x y) refl)) h))

    same_sides : (k j : Node) (i : Instance) → IsAt nodes x m → IsAt nodes y n
        → IsAt nodes x k → IsAt nodes y j → Has (operation_rules nodes pairs x y k j) i
        → Has (at_pair nodes pairs x y m n) i
    same_sides k j i xm yn xk yj h =
        in_operations i (subst (λ w. Has (operation_rules nodes pairs x y w n) i)
        (one_node nodes x k m xk xm)
        (subst (λ w. Has (operation_rules nodes pairs x y k w) i) (one_node nodes y j n yj yn) h))

    two_in : (p q : Pair) (i : Instance) → Has pairs p → Has pairs q
        → Has (given (is_among pairs p && is_among pairs q) i) i
    two_in p q i a b = given_in (is_among pairs p && is_among pairs q) i
        (and_from (is_among pairs p) (is_among pairs q) (among_in pairs p a) (among_in pairs q b))

    -- but what goes past a third expression
    all_in : IsAt nodes x m → IsAt nodes y n
        → (i : Instance) → Of i → Has (at_pair nodes pairs x y m n) i
        ⊎ ((c : ExprId) × Has pairs (y, c) × Has (past_pair pairs x y c) i)
    all_in xm yn i rule_36_second = inl (0, refl)
    all_in xm yn i rule_54 = inl (1, refl)
    all_in xm yn i rule_92 = inl (2, refl)
    all_in xm yn i rule_36_first = inl first_in
    all_in xm yn i (rule_51 e) = inl (in_twins i (self_in e))
    all_in xm yn i (rule_52 d at) = inl (by_difference d i at (0, refl))
    all_in xm yn i (rule_53 d at) = inl (by_difference d i at (1, refl))
    all_in xm yn i (rule_55 q at) =
        inl (in_quotients i (has_left (found (place_of nodes (Div x y)) Quotient) After i (found_in
        (place_of nodes (Div x y)) q Quotient i ((number q (Div x y)).1 at) (has_first i []))))
    all_in xm yn i (rule_56 a b c d xk yj p q) =
        inl (same_sides (Mul a b) (Mul c d) i xm yn xk yj (two_in (a, c) (b, d) i p q))
    all_in xm yn i (rule_57 a b c d xk yj p q) =
        inl (same_sides (Div a b) (Div c d) i xm yn xk yj (two_in (a, c) (b, d) i p q))
    all_in xm yn i (rule_58 c p q) =
        inr (c, p, given_in (is_among pairs (x, c)) i (among_in pairs (x, c) q))
    all_in xm yn i (rule_59 p) =
        inl (in_swapped i (given_in (is_among pairs (y, x)) i (among_in pairs (y, x) p)))
    all_in xm yn i (rule_60 a b xk yj p) = inl (same_sides (Neg a)
        (Neg b) i xm yn xk yj (given_in (is_among pairs (a, b)) i (among_in pairs (a, b) p)))
    all_in xm yn i (rule_61 a b c d s xk yj at p q) =
        inl (same_sides (Add a b) (Add c d) i xm yn xk yj
        (found_in (place_of nodes (Div c y)) s (λ w. given (is_among pairs (a, c) && is_among pairs
        (b, d)) (rule 61 (slot.Rel a c ∷ slot.Rel b d ∷ slot.Bnd w ∷ []) (slot.Rel x y))) i
        ((number s (Div c y)).1 at) (two_in (a, c) (b, d) i p q)))
    all_in xm yn i (rule_77 d at ne) = inl (by_apart d i at ne (0, refl))
    all_in xm yn i (rule_78 d at ne) = inl (by_apart d i at ne (1, refl))

    pub pair_only : IsAt nodes x m → IsAt nodes y n → (i : Instance)
        → Has (at_pair nodes pairs x y m n) i → OfPair nodes (Has pairs) x y i
    pair_only xm yn i h = all_only xm yn i h

    pub pair_in : IsAt nodes x m → IsAt nodes y n
        → (i : Instance) → OfPair nodes (Has pairs) x y i → Has (at_pair nodes pairs x y m n) i
        ⊎ ((c : ExprId) × Has pairs (y, c) × Has (past_pair pairs x y c) i)
    pair_in xm yn i o = all_in xm yn i o

  pub past_only : (c : ExprId) → Has pairs (y, c) → (i : Instance) → Has (past_pair pairs x y c) i
      → OfPair nodes (Has pairs) x y i
  past_only c p i h = let g = given_out (is_among pairs (x, c)) _ i h in
      subst Of (sym g.1) (rule_58 c p (among_out pairs (x, c) g.0))
