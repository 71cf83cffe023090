-- The list of a pair has each instance once.
use Rattle.std.specs.Prelude.{◌≡◌, ◌≢◌, ◌==◌, ◌||◌, ◌&&◌, ◌<◌, ℕ, Bool, true, false, if◌then◌else◌}
use Rattle.std.specs.Prelude.{List, [], ◌∷◌, ◌++◌, refl}
use Rattle.std.specs.List.{AllByRecursion}
use Rattle.std.proofs.Common.{inl, inr, arith, ap, sym, ◌∙◌, subst, append_assoc}
use Rattle.fx_model.specs.declared.ExprId.{ExprId}
use Rattle.fx_model.specs.declared.Node.{Node}
use Rattle.fx_model.specs.declared.Node.TheVariants.{Neg, Add, Sub, Mul, Div}
use Rattle.expr_dag.specs.Nodes.{place_of}
use Rattle.pair_closure.specs.Reached.{Has, IsEachOnce}
use Rattle.pair_closure.specs.Closure.{Pair, is_same}
use Rattle.pair_closure.specs.Among.{is_among}
use Rattle.pair_closure.proofs.Ids.{apart_ids}
use Rattle.pair_closure.proofs.Members.{has_all, no_member, has_either, once_nil, once_append}
use Rattle.facts.specs.declared.fact.Slot.TheVariants as slot
use Rattle.facts.specs.declared.instance.Instance.{Instance}
use Rattle.rule_instances.specs.Slots.{rule}
use Rattle.rule_instances.specs.Lists.{given}
use Rattle.rule_instances.specs.Found.{found, pair_rules, twin_rules, difference_rules, apart_rules}
use Rattle.rule_instances.specs.Found.{operation_rules, at_pair}
use Rattle.rule_instances.proofs.Lists.{once_by_number, given_out, given_once}
use Rattle.rule_instances.proofs.OfDifferences.{found_out, found_once, one_once, one_out}
use Rattle.rule_instances.proofs.Families.{expression_of}

-- which part of the list a rule stands in
abbrev part : ℕ → ℕ
part n = if (n == 36) || ((n == 54) || ((n == 92) || (n == 51))) then 0 else (if (n == 52)
    || ((n == 53) || ((n == 77) || (n == 78))) then 1 else (if n == 55 then 2 else (if n == 59
    then 3 else (if (n == 56) || ((n == 57) || ((n == 60) || (n == 61))) then 4 else 5))))

abbrev IsOfPart : ℕ → Instance → Type 0
IsOfPart k i = part i.rule ≡ k

-- one part behind another
join : (k : ℕ) (xs ys : List Instance) → ((i : Instance) → Has xs i → IsOfPart k i)
    → ((i : Instance) → Has ys i → k < part i.rule) → IsEachOnce xs
    → IsEachOnce ys → IsEachOnce (xs ++ ys)
join k xs ys f g a b = once_append xs ys a b (λ i m n. (let e : part i.rule ≡ k = f i m in
    let l : k < part i.rule = g i n in absurd (omega arith)))

later : (k j : ℕ) (i : Instance) → k < j → IsOfPart j i → k < part i.rule
later k j i l e = omega (arith, l, e)

module _ (nodes : List Node) (pairs : List Pair) (x y : ExprId) where
  abbrev Differences : ExprId → List Instance
  Differences d = difference_rules x y d ++ apart_rules x y (is_same x y) d

  abbrev Quotient : ExprId → List Instance
  Quotient q = rule 55 (slot.Rel x y ∷ slot.Nzr y ∷ []) (slot.Bnd q) ∷ []

  abbrev Swapped : List Instance
  Swapped = given (is_among pairs (y, x)) (rule 59 (slot.Rel x y ∷ []) (slot.Rel y x))

  -- ---- the first part: the two rows of one rule differ where the sides do
  abbrev Second : Instance
  Second = rule 36 (slot.Rel x y ∷ slot.Nzr y ∷ []) (slot.Nzr x)

  front_by : (b : Bool) → is_same x y ≡ b → IsEachOnce (pair_rules x y ++ twin_rules x y b)
  front_by true e = once_by_number (pair_rules x y ++ twin_rules x y true) refl
  front_by false e = once_append (pair_rules x y) (Second ∷ [])
      (once_by_number (pair_rules x y) refl) (one_once Second) apart
    where
      differs : (i : Instance) → i ≡ Second → AllByRecursion (λ j. j ≢ i) (pair_rules x y)
      differs i s = (
        (λ h. apart_ids x y e (ap (λ (j : Instance). expression_of j.target) (sym s ∙ sym h))),
        (
          (λ h. let n : 54 ≡ 36 = ap (λ (j : Instance). j.rule) (h ∙ s) in absurd (omega arith)),
          (
            (λ h. let n : 92 ≡ 36 = ap (λ (j : Instance). j.rule) (h ∙ s) in absurd (omega arith)),
            tt,
          ),
        ),
      )

      apart : (i : Instance) → Has (pair_rules x y) i → ¬ Has (Second ∷ []) i
      apart i m n = has_all (λ j. j ≢ i) (pair_rules x y) (differs i (one_out Second i n)) i m refl

  twin_part : (b : Bool) (i : Instance) → Has (twin_rules x y b) i → IsOfPart 0 i
  twin_part true i h = has_all (IsOfPart 0) (twin_rules x y true) (refl, tt) i h
  twin_part false i h = has_all (IsOfPart 0) (twin_rules x y false) (refl, tt) i h

  front_part : (i : Instance)
      → Has (pair_rules x y ++ twin_rules x y (is_same x y)) i → IsOfPart 0 i
  front_part i h = elim (has_either (pair_rules x y) (twin_rules x y (is_same x y)) i h) [
    | inl a ↦ has_all (IsOfPart 0) (pair_rules x y) (refl, (refl, (refl, tt))) i a
    | inr b ↦ twin_part (is_same x y) i b
  ]

  -- ---- by the difference
  apart_part : (b : Bool) (d : ExprId) (i : Instance) → Has (apart_rules x y b d) i → IsOfPart 1 i
  apart_part true d i h = absurd (no_member i h)
  apart_part false d i h = has_all (IsOfPart 1) (apart_rules x y false d) (refl, (refl, tt)) i h

  difference_part : (i : Instance)
      → Has (found (place_of nodes (Sub x y)) Differences) i → IsOfPart 1 i
  difference_part i h =
      let g = found_out (place_of nodes (Sub x y)) Differences i h in
      elim (has_either (difference_rules x y g.0) (apart_rules x y (is_same x y) g.0) i g.2) [
        | inl a ↦ has_all (IsOfPart 1) (difference_rules x y g.0) (refl, (refl, tt)) i a
        | inr b ↦ apart_part (is_same x y) g.0 i b
      ]

  differences_by : (b : Bool) (d : ExprId)
      → IsEachOnce (difference_rules x y d ++ apart_rules x y b d)
  differences_by true d = once_by_number (difference_rules x y d ++ apart_rules x y true d) refl
  differences_by false d = once_by_number (difference_rules x y d ++ apart_rules x y false d) refl

  -- ---- by the quotient, turned round, by operations
  quotient_part : (i : Instance) → Has (found (place_of nodes (Div x y)) Quotient) i → IsOfPart 2 i
  quotient_part i h = let g = found_out (place_of nodes (Div x y)) Quotient i h in
      has_all (IsOfPart 2) (Quotient g.0) (refl, tt) i g.2

  swapped_part : (i : Instance) → Has Swapped i → IsOfPart 3 i
  swapped_part i h = let g = given_out (is_among pairs (y, x)) _ i h in
      ap (λ (j : Instance). part j.rule) g.1

  operation_part : (m n : Node) (i : Instance)
      → Has (operation_rules nodes pairs x y m n) i → IsOfPart 4 i
  operation_part (Mul a b) (Mul c d) i h =
      let g = given_out (is_among pairs (a, c) && is_among pairs (b, d)) _ i h in
      ap (λ (j : Instance). part j.rule) g.1
  operation_part (Div a b) (Div c d) i h =
      let g = given_out (is_among pairs (a, c) && is_among pairs (b, d)) _ i h in
      ap (λ (j : Instance). part j.rule) g.1
  operation_part (Neg a) (Neg b) i h = let g = given_out (is_among pairs (a, b)) _ i h in
      ap (λ (j : Instance). part j.rule) g.1
  operation_part (Add a b) (Add c d) i h =
      let f = found_out (place_of nodes (Div c y)) (λ s. given (is_among pairs (a, c) && is_among
      pairs (b, d)) (rule 61 (slot.Rel a c ∷ slot.Rel b d ∷ slot.Bnd s ∷ []) (slot.Rel x y))) i h in
      let g = given_out (is_among pairs (a, c) && is_among pairs (b, d)) _ i f.2 in
      ap (λ (j : Instance). part j.rule) g.1
  operation_part m n i h = absurd (no_member i h)

  operation_once : (m n : Node) → IsEachOnce (operation_rules nodes pairs x y m n)
  operation_once (Mul a b) (Mul c d) = given_once (is_among pairs (a, c) && is_among pairs (b, d)) _
  operation_once (Div a b) (Div c d) = given_once (is_among pairs (a, c) && is_among pairs (b, d)) _
  operation_once (Neg a) (Neg b) = given_once (is_among pairs (a, b)) _
  operation_once (Add a b) (Add c d) = found_once (place_of nodes (Div c y)) _
      (λ s. given_once (is_among pairs (a, c) && is_among pairs (b, d)) _)
  operation_once m n = once_nil

  -- ---- together
  module _ (m n : Node) where
    abbrev Operations : List Instance
    Operations = operation_rules nodes pairs x y m n

    abbrev After : List Instance
    After = Swapped ++ Operations

    abbrev Quotients : List Instance
    Quotients = found (place_of nodes (Div x y)) Quotient ++ After

    abbrev Behind : List Instance
    Behind = found (place_of nodes (Sub x y)) Differences ++ Quotients

    after_later : (i : Instance) → Has After i → 2 < part i.rule
    after_later i h = elim (has_either Swapped Operations i h) [
      | inl a ↦ later 2 3 i (omega arith) (swapped_part i a)
      | inr b ↦ later 2 4 i (omega arith) (operation_part m n i b)
    ]

    quotients_later : (i : Instance) → Has Quotients i → 1 < part i.rule
    quotients_later i h = elim (has_either (found (place_of nodes (Div x y)) Quotient) After i h) [
      | inl a ↦ later 1 2 i (omega arith) (quotient_part i a)
      | inr b ↦ (let l : 2 < part i.rule = after_later i b in omega (arith, l))
    ]

    behind_later : (i : Instance) → Has Behind i → 0 < part i.rule
    behind_later i h =
        elim (has_either (found (place_of nodes (Sub x y)) Differences) Quotients i h) [
          | inl a ↦ later 0 1 i (omega arith) (difference_part i a)
          | inr b ↦ (let l : 1 < part i.rule = quotients_later i b in omega (arith, l))
        ]

    pub pair_once : IsEachOnce (at_pair nodes pairs x y m n)
    pair_once =
        subst IsEachOnce (append_assoc (pair_rules x y) (twin_rules x y (is_same x y)) Behind)
        (join 0 (pair_rules x y ++ twin_rules x y (is_same x y)) Behind front_part behind_later
        (front_by (is_same x y) refl)
        (join 1 (found (place_of nodes (Sub x y)) Differences)
        Quotients difference_part quotients_later
        (found_once (place_of nodes (Sub x y)) Differences (differences_by (is_same x y)))
        (join 2 (found (place_of nodes (Div x y)) Quotient) After quotient_part after_later
        (found_once (place_of nodes (Div x y)) Quotient (λ q. one_once _))
        (join 3 Swapped Operations swapped_part (λ i h. later 3 4 i (omega arith)
        (operation_part m n i h)) (given_once (is_among pairs (y, x)) _) (operation_once m n)))))

    -- none is the rule of a third expression
    at_most : (k : ℕ) (i : Instance) → k < 5 → IsOfPart k i → part i.rule < 5
    at_most k i l e = omega (arith, l, e)

    all_parts : (i : Instance)
        → Has (pair_rules x y ++ (twin_rules x y (is_same x y) ++ Behind)) i → part i.rule < 5
    all_parts i h =
        elim (has_either (pair_rules x y) (twin_rules x y (is_same x y) ++ Behind) i h) [
          | inl a ↦ at_most 0 i (omega arith)
              (has_all (IsOfPart 0) (pair_rules x y) (refl, (refl, (refl, tt))) i a)
          | inr b ↦ elim (has_either (twin_rules x y (is_same x y)) Behind i b) [
            | inl a ↦ at_most 0 i (omega arith) (twin_part (is_same x y) i a)
            | inr c ↦ elim (has_either
                (found (place_of nodes (Sub x y)) Differences) Quotients i c) [
                  | inl a ↦ at_most 1 i (omega arith) (difference_part i a)
                  | inr d ↦ elim (has_either
                      (found (place_of nodes (Div x y)) Quotient) After i d) [
                        | inl a ↦ at_most 2 i (omega arith) (quotient_part i a)
                        | inr e ↦ elim (has_either Swapped Operations i e) [
                          | inl a ↦ at_most 3 i (omega arith) (swapped_part i a)
                          | inr b ↦ at_most 4 i (omega arith) (operation_part m n i b)
                        ]
                      ]
                ]
          ]
        ]

    pub not_58 : (i : Instance) → Has (at_pair nodes pairs x y m n) i → i.rule ≢ 58
    not_58 i h e = let l : part i.rule < 5 = all_parts i h in
        let p : part i.rule ≡ 5 = ap part e in absurd (omega arith)
