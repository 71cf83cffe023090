-- What holds of each item of parts that are being read.
use Rattle.std.proofs.Common.{◌≡◌, ℕ, zero, suc, List, [], ◌∷◌, ◌++◌, Some, sym, ap, ◌∙◌, subst}
use Rattle.std.proofs.Common.{append-nil}
use Rattle.std.specs.List.{flat_map, slice_get, AllByRecursion}
use Rattle.std.proofs.lemmas.Grind.{flat_map-append}
use Rattle.script_cases.specs.Cases.{cases, all_items}
use Rattle.script_cases.proofs.Counted.{all_of_cases}
use Rattle.script_cases.specs.Parts.{Parts, with_item, part_of, behind_or, behind_arrow}
use Rattle.script_cases.proofs.Lists.{all_joined, all_front, all_behind}
use Rattle.script_claims.specs.Ranges.{AllInParts}

one_last : {X : Type 0} (a : List (List X)) (c : List X)
    → flat_map (λ x. x) (a ++ (c ∷ [])) ≡ flat_map (λ x. x) a ++ c
one_last a c =
    flat_map-append (λ x. x) a (c ∷ []) ∙ ap (λ l. flat_map (λ x. x) a ++ l) (append-nil c)

module _ {X : Type 0} (P : X → Type 0) (p : Parts X) where
  pub item_in_parts : (x : X) → AllInParts P p → P x → AllInParts P (with_item p x)
  item_in_parts x h q = record {
    before = h.before;
    ended = h.ended;
    last = all_joined P p.last (x ∷ []) h.last (q, tt);
  }

  whole : AllInParts P p → AllByRecursion P (flat_map (λ c. c) (part_of p))
  whole h = subst (AllByRecursion P) (sym (one_last p.ended p.last))
      (all_joined P (flat_map (λ c. c) p.ended) p.last h.ended h.last)

  pub or_in_parts : AllInParts P p → AllInParts P (behind_or p)
  or_in_parts h = record { before = h.before; ended = whole h; last = tt }

items_joined : {X : Type 0} (P : X → Type 0) (a b : List (List (List X)))
    → AllByRecursion P (all_items a) → AllByRecursion P (all_items b)
    → AllByRecursion P (all_items (a ++ b))
items_joined P [] b h k = k
items_joined P (p ∷ a) b h k = all_joined P (flat_map (λ c. c) p)
    (all_items (a ++ b)) (all_front P (flat_map (λ c. c) p) (all_items a) h)
    (items_joined P a b (all_behind P (flat_map (λ c. c) p) (all_items a) h) k)

pub arrow_in_parts : {X : Type 0} (P : X → Type 0) (p : Parts X) → AllInParts P p
    → AllInParts P (behind_arrow p)
arrow_in_parts P p h = record {
  before = items_joined P p.before (part_of p ∷ []) h.before
      (all_joined P (flat_map (λ c. c) (part_of p)) [] (whole P p h) tt);
  ended = tt;
  last = tt;
}

-- what all items of conjunctions have, those of each have
pub each_part : {X : Type 0} (P : X → Type 0) (cs : List (List X))
    → AllByRecursion P (flat_map (λ c. c) cs) → AllByRecursion (AllByRecursion P) cs
each_part P [] h = tt
each_part P (c ∷ cs) h = (
  all_front P c (flat_map (λ x. x) cs) h,
  each_part P cs (all_behind P c (flat_map (λ x. x) cs) h),
)

one_of : {X : Type 0} (P : X → Type 0) (xs : List X) (n : ℕ) (x : X) → AllByRecursion P xs
    → slice_get xs n ≡ Some x → P x
one_of P [] n x h e = absurd (cc e)
one_of P (y ∷ xs) zero x h e = let same : y ≡ x = cc e in subst P same h.0
one_of P (y ∷ xs) (suc n) x h e = one_of P xs n x h.1 e

-- the conjunctions that a case takes
pub case_parts : {X : Type 0} (P : X → Type 0) (parts : List (List (List X))) (n : ℕ)
    (cs : List (List X)) → AllByRecursion P (all_items parts)
    → slice_get (cases parts) n ≡ Some (flat_map (λ c. c) cs)
    → AllByRecursion (AllByRecursion P) cs
case_parts P parts n cs h e =
    each_part P cs (one_of (AllByRecursion P) (cases parts) n (flat_map (λ c. c) cs)
    (all_of_cases P parts h) e)
