-- What one more pair does to a set of pairs.
use Rattle.std.specs.Prelude.{◌≡◌, ◌<◌, ◌+◌, Option, None, position, is_some, take, ℕ, Bool, true}
use Rattle.std.specs.Prelude.{false, if◌then◌else◌, List, [], ◌∷◌, ◌++◌, Some, slice_get, length}
use Rattle.std.specs.Prelude.{refl}
use Rattle.std.specs.List.{IsDistinct, list_any}
use Rattle.std.proofs.Common.{inl, inr, arith, ap, sym, ◌∙◌, subst, true≢false, get_or, add-one}
use Rattle.std.proofs.Common.{take_all}
use Rattle.std.proofs.lemmas.List.Quantifiers.{position-Some}
use Rattle.std.proofs.Math.Seq.{take-suc}
use Rattle.std.proofs.lemmas.Option.{slice_get_within, get_or_from_slice_get, slice_get-get_or}
use Rattle.std.proofs.lemmas.Bool.{cases_lt}
use Rattle.std.proofs.lemmas.Map.Keys.{apart_from_distinct}
use Rattle.indexmap.specs.IndexSet.{insert_key}
use Rattle.indexmap.proofs.CallerLemmas.{Contains-list_any}
use Rattle.pair_closure.specs.Closure.{Pair}
use Rattle.pair_closure.specs.Among.{same_pair, is_among, IsPlaceOf}
use Rattle.pair_closure.proofs.Look.{exact, itself, among_in}
use Rattle.pair_closure.specs.Reached.{Has, IsEachOnce}
use Rattle.pair_closure.specs.Grown.{IsGrown}
use Rattle.pair_closure.proofs.Members.{before_last, last_at, ends_with, has_from_contains}

grown_by : (old : List Pair) (p : Pair) (b : Bool) → list_any (same_pair p) old ≡ b
    → IsGrown old (if b then old else old ++ p ∷ []) (λ q. q ≡ p)
grown_by old p true e = record {
  kept = λ k x h. h;
  only = λ x h. inl h;
  each = λ x q. subst (Has old) (sym q)
      (has_from_contains old p (Contains-list_any same_pair exact old p e));
}
grown_by old p false e = record {
  kept = λ k x h. before_last old p k x h;
  only = λ x h. elim (ends_with old p h.0 x h.1) [ inl a ↦ inl (h.0, a) | inr b ↦ inr b.1 ];
  each = λ x q. subst (Has (old ++ p ∷ [])) (sym q) (length old, last_at old p);
}

pub grown : (old : List Pair) (p : Pair) → IsGrown old (insert_key same_pair old p) (λ q. q ≡ p)
grown old p = grown_by old p (list_any (same_pair p) old) refl

-- keys with no two equal stand once each
pub once : (ks : List Pair) → IsDistinct same_pair ks → IsEachOnce ks
once ks d i j x a b = elim (cases_lt i j) [
  | inl h ↦ absurd (clash i j h a b)
  | inr h ↦ elim (cases_lt j i)
      [ inl g ↦ absurd (clash j i g b a) | inr g ↦ (let m : i ≡ j = omega arith in m) ]
]
  where
    clash : (i j : ℕ) → i < j → slice_get ks i ≡ Some x → slice_get ks j ≡ Some x → ⊥
    clash i j h a b =
        let apart = apart_from_distinct same_pair ks i j x d h (slice_get_within ks j x b) in
        true≢false (sym (itself x) ∙ (λ k. same_pair (sym (get_or_from_slice_get ks i x x a) k)
        (sym (get_or_from_slice_get ks j x x b) k)) ∙ apart)

-- the first place at which a pair stands
pub placed : (ps : List Pair) (p : Pair) (o : Option ℕ) → o ≡ position (same_pair p) ps
    → is_some o ≡ is_among ps p → IsPlaceOf ps p o
placed ps p (Some k) e f = let at = position-Some (same_pair p) ps k p (sym e) in
    slice_get-get_or ps k p at.0 ∙ ap Some (sym (exact p (get_or ps k p) at.1))
placed ps p None e f = λ h. true≢false (sym (among_in ps p h) ∙ sym f)

-- one more pair of those that are copied
pub copied_more : (ps : List Pair) (i : ℕ) (p : Pair) → slice_get ps i ≡ Some p
    → take (i + 1) ps ≡ take i ps ++ p ∷ []
copied_more ps i p e =
    rw (add-one i) (take-suc ps i p (slice_get_within ps i p e))
    ∙ ap (λ q. take i ps ++ q ∷ []) (get_or_from_slice_get ps i p p e)

-- all of them
pub taken_all : {A : Type 0} (xs : List A) (i : ℕ) → i ≡ length xs → take i xs ≡ xs
taken_all xs i e = take_all i xs (omega arith)
