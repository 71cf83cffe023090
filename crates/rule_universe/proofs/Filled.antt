-- Going through premises, and through instances.
use Rattle.std.specs.Prelude.{◌≡◌, ◌⊎◌, ◌↔◌, ◌<◌, ◌≤◌, ◌+◌, ℕ, List, [], ◌∷◌, ◌++◌, Some, slice_get}
use Rattle.std.specs.Prelude.{length, take, map, Contains}
use Rattle.std.proofs.Common.{inl, inr, arith, ap, sym, ◌∙◌, subst, get_or, add-one}
use Rattle.std.proofs.Math.Seq.{take-suc}
use Rattle.std.proofs.lemmas.List.{take_all, length-map}
use Rattle.std.proofs.lemmas.List.Elements.{Contains-push, Contains-push_cases}
use Rattle.std.proofs.lemmas.List.Elements.{Contains-append_left}
use Rattle.std.proofs.lemmas.Option.{slice_get_within, get_or_from_slice_get}
use Rattle.std.proofs.lemmas.Bool.{cases_lt}
use Rattle.pair_closure.specs.Reached.{Has, IsEachOnce}
use Rattle.pair_closure.specs.Closure.{Pair}
use Rattle.pair_closure.proofs.Members.{some-inj, none_at, has_from_contains}
use Rattle.facts.specs.declared.fact.Slot.{Slot}
use Rattle.facts.specs.declared.instance.Instance.{Instance}
use Rattle.rule_universe.specs.Places.{IsPlace, place_count}
use Rattle.rule_universe.specs.Users.{AreUsers}
use Rattle.rule_universe.specs.Rows.{RowsUpTo, IsAdded, IsPlaceOfOne, AreRows}
use Rattle.rule_universe.proofs.OnePlace.{place_once, slot_once}

-- ---- rows of Q and rows of R
pub added_as : (old new : List (List ℕ)) (k : ℕ) (Q R : ℕ → Type 0) → ((p : ℕ) → Q p ↔ R p)
    → IsAdded old new k Q → IsAdded old new k R
added_as old new k Q R same added p j = (
  λ h. elim ((added p j).0 h) [ inl g ↦ inl g | inr g ↦ inr (g.0, (same p).0 g.1) ],
  λ h. (added p j).1 (elim h [ inl g ↦ inl g | inr g ↦ inr (g.0, (same p).1 g.1) ]),
)

added_both : (old mid new : List (List ℕ)) (k : ℕ) (Q R : ℕ → Type 0) → IsAdded old mid k Q
    → IsAdded mid new k R → IsAdded old new k (λ p. Q p ⊎ R p)
added_both old mid new k Q R first second p j = (
  λ h. elim ((second p j).0 h) [
    | inl g ↦ elim ((first p j).0 g) [ inl f ↦ inl f | inr f ↦ inr (f.0, inl f.1) ]
    | inr g ↦ inr (g.0, inr g.1)
  ],
  λ h. (second p j).1 (elim h [
    | inl g ↦ inl ((first p j).1 (inl g))
    | inr g ↦ elim g.1 [ inl q ↦ inl ((first p j).1 (inr (g.0, q))) | inr r ↦ inr (g.0, r) ]
  ]),
)

pub placed_as : (n : ℕ) (pairs : List Pair) → IsEachOnce pairs → (s : Slot) (p : ℕ)
    → IsPlace n pairs s p → (q : ℕ) → (q ≡ p) ↔ IsPlace n pairs s q
placed_as n pairs once s p at q =
    (λ e. subst (IsPlace n pairs s) (sym e) at, λ h. place_once n pairs once s q p h at)

-- ---- rows, read through what holds them
pub mapped_count : {V : Type 0} (f : V → List ℕ) (old new : List V) → length new ≡ length old
    → length (map f new) ≡ length (map f old)
mapped_count f old new e = length-map new f ∙ e ∙ sym (length-map old f)

pub held_count : {V : Type 0} (f : V → List ℕ) (rows : List V) (k : ℕ) → length rows ≡ k
    → length (map f rows) ≡ k
held_count f rows k e = length-map rows f ∙ e

pub held_within : {V : Type 0} (f : V → List ℕ) (rows : List V) (k : ℕ)
    → length (map f rows) ≡ k → length rows ≡ k
held_within f rows k e = sym (length-map rows f) ∙ e

-- ---- premises
module _ (n : ℕ) (pairs : List Pair) (ss : List Slot) where
  one_more : (i : ℕ) (d : Slot) → i < length ss → (p : ℕ) → (IsPlaceOfOne n pairs (take i ss) p
      ⊎ IsPlace n pairs (get_or ss i d) p) ↔ IsPlaceOfOne n pairs (take (i + 1) ss) p
  one_more i d l p =
      let longer : take (i + 1) ss ≡ take i ss ++ get_or ss i d ∷ [] =
      rw (add-one i) (take-suc ss i d l) in (
        λ h. subst (λ l. IsPlaceOfOne n pairs l p) (sym longer) (elim h [
          | inl g ↦ (g.0, Contains-append_left (take i ss) (get_or ss i d ∷ []) g.0 g.1, g.2)
          | inr g ↦ (get_or ss i d, Contains-push (take i ss) (get_or ss i d), g)
        ]),
        λ h.
            let g = subst (λ l. IsPlaceOfOne n pairs l p) longer h in
            elim (Contains-push_cases (take i ss) (get_or ss i d) g.0 g.1) [
              | inl y ↦ inl (g.0, y, g.2)
              | inr e ↦ inr (subst (λ s. IsPlace n pairs s p) (sym e) g.2)
            ],
      )

  pub premises_start : (rows : List (List ℕ)) (k : ℕ)
      → IsAdded rows rows k (IsPlaceOfOne n pairs (take 0 ss))
  premises_start rows k p j = (
    λ h. inl h,
    λ h. elim h
        [ inl g ↦ g | inr g ↦ absurd (let w = g.1.1 in let l : w.0 < 0 = w.1 in omega arith) ],
  )

  pub premises_more : (old mid new : List (List ℕ)) (k i : ℕ) (d : Slot)
      → i < length ss → IsAdded old mid k (IsPlaceOfOne n pairs (take i ss))
      → IsAdded mid new k (IsPlace n pairs (get_or ss i d))
      → IsAdded old new k (IsPlaceOfOne n pairs (take (i + 1) ss))
  premises_more old mid new k i d l first second =
      added_as old new k (λ p. IsPlaceOfOne n pairs (take i ss) p
      ⊎ IsPlace n pairs (get_or ss i d) p) (IsPlaceOfOne n pairs (take (i + 1) ss)) (one_more i d l)
      (added_both old mid new k (IsPlaceOfOne n pairs (take i ss))
      (IsPlace n pairs (get_or ss i d)) first second)

  pub premises_end : (old new : List (List ℕ)) (k i : ℕ)
      → length ss ≤ i → IsAdded old new k (IsPlaceOfOne n pairs (take i ss))
      → IsAdded old new k (IsPlaceOfOne n pairs ss)
  premises_end old new k i l h =
      subst (λ l. IsAdded old new k (IsPlaceOfOne n pairs l)) (take_all i ss l) h

-- ---- instances
module _ (n : ℕ) (pairs : List Pair) (instances : List Instance) where
  pub instances_start : (rows : List (List ℕ)) → length rows ≡ place_count n pairs
      → ((p : ℕ) (row : List ℕ) → slice_get rows p ≡ Some row → row ≡ [])
      → AreRows n pairs instances 0 rows
  instances_start rows e blank = record {
    count = e;
    exactly = λ p j. (
      λ h. absurd (let g = subst (λ r. Has r j) (blank p h.0 h.1) h.2 in none_at j g.1),
      λ h. absurd (let l : j < 0 = h.0 in omega arith),
    );
    rising = λ p row e i j k l m f.
        absurd (let g = subst (λ r. slice_get r i ≡ Some k) (blank p row e) f in none_at k g);
  }

  pub rows_up_to : (m : ℕ) (rows : List (List ℕ))
      → AreRows n pairs instances m rows → RowsUpTo m rows
  rows_up_to m rows are p row e = record {
    rising = are.rising p row e;
    most = λ j h. let w = (are.exactly p j).0 (row, e, h) in let l : j < m = w.0 in omega arith;
  }

  pub instances_more : (m : ℕ) (old new : List (List ℕ)) (i : Instance)
      → slice_get instances m ≡ Some i → AreRows n pairs instances m old
      → length new ≡ length old → RowsUpTo m new
      → IsAdded old new m (IsPlaceOfOne n pairs i.premises) → AreRows n pairs instances (m + 1) new
  instances_more m old new i at are count up added = record {
    count = count ∙ are.count;
    exactly = λ p j. (
      λ h. elim ((added p j).0 h) [
        | inl g ↦ (let w = (are.exactly p j).0 g in let l : j < m = w.0 in (omega arith, w.1))
        | inr g ↦ (let e : j ≡ m = g.0 in (omega arith, (i, ap (slice_get instances) e ∙ at, g.1)))
      ],
      λ h. (added p j).1 (elim (cases_lt j m) [
        | inl l ↦ inl ((are.exactly p j).1 (l, h.1))
        | inr l ↦
            let w : j < m + 1 = h.0 in
            let e : j ≡ m = omega arith in
            let same : h.1.0 ≡ i = some-inj h.1.0 i (sym h.1.1 ∙ ap (slice_get instances) e ∙ at) in
            inr (e, subst (λ (x : Instance). IsPlaceOfOne n pairs x.premises p) same h.1.2)
      ]),
    );
    rising = λ p row e. (up p row e).rising;
  }

  pub instances_end : (m : ℕ) (rows : List (List ℕ)) → m ≡ length instances
      → AreRows n pairs instances m rows → AreRows n pairs instances (length instances) rows
  instances_end m rows e h = subst (λ k. AreRows n pairs instances k rows) e h

  contains_from_has : (ks : List ℕ) (k : ℕ) → Has ks k → Contains ks k
  contains_from_has ks k h =
      (h.0, slice_get_within ks h.0 k h.1, get_or_from_slice_get ks h.0 k k h.1)

  -- the row of a slot's place
  pub row_users : (rows : List (List ℕ)) → AreRows n pairs instances (length instances) rows
      → (s : Slot) (p : ℕ) → IsPlace n pairs s p → (row : List ℕ) → slice_get rows p ≡ Some row
      → AreUsers instances s row
  row_users rows are s p at row e = record {
    exactly = λ k. (
      λ h.
          let w = (are.exactly p k).0 (row, e, has_from_contains row k h) in
          let taken = w.1.2 in (
            w.1.0,
            w.1.1,
            subst (Contains w.1.0.premises) (slot_once n pairs taken.0 s p taken.2 at) taken.1,
          ),
      λ h.
          let g = (are.exactly p k).1
          (slice_get_within instances k h.0 h.1, (h.0, h.1, (s, h.2, at))) in
          let same : g.0 ≡ row = some-inj g.0 row (sym g.1 ∙ e) in
          contains_from_has row k (subst (λ r. Has r k) same g.2),
    );
    rising = are.rising p row e;
  }
