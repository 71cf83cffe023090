-- Sorted pairs rise.
use Rattle.std.specs.Prelude.{◌≡◌, ◌↔◌, ◌<◌, ◌≤◌, List, Some, slice_index_or}
use Rattle.std.specs.List.Sorted.{IsNonDecreasingBy, IsPermutation}
use Rattle.std.proofs.Common.{inl, inr, arith, ap, ◌∙◌, subst}
use Rattle.std.proofs.lemmas.List.Sorted.{Contains-permutation, IsPermutation-sym}
use Rattle.std.proofs.lemmas.Option.{slice_get_within, get_or_from_slice_get}
use Rattle.std.proofs.lemmas.Bool.{cases_lt}
use Rattle.pair_closure.specs.Reached.{Has, IsEachOnce}
use Rattle.pair_closure.proofs.Reached.{has_contains}
use Rattle.pair_closure.proofs.Members.{has_from_contains}
use Rattle.pair_closure.specs.Closure.{Pair, AreBelow, rank, AreRising}

-- ---- what a sort leaves
pub permuted : (xs ys : List Pair) → IsPermutation xs ys → (p : Pair) → Has ys p ↔ Has xs p
permuted xs ys m p = (
  λ h. has_from_contains xs p
      (Contains-permutation ys xs p (IsPermutation-sym xs ys m) (has_contains ys p h)),
  λ h. has_from_contains ys p (Contains-permutation xs ys p m (has_contains xs p h)),
)

-- pairs of one rank are one
same_rank : (p q : Pair) → (p.1).0 < 65536 → (q.1).0 < 65536 → rank p ≡ rank q → p ≡ q
same_rank p q a b e =
    let first : (p.0).0 ≡ (q.0).0 = omega (arith, a, b, e) in
    let second : (p.1).0 ≡ (q.1).0 = omega (arith, a, b, e) in
    (λ i. (record { 0 = first i }, record { 0 = second i }))

pub rising : (ps : List Pair) → AreBelow 65536 ps → IsEachOnce ps
    → IsNonDecreasingBy rank ps → AreRising ps
rising ps known once up i j p q a b l =
    let within = slice_get_within ps j q b in
    let le : rank p ≤ rank q = subst (λ (x : Pair). rank x ≤ rank q)
    (get_or_from_slice_get ps i p p a) (subst (λ (x : Pair). rank (slice_index_or ps i p) ≤ rank x)
    (get_or_from_slice_get ps j q p b) (up i j p (omega arith) within)) in
    elim (cases_lt (rank p) (rank q)) [
      | inl s ↦ s
      | inr s ↦
          let e : rank p ≡ rank q = omega (arith, le, s) in
          let same : p ≡ q = same_rank p q ((known p (i, a)).1) ((known q (j, b)).1) e in
          let clash : i ≡ j = once i j q (a ∙ ap Some same) b in
          absurd (omega (arith, l, clash))
    ]
