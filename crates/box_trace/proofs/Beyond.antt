-- Premises beyond four, by the places of instances' targets: each instance aims at one place.
use Rattle.std.specs.Prelude.{◌≡◌, ◌<◌, ◌≤◌, ◌+◌, ◌*◌, ◌-◌, ◌==◌, ℕ, zero, suc, Bool, true, false}
use Rattle.std.specs.Prelude.{List, [], ◌∷◌, length, Option, Some, None, slice_get, if◌then◌else◌}
use Rattle.std.specs.Prelude.{refl}
use Rattle.std.proofs.Common.{arith, sym, ap, subst, ◌∙◌, inl, inr, add-one, rules}
use Rattle.std.proofs.lemmas.Bool.{eqb-true}
use Rattle.pair_closure.specs.Reached.{IsEachOnce}
use Rattle.facts.specs.declared.fact.Fact.{Fact}
use Rattle.facts.specs.declared.fact.Fact.TheVariants as fact
use Rattle.facts.specs.declared.instance.Instance.{Instance}
use Rattle.facts.specs.Order.{slot_of}
use Rattle.theorem_list.specs.Concludes.{concludes}
use Rattle.derivation.specs.Derivations.{At}
use Rattle.derivation.specs.Lists.{IsOnTargetList}
use Rattle.derivation.proofs.Parts.{conclusion_reads}
use Rattle.rule_universe.specs.Worlds.{World}
use Rattle.rule_universe.specs.Places.{IsPlace}
use Rattle.rule_universe.specs.Sizes.{beyond_four}
use Rattle.box_trace.specs.declared.ends.Found.{Found}
use Rattle.box_trace.specs.declared.ends.Ends.{Ends}
use Rattle.box_trace.specs.Tables.{row_of}
use Rattle.box_trace.specs.Rounds.{beyond_in}
use Rattle.box_trace.specs.Logs.{more_by}
use Rattle.box_trace.specs.Scans.{IsConclusion, AreEndsOf}
use Rattle.box_trace.proofs.Rows.{place_row}

-- so much at this place, and nothing at any other
abbrev pub at_place : Option ℕ → ℕ → ℕ → ℕ
at_place None q x = 0
at_place (Some p) q x = if p == q then x else 0

-- the sum over the places below m
abbrev pub sum_below : (ℕ → ℕ) → ℕ → ℕ
sum_below f zero = 0
sum_below f (suc m) = sum_below f m + f m

-- what the instances whose targets have this place have beyond four premises
abbrev pub beyond_at : World → List Instance → ℕ → ℕ
beyond_at u [] q = 0
beyond_at u (i ∷ instances) q =
    at_place (row_of (length u.nodes) u.pairs i.target) q (length i.premises - 4)
    + beyond_at u instances q

-- and those whose targets have a place below m
abbrev pub beyond_below : World → ℕ → ℕ
beyond_below u m = sum_below (beyond_at u u.instances) m

-- ---- sums
sum_both : (f g : ℕ → ℕ) (m : ℕ)
    → sum_below (λ q. f q + g q) m ≡ sum_below f m + sum_below g m
sum_both f g zero = omega arith
sum_both f g (suc m) = let h = sum_both f g m in omega (arith, h)

sum_none : (m : ℕ) → sum_below (λ q. 0) m ≡ 0
sum_none zero = refl
sum_none (suc m) = let h = sum_none m in omega (arith, h)

-- nothing below its place, and never more than once
sum_once : (p x m : ℕ) → (sum_below (λ q. at_place (Some p) q x) m ≤ x)
    × (m ≤ p → sum_below (λ q. at_place (Some p) q x) m ≡ 0)
sum_once p x zero = (omega arith, λ l. refl)
sum_once p x (suc m) = by_test (p == m) refl (sum_once p x m)
  where
    by_test : (b : Bool) → (p == m) ≡ b
        → (sum_below (λ q. at_place (Some p) q x) m ≤ x)
        × (m ≤ p → sum_below (λ q. at_place (Some p) q x) m ≡ 0)
        → (sum_below (λ q. at_place (Some p) q x) m + (if b then x else 0) ≤ x)
        × (suc m ≤ p → sum_below (λ q. at_place (Some p) q x) m + (if b then x else 0) ≡ 0)
    by_test true e h =
        let same : p ≡ m = eqb-true p m e in
        let none = h.1 (omega (arith, same)) in
        (omega (arith, none), λ l. absurd (omega (arith, same, l)))
    by_test false e h =
        let less = h.0 in
        (omega (arith, less), λ l. let none = h.1 (omega (arith, l)) in omega (arith, none))

sum_at : (o : Option ℕ) (x m : ℕ) → sum_below (λ q. at_place o q x) m ≤ x
sum_at None x m = let h = sum_none m in omega (arith, h)
sum_at (Some p) x m = (sum_once p x m).0

sum_instances : (u : World) (instances : List Instance) (m : ℕ)
    → sum_below (beyond_at u instances) m ≤ beyond_four instances
sum_instances u [] m = let h = sum_none m in omega (arith, h)
sum_instances u (i ∷ instances) m =
    let t = row_of (length u.nodes) u.pairs i.target in
    let x = length i.premises - 4 in
    let both = sum_both (λ q. at_place t q x) (beyond_at u instances) m in
    let one = sum_at t x m in
    let more = sum_instances u instances m in
    omega (arith, both, one, more)

-- Whatever the places, all have no more than the instances.
pub beyond_most : (u : World) (m : ℕ) → beyond_below u m ≤ beyond_four u.instances
beyond_most u m = sum_instances u u.instances m

pub beyond_next : (u : World) (m : ℕ)
    → beyond_below u (m + 1) ≡ beyond_below u m + beyond_at u u.instances m
beyond_next u m = ap (sum_below (beyond_at u u.instances)) (add-one m)

-- ---- one instance
self_place : (q x : ℕ) → at_place (Some q) q x ≡ x
self_place q x = let e : (q == q) ≡ true = search rules in ap (λ b. if b then x else 0) e

among_at : (u : World) (instances : List Instance) (k : ℕ) (i : Instance) (q : ℕ)
    → slice_get instances k ≡ Some i → row_of (length u.nodes) u.pairs i.target ≡ Some q
    → length i.premises - 4 ≤ beyond_at u instances q
among_at u [] k i q e t = cc
among_at u (j ∷ instances) zero i q e t =
    let same : j ≡ i = cc in
    let x = length j.premises - 4 in
    let there : row_of (length u.nodes) u.pairs j.target ≡ Some q =
    ap (λ (j : Instance). row_of (length u.nodes) u.pairs j.target) same ∙ t in
    let here : at_place (row_of (length u.nodes) u.pairs j.target) q x ≡ x =
    ap (λ o. at_place o q x) there ∙ self_place q x in
    let as_many : x ≡ length i.premises - 4 =
    ap (λ (j : Instance). length j.premises - 4) same in
    omega (arith, here, as_many)
among_at u (j ∷ instances) (suc k) i q e t =
    let h = among_at u instances k i q e t in omega (arith, h)

among_all : (instances : List Instance) (k : ℕ)
    → beyond_in (slice_get instances k) ≤ beyond_four instances
among_all [] k = omega arith
among_all (j ∷ instances) zero = omega arith
among_all (j ∷ instances) (suc k) = let h = among_all instances k in omega (arith, h)

-- An instance has no more than all have,
pub beyond_one : (u : World) (found : Found) → more_by u found ≤ beyond_four u.instances
beyond_one u found = among_all u.instances found.instance

-- and no more than those that aim at its place.
module _ (u : World) (once : IsEachOnce u.pairs)
    (on_target : IsOnTargetList (concludes u.nodes u.hints)) (at : At) (p : ℕ)
    (inside : p < 4 * length u.nodes + length u.pairs) where
  not_there : (f : Fact) → f ≡ fact.Void → IsPlace (length u.nodes) u.pairs (slot_of f) p → ⊥
  not_there f e h =
      let l : p ≡ 4 * length u.nodes + length u.pairs =
      subst (λ (f : Fact). IsPlace (length u.nodes) u.pairs (slot_of f) p) e h in
      omega (arith, l)

  beyond_here : (found : Found) → IsConclusion u at found
      → IsPlace (length u.nodes) u.pairs (slot_of found.fact) p
      → more_by u found ≤ beyond_at u u.instances p
  beyond_here found w h =
      let r = conclusion_reads (concludes u.nodes u.hints) at w.0 found.fact w.2 in
      let t : IsPlace (length u.nodes) u.pairs (w.0).target p =
      elim (on_target (w.0).rule (w.0).arg r.0 (w.0).target found.fact r.2) [
        | inl q ↦ subst (λ s. IsPlace (length u.nodes) u.pairs s p) q h
        | inr v ↦ absurd (not_there found.fact v h)
      ] in
      let row = place_row (length u.nodes) u.pairs once (w.0).target p t in
      let l = among_at u u.instances found.instance w.0 p w.1 row in
      subst (λ o. beyond_in o ≤ beyond_at u u.instances p) (sym w.1) l

  -- Both ends of a slot have no more than twice what aims at its place.
  pub beyond_both : (e : Ends) → AreEndsOf u at p e
      → more_by u e.low + more_by u e.high ≤ 2 * beyond_at u u.instances p
  beyond_both e ends =
      let low = beyond_here e.low ends.low ends.low_place in
      let high = beyond_here e.high ends.high ends.high_place in
      omega (arith, low, high)
