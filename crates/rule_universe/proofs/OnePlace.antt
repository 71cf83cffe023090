-- A slot has one place, and a place one slot.
use Rattle.std.specs.Prelude.{◌≡◌, ◌<◌, ◌+◌, ◌*◌, ℕ, List, length, slice_get, refl}
use Rattle.std.proofs.Common.{arith, ap, sym, ◌∙◌}
use Rattle.std.proofs.lemmas.Option.{slice_get_within}
use Rattle.pair_closure.specs.Reached.{IsEachOnce}
use Rattle.pair_closure.specs.Closure.{Pair}
use Rattle.pair_closure.proofs.Members.{some-inj}
use Rattle.pair_closure.proofs.Ids.{id_of}
use Rattle.facts.specs.declared.fact.Slot.{Slot}
use Rattle.facts.specs.declared.fact.Slot.TheVariants as slot
use Rattle.rule_universe.specs.Worlds.{IsSlot}
use Rattle.rule_universe.specs.Places.{IsPlace, place_count}

module _ (n : ℕ) (pairs : List Pair) where
  -- a slot with a place is one of the universe's
  pub place_slot : (s : Slot) (p : ℕ) → IsPlace n pairs s p → IsSlot n pairs s
  place_slot (slot.Bnd x) p h = h.0
  place_slot (slot.Abs x) p h = h.0
  place_slot (slot.Fix x) p h = h.0
  place_slot (slot.Nzr x) p h = h.0
  place_slot (slot.Rel x y) p h = (h.0, h.1)
  place_slot slot.Void p h = tt

  -- its place is below the count of places
  pub place_within : (s : Slot) (p : ℕ) → IsPlace n pairs s p → p < place_count n pairs
  place_within (slot.Bnd x) p h = let l : x.0 < n = h.0 in let e : p ≡ x.0 = h.1 in omega arith
  place_within (slot.Abs x) p h = let l : x.0 < n = h.0 in let e : p ≡ n + x.0 = h.1 in omega arith
  place_within (slot.Fix x) p h = let l : x.0 < n = h.0 in
      let e : p ≡ 2 * n + x.0 = h.1 in omega arith
  place_within (slot.Nzr x) p h = let l : x.0 < n = h.0 in
      let e : p ≡ 3 * n + x.0 = h.1 in omega arith
  place_within (slot.Rel x y) p h = let l = slice_get_within pairs h.0 (x, y) h.1 in
      let e : p ≡ 4 * n + h.0 = h.2 in omega (arith, l)
  place_within slot.Void p h = let e : p ≡ 4 * n + length pairs = h in omega arith

  -- where no pair stands twice, a slot has one place
  pub place_once : IsEachOnce pairs → (s : Slot) (p q : ℕ) → IsPlace n pairs s p
      → IsPlace n pairs s q → p ≡ q
  place_once o (slot.Bnd x) p q g h = g.1 ∙ sym h.1
  place_once o (slot.Abs x) p q g h = g.1 ∙ sym h.1
  place_once o (slot.Fix x) p q g h = g.1 ∙ sym h.1
  place_once o (slot.Nzr x) p q g h = g.1 ∙ sym h.1
  place_once o (slot.Rel x y) p q g h =
      g.2 ∙ ap (λ k. 4 * n + k) (o g.0 h.0 (x, y) g.1 h.1) ∙ sym h.2
  place_once o slot.Void p q g h = g ∙ sym h

  -- a place has one slot
  pub slot_once : (s t : Slot) (p : ℕ) → IsPlace n pairs s p → IsPlace n pairs t p → s ≡ t
  slot_once (slot.Bnd x) (slot.Bnd y) p g h = let la : x.0 < n = g.0 in let ea : p ≡ x.0 = g.1 in
      let lb : y.0 < n = h.0 in let eb : p ≡ y.0 = h.1 in ap slot.Bnd (id_of x y (omega arith))
  slot_once (slot.Bnd x) (slot.Abs y) p g h = let la : x.0 < n = g.0 in let ea : p ≡ x.0 = g.1 in
      let lb : y.0 < n = h.0 in let eb : p ≡ n + y.0 = h.1 in absurd (omega arith)
  slot_once (slot.Bnd x) (slot.Fix y) p g h = let la : x.0 < n = g.0 in let ea : p ≡ x.0 = g.1 in
      let lb : y.0 < n = h.0 in let eb : p ≡ 2 * n + y.0 = h.1 in absurd (omega arith)
  slot_once (slot.Bnd x) (slot.Nzr y) p g h = let la : x.0 < n = g.0 in let ea : p ≡ x.0 = g.1 in
      let lb : y.0 < n = h.0 in let eb : p ≡ 3 * n + y.0 = h.1 in absurd (omega arith)
  slot_once (slot.Bnd x) (slot.Rel y w) p g h = let la : x.0 < n = g.0 in let ea : p ≡ x.0 = g.1 in
      let lb = slice_get_within pairs h.0 (y, w) h.1 in let eb : p ≡ 4 * n + h.0 = h.2 in
      absurd (omega (arith, lb))
  slot_once (slot.Bnd x) slot.Void p g h = let la : x.0 < n = g.0 in let ea : p ≡ x.0 = g.1 in
      let eb : p ≡ 4 * n + length pairs = h in absurd (omega arith)
  slot_once (slot.Abs x) (slot.Bnd y) p g h = let la : x.0 < n = g.0 in
      let ea : p ≡ n + x.0 = g.1 in let lb : y.0 < n = h.0 in
      let eb : p ≡ y.0 = h.1 in absurd (omega arith)
  slot_once (slot.Abs x) (slot.Abs y) p g h = let la : x.0 < n = g.0 in
      let ea : p ≡ n + x.0 = g.1 in let lb : y.0 < n = h.0 in let eb : p ≡ n + y.0 = h.1 in
      ap slot.Abs (id_of x y (omega arith))
  slot_once (slot.Abs x) (slot.Fix y) p g h = let la : x.0 < n = g.0 in
      let ea : p ≡ n + x.0 = g.1 in let lb : y.0 < n = h.0 in
      let eb : p ≡ 2 * n + y.0 = h.1 in absurd (omega arith)
  slot_once (slot.Abs x) (slot.Nzr y) p g h = let la : x.0 < n = g.0 in
      let ea : p ≡ n + x.0 = g.1 in let lb : y.0 < n = h.0 in
      let eb : p ≡ 3 * n + y.0 = h.1 in absurd (omega arith)
  slot_once (slot.Abs x) (slot.Rel y w) p g h = let la : x.0 < n = g.0 in
      let ea : p ≡ n + x.0 = g.1 in let lb = slice_get_within pairs h.0 (y, w) h.1 in
      let eb : p ≡ 4 * n + h.0 = h.2 in absurd (omega (arith, lb))
  slot_once (slot.Abs x) slot.Void p g h = let la : x.0 < n = g.0 in let ea : p ≡ n + x.0 = g.1 in
      let eb : p ≡ 4 * n + length pairs = h in absurd (omega arith)
  slot_once (slot.Fix x) (slot.Bnd y) p g h = let la : x.0 < n = g.0 in
      let ea : p ≡ 2 * n + x.0 = g.1 in let lb : y.0 < n = h.0 in
      let eb : p ≡ y.0 = h.1 in absurd (omega arith)
  slot_once (slot.Fix x) (slot.Abs y) p g h = let la : x.0 < n = g.0 in
      let ea : p ≡ 2 * n + x.0 = g.1 in let lb : y.0 < n = h.0 in
      let eb : p ≡ n + y.0 = h.1 in absurd (omega arith)
  slot_once (slot.Fix x) (slot.Fix y) p g h = let la : x.0 < n = g.0 in
      let ea : p ≡ 2 * n + x.0 = g.1 in let lb : y.0 < n = h.0 in let eb : p ≡ 2 * n + y.0 = h.1 in
      ap slot.Fix (id_of x y (omega arith))
  slot_once (slot.Fix x) (slot.Nzr y) p g h = let la : x.0 < n = g.0 in
      let ea : p ≡ 2 * n + x.0 = g.1 in let lb : y.0 < n = h.0 in
      let eb : p ≡ 3 * n + y.0 = h.1 in absurd (omega arith)
  slot_once (slot.Fix x) (slot.Rel y w) p g h = let la : x.0 < n = g.0 in
      let ea : p ≡ 2 * n + x.0 = g.1 in let lb = slice_get_within pairs h.0 (y, w) h.1 in
      let eb : p ≡ 4 * n + h.0 = h.2 in absurd (omega (arith, lb))
  slot_once (slot.Fix x) slot.Void p g h = let la : x.0 < n = g.0 in
      let ea : p ≡ 2 * n + x.0 = g.1 in
      let eb : p ≡ 4 * n + length pairs = h in absurd (omega arith)
  slot_once (slot.Nzr x) (slot.Bnd y) p g h = let la : x.0 < n = g.0 in
      let ea : p ≡ 3 * n + x.0 = g.1 in let lb : y.0 < n = h.0 in
      let eb : p ≡ y.0 = h.1 in absurd (omega arith)
  slot_once (slot.Nzr x) (slot.Abs y) p g h = let la : x.0 < n = g.0 in
      let ea : p ≡ 3 * n + x.0 = g.1 in let lb : y.0 < n = h.0 in
      let eb : p ≡ n + y.0 = h.1 in absurd (omega arith)
  slot_once (slot.Nzr x) (slot.Fix y) p g h = let la : x.0 < n = g.0 in
      let ea : p ≡ 3 * n + x.0 = g.1 in let lb : y.0 < n = h.0 in
      let eb : p ≡ 2 * n + y.0 = h.1 in absurd (omega arith)
  slot_once (slot.Nzr x) (slot.Nzr y) p g h = let la : x.0 < n = g.0 in
      let ea : p ≡ 3 * n + x.0 = g.1 in let lb : y.0 < n = h.0 in let eb : p ≡ 3 * n + y.0 = h.1 in
      ap slot.Nzr (id_of x y (omega arith))
  slot_once (slot.Nzr x) (slot.Rel y w) p g h = let la : x.0 < n = g.0 in
      let ea : p ≡ 3 * n + x.0 = g.1 in let lb = slice_get_within pairs h.0 (y, w) h.1 in
      let eb : p ≡ 4 * n + h.0 = h.2 in absurd (omega (arith, lb))
  slot_once (slot.Nzr x) slot.Void p g h = let la : x.0 < n = g.0 in
      let ea : p ≡ 3 * n + x.0 = g.1 in
      let eb : p ≡ 4 * n + length pairs = h in absurd (omega arith)
  slot_once (slot.Rel x z) (slot.Bnd y) p g h = let la = slice_get_within pairs g.0 (x, z) g.1 in
      let ea : p ≡ 4 * n + g.0 = g.2 in let lb : y.0 < n = h.0 in let eb : p ≡ y.0 = h.1 in
      absurd (omega (arith, la))
  slot_once (slot.Rel x z) (slot.Abs y) p g h = let la = slice_get_within pairs g.0 (x, z) g.1 in
      let ea : p ≡ 4 * n + g.0 = g.2 in let lb : y.0 < n = h.0 in let eb : p ≡ n + y.0 = h.1 in
      absurd (omega (arith, la))
  slot_once (slot.Rel x z) (slot.Fix y) p g h = let la = slice_get_within pairs g.0 (x, z) g.1 in
      let ea : p ≡ 4 * n + g.0 = g.2 in let lb : y.0 < n = h.0 in let eb : p ≡ 2 * n + y.0 = h.1 in
      absurd (omega (arith, la))
  slot_once (slot.Rel x z) (slot.Nzr y) p g h = let la = slice_get_within pairs g.0 (x, z) g.1 in
      let ea : p ≡ 4 * n + g.0 = g.2 in let lb : y.0 < n = h.0 in let eb : p ≡ 3 * n + y.0 = h.1 in
      absurd (omega (arith, la))
  slot_once (slot.Rel x z) (slot.Rel y w) p g h = let la = slice_get_within pairs g.0 (x, z) g.1 in
      let ea : p ≡ 4 * n + g.0 = g.2 in let lb = slice_get_within pairs h.0 (y, w) h.1 in
      let eb : p ≡ 4 * n + h.0 = h.2 in let k : g.0 ≡ h.0 = omega arith in
      let e : (x, z) ≡ (y, w) = some-inj (x, z) (y, w) (sym g.1 ∙ ap (slice_get pairs) k ∙ h.1) in
      ap (λ (q : Pair). slot.Rel q.0 q.1) e
  slot_once (slot.Rel x z) slot.Void p g h = let la = slice_get_within pairs g.0 (x, z) g.1 in
      let ea : p ≡ 4 * n + g.0 = g.2 in let eb : p ≡ 4 * n + length pairs = h in
      absurd (omega (arith, la))
  slot_once slot.Void (slot.Bnd y) p g h = let ea : p ≡ 4 * n + length pairs = g in
      let lb : y.0 < n = h.0 in let eb : p ≡ y.0 = h.1 in absurd (omega arith)
  slot_once slot.Void (slot.Abs y) p g h = let ea : p ≡ 4 * n + length pairs = g in
      let lb : y.0 < n = h.0 in let eb : p ≡ n + y.0 = h.1 in absurd (omega arith)
  slot_once slot.Void (slot.Fix y) p g h = let ea : p ≡ 4 * n + length pairs = g in
      let lb : y.0 < n = h.0 in let eb : p ≡ 2 * n + y.0 = h.1 in absurd (omega arith)
  slot_once slot.Void (slot.Nzr y) p g h = let ea : p ≡ 4 * n + length pairs = g in
      let lb : y.0 < n = h.0 in let eb : p ≡ 3 * n + y.0 = h.1 in absurd (omega arith)
  slot_once slot.Void (slot.Rel y w) p g h = let ea : p ≡ 4 * n + length pairs = g in
      let lb = slice_get_within pairs h.0 (y, w) h.1 in let eb : p ≡ 4 * n + h.0 = h.2 in
      absurd (omega (arith, lb))
  slot_once slot.Void slot.Void p g h = refl
