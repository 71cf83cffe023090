-- What one instance concludes, gathered.
use Rattle.std.specs.Prelude.{◌≡◌, ◌<◌, ◌+◌, ◌*◌, ℕ, true, List, length, Option, Some, map, [], ◌∷◌}
use Rattle.std.specs.Prelude.{refl}
use Rattle.std.proofs.Common.{sym, ◌∙◌, ap, subst, inl, inr, arith}
use Rattle.std.proofs.lemmas.Option.{slice_get_within}
use Rattle.pair_closure.specs.Reached.{IsEachOnce}
use Rattle.facts.specs.declared.fact.Fact.{Fact}
use Rattle.facts.specs.declared.fact.Slot.{Slot}
use Rattle.facts.specs.declared.fact.Fact.TheVariants as fact
use Rattle.facts.specs.Order.{slot_of}
use Rattle.theorem_list.specs.Concludes.{concludes}
use Rattle.derivation.specs.Derivations.{Beats}
use Rattle.derivation.specs.Lists.{IsOnTargetList}
use Rattle.derivation.specs.Rounds.{conclusion}
use Rattle.derivation.proofs.Parts.{some_same, conclusion_reads}
use Rattle.rule_universe.specs.declared.placed.Placed.{Placed}
use Rattle.rule_universe.specs.Worlds.{World}
use Rattle.rule_universe.specs.Places.{IsPlace}
use Rattle.rule_universe.specs.Placed.{slots_of}
use Rattle.saturate.specs.Keeping.{IsConcludedBy}
use Rattle.box_trace.specs.declared.known.Known.{Known}
use Rattle.box_trace.specs.declared.ends.Found.{Found}
use Rattle.box_trace.specs.declared.ends.Ends.{Ends}
use Rattle.box_trace.specs.Tables.{row_in, fact_of, known_at}
use Rattle.box_trace.specs.Scans.{IsBeaten, IsNoted, IsScanned}
use Rattle.box_trace.proofs.Rows.{read_at}
use Rattle.box_trace.proofs.Scanned.{scanned_beaten, scanned_noted}

pub map_slots : (place : Slot → ℕ) (row : List Placed)
    → map (λ (p : Placed). place p.slot) row ≡ map place (slots_of row)
map_slots place [] = refl
map_slots place (p ∷ row) = ap (λ l. place p.slot ∷ l) (map_slots place row)

place_inside : (n : ℕ) (u : World) (f : Fact) (p : ℕ) → n ≡ length u.nodes → ¬ (f ≡ fact.Void)
    → IsPlace n u.pairs (slot_of f) p → p < 4 * n + length u.pairs
place_inside n u (fact.Bnd x i) p e d h = let a : x.0 < n = h.0 in
    let b : p ≡ x.0 = h.1 in omega arith
place_inside n u (fact.Abs x i) p e d h = let a : x.0 < n = h.0 in
    let b : p ≡ n + x.0 = h.1 in omega arith
place_inside n u (fact.Fix x i) p e d h = let a : x.0 < n = h.0 in
    let b : p ≡ 2 * n + x.0 = h.1 in omega arith
place_inside n u (fact.Nzr x) p e d h = let a : x.0 < n = h.0 in
    let b : p ≡ 3 * n + x.0 = h.1 in omega arith
place_inside n u (fact.Rel x y i) p e d h = let l = slice_get_within u.pairs h.0 (x, y) h.1 in
    let b : p ≡ 4 * n + h.0 = h.2 in omega (arith, l)
place_inside n u fact.Void p e d h = absurd (d refl)

module _ (u : World) (once : IsEachOnce u.pairs)
    (on_target : IsOnTargetList (concludes u.nodes u.hints)) (now : Known) (k place : ℕ) (c : Fact)
    (w : IsConcludedBy concludes u (known_at u now) k place c) (d : ¬ (c ≡ fact.Void)) where
  -- the place is that of its slot
  pub of_slot : IsPlace (length u.nodes) u.pairs (slot_of c) place
  of_slot =
      let r = conclusion_reads (concludes u.nodes u.hints) (known_at u now) w.0 c w.2 in
      elim (on_target (w.0).rule (w.0).arg r.0 (w.0).target c r.2) [
        | inl q ↦ subst (λ s. IsPlace (length u.nodes) u.pairs s place) (sym q) w.3
        | inr v ↦ absurd (d v)
      ]

  pub taken_beaten : (ends : List (Option Ends))
      → IsBeaten (row_in now.rows.items (Some place)) c true → IsScanned u (known_at u now) ends k
      → IsScanned u (known_at u now) ends (k + 1)
  taken_beaten ends b s =
      let beats : Beats (known_at u now) c =
      ((b.0).fact, ap fact_of (sym (read_at u once now (slot_of c) place of_slot) ∙ b.1), b.2) in
      scanned_beaten u (known_at u now) ends k w.0 w.1 s
      (λ x z. subst (Beats (known_at u now))
      (some_same c x (conclusion (concludes u.nodes u.hints) (known_at u now) w.0) w.2 z) beats)

  pub taken_noted : (old new : List (Option Ends))
      → place < length old → IsNoted old place (record { instance = k; fact = c }) new
      → IsScanned u (known_at u now) old k → IsScanned u (known_at u now) new (k + 1)
  taken_noted old new l noted s =
      let found : Found = record { instance = k; fact = c } in
      scanned_noted u (known_at u now) old new k w.0 found place w.1 (w.0, w.1, w.2) w.2 of_slot
      (place_inside (length u.nodes) u c place refl d of_slot) l noted s
