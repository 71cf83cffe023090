-- One conclusion more of a round, and what it comes to when all were seen and written.
use lib.ListN.{replicate}
use Rattle.std.specs.Prelude.{◌≡◌, ◌≢◌, ◌⊎◌, ◌<◌, ◌≤◌, ◌+◌, ◌*◌, ℕ, zero, suc, List, length, Option}
use Rattle.std.specs.Prelude.{Some, None, slice_get, refl}
use Rattle.std.proofs.Common.{sym, ◌∙◌, ap, subst, inl, inr, arith}
use Rattle.std.proofs.lemmas.Bool.{cases_lt}
use Rattle.std.proofs.lemmas.Bool.Decides.{eqb_tells}
use Rattle.std.proofs.lemmas.Option.{slice_get_within}
use Rattle.facts.specs.declared.fact.Fact.{Fact}
use Rattle.facts.specs.declared.fact.Fact.TheVariants as fact
use Rattle.facts.specs.declared.instance.Instance.{Instance}
use Rattle.facts.specs.Order.{slot_of}
use Rattle.facts.proofs.Laws.{IsStronger-trans}
use Rattle.theorem_list.specs.Concludes.{concludes}
use Rattle.derivation.specs.Derivations.{At, Beats}
use Rattle.derivation.specs.Rounds.{conclusion, Improves, IsAhead, AllSeen}
use Rattle.derivation.proofs.Parts.{some_same}
use Rattle.derivation.proofs.Ahead.{ahead_fewer, ahead_step}
use Rattle.rule_universe.specs.Worlds.{World}
use Rattle.rule_universe.specs.Places.{IsPlace}
use Rattle.rule_universe.proofs.OnePlace.{slot_once}
use Rattle.saturate.specs.Universes.{setting_of}
use Rattle.saturate.proofs.Lists.{get_set_here, get_set_there}
use Rattle.box_trace.specs.declared.ends.Found.{Found}
use Rattle.box_trace.specs.declared.ends.Ends.{Ends}
use Rattle.box_trace.specs.Ends.{IsLowBy, IsHighBy}
use Rattle.box_trace.specs.Scans.{IsConclusion, held, ends_in, IsWith, IsNoted, AreEndsOf, HasEnds}
use Rattle.box_trace.specs.Scans.{IsScanned, IsWide}
use Rattle.box_trace.proofs.Rounded.{ends_beat}
use Rattle.box_trace.proofs.EndsOrder.{low_refl, high_refl}

none_at : {X : Type 0} (n p : ℕ) (v : X)
    → (slice_get (replicate n v) p ≡ Some v) ⊎ (slice_get (replicate n v) p ≡ None)
none_at zero p v = inr refl
none_at (suc n) zero v = inl refl
none_at (suc n) (suc p) v = none_at n p v

-- in a list of nothing there is nothing
pub none_in : (rows : List (Option Ends)) (n : ℕ) → rows ≡ replicate n None
    → (p : ℕ) → ends_in rows p ≡ None
none_in rows n e p = ap (λ l. held (slice_get l p)) e
    ∙ elim (none_at n p None) [ inl h ↦ ap held h | inr h ↦ ap held h ]

module _ (u : World) (at : At) where
  -- ---- one conclusion is noted
  module _ (old new : List (Option Ends)) (p : ℕ) (found : Found) (w : IsNoted old p found new)
      (l : p < length old) where
    noted_here : ends_in new p ≡ Some w.0
    noted_here = ap (λ rows. ends_in rows p) w.1 ∙ ap held (get_set_here old p (Some w.0) l)

    noted_there : (q : ℕ) → p ≢ q → ends_in new q ≡ ends_in old q
    noted_there q d = ap (λ rows. ends_in rows q) w.1 ∙ ap held (get_set_there old p q (Some w.0) d)

    module _ (c : IsConclusion u at found)
        (h : IsPlace (length u.nodes) u.pairs (slot_of found.fact) p) where
      with_ends : (o : Option Ends) → ends_in old p ≡ o → ((e : Ends) → o ≡ Some e
          → AreEndsOf u at p e) → (e : Ends) → IsWith o found e → AreEndsOf u at p e
      with_ends None q before e j = record {
        low = subst (IsConclusion u at) (sym j.0) c;
        high = subst (IsConclusion u at) (sym j.1) c;
        low_place =
            subst (λ (f : Found). IsPlace (length u.nodes) u.pairs (slot_of f.fact) p) (sym j.0) h;
        high_place =
            subst (λ (f : Found). IsPlace (length u.nodes) u.pairs (slot_of f.fact) p) (sym j.1) h;
      }
      with_ends (Some b) q before e j =
          let k = before b refl in
          record {
            low = elim j.0 [
              | inl y ↦ subst (IsConclusion u at) (sym y) k.low
              | inr y ↦ subst (IsConclusion u at) (sym y) c
            ];
            high = elim j.1 [
              | inl y ↦ subst (IsConclusion u at) (sym y) k.high
              | inr y ↦ subst (IsConclusion u at) (sym y) c
            ];
            low_place = elim j.0 [
              | inl y ↦ subst (λ (f : Found). IsPlace (length u.nodes) u.pairs (slot_of f.fact) p)
                  (sym y) k.low_place
              | inr y ↦ subst (λ (f : Found).
                  IsPlace (length u.nodes) u.pairs (slot_of f.fact) p) (sym y) h
            ];
            high_place = elim j.1 [
              | inl y ↦ subst (λ (f : Found). IsPlace (length u.nodes) u.pairs (slot_of f.fact) p)
                  (sym y) k.high_place
              | inr y ↦ subst (λ (f : Found).
                  IsPlace (length u.nodes) u.pairs (slot_of f.fact) p) (sym y) h
            ];
          }

      noted_ends : ((q : ℕ) (e : Ends) → ends_in old q ≡ Some e → AreEndsOf u at q e)
          → (q : ℕ) (e : Ends) → ends_in new q ≡ Some e → AreEndsOf u at q e
      noted_ends before q e z =
          elim (eqb_tells p q) [
            | inl d ↦
                (let same : w.0 ≡ e = some_same w.0 e (ends_in new q)
                (ap (ends_in new) (sym d.1) ∙ noted_here) z in
                subst (λ k. AreEndsOf u at k e) d.1 (subst (AreEndsOf u at p) same
                (with_ends (ends_in old p) refl (λ b y. before p b y) w.0 w.2)))
            | inr d ↦ before q e (sym (noted_there q d.1) ∙ z)
          ]

      -- what was noted has ends
      noted_found : (o : Option Ends) → (e : Ends) → IsWith o found e
          → IsLowBy found.fact e.low.fact × IsHighBy found.fact e.high.fact
      noted_found None e j = (
        subst (λ (f : Found). IsLowBy found.fact f.fact) (sym j.0) (low_refl found.fact),
        subst (λ (f : Found). IsHighBy found.fact f.fact) (sym j.1) (high_refl found.fact),
      )
      noted_found (Some b) e j = j.2

      -- and what had ends still has
      noted_kept : (x : Fact) → ((q : ℕ) (e : Ends) → ends_in old q ≡ Some e → AreEndsOf u at q e)
          → HasEnds u old x → HasEnds u new x
      noted_kept x before y =
          elim (eqb_tells p y.place) [
            | inr d ↦ record {
              place = y.place;
              ends = y.ends;
              inside = y.inside;
              here = noted_there y.place d.1 ∙ y.here;
              of = y.of;
              low = y.low;
              high = y.high;
            }
            | inl d ↦
                (let at_p : ends_in old p ≡ Some y.ends = ap (ends_in old) d.1 ∙ y.here in
                let k = before p y.ends at_p in
                let of_p : IsPlace (length u.nodes) u.pairs (slot_of x) p =
                subst (IsPlace (length u.nodes) u.pairs (slot_of x)) (sym d.1) y.of in
                let j : IsWith (Some y.ends) found w.0 = subst (λ o. IsWith o found w.0) at_p w.2 in
                record {
                  place = p;
                  ends = w.0;
                  inside = subst (λ n. n < 4 * length u.nodes + length u.pairs) (sym d.1) y.inside;
                  here = noted_here;
                  of = of_p;
                  low = j.3 x (slot_once (length u.nodes) u.pairs (slot_of x)
                      (slot_of y.ends.low.fact) p of_p k.low_place)
                      (slot_once (length u.nodes) u.pairs (slot_of y.ends.low.fact)
                      (slot_of found.fact) p k.low_place h) y.low;
                  high = j.4 x (slot_once (length u.nodes) u.pairs (slot_of x)
                      (slot_of y.ends.high.fact) p of_p k.high_place)
                      (slot_once (length u.nodes) u.pairs (slot_of y.ends.high.fact)
                      (slot_of found.fact) p k.high_place h) y.high;
                })
          ]

  -- ---- the next instance was seen
  module _ (rows : List (Option Ends)) (n : ℕ) (i : Instance)
      (there : slice_get u.instances n ≡ Some i) where
    seen_more : IsScanned u at rows n → ((c : Fact)
        → conclusion (concludes u.nodes u.hints) at i ≡ Some c → Beats at c ⊎ HasEnds u rows c)
        → IsScanned u at rows (n + 1)
    seen_more s now = record {
      ends = s.ends;
      seen = λ k j c l g e.
          elim (cases_lt k n) [
            | inl h ↦ s.seen k j c h g e
            | inr h ↦
                (let d : k ≡ n = omega arith in
                let same : i ≡ j = some_same i j (slice_get u.instances n) there
                (subst (λ m. slice_get u.instances m ≡ Some j) d g) in
                now c (subst (λ (x : Instance). conclusion (concludes u.nodes u.hints) at x
                ≡ Some c) (sym same) e))
          ];
    }

    -- It concludes nothing, or what the table beats.
    pub scanned_beaten : IsScanned u at rows n
        → ((c : Fact) → conclusion (concludes u.nodes u.hints) at i ≡ Some c → Beats at c)
        → IsScanned u at rows (n + 1)
    scanned_beaten s b = seen_more s (λ c e. inl (b c e))

  -- What it concludes was noted.
  pub scanned_noted : (old new : List (Option Ends)) (n : ℕ) (i : Instance) (found : Found) (p : ℕ)
      → slice_get u.instances n ≡ Some i → IsConclusion u at found
      → conclusion (concludes u.nodes u.hints) at i ≡ Some found.fact
      → IsPlace (length u.nodes) u.pairs (slot_of found.fact) p
      → p < 4 * length u.nodes + length u.pairs
      → p < length old → IsNoted old p found new → IsScanned u at old n → IsScanned u at new (n + 1)
  scanned_noted old new n i found p there c e h inside l w s =
      let f = noted_found old new p found w l c h (ends_in old p) w.0 w.2 in
      let before : IsScanned u at new n = record {
        ends = noted_ends old new p found w l c h s.ends;
        seen = λ k j x m g z. elim (s.seen k j x m g z)
            [ inl y ↦ inl y | inr y ↦ inr (noted_kept old new p found w l c h x s.ends y) ];
      } in
      seen_more new n i there before
      (λ x z.
      let same : found.fact ≡ x =
      some_same found.fact x (conclusion (concludes u.nodes u.hints) at i) e z in
      inr (subst (HasEnds u new) same (record {
        place = p;
        ends = w.0;
        inside = inside;
        here = noted_here old new p found w l;
        of = h;
        low = f.0;
        high = f.1;
      })))

  -- The next instance concludes nothing that the table doesn't beat.
  pub scanned_idle : (rows : List (Option Ends)) (n : ℕ) → IsScanned u at rows n
      → ((i : Instance) (c : Fact) → slice_get u.instances n ≡ Some i
      → conclusion (concludes u.nodes u.hints) at i ≡ Some c → Beats at c)
      → IsScanned u at rows (n + 1)
  scanned_idle rows n s idle = record {
    ends = s.ends;
    seen = λ k j c l g e.
        elim (cases_lt k n) [
          | inl h ↦ s.seen k j c h g e
          | inr h ↦
              (let d : k ≡ n = omega arith in
              inl (idle j c (subst (λ m. slice_get u.instances m ≡ Some j) d g) e))
        ];
  }

  -- Nothing was seen.
  pub scanned_none : (rows : List (Option Ends))
      → ((p : ℕ) → ends_in rows p ≡ None) → IsScanned u at rows 0
  scanned_none rows none = record {
    ends = λ p e z. (let h : None ≡ Some e = sym (none p) ∙ z in cc);
    seen = λ k i c l. absurd (omega arith);
  }

  -- ---- what is written
  -- instance k gives an end at one of the first p places
  abbrev pub IsWritten : List (Option Ends) → ℕ → ℕ → Type 0
  IsWritten rows p k = (q : ℕ) × (e : Ends) × (q < p) × (ends_in rows q ≡ Some e)
      × ((k ≡ e.low.instance) ⊎ (IsWide (length u.nodes) q × (k ≡ e.high.instance)))

  -- Nothing stands at the next place.
  pub written_none : (rows : List (Option Ends)) (p : ℕ) (new : At)
      → ends_in rows p ≡ None → IsAhead (setting_of u) at new (IsWritten rows p)
      → IsAhead (setting_of u) at new (IsWritten rows (p + 1))
  written_none rows p new z a =
      ahead_fewer (setting_of u) at new (IsWritten rows p) (IsWritten rows (p + 1)) a
      (λ k i e y. elim (cases_lt y.0 p) [
        | inl h ↦ (y.0, y.1, h, y.3, y.4)
        | inr h ↦ (let l : y.0 < p + 1 = y.2 in let d : y.0 ≡ p = omega arith in
            let h : None ≡ Some y.1 = sym z ∙ (ap (ends_in rows) (sym d) ∙ y.3) in cc)
      ])

  -- The ends at the next place came.
  module _ (rows : List (Option Ends)) (p : ℕ) (e : Ends) (here : ends_in rows p ≡ Some e)
      (ends : AreEndsOf u at p e) where
    written_next : (k : ℕ) → IsWritten rows (p + 1) k → IsWritten rows p k
        ⊎ ((e.low.instance ≡ k) ⊎ (IsWide (length u.nodes) p × (e.high.instance ≡ k)))
    written_next k y =
        elim (cases_lt y.0 p) [
          | inl h ↦ inl (y.0, y.1, h, y.3, y.4)
          | inr h ↦
              (let l : y.0 < p + 1 = y.2 in
              let d : y.0 ≡ p = omega arith in
              let same : y.1 ≡ e = some_same y.1 e (ends_in rows p)
              (ap (ends_in rows) (sym d) ∙ y.3) here in
              inr (elim y.4 [
                | inl z ↦ inl (ap (λ (b : Ends). b.low.instance) (sym same) ∙ sym z)
                | inr z ↦ inr (
                  subst (IsWide (length u.nodes)) d z.0,
                  ap (λ (b : Ends). b.high.instance) (sym same) ∙ sym z.1,
                )
              ]))
        ]

    written_low : (mid : At) (new : At) (k : Fact)
        → IsAhead (setting_of u) at mid (IsWritten rows p) → Improves mid new e.low.fact k
        → IsAhead (setting_of u) at new (λ j. IsWritten rows p j ⊎ (e.low.instance ≡ j))
    written_low mid new k a i = ahead_step (setting_of u) at mid
        (IsWritten rows p) e.low.instance ends.low.0 a ends.low.1 e.low.fact ends.low.2 new k i

    pub written_one : (mid new : At) (k : Fact) → (IsWide (length u.nodes) p → ⊥)
        → IsAhead (setting_of u) at mid (IsWritten rows p) → Improves mid new e.low.fact k
        → IsAhead (setting_of u) at new (IsWritten rows (p + 1))
    written_one mid new k narrow a i =
        ahead_fewer (setting_of u) at new (λ j. IsWritten rows p j ⊎ (e.low.instance ≡ j))
        (IsWritten rows (p + 1)) (written_low mid new k a i)
        (λ j x q y. elim (written_next j y)
        [ inl z ↦ inl z | inr z ↦ elim z [ inl v ↦ inr v | inr v ↦ absurd (narrow v.0) ] ])

    pub written_both : (mid new after : At) (k m : Fact)
        → IsAhead (setting_of u) at mid (IsWritten rows p) → Improves mid new e.low.fact k
        → Improves new after e.high.fact m
        → IsAhead (setting_of u) at after (IsWritten rows (p + 1))
    written_both mid new after k m a i j =
        ahead_fewer (setting_of u) at after (λ n. (IsWritten rows p n ⊎ (e.low.instance ≡ n))
        ⊎ (e.high.instance ≡ n)) (IsWritten rows (p + 1))
        (ahead_step (setting_of u) at new (λ n. IsWritten rows p n
        ⊎ (e.low.instance ≡ n)) e.high.instance ends.high.0
        (written_low mid new k a i) ends.high.1 e.high.fact ends.high.2 after m j)
        (λ n x q y. elim (written_next n y)
        [ inl z ↦ inl (inl z) | inr z ↦ elim z [ inl v ↦ inl (inr v) | inr v ↦ inr v.1 ] ])

  -- ---- all were written
  -- of a slot of one end alone the upper end says nothing
  narrow_high : (c f : Fact) (p : ℕ) → IsPlace (length u.nodes) u.pairs (slot_of c) p
      → p < 4 * length u.nodes + length u.pairs → (IsWide (length u.nodes) p → ⊥)
      → slot_of f ≡ slot_of c → IsHighBy c f
  narrow_high (fact.Bnd x i) f p h l narrow e = absurd
      (narrow (inl (let a : x.0 < length u.nodes = h.0 in let b : p ≡ x.0 = h.1 in omega arith)))
  narrow_high (fact.Abs x i) f p h l narrow e =
      absurd (narrow (inl (let a : x.0 < length u.nodes = h.0 in
      let b : p ≡ length u.nodes + x.0 = h.1 in omega arith)))
  narrow_high (fact.Rel x y d) f p h l narrow e =
      absurd (narrow (inr (let b : p ≡ 4 * length u.nodes + h.0 = h.2 in omega arith)))
  narrow_high (fact.Fix x k) f p h l narrow e = tt
  narrow_high (fact.Nzr x) f p h l narrow e = tt
  narrow_high fact.Void f p h l narrow e =
      absurd (let b : p ≡ 4 * length u.nodes + length u.pairs = h in omega arith)

  pub wide_cases : (n p : ℕ) → IsWide n p ⊎ (IsWide n p → ⊥)
  wide_cases n p =
      elim (cases_lt p (2 * n)) [
        | inl h ↦ inl (inl h)
        | inr h ↦ elim (cases_lt p (4 * n)) [
          | inr k ↦ inl (inr k)
          | inl k ↦ inr (λ w. elim w [ inl x ↦ omega arith | inr x ↦ omega arith ])
        ]
      ]

  pub written_all : (rows : List (Option Ends)) (p : ℕ) (new : At)
      → 4 * length u.nodes + length u.pairs ≤ p → IsScanned u at rows (length u.instances)
      → IsAhead (setting_of u) at new (IsWritten rows p)
      → IsAhead (setting_of u) at new AllSeen
  written_all rows p new all s a = record {
    made = a.made;
    grows = a.grows;
    beats = λ v k i c g z e.
        elim (s.seen k i c (within k i g) g e) [
          | inl b ↦ (let y = a.grows v (slot_of c) b.0 b.1 in
              (y.0, y.1, IsStronger-trans y.0 b.0 c y.2 b.2))
          | inr w ↦
              (let ends = s.ends w.place w.ends w.here in
              let low_slot = slot_once (length u.nodes) u.pairs (slot_of w.ends.low.fact)
              (slot_of c) w.place ends.low_place w.of in
              let high_slot = slot_once (length u.nodes) u.pairs (slot_of w.ends.high.fact)
              (slot_of c) w.place ends.high_place w.of in
              let inside : w.place < p = (let l = w.inside in omega arith) in
              let low = a.beats v w.ends.low.instance ends.low.0 w.ends.low.fact ends.low.1
              (w.place, w.ends, inside, w.here, inl refl) ends.low.2 in
              elim (wide_cases (length u.nodes) w.place) [
                | inl y ↦ ends_beat new c (record {
                  low = w.ends.low.fact;
                  high = w.ends.high.fact;
                  low_slot = low_slot;
                  high_slot = high_slot;
                  low_end = w.low;
                  high_end = w.high;
                  beats_low = low;
                  beats_high = a.beats v w.ends.high.instance ends.high.0 w.ends.high.fact
                      ends.high.1 (w.place, w.ends, inside, w.here, inr (y, refl)) ends.high.2;
                })
                | inr y ↦ ends_beat new c (record {
                  low = w.ends.low.fact;
                  high = w.ends.low.fact;
                  low_slot = low_slot;
                  high_slot = low_slot;
                  low_end = w.low;
                  high_end = narrow_high c w.ends.low.fact w.place w.of w.inside y low_slot;
                  beats_low = low;
                  beats_high = low;
                })
              ])
        ];
  }
    where
      within : (k : ℕ) (i : Instance) → slice_get u.instances k ≡ Some i → k < length u.instances
      within k i g = slice_get_within u.instances k i g
