-- One more instance of a round.
use Rattle.std.specs.Prelude.{◌≡◌, ◌⊎◌, ◌<◌, ◌+◌, ℕ, Some, None, slice_get}
use Rattle.std.proofs.Common.{sym, ◌∙◌, ap, subst, inl, inr, arith}
use Rattle.std.proofs.lemmas.Bool.{cases_lt}
use Rattle.facts.specs.declared.fact.Fact.{Fact}
use Rattle.facts.specs.declared.fact.Slot.{Slot}
use Rattle.facts.specs.declared.fact.Slot.TheVariants as slot
use Rattle.facts.specs.Order.{slot_of}
use Rattle.facts.proofs.Laws.{IsStronger-refl, IsStronger-trans}
use Rattle.facts.specs.declared.instance.Instance.{Instance}
use Rattle.derivation.specs.Derivations.{Setting, At, Beats}
use Rattle.derivation.specs.Rounds.{IsProper, IsSame, conclusion, Improves, Made, old, concluded_by}
use Rattle.derivation.specs.Rounds.{meets, IsAhead}
use Rattle.derivation.proofs.Parts.{some_same, none_some}
use Rattle.derivation.specs.Parts.{slot_cases}
use Rattle.derivation.proofs.Steps.{kept_cases, improved_proper, improved_beats, improved_grows}
use Rattle.derivation.proofs.Steps.{old_no_void}

-- A round begins with the table of the round before.
pub ahead_begin : (u : Setting) (at new : At) (Seen : ℕ → Type 0) → IsProper at → IsSame at new
    → ((k : ℕ) → ¬ Seen k) → IsAhead u at new Seen
ahead_begin u at new Seen p same unseen = record {
  made = λ s f e. let g = sym (same s) ∙ e in (p s f g, old s g);
  grows = λ n s f e. (f, same s ∙ e, IsStronger-refl f);
  beats = λ n k i c e l. absurd (unseen k l);
}

pub ahead_fewer : (u : Setting) (at new : At) (Seen Fewer : ℕ → Type 0) → IsAhead u at new Seen
    → ((k : ℕ) (i : Instance) → slice_get u.instances k ≡ Some i → Fewer k → Seen k)
    → IsAhead u at new Fewer
ahead_fewer u at new Seen Fewer a f = record {
  made = a.made;
  grows = a.grows;
  beats = λ v k i c e l q. a.beats v k i c e (f k i e l) q;
}

-- Where VOID was found the round may end.
pub ahead_void : (u : Setting) (at new : At) (Seen Any : ℕ → Type 0) (f : Fact)
    → IsAhead u at new Seen → new slot.Void ≡ Some f → IsAhead u at new Any
ahead_void u at new Seen Any f a e = record {
  made = a.made;
  grows = λ v. absurd (none_some f (new slot.Void) v e);
  beats = λ v. absurd (none_some f (new slot.Void) v e);
}

-- ---- the instance with number n
-- what was seen before it, or it
abbrev pub SeenAlso : (ℕ → Type 0) → ℕ → ℕ → Type 0
SeenAlso Seen n k = Seen k ⊎ (n ≡ k)

module _ (u : Setting) (at new : At) (Seen : ℕ → Type 0) (n : ℕ) (i : Instance)
    (a : IsAhead u at new Seen) (there : slice_get u.instances n ≡ Some i) where
  -- what instance n concludes is what i does
  by_number : (k : ℕ) (j : Instance) → n ≡ k → slice_get u.instances k ≡ Some j → i ≡ j
  by_number k j d f = some_same i j (slice_get u.instances n) there
      (subst (λ m. slice_get u.instances m ≡ Some j) (sym d) f)

  -- It is passed over, where each fact that it concludes is beaten already.
  pub ahead_pass : (new slot.Void ≡ None → (c : Fact) → conclusion u.rules at i ≡ Some c
      → Beats new c) → IsAhead u at new (SeenAlso Seen n)
  ahead_pass beaten = record {
    made = a.made;
    grows = a.grows;
    beats = λ v k j c f l q.
        elim l [
          | inl h ↦ a.beats v k j c f h q
          | inr d ↦ beaten v c (subst (λ x. conclusion u.rules at x ≡ Some c)
              (sym (by_number k j d f)) q)
        ];
  }

  -- It concludes nothing.
  pub ahead_skip : conclusion u.rules at i ≡ None → IsAhead u at new (SeenAlso Seen n)
  ahead_skip z = ahead_pass (λ v c q. absurd (none_some c (conclusion u.rules at i) z q))

  -- What it concludes was beaten by the old table.
  pub ahead_quiet : ((c : Fact) → conclusion u.rules at i ≡ Some c → Beats at c)
      → IsAhead u at new (SeenAlso Seen n)
  ahead_quiet beaten = ahead_pass (λ v c q.
      let b = beaten c q in
      let g = a.grows v (slot_of c) b.0 b.1 in
      (g.0, g.1, IsStronger-trans g.0 b.0 c g.2 b.2))

  new_proper : IsProper new
  new_proper s f e = (a.made s f e).0

  -- Its conclusion came to the table.
  module _ (c : Fact) (z : conclusion u.rules at i ≡ Some c) (after : At) (k : Fact)
      (w : Improves new after c k) where
    made_kept : Made u at k
    made_kept =
        elim (kept_cases new c k w.kept) [
          | inl x ↦ subst (Made u at) (sym x.1) (concluded_by n i there z)
          | inr x ↦
              let o = a.made (slot_of c) x.0 x.1 in
              elim x.2 [
                | inl y ↦ subst (Made u at) (sym y.1) o.1
                | inr y ↦ meets x.0 c o.1 (concluded_by n i there z) y
              ]
        ]

    after_made : (s : Slot) (f : Fact) → after s ≡ Some f → Made u at f
    after_made s f e =
        elim (slot_cases s (slot_of k)) [
          | inr d ↦ (a.made s f (sym (w.written.others s d) ∙ e)).1
          | inl d ↦ subst (Made u at)
              (some_same k f (after s) (ap after d ∙ w.written.here) e) made_kept
        ]

    later : after slot.Void ≡ None → (f : Fact) → Beats new f → Beats after f
    later v f b = let g = improved_grows new after c k w v (slot_of f) b.0 b.1 in
        (g.0, g.1, IsStronger-trans g.0 b.0 f g.2 b.2)

    pub ahead_step : IsAhead u at after (SeenAlso Seen n)
    ahead_step = record {
      made = λ s f e. (improved_proper new after c k w new_proper s f e, after_made s f e);
      grows = λ v s f q.
          let g = a.grows (old_no_void new after c k w v) s f q in
          let h = improved_grows new after c k w v s g.0 g.1 in
          (h.0, h.1, IsStronger-trans h.0 g.0 f h.2 g.2);
      beats = λ v m j f q l x.
          elim l [
            | inl h ↦ later v f (a.beats (old_no_void new after c k w v) m j f q h x)
            | inr d ↦
                let same : c ≡ f = some_same c f (conclusion u.rules at i) z
                (subst (λ y. conclusion u.rules at y ≡ Some f) (sym (by_number m j d q)) x) in
                subst (Beats after) same (improved_beats new after c k w v)
          ];
    }

-- ---- instances in their order
-- The next of the first instances.
pub below_next : (n k : ℕ) → k < n + 1 → SeenAlso (λ j. j < n) n k
below_next n k l = elim (cases_lt k n) [ inl h ↦ inl h | inr h ↦ inr (omega arith) ]

pub ahead_next : (u : Setting) (at new : At) (n : ℕ) → IsAhead u at new (SeenAlso (λ j. j < n) n)
    → IsAhead u at new (λ j. j < n + 1)
ahead_next u at new n a =
    ahead_fewer u at new (SeenAlso (λ j. j < n) n) (λ j. j < n + 1) a (λ k i e l. below_next n k l)
