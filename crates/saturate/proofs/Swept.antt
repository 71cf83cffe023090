-- The facts of a sweep: what a conclusion leaves of them, and what they are where no instance is
-- due.
use lib.ListN.{replicate}
use Rattle.std.specs.Prelude.{◌≡◌, ◌≢◌, ◌⊎◌, ◌<◌, ◌≤◌, ◌+◌, ◌-◌, ℕ, zero, suc, Bool, true, false}
use Rattle.std.specs.Prelude.{List, [], ◌∷◌, Some, None, length, slice_get, slice_set, Contains}
use Rattle.std.specs.Prelude.{refl}
use Rattle.std.proofs.Common.{sym, ◌∙◌, ap, subst, inl, inr, arith, get_or, length-set}
use Rattle.std.proofs.lemmas.Bool.Decides.{eqb_tells}
use Rattle.std.proofs.lemmas.Option.{slice_get_within, slice_get-get_or}
use Rattle.pair_closure.specs.Reached.{IsEachOnce}
use Rattle.pair_closure.specs.Closure.{Pair}
use Rattle.facts.specs.declared.fact.Fact.{Fact}
use Rattle.facts.specs.declared.fact.Fact.TheVariants as fact
use Rattle.facts.specs.declared.fact.Slot.{Slot}
use Rattle.facts.specs.declared.fact.Slot.TheVariants as slot
use Rattle.facts.specs.declared.instance.Instance.{Instance}
use Rattle.facts.specs.Order.{slot_of, IsStronger}
use Rattle.facts.proofs.Laws.{IsStronger-refl, IsStronger-trans}
use Rattle.facts.proofs.Meets.{IsStronger-antisymm}
use Rattle.facts.specs.Promises.{EachStronger}
use Rattle.derivation.specs.Lists.{IsLawful, RuleList, IsOnTargetList}
use Rattle.derivation.specs.Derivations.{Setting, Derives, DeriveEach, given, drawn, met, none}
use Rattle.derivation.specs.Derivations.{next, At, Beats, IsClosed}
use Rattle.derivation.specs.Rounds.{IsProper, InTable, Grows, Improves, all_at, concluded}
use Rattle.derivation.specs.Rounds.{conclusion, IsBestFrom}
use Rattle.derivation.proofs.Rounds.{Reads}
use Rattle.derivation.specs.Changes.{IsUser, IsQuiet}
use Rattle.derivation.proofs.Changes.{agrees_all, true_false}
use Rattle.derivation.proofs.Heights.{Derives-add}
use Rattle.derivation.proofs.Parts.{some_same, none_some, not_void, beats_weaker, beats_meet}
use Rattle.derivation.proofs.Parts.{conclusion_reads, reads_conclusion}
use Rattle.derivation.specs.Parts.{slot_cases}
use Rattle.derivation.proofs.Steps.{kept_cases, improved_stronger, improved_slot, improved_beats}
use Rattle.derivation.proofs.Steps.{improved_grows}
use Rattle.rule_universe.specs.declared.placed.Placed.{Placed}
use Rattle.rule_universe.specs.Places.{IsPlace, place_count}
use Rattle.rule_universe.specs.Placed.{slots_of, ArePlaced}
use Rattle.rule_universe.proofs.OnePlace.{place_within, place_once, slot_once}
use Rattle.rule_universe.specs.Worlds.{World}
use Rattle.saturate.specs.Closed.{IsClosedUnder}
use Rattle.saturate.proofs.Lists.{get_set_here, get_set_there}
use Rattle.saturate.specs.Sweeping.{IsSwept, IsSweeping, IsQuietApart, IsEnded, NoneDue}

-- ---- the start
pub length_zeros : (n : ℕ) → length {A = ℕ} (replicate n 0) ≡ n
length_zeros zero = refl
length_zeros (suc n) = ap suc (length_zeros n)

-- A sweep begins with the first table, whatever heights stand beside its slots.
pub sweeping_start : (s : Setting) (u : World) (height : ℕ) (first : At) → first slot.Void ≡ None
    → (due : List Bool) → length due ≡ length s.instances → IsQuiet s due first
    → (heights : List ℕ) → length heights ≡ place_count (length u.nodes) u.pairs
    → IsSweeping s u first height first heights due
sweeping_start s u height first no_void due long quiet heights count = record {
  swept = record {
    no_void = no_void;
    grows = λ x f e. (f, e, IsStronger-refl f);
    within = λ x f e. given (x, e);
    each = λ x f p h e at_p there. given (x, e);
    count = count;
  };
  long = long;
  quiet = quiet;
}

-- ---- heights
-- more height does no harm
pub derives_within : {s : Setting} {G : Fact → Type 0} {f : Fact} (h k : ℕ) → h ≤ k
    → Derives s G h f → Derives s G k f
derives_within {s} {G} {f} h k l d =
    subst (λ m. Derives s G m f) (let e : (k - h) + h ≡ k = omega arith in e)
    (Derives-add (k - h) d)

-- what is kept where a fact comes to what is there
derived_kept : (s : Setting) (G : Fact → Type 0) (r : ℕ) (at new : At) (c f : Fact)
    → Improves at new c f → Derives s G r c
    → ((g : Fact) → at (slot_of c) ≡ Some g → Derives s G r g) → Derives s G r f
derived_kept s G r at new c f come d old =
    elim (kept_cases at c f come.kept) [
      | inl y ↦ subst (Derives s G r) (sym y.1) d
      | inr y ↦
          elim y.2 [
            | inl z ↦ subst (Derives s G r) (sym z.1) (old y.0 y.1)
            | inr z ↦ met y.0 c (old y.0 y.1) d z
          ]
    ]

-- ---- an instance concludes a fact that the table doesn't beat
module _ (s : Setting) (u : World) (once : IsEachOnce u.pairs) (first : At) (height : ℕ)
    (at new : At) (heights : List ℕ) (w : IsSwept s u first height at heights) (c f : Fact)
    (come : Improves at new c f) (no_void : new slot.Void ≡ None) (place above old r : ℕ)
    (placed : IsPlace (length u.nodes) u.pairs (slot_of c) place)
    (there : slice_get heights place ≡ Some old) (d : Derives s (InTable first) above c)
    (fits : above ≤ height) (low : above ≤ r)
    (enough : (g : Fact) → new (slot_of c) ≡ Some g → IsStronger c g ⊎ (old ≤ r)) where
  same_slot : slot_of f ≡ slot_of c
  same_slot = improved_slot at new c f come no_void

  stands : new (slot_of c) ≡ Some f
  stands = ap new (sym same_slot) ∙ come.written.here

  -- within the height
  kept_within : Derives s (InTable first) height f
  kept_within = derived_kept s (InTable first) height at new c f come
      (derives_within above height fits d) (w.within (slot_of c))

  -- within the height that is written
  kept_each : Derives s (InTable first) r f
  kept_each =
      elim (enough f stands) [
        | inl st ↦
            let e : f ≡ c = IsStronger-antisymm f c
            (improved_stronger at new c f come) st in
            subst (Derives s (InTable first) r) (sym e) (derives_within above r low d)
        | inr l ↦ derived_kept s (InTable first) r at new c f come
            (derives_within above r low d)
            (λ g e. derives_within old r l (w.each (slot_of c) g place old e placed there))
      ]

  -- a fact of the new table is the kept one, or was there
  new_cases : (P : Slot → Fact → Type 0) → ((x : Slot) → x ≡ slot_of c → P x f)
      → ((x : Slot) (g : Fact) → x ≢ slot_of c → at x ≡ Some g → P x g)
      → (x : Slot) (g : Fact) → new x ≡ Some g → P x g
  new_cases P here others x g e =
      elim (slot_cases x (slot_of c)) [
        | inl q ↦ subst (P x) (some_same f g (new x) (ap new q ∙ stands) e)
            (here x q)
        | inr n ↦ others x g n (sym (come.written.others x (λ q. n (q ∙ same_slot))) ∙ e)
      ]

  inside : place < length heights
  inside = slice_get_within heights place old there

  pub swept_more : IsSwept s u first height new (slice_set heights place r)
  swept_more = record {
    no_void = no_void;
    grows = λ x g e.
        (let a = w.grows x g e in
        let b = improved_grows at new c f come no_void x a.0 a.1 in
        (b.0, b.1, IsStronger-trans b.0 a.0 g b.2 a.2));
    within = new_cases (λ x g. Derives s (InTable first) height g) (λ x q. kept_within)
        (λ x g n e. w.within x g e);
    each = λ x g p h e at_p there_p.
        new_cases (λ y k. IsPlace (length u.nodes) u.pairs y p
        → slice_get (slice_set heights place r) p ≡ Some h → Derives s (InTable first) h k)
        (λ y q at_y set.
        let same : p ≡ place = place_once (length u.nodes) u.pairs once (slot_of c) p place
        (subst (λ z. IsPlace (length u.nodes) u.pairs z p) q at_y) placed in
        let e2 : r ≡ h = some_same r h (slice_get (slice_set heights place r) place)
        (get_set_here heights place r inside)
        (subst (λ m. slice_get (slice_set heights place r) m ≡ Some h) same set) in
        subst (λ m. Derives s (InTable first) m f) e2 kept_each)
        (λ y k n old_e at_y set.
        let apart : place ≢ p = (λ q. n (slot_once (length u.nodes) u.pairs y (slot_of c) p at_y
        (subst (λ m. IsPlace (length u.nodes) u.pairs (slot_of c) m) q placed))) in
        w.each y k p h old_e at_y (sym (get_set_there heights place p r apart) ∙ set))
        x g e at_p there_p;
    count = length-set heights place r ∙ w.count;
  }

-- ---- VOID came
-- All is derived within the height then.
pub swept_void : (s : Setting) (u : World) (first : At) (height : ℕ) (at new : At)
    (heights : List ℕ) → IsSwept s u first height at heights → (c f : Fact) → Improves at new c f
    → IsProper new → new slot.Void ≡ Some fact.Void → (above : ℕ)
    → Derives s (InTable first) above c → above ≤ height → IsEnded s first height new
swept_void s u first height at new heights w c f come proper void above d fits = (
  record {
    reached = λ x g e. (proper x g e, reach x g e);
    least = λ v. absurd (none_some fact.Void (new slot.Void) v void);
  },
  void,
)
  where
    kept : Derives s (InTable first) height f
    kept = derived_kept s (InTable first) height at new c f come
        (derives_within above height fits d) (w.within (slot_of c))

    reach : (x : Slot) (g : Fact) → new x ≡ Some g → Derives s (InTable first) height g
    reach x g e =
        elim (slot_cases x (slot_of f)) [
          | inl q ↦ subst (Derives s (InTable first) height)
              (some_same f g (new x) (ap new q ∙ come.written.here) e) kept
          | inr n ↦ w.within x g (sym (come.written.others x n) ∙ e)
        ]

-- ---- what is due
flag_cases : (due : List Bool) (j : ℕ) → j < length due
    → (slice_get due j ≡ Some true) ⊎ (slice_get due j ≡ Some false)
flag_cases [] j h = absurd (omega (arith, h))
flag_cases (true ∷ due) zero h = inl refl
flag_cases (false ∷ due) zero h = inr refl
flag_cases (d ∷ due) (suc j) h = flag_cases due j (omega (arith, h))

-- one is due no more
pub quiet_apart : (s : Setting) (k : ℕ) (due : List Bool) (at : At) → IsQuiet s due at
    → IsQuietApart s k (slice_set due k false) at
quiet_apart s k due at q = λ j i c e n d x.
    q j i c e (sym (get_set_there due k j false (λ h. n (sym h))) ∙ d) x

-- it concludes nothing that the table doesn't beat
pub quiet_idle : (s : Setting) (k : ℕ) (due : List Bool) (at : At) → IsQuietApart s k due at
    → ((i : Instance) (c : Fact) → slice_get s.instances k ≡ Some i
    → conclusion s.rules at i ≡ Some c → Beats at c) → IsQuiet s due at
quiet_idle s k due at apart idle = λ j i c e d x.
    elim (eqb_tells j k) [
      | inl q ↦ idle i c (subst (λ m. slice_get s.instances m ≡ Some i) q.1 e) x
      | inr q ↦ apart j i c e q.1 d x
    ]

-- what it concludes came to the table, and the users of that are due
pub quiet_more : (s : Setting) (k : ℕ) (i : Instance) (due after : List Bool) (at new : At)
    (c f : Fact) → Improves at new c f → new slot.Void ≡ None → slice_get s.instances k ≡ Some i
    → conclusion s.rules at i ≡ Some c → IsQuietApart s k due at
    → length due ≡ length s.instances
    → ((j : ℕ) → slice_get due j ≡ Some true → slice_get after j ≡ Some true)
    → ((j : ℕ) → IsUser s.instances (slot_of c) j → slice_get after j ≡ Some true)
    → IsQuiet s after new
quiet_more s k i due after at new c f come no_void there is apart long kept marked =
    λ j m b e d x.
    let same = agrees_all at new m.premises (λ y w.
    come.written.others y (λ q. true_false (slice_get after j)
    (marked j (m, e, subst (Contains m.premises) (q ∙ improved_slot at new c f come no_void) w)) d))
    in
    let before : conclusion s.rules at m ≡ Some b = ap (concluded s.rules m) (sym same) ∙ x in
    elim (eqb_tells j k) [
      | inl q ↦
          let mi : i ≡ m = some_same i m (slice_get s.instances k) there
          (subst (λ n. slice_get s.instances n ≡ Some m) q.1 e) in
          let cb : c ≡ b = some_same c b (conclusion s.rules at m)
          (subst (λ (n : Instance). conclusion s.rules at n ≡ Some c) mi is) before in
          subst (Beats new) cb (improved_beats at new c f come no_void)
      | inr q ↦
          elim (flag_cases due j (let l = slice_get_within s.instances j m e in
          omega (arith, l, long))) [
            | inl y ↦ absurd (true_false (slice_get after j) (kept j y) d)
            | inr y ↦
                let g = apart j m b e q.1 y before in
                let h = improved_grows at new c f come no_void (slot_of b) g.0 g.1 in
                (h.0, h.1, IsStronger-trans h.0 g.0 b h.2 g.2)
          ]
    ]

-- its conclusion stands on the target, so the place is that of the conclusion's slot
pub concluded_place : (rules : RuleList) → IsOnTargetList rules → (at new : At) (i : Instance)
    (c f : Fact) → conclusion rules at i ≡ Some c → Improves at new c f → new slot.Void ≡ None
    → (n : ℕ) (pairs : List Pair) (place : ℕ) → IsPlace n pairs i.target place
    → IsPlace n pairs (slot_of c) place
concluded_place rules on_target at new i c f is come no_void n pairs place p =
    let r = conclusion_reads rules at i c is in
    elim (on_target i.rule i.arg r.0 i.target c r.2) [
      | inl t ↦ subst (λ y. IsPlace n pairs y place) (sym t) p
      | inr v ↦
          let b = improved_beats at new c f come no_void in
          absurd (none_some b.0 (new slot.Void) no_void
          (subst (λ (k : Fact). new (slot_of k) ≡ Some b.0) v b.1))
    ]

-- what was read is what the instance concludes from
pub read_none : (rules : RuleList) (at : At) (i : Instance) (row : List Placed)
    → slots_of row ≡ i.premises → all_at at (slots_of row) ≡ None → conclusion rules at i ≡ None
read_none rules at i row same e = ap (concluded rules i) (ap (all_at at) (sym same) ∙ e)

pub read_some : (rules : RuleList) (at : At) (i : Instance) (row : List Placed) (ps : List Fact)
    → slots_of row ≡ i.premises → all_at at (slots_of row) ≡ Some ps
    → conclusion rules at i ≡ rules i.rule i.arg ps i.target
read_some rules at i row ps same e = ap (concluded rules i) (ap (all_at at) (sym same) ∙ e)

-- It concludes nothing, and is due no more.
pub sweeping_none : (s : Setting) (u : World) (first : At) (height : ℕ) (at : At)
    (heights : List ℕ) (due : List Bool) → IsSweeping s u first height at heights due → (k : ℕ)
    (i : Instance) → slice_get s.instances k ≡ Some i → conclusion s.rules at i ≡ None
    → IsSweeping s u first height at heights (slice_set due k false)
sweeping_none s u first height at heights due w k i here is = record {
  swept = w.swept;
  long = length-set due k false ∙ w.long;
  quiet = quiet_idle s k (slice_set due k false) at
      (quiet_apart s k due at w.quiet) (λ m b e x.
      let mi : i ≡ m = some_same i m (slice_get s.instances k) here e in
      absurd (none_some b (conclusion s.rules at m)
      (subst (λ (n : Instance). conclusion s.rules at n ≡ None) mi is) x));
}

module _ (s : Setting) (u : World) (once : IsEachOnce u.pairs) (on_target : IsOnTargetList s.rules)
    (first : At) (height : ℕ) (at : At) (heights : List ℕ)
    (w : IsSwept s u first height at heights) (k : ℕ) (i : Instance)
    (here : slice_get s.instances k ≡ Some i) (c : Fact)
    (is : conclusion s.rules at i ≡ Some c) (due : List Bool)
    (apart : IsQuietApart s k due at) (long : length due ≡ length s.instances) where
  -- The table has it already.
  pub sweeping_same : (f : Fact) → Improves at at c f
      → IsSweeping s u first height at heights due
  sweeping_same f come = record {
    swept = w;
    long = long;
    quiet = quiet_idle s k due at apart (λ m b e x.
        let mi : i ≡ m = some_same i m (slice_get s.instances k) here e in
        let cb : c ≡ b = some_same c b (conclusion s.rules at m)
        (subst (λ (n : Instance). conclusion s.rules at n ≡ Some c) mi is) x in
        subst (Beats at) cb (improved_beats at at c f come w.no_void));
  }

  -- It comes to the table, and so does a height beside it; those that take it are due.
  pub sweeping_more : (new : At) (f : Fact) → Improves at new c f
      → new slot.Void ≡ None → (place above old r : ℕ)
      → IsPlace (length u.nodes) u.pairs i.target place → slice_get heights place ≡ Some old
      → Derives s (InTable first) above c → above ≤ height → above ≤ r
      → ((g : Fact) → new (slot_of c) ≡ Some g → IsStronger c g ⊎ (old ≤ r))
      → (after : List Bool) → length after ≡ length due
      → ((j : ℕ) → slice_get due j ≡ Some true → slice_get after j ≡ Some true)
      → ((x : Slot) → IsPlace (length u.nodes) u.pairs x place → (j : ℕ)
      → IsUser s.instances x j → slice_get after j ≡ Some true)
      → IsSweeping s u first height new (slice_set heights place r) after
  sweeping_more new f come no_void place above old r p there d fits low enough after same
      kept marked =
      let q = concluded_place s.rules on_target at new i c f is come no_void
      (length u.nodes) u.pairs place p in
      record {
        swept = swept_more s u once first height at new heights w c f come no_void place above
            old r q there d fits low enough;
        long = same ∙ long;
        quiet = quiet_more s k i due after at new c f come no_void here is apart
            long kept (marked (slot_of c) q);
      }

-- none is due
pub none_quiet : (s : Setting) (due : List Bool) (at : At) → length due ≡ length s.instances
    → IsQuiet s due at → NoneDue due → IsClosedUnder s at
none_quiet s due at long quiet still k i c e x =
    elim (flag_cases due k (let l = slice_get_within s.instances k i e in omega (arith, l, long))) [
      | inl y ↦ absurd (still k y)
      | inr y ↦ quiet k i c e y x
    ]

-- ---- premises and their heights
slot_in : (row : List Placed) (x : Slot) (i : ℕ) → i < length (slots_of row)
    → get_or (slots_of row) i x ≡ x → (p : Placed) × Contains row p × (p.slot ≡ x)
slot_in [] x i l e = absurd (omega (arith, l))
slot_in (p ∷ row) x zero l e = (p, (zero, omega arith, refl), e)
slot_in (p ∷ row) x (suc i) l e =
    let r = slot_in row x i (omega (arith, l)) e in
    (r.0, (suc (r.1).0, (let m = (r.1).1 in omega (arith, m)), (r.1).2), r.2)

-- premises are derived within the greatest of their heights
pub premises_within : (s : Setting) (u : World) (first : At) (height : ℕ) (at : At)
    (heights : List ℕ) → IsSwept s u first height at heights → (ss : List Slot) (row : List Placed)
    → ArePlaced (length u.nodes) u.pairs ss row → (top : ℕ)
    → ((p : Placed) (h : ℕ) → Contains row p → slice_get heights p.place ≡ Some h → h ≤ top)
    → (x : Slot) → Contains ss x → (f : Fact) → at x ≡ Some f
    → Derives s (InTable first) top f
premises_within s u first height at heights w ss row placed top most x c f e =
    let b = subst (λ l. Contains l x) (sym placed.slots) c in
    let r = slot_in row x b.0 b.1 b.2 in
    let at_p = placed.places r.0 r.1 in
    let l = place_within (length u.nodes) u.pairs (r.0).slot (r.0).place at_p in
    let there = slice_get-get_or heights (r.0).place 0 (let n = w.count in omega (arith, l, n)) in
    derives_within _ top (most r.0 _ r.1 there)
    (w.each x f (r.0).place _ e
    (subst (λ y. IsPlace (length u.nodes) u.pairs y (r.0).place) r.2 at_p) there)

read_each : (s : Setting) (G : Fact → Type 0) (top : ℕ) (at : At) → IsProper at → (ss : List Slot)
    (ps : List Fact) → Reads at ss ps → ((x : Slot) → Contains ss x → (f : Fact) → at x ≡ Some f
    → Derives s G top f) → DeriveEach s G top ss ps
read_each s G top at proper [] [] r all = none
read_each s G top at proper (x ∷ ss) (p ∷ ps) r all =
    next x p (proper x p r.0) (all x (zero, omega arith, refl) p r.0)
    (read_each s G top at proper ss ps r.1
    (λ y w. all y (suc w.0, (let l = w.1 in omega (arith, l)), w.2)))
read_each s G top at proper [] (p ∷ ps) r all = absurd r
read_each s G top at proper (x ∷ ss) [] r all = absurd r

-- what an instance concludes is derived one higher
pub concluded_within : (s : Setting) (G : Fact → Type 0) (top : ℕ) (at : At) → IsProper at → (k : ℕ)
    (i : Instance) (c : Fact) → slice_get s.instances k ≡ Some i
    → conclusion s.rules at i ≡ Some c
    → ((x : Slot) → Contains i.premises x → (f : Fact) → at x ≡ Some f → Derives s G top f)
    → Derives s G (suc top) c
concluded_within s G top at proper k i c there is all =
    let r = conclusion_reads s.rules at i c is in
    drawn k i there (read_each s G top at proper i.premises r.0 r.1 all) r.2

-- ---- no instance concludes more
module _ (s : Setting) (lawful : IsLawful s.rules) (whole : IsClosed s.instances) (first at : At)
    (proper_first : IsProper first) (proper : IsProper at) (no_void : at slot.Void ≡ None)
    (grows : Grows first at) (closed : IsClosedUnder s at) where
  drawn_beaten : (f : Fact) (gs ps : List Fact) (k : ℕ) (i : Instance)
      → slice_get s.instances k ≡ Some i → Reads at i.premises gs → EachStronger gs ps
      → s.rules i.rule i.arg ps i.target ≡ Some f → Beats at f
  drawn_beaten f gs ps k i e r st c =
      elim (lawful.isotone i.rule i.arg ps i.target gs f st c) [
        | inl x ↦ beats_weaker at proper no_void x.0 f
            (closed k i x.0 e (reads_conclusion s.rules at i gs x.0 r x.1)) x.2
        | inr x ↦
            let z = whole k i e x.0 in
            let q : s.rules z.1.rule z.1.arg gs z.1.target ≡ Some fact.Void =
            rw (z.3, z.4, z.5) x.1 in
            let b = closed z.0 z.1 fact.Void z.2 (reads_conclusion s.rules at z.1 gs fact.Void
            (subst (λ ss. Reads at ss gs) (sym z.6) r) q) in
            absurd (none_some b.0 (at slot.Void) no_void b.1)
      ]

  -- the table beats what is derived from the first, however high
  mutual
    beaten : {h : ℕ} {f : Fact} → Derives s (InTable first) h f → Beats at f
    beaten {f = f} (given x) =
        let g = grows x.0 f x.1 in (g.0, ap at (proper_first x.0 f x.1) ∙ g.1, g.2)
    beaten {f = f} (drawn k i e d c) =
        let r = each_beaten d in drawn_beaten f r.0 _ k i e r.1 r.2 c
    beaten {f = f} (met a b d e m) = beats_meet at proper no_void a b f (beaten d) (beaten e) m

    each_beaten : {h : ℕ} {ss : List Slot} {ps : List Fact} → DeriveEach s (InTable first) h ss ps
        → (gs : List Fact) × Reads at ss gs × EachStronger gs ps
    each_beaten none = ([], tt, tt)
    each_beaten (next x p e d r) =
        let b = beaten d in
        let rest = each_beaten r in (
          b.0 ∷ rest.0,
          (ap at (sym e) ∙ b.1, rest.1),
          (not_void at proper no_void (slot_of p) b.0 b.1, b.2, rest.2),
        )

  pub all_beaten : (h : ℕ) (f : Fact) → Derives s (InTable first) h f → Beats at f
  all_beaten h f d = beaten d

-- The table is best then.
pub swept_best : (s : Setting) → IsLawful s.rules → IsClosed s.instances → (u : World) (first : At)
    → IsProper first → (height : ℕ) (at : At) → IsProper at → (heights : List ℕ)
    → IsSwept s u first height at heights → IsClosedUnder s at → IsBestFrom s first height at
swept_best s lawful whole u first proper_first height at proper heights w closed = record {
  reached = λ x f e. (proper x f e, w.within x f e);
  least = λ v f d. all_beaten s lawful whole first at proper_first proper w.no_void w.grows closed
      height f d;
}
