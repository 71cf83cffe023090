-- A fact that comes to a log keeps it a log: its steps are accepted, and each fact that is known
-- has its step.
use Rattle.std.specs.Prelude.{◌≡◌, ◌<◌, ◌≤◌, ◌+◌, ℕ, List, [], ◌∷◌, length, Option, Some, slice_get}
use Rattle.std.specs.Prelude.{map, refl}
use Rattle.std.proofs.Common.{sym, ◌∙◌, ap, subst, inl, inr, arith}
use Rattle.std.proofs.lemmas.List.{length-append}
use Rattle.facts.specs.declared.fact.Fact.{Fact}
use Rattle.facts.specs.declared.fact.Slot.{Slot}
use Rattle.facts.specs.declared.instance.Instance.{Instance}
use Rattle.facts.specs.Order.{slot_of, IsStronger}
use Rattle.theorem_list.specs.Concludes.{concludes}
use Rattle.derivation.specs.Derivations.{At}
use Rattle.derivation.specs.Rounds.{IsProper, conclusion, IsKept, Improves}
use Rattle.derivation.proofs.Rounds.{Reads}
use Rattle.derivation.proofs.Parts.{some_same, none_some, conclusion_reads}
use Rattle.derivation.specs.Parts.{slot_cases}
use Rattle.derivation.proofs.Steps.{improved_proper}
use Rattle.derivation.specs.Exists.{joined}
use Rattle.derivation.proofs.Exists.{with_fact-improves}
use Rattle.rule_universe.specs.Worlds.{World}
use Rattle.saturate.specs.Universes.{setting_of}
use Rattle.cert_bytes.specs.declared.item.StepRow.{StepRow}
use Rattle.cert_bytes.specs.Certificates.{IsCounted, IsShort}
use Rattle.cert_checker.specs.Open.{Numbered, with_step}
use Rattle.cert_checker.specs.declared.given.Given.{Given}
use Rattle.cert_checker.specs.Given.{given_number, given_of}
use Rattle.cert_checker.proofs.GivenLaws.{given_low, given_back}
use Rattle.cert_checker.specs.Steps.{step_fact, step_facts, gives, gives_by, met_with, IsEnough}
use Rattle.cert_checker.specs.Steps.{IsConcluded, target_of}
use Rattle.tree_certificates.specs.Sections.{behind, AreAccepted, ArePlaces}
use Rattle.tree_certificates.specs.Writing.{IsSlotKnown, IsWritable, givens_of}
use Rattle.tree_certificates.specs.Traces.{HaveFields}
use Rattle.tree_certificates.proofs.Cited.{step_kept, step_new, below_behind, behind_both}
use Rattle.tree_certificates.proofs.Cited.{accepted_both, premises_found, fields_more, mapped}
use Rattle.tree_certificates.proofs.Cited.{reads_length}
use Rattle.tree_certificates.proofs.Coming.{aims, enough, coming_accepted, met_by}
use Rattle.tree_certificates.specs.Coming.{coming}
use Rattle.box_trace.specs.declared.known.Known.{Known}
use Rattle.box_trace.specs.declared.log.Log.{Log}
use Rattle.box_trace.specs.Tables.{fact_of, number_or, cited_at, known_at, place_in, HasRows}
use Rattle.box_trace.proofs.Rows.{open_marked}
use Rattle.box_trace.specs.Logs.{kept_in, IsMet, IsStep, Comes, InSection, CanCite, GoesOnFrom}

-- ---- what is given
-- c comes by what is given, which takes no premises.
abbrev pub ComesGiven : World → Log → Given → ℕ → Fact → Log → Type 0
ComesGiven u old g arg c new = Comes u old (given_number g) arg [] c new

-- what comes by a rule and premises that are told to be those
pub comes_given : (u : World) (old : Log) (rule arg : ℕ) (premises : List ℕ) (c : Fact)
    (new : Log) (g : Given) (a : ℕ) → rule ≡ given_number g → arg ≡ a → premises ≡ []
    → Comes u old rule arg premises c new → ComesGiven u old g a c new
comes_given u old rule arg premises c new g a d e f w =
    subst (λ n. Comes u old n a [] c new) d
    (subst (λ n. Comes u old rule n [] c new) e (subst (λ ps. Comes u old rule arg ps c new) f w))

-- ---- what a step is met with
-- What is given is met with what stood there.
pub met_given : (g : Given) (o : Option Fact) (c : Fact) (met : Option Fact)
    → IsMet (given_number g) o c met → met ≡ o
met_given g o c met w =
    elim w [
      | inl e ↦ e
      | inr e ↦ absurd (none_some g (given_of (given_number g)) e.0 (given_back g))
    ]

module _ (rule : ℕ) (o : Option Fact) (c : Fact) (met : Option Fact) (w : IsMet rule o c met) where
  met_known : (h : Fact) → met ≡ Some h → o ≡ Some h
  met_known h q = elim w [ inl e ↦ sym e ∙ q | inr e ↦ absurd (none_some h met e.1 q) ]

  -- either way the same is kept
  met_kept : joined met c ≡ joined o c
  met_kept =
      elim w [
        | inl e ↦ ap (λ m. joined m c) e
        | inr e ↦ ap (λ m. joined m c) e.1 ∙ sym e.2
      ]

-- ---- what becomes of the table
module _ (u : World) (old new : Log) (rule arg : ℕ) (premises : List ℕ) (c : Fact) where
  module _ (p : IsProper (known_at u old.known)) (w : IsStep u old rule arg premises c new) where
    step_improves : Improves (known_at u old.known) (known_at u new.known) c (kept_in u old c)
    step_improves = record {
      kept = (with_fact-improves (known_at u old.known) p c).kept;
      written = record { here = ap fact_of w.here; others = λ s d. ap fact_of (w.others s d) };
    }

  stays_improves : IsProper (known_at u old.known)
      → (g : Fact) → known_at u old.known (slot_of c) ≡ Some g → IsStronger g c → new ≡ old
      → Improves (known_at u old.known) (known_at u new.known) c g
  stays_improves p g e s same =
      let P : Option Fact → Type 0 = λ o. IsKept o c g in
      let Q : Log → Type 0 = λ l. Improves (known_at u old.known) (known_at u l.known) c g in
      subst Q (sym same) (record {
        kept = subst P (sym e) (inl (s, refl));
        written = record {
          here = ap (known_at u old.known) (p (slot_of c) g e) ∙ e;
          others = λ t d. refl;
        };
      })

  pub comes_improves : IsProper (known_at u old.known) → Comes u old rule arg premises c new
      → (k : Fact) × Improves (known_at u old.known) (known_at u new.known) c k
  comes_improves p w = elim w [
    | inl y ↦ (y.0, stays_improves p y.0 y.1 y.2 y.3)
    | inr y ↦ (kept_in u old c, step_improves p y)
  ]

  pub comes_rows : HasRows u old.known → Comes u old rule arg premises c new → HasRows u new.known
  comes_rows r w = elim w [
    | inl y ↦ subst (λ (l : Log). HasRows u l.known) (sym y.3) r
    | inr y ↦ record {
      count = y.count ∙ r.count;
      proper = (let i = comes_improves r.proper (inr y) in
          improved_proper (known_at u old.known) (known_at u new.known) c i.0 i.1 r.proper);
      marked = open_marked u new.known y.unsaid;
    }
  ]

  pub comes_first : Comes u old rule arg premises c new → new.first ≡ old.first
  comes_first w = elim w [ inl y ↦ ap (λ (l : Log). l.first) y.3 | inr y ↦ y.first ]

  pub comes_few : Comes u old rule arg premises c new
      → length new.steps.items ≤ length old.steps.items + 1
  comes_few w =
      elim w [
        | inl y ↦ (let e : length new.steps.items ≡ length old.steps.items =
            ap (λ (l : Log). length l.steps.items) y.3 in omega arith)
        | inr y ↦
            (let row = coming rule arg premises y.met (place_in u old.known (slot_of c)) c in
            let e = ap length y.steps in
            let l = length-append old.steps.items (row ∷ []) in
            omega (arith, e, l))
      ]

-- ---- what becomes of a section
next_behind : (s : Numbered) (rows : List StepRow) → (behind s rows).next ≡ s.next + length rows
next_behind s [] = omega arith
next_behind s (row ∷ rows) = let h = next_behind (with_step s row.fact) rows in omega (arith, h)

module _ (u : World) (cut : Option Fact) (s : Numbered) (old new : Log) (rule arg : ℕ)
    (premises : List ℕ) (c : Fact) where
  abbrev Row : Option Fact → StepRow
  Row met = coming rule arg premises met (place_in u old.known (slot_of c)) c

  -- the rule, its argument and the number of premises have room
  abbrev pub HasRoom : Type 0
  HasRoom = IsCounted premises × (rule < 256) × IsShort arg

  -- what the rule gives is enough for c to come, where it is met with this
  abbrev pub SufficesWith : List Fact → Option Fact → Type 0
  SufficesWith ps met = IsEnough
      (met_with (gives (givens_of (setting_of u) u.hints cut) (Row met) ps (met_by met c))
      (met_by met c)) (joined met c)

  -- the same, whatever it is met with
  abbrev pub Suffices : List Fact → Type 0
  Suffices ps = (met : Option Fact) → IsMet rule (known_at u old.known (slot_of c)) c met
      → SufficesWith ps met

  module _ (w : IsStep u old rule arg premises c new) where
    rows_behind : behind s new.steps.items ≡ with_step (behind s old.steps.items) (kept_in u old c)
    rows_behind = ap (behind s) w.steps ∙ (behind_both s old.steps.items (Row w.met ∷ [])
        ∙ ap (with_step (behind s old.steps.items))
        (met_kept rule (known_at u old.known (slot_of c)) c w.met w.met_is))

    step_cites : (now : Known) → CanCite u s old now → CanCite u s new now
    step_cites now can t f e =
        let P : Numbered → Type 0 = λ z. step_fact z.rows (place_in u now t) ≡ Some f in
        subst P (sym rows_behind)
        (step_kept (behind s old.steps.items) (kept_in u old c) (place_in u now t) f (can t f e))

    step_placed : InSection u cut s old
        → ArePlaces (behind s new.steps.items) (known_at u new.known) (place_in u new.known)
    step_placed i t f e =
        let last = behind s old.steps.items in
        let k = kept_in u old c in
        let P : Numbered → Type 0 = λ z. step_fact z.rows (place_in u new.known t) ≡ Some f in
        subst P (sym rows_behind)
        (elim (slot_cases t (slot_of k)) [
          | inl d ↦
              (let number : place_in u new.known t ≡ last.next = ap (place_in u new.known) d
              ∙ (ap number_or w.here ∙ (ap (λ n. n + length old.steps.items) (sym i.next)
              ∙ sym (next_behind s old.steps.items))) in
              let same : k ≡ f = some_same k f (known_at u new.known t) (ap (known_at u new.known) d
              ∙ ap fact_of w.here) e in
              ap (step_fact (with_step last k).rows) number
              ∙ (step_new last k (below_behind s old.steps.items i.below) ∙ ap Some same))
          | inr d ↦
              (let there : cited_at u new.known t ≡ cited_at u old.known t = w.others t d in
              ap (step_fact (with_step last k).rows) (ap number_or there) ∙ step_kept last k
              (place_in u old.known t) f (i.traced.placed t f (sym (ap fact_of there) ∙ e)))
        ])

    step_section : IsProper (known_at u old.known)
        → HasRoom → IsSlotKnown u.nodes (slot_of c) → (ps : List Fact)
        → step_facts (behind s old.steps.items).rows premises ≡ Some ps → Suffices ps
        → InSection u cut s old → InSection u cut s new
    step_section p room known ps found suffices i =
        let g = givens_of (setting_of u) u.hints cut in
        let known_met = met_known rule (known_at u old.known (slot_of c)) c w.met w.met_is in
        let concluded : IsConcluded g (behind s old.steps.items).rows (Row w.met) =
        coming_accepted g (behind s old.steps.items) rule arg premises ps
        w.met (place_in u old.known (slot_of c)) c
        (λ h q. p (slot_of c) h (known_met h q))
        (λ h q. i.traced.placed (slot_of c) h (known_met h q)) known found
        (suffices w.met w.met_is) in
        record {
          below = i.below;
          next = i.next ∙ sym w.first;
          traced = record {
            accepted = subst (AreAccepted g s) (sym w.steps)
                (accepted_both g s old.steps.items (Row w.met ∷ []) i.traced.accepted
                (concluded, tt));
            placed = step_placed i;
          };
          fields = subst HaveFields (sym w.steps) (fields_more old.steps.items (Row w.met) i.fields
              (record { counted = room.0; rule = room.1; arg = room.2 }));
        }

  -- Where c comes, each section goes on.
  pub comes_section : IsProper (known_at u old.known)
      → HasRoom → IsSlotKnown u.nodes (slot_of c) → (ps : List Fact)
      → step_facts (behind s old.steps.items).rows premises ≡ Some ps → Suffices ps
      → Comes u old rule arg premises c new → InSection u cut s old → InSection u cut s new
  comes_section p room known ps found suffices w i = elim w [
    | inl y ↦ subst (InSection u cut s) (sym y.3) i
    | inr y ↦ step_section y p room known ps found suffices i
  ]

  pub comes_cites : (now : Known) → Comes u old rule arg premises c new
      → CanCite u s old now → CanCite u s new now
  comes_cites now w can =
      let P : Log → Type 0 = λ l. CanCite u s l now in
      elim w [ inl y ↦ subst P (sym y.3) can | inr y ↦ step_cites y now can ]

-- What is given is met with what stood there alone.
pub given_suffices : (u : World) (cut : Option Fact) (s : Numbered) (old new : Log) (g : Given)
    (arg : ℕ) (c : Fact) → SufficesWith u cut s old new (given_number g) arg [] c []
    (known_at u old.known (slot_of c)) → Suffices u cut s old new (given_number g) arg [] c []
given_suffices u cut s old new g arg c w = λ met is.
    subst (SufficesWith u cut s old new (given_number g) arg [] c [])
    (sym (met_given g (known_at u old.known (slot_of c)) c met is)) w

-- ---- conclusions of instances
module _ (u : World) (w : IsWritable (setting_of u) u.hints) where
  -- the rule of an instance gives its conclusion where the step aims
  instance_gives : (cut : Option Fact) (i : Instance) (o : Option Fact) (c : Fact) (ps : List Fact)
      (premises : List ℕ) (n : ℕ) → concludes u.nodes u.hints i.rule i.arg ps i.target ≡ Some c
      → ((h : Fact) → o ≡ Some h → slot_of h ≡ slot_of c) →
      gives (givens_of (setting_of u) u.hints cut)
      (coming i.rule i.arg premises o n c) ps (met_by o c) ≡ Some c
  instance_gives cut i o c ps premises n e p =
      let g = givens_of (setting_of u) u.hints cut in
      let row = coming i.rule i.arg premises o n c in
      let none = given_low i.rule (w.low i.rule i.arg ps i.target c e) in
      let here : concludes u.nodes u.hints i.rule i.arg ps (slot_of c) ≡ Some c =
      elim (w.on_target i.rule i.arg ps i.target c e) [
        | inl q ↦ ap (concludes u.nodes u.hints i.rule i.arg ps) q ∙ e
        | inr q ↦ ap (concludes u.nodes u.hints i.rule i.arg ps) (ap slot_of q)
            ∙ (w.void_fits i.rule i.arg ps i.target (e ∙ ap Some q) ∙ ap Some (sym q))
      ] in
      let z : concludes u.nodes u.hints i.rule i.arg ps (target_of (joined o c) (met_by o c))
      ≡ Some c = ap (concludes u.nodes u.hints i.rule i.arg ps) (aims o c p) ∙ here in
      ap (gives_by g row ps (met_by o c)) none ∙ z

  target_known : (k : ℕ) (i : Instance) (ps : List Fact) (c : Fact)
      → slice_get u.instances k ≡ Some i
      → concludes u.nodes u.hints i.rule i.arg ps i.target ≡ Some c
      → IsSlotKnown u.nodes (slot_of c)
  target_known k i ps c g e =
      elim (w.on_target i.rule i.arg ps i.target c e) [
        | inl q ↦ subst (IsSlotKnown u.nodes) (sym q) (w.targets k i g)
        | inr q ↦ subst (IsSlotKnown u.nodes) (ap slot_of (sym q)) tt
      ]

  instance_room : (k : ℕ) (i : Instance) (at : At) (place : Slot → ℕ) (ps : List Fact) (c : Fact)
      → slice_get u.instances k ≡ Some i → Reads at i.premises ps
      → concludes u.nodes u.hints i.rule i.arg ps i.target ≡ Some c
      → IsCounted (map place i.premises) × (i.rule < 256) × IsShort i.arg
  instance_room k i at place ps c g r e = (
    (let m = mapped place i.premises in let l = reads_length at i.premises ps r in
        let n = w.counted i.rule i.arg ps i.target c e in omega (arith, m, l, n)),
    (let l = w.low i.rule i.arg ps i.target c e in omega (arith, l)),
    w.args k i g,
  )

  -- Where the conclusion of an instance comes, by the steps of its premises, each section goes on.
  pub instance_goes_on : (now : Known) (old new : Log) (k : ℕ) (i : Instance) (c : Fact)
      → IsProper (known_at u old.known) → slice_get u.instances k ≡ Some i
      → conclusion (concludes u.nodes u.hints) (known_at u now) i ≡ Some c
      → Comes u old i.rule i.arg (map (place_in u now) i.premises) c new → GoesOnFrom u now old new
  instance_goes_on now old new k i c p there e come cut s section can =
      let q = conclusion_reads (concludes u.nodes u.hints) (known_at u now) i c e in
      let premises : List ℕ = map (place_in u now) i.premises in
      let o : Option Fact = known_at u old.known (slot_of c) in
      let own : (h : Fact) → o ≡ Some h → slot_of h ≡ slot_of c = (λ h y. p (slot_of c) h y) in
      let enough_by : (met : Option Fact) → IsMet i.rule o c met
      → SufficesWith u cut s old new i.rule i.arg premises c q.0 met = (λ met is.
      let own_met : (h : Fact) → met ≡ Some h → slot_of h ≡ slot_of c =
      (λ h y. own h (met_known i.rule o c met is h y)) in
      let P : Option Fact → Type 0 = λ x. IsEnough (met_with x (met_by met c)) (joined met c) in
      subst P (sym (instance_gives cut i met c q.0 premises (place_in u old.known (slot_of c)) q.2
      own_met)) (enough met c own_met)) in (
        comes_section u cut s old new i.rule i.arg premises c p (instance_room k i (known_at u now)
            (place_in u now) q.0 c there q.1 q.2) (target_known k i q.0 c there q.2) q.0
            (premises_found (behind s old.steps.items) (known_at u now)
            (place_in u now) can i.premises q.0 q.1)
            enough_by come section,
        comes_cites u cut s old new i.rule i.arg premises c now come can,
      )
