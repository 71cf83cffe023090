-- What conclusions come to, one, two for a slot, and those of a whole round.
use Rattle.std.specs.Prelude.{◌≡◌, ◌≢◌, ◌⊎◌, ◌<◌, ◌≤◌, ◌+◌, ◌*◌, ℕ, List, [], ◌∷◌, ◌++◌, length}
use Rattle.std.specs.Prelude.{Option, Some, None, map, Contains, refl}
use Rattle.std.proofs.Common.{sym, ◌∙◌, ap, subst, inl, inr, arith}
use Rattle.std.proofs.lemmas.List.{map-append}
use Rattle.std.proofs.lemmas.List.Elements.{Contains-push, Contains-push_cases}
use Rattle.std.proofs.lemmas.List.Elements.{Contains-append_left}
use Rattle.pair_closure.specs.Reached.{IsEachOnce}
use Rattle.facts.specs.declared.fact.Fact.{Fact}
use Rattle.facts.specs.declared.fact.Slot.{Slot}
use Rattle.facts.specs.declared.fact.Fact.TheVariants as fact
use Rattle.facts.specs.declared.fact.Slot.TheVariants as slot
use Rattle.facts.specs.Order.{slot_of, IsStronger}
use Rattle.facts.proofs.CommonParts.{at_option, void_is}
use Rattle.theorem_list.specs.Concludes.{concludes}
use Rattle.derivation.specs.Derivations.{At}
use Rattle.derivation.specs.Lists.{IsOnTargetList}
use Rattle.derivation.specs.Rounds.{IsProper, Improves, IsAhead, IsSame, AllSeen}
use Rattle.derivation.specs.Changes.{IsListed}
use Rattle.derivation.proofs.Parts.{none_some, void_alone}
use Rattle.derivation.specs.Parts.{slot_cases}
use Rattle.derivation.proofs.Steps.{improved_slot, improved_stronger, old_no_void}
use Rattle.derivation.proofs.Ahead.{ahead_begin, ahead_step, ahead_void}
use Rattle.rule_universe.specs.declared.placed.Placed.{Placed}
use Rattle.rule_universe.specs.Worlds.{World}
use Rattle.rule_universe.specs.Placed.{slots_of, IsPlaced}
use Rattle.rule_universe.specs.Sizes.{beyond_four}
use Rattle.rule_universe.proofs.OnePlace.{slot_once}
use Rattle.saturate.specs.Universes.{setting_of}
use Rattle.tree_certificates.specs.Sections.{behind, ArePlaces}
use Rattle.tree_certificates.specs.Writing.{IsWritable}
use Rattle.box_trace.specs.declared.known.Known.{Known}
use Rattle.box_trace.specs.declared.log.Log.{Log}
use Rattle.box_trace.specs.declared.log.Source.{Source}
use Rattle.box_trace.specs.declared.ends.Found.{Found}
use Rattle.box_trace.specs.declared.ends.Ends.{Ends}
use Rattle.box_trace.specs.Tables.{known_at, place_in, HasRows}
use Rattle.box_trace.specs.Scans.{IsConclusion, ends_in, AreEndsOf, IsWide}
use Rattle.box_trace.proofs.Scans.{most_for}
use Rattle.box_trace.specs.Rounds.{AddsSteps}
use Rattle.box_trace.specs.Logs.{Comes, CanCite, GoesOnFrom, IsLonger, IsSource, IsComeBy}
use Rattle.box_trace.specs.Logs.{IsSlotWritten, IsRound, more_by}
use Rattle.box_trace.proofs.Rows.{same_known, same_places}
use Rattle.box_trace.proofs.Added.{adds_both, adds_one, adds_slack}
use Rattle.box_trace.proofs.Beyond.{beyond_below, beyond_next, beyond_both, beyond_one}
use Rattle.box_trace.proofs.Logged.{comes_improves, comes_rows, comes_first, comes_few}
use Rattle.box_trace.proofs.Logged.{instance_goes_on}
use Rattle.box_trace.proofs.Scanned.{IsWritten, written_one, written_both, wide_cases}

module _ (u : World) (now : Known) where
  -- One conclusion came.
  pub came : (old new : Log) (found : Found) (source : Source) → HasRows u old.known
      → (w : IsConclusion u (known_at u now) found) → IsSource u now w.0 source
      → Comes u old source.rule source.arg source.premises found.fact new
      → IsComeBy u now found old new
  came old new found source r w is come =
      let ps : List ℕ = map (place_in u now) (w.0).premises in
      let c : Comes u old (w.0).rule (w.0).arg ps found.fact new =
      subst (λ n. Comes u old n (w.0).arg ps found.fact new) is.rule
      (subst (λ n. Comes u old source.rule n ps found.fact new) is.arg
      (subst (λ l. Comes u old source.rule source.arg l found.fact new) is.premises come)) in
      record {
        improves = comes_improves u old new (w.0).rule (w.0).arg ps found.fact r.proper c;
        goes_on = λ writable. instance_goes_on u writable now old new found.instance w.0
            found.fact r.proper w.1 w.2 c;
        rows = comes_rows u old new (w.0).rule (w.0).arg ps found.fact r c;
        adds = adds_one u now old new found w.0 w.1 w.2 c;
        first = comes_first u old new (w.0).rule (w.0).arg ps found.fact c;
        few = comes_few u old new (w.0).rule (w.0).arg ps found.fact c;
      }

  pub goes_on_both : (old mid new : Log) → GoesOnFrom u now old mid → GoesOnFrom u now mid new
      → GoesOnFrom u now old new
  goes_on_both old mid new a b cut s i can = (let w = a cut s i can in b cut s w.0 w.1)

  -- Those of one slot came.
  pub slot_written : (p : ℕ) (e : Ends) (old mid new : Log) → IsComeBy u now e.low old mid
      → (IsWide (length u.nodes) p → IsComeBy u now e.high mid new)
      → ((¬ IsWide (length u.nodes) p) → new ≡ mid) → IsSlotWritten u now p e old new
  slot_written p e old mid new low wide narrow =
      elim (wide_cases u (known_at u now) (length u.nodes) p) [
        | inl y ↦
            (let high = wide y in
            record {
              one = λ n. absurd (n y);
              both = λ z. (
                known_at u mid.known,
                low.improves.0,
                high.improves.0,
                low.improves.1,
                high.improves.1,
              );
              goes_on = λ writable. goes_on_both old mid new (low.goes_on writable)
                  (high.goes_on writable);
              rows = high.rows;
              adds = adds_both u now (more_by u e.low) (more_by u e.high) old mid new low.first
                  low.adds high.adds;
              first = high.first ∙ low.first;
              two = (let a = low.few in let b = high.few in omega (arith, a, b));
              single = λ n. absurd (n y);
            })
        | inr y ↦
            (let same : mid ≡ new = sym (narrow y) in
            let P : Log → Type 0 = λ l. IsSlotWritten u now p e old l in
            subst P same (record {
              one = λ n. low.improves;
              both = λ z. absurd (y z);
              goes_on = low.goes_on;
              rows = low.rows;
              adds = adds_slack u now (more_by u e.low) (more_by u e.low + more_by u e.high) old mid
                  (omega arith) low.adds;
              first = low.first;
              two = (let a = low.few in omega (arith, a));
              single = λ n. low.few;
            }))
      ]

-- ---- what changes
-- a fact that comes changes its slot alone
improved_others : (at new : At) (c k : Fact) → Improves at new c k → new slot.Void ≡ None
    → (s : Slot) → s ≢ slot_of c → new s ≡ at s
improved_others at new c k i n s d = i.written.others s (λ q. d (q ∙ improved_slot at new c k i n))

module _ (u : World) (at : At) (now : Known) (p : ℕ) (e : Ends) (ends : AreEndsOf u at p e)
    (old new : Log) (w : IsSlotWritten u now p e old new) where
  written_others : known_at u new.known slot.Void ≡ None → (s : Slot) → s ≢ slot_of e.low.fact
      → known_at u new.known s ≡ known_at u old.known s
  written_others n s d =
      elim (wide_cases u at (length u.nodes) p) [
        | inl y ↦
            (let b = w.both y in
            let same : slot_of e.high.fact ≡ slot_of e.low.fact = slot_once (length u.nodes) u.pairs
            (slot_of e.high.fact) (slot_of e.low.fact) p ends.high_place ends.low_place in
            improved_others b.0 (known_at u new.known) e.high.fact b.2 b.4 n s (λ q. d (q ∙ same))
            ∙ improved_others (known_at u old.known) b.0 e.low.fact b.1 b.3
            (old_no_void b.0 (known_at u new.known) e.high.fact b.2 b.4 n) s d)
        | inr y ↦ (let o = w.one y in
            improved_others (known_at u old.known) (known_at u new.known) e.low.fact o.0 o.1 n s d)
      ]

  pub written_listed : (before changed : List Placed) → known_at u new.known slot.Void ≡ None
      → changed ≡ before ++ record { slot = slot_of e.low.fact; place = p } ∷ []
      → IsListed (slots_of before) at (known_at u old.known)
      → IsListed (slots_of changed) at (known_at u new.known)
  written_listed before changed n q l s =
      let longer : slots_of changed ≡ slots_of before ++ slot_of e.low.fact ∷ [] =
      ap slots_of q ∙ map-append (λ (x : Placed). x.slot) before
      (record { slot = slot_of e.low.fact; place = p } ∷ []) in
      elim (slot_cases s (slot_of e.low.fact)) [
        | inl d ↦ inl (subst (λ ss. Contains ss s) (sym longer)
            (subst (λ t. Contains (slots_of before ++ slot_of e.low.fact ∷ []) t) (sym d)
            (Contains-push (slots_of before) (slot_of e.low.fact))))
        | inr d ↦ elim (l s) [
          | inl h ↦ inl (subst (λ ss. Contains ss s) (sym longer)
              (Contains-append_left (slots_of before) (slot_of e.low.fact ∷ []) s h))
          | inr h ↦ inr (written_others n s d ∙ h)
        ]
      ]

  pub written_placed : (before changed : List Placed)
      → changed ≡ before ++ record { slot = slot_of e.low.fact; place = p } ∷ []
      → ((x : Placed) → Contains before x → IsPlaced (length u.nodes) u.pairs x) → (x : Placed)
      → Contains changed x → IsPlaced (length u.nodes) u.pairs x
  written_placed before changed q l x c =
      elim (Contains-push_cases before (record { slot = slot_of e.low.fact; place = p }) x
      (subst (λ ss. Contains ss x) q c)) [
        | inl h ↦ l x h
        | inr d ↦ subst (IsPlaced (length u.nodes) u.pairs) d ends.low_place
      ]

  pub written_ahead : (rows : List (Option Ends)) → ends_in rows p ≡ Some e
      → IsAhead (setting_of u) at (known_at u old.known) (IsWritten u at rows p)
      → IsAhead (setting_of u) at (known_at u new.known) (IsWritten u at rows (p + 1))
  written_ahead rows here a =
      elim (wide_cases u at (length u.nodes) p) [
        | inl y ↦ (let b = w.both y in written_both u at rows p e here ends
            (known_at u old.known) b.0 (known_at u new.known) b.1 b.2 a b.3 b.4)
        | inr y ↦ (let o = w.one y in written_one u at rows p e here ends (known_at u old.known)
            (known_at u new.known) o.0 y a o.1)
      ]

  -- and so many steps come at most
  pub written_few : (n : ℕ) → length old.steps.items ≤ n + most_for (length u.nodes) p
      → length new.steps.items ≤ n + most_for (length u.nodes) (p + 1)
  written_few n l =
      elim (wide_cases u at (length u.nodes) p) [
        | inl y ↦ (let t = w.two in
            elim y [ inl h ↦ omega (arith, t, l, h) | inr h ↦ omega (arith, t, l, h) ])
        | inr y ↦ (let t = w.single y in omega (arith, t, l))
      ]

-- and so many premises
pub written_adds : (u : World) → IsEachOnce u.pairs → IsOnTargetList (concludes u.nodes u.hints)
    → (now : Known) (p : ℕ) → p < 4 * length u.nodes + length u.pairs
    → (e : Ends) → AreEndsOf u (known_at u now) p e → (first old new : Log)
    → old.first ≡ first.first → AddsSteps u now (2 * beyond_below u p) first old
    → AddsSteps u now (more_by u e.low + more_by u e.high) old new
    → AddsSteps u now (2 * beyond_below u (p + 1)) first new
written_adds u once on_target now p inside e ends first old new f a b =
    let most = beyond_both u once on_target (known_at u now) p inside e ends in
    let next = beyond_next u p in
    adds_slack u now (2 * beyond_below u p + (more_by u e.low + more_by u e.high))
    (2 * beyond_below u (p + 1)) first new (omega (arith, most, next))
    (adds_both u now (2 * beyond_below u p)
    (more_by u e.low + more_by u e.high) first old new f a b)

-- ---- a whole round
pub most_bound : (n pairs p : ℕ) → n ≤ 1024 → pairs ≤ 1024 → p ≤ 4 * n + pairs → most_for n p ≤ 8192
most_bound n pairs p a b c = omega arith

pub most_more : (n p : ℕ) → most_for n p + 1 ≤ most_for n (p + 1)
most_more n p = omega arith

-- where VOID came
pub round_void : (u : World) (now : Known) (old new : Log) (changed : List Placed)
    (Seen : ℕ → Type 0) → IsAhead (setting_of u) (known_at u now) (known_at u new.known) Seen
    → known_at u new.known slot.Void ≡ Some fact.Void
    → (IsWritable (setting_of u) u.hints → GoesOnFrom u now old new) → HasRows u new.known →
    AddsSteps u now (2 * beyond_four u.instances) old new → new.first ≡ old.first →
    length new.steps.items ≤ length old.steps.items + 8192 → IsRound u now old new changed
round_void u now old new changed Seen a v g r d f l = record {
  ahead =
      ahead_void (setting_of u) (known_at u now) (known_at u new.known) Seen AllSeen fact.Void a v;
  listed = λ n. absurd (none_some fact.Void (known_at u new.known slot.Void) n v);
  placed = λ n. absurd (none_some fact.Void (known_at u new.known slot.Void) n v);
  goes_on = g;
  rows = r;
  adds = d;
  first = f;
  few = l;
}

proper_same : (at new : At) → IsSame at new → IsProper new → IsProper at
proper_same at new same p s f e = p s f (same s ∙ e)

-- where VOID isn't found nothing stands on its slot
pub not_void : (at : At) → IsProper at → (at slot.Void ≡ Some fact.Void → ⊥) → at slot.Void ≡ None
not_void at p n = at_option (at slot.Void) (λ o. at slot.Void ≡ o → o ≡ None) (λ e q. refl)
    (λ f e q. absurd (n (q ∙ ap Some (void_is f (p slot.Void f q))))) refl

-- before anything came
pub begin_ahead : (u : World) (at new : At) (Seen : ℕ → Type 0) → IsSame at new → IsProper new
    → ((k : ℕ) → ¬ Seen k) → IsAhead (setting_of u) at new Seen
begin_ahead u at new Seen same p none =
    ahead_begin (setting_of u) at new Seen (proper_same at new same p) same none

-- A conclusion VOID came.
pub void_came : (u : World) (now : Known) (found : Found) (old new : Log) (changed : List Placed)
    → IsConclusion u (known_at u now) found → found.fact ≡ fact.Void → HasRows u old.known
    → IsSame (known_at u now) (known_at u old.known) → IsComeBy u now found old new
    → IsRound u now old new changed
void_came u now found old new changed w v r same c =
    let at = known_at u now in
    let from = known_at u old.known in
    let to = known_at u new.known in
    let k = c.improves.0 in
    let a : IsAhead (setting_of u) at from (λ j. ⊥) =
    begin_ahead u at from (λ j. ⊥) same r.proper (λ j h. h) in
    let strong : IsStronger k found.fact = improved_stronger from to found.fact k c.improves.1 in
    let is_void : k ≡ fact.Void = void_alone k (subst (IsStronger k) v strong) in
    round_void u now old new changed (λ j. ⊥ ⊎ (found.instance ≡ j))
    (ahead_step (setting_of u) at from
    (λ j. ⊥) found.instance w.0 a w.1 found.fact w.2 to k c.improves.1)
    (subst (λ f. to (slot_of f) ≡ Some f) is_void c.improves.1.written.here)
    c.goes_on c.rows
    (adds_slack u now (more_by u found) (2 * beyond_four u.instances) old new
    (let b = beyond_one u found in omega (arith, b)) c.adds)
    c.first (let f = c.few in omega (arith, f))

-- ---- rounds after one another
-- A round more, where what it read is what the log came to.
pub longer_round : (u : World) (now : Known) (m h : ℕ) (first old new : Log) (changed : List Placed)
    → IsLonger u m first old → now.rows.items ≡ old.known.rows.items → IsRound u now old new changed
    → m + 8192 ≤ h → IsLonger u h first new
longer_round u now m h first old new changed l e r b = record {
  goes_on = λ w cut s i.
      (let j = l.goes_on w cut s i in
      let P : At → Type 0 = λ at. ArePlaces (behind s old.steps.items) at (place_in u now) in
      let Q : (Slot → ℕ) → Type 0 =
      λ place. ArePlaces (behind s old.steps.items) (known_at u old.known) place in
      let can : CanCite u s old now = subst P (sym (same_known u old.known now e))
      (subst Q (sym (same_places u old.known now e)) j.traced.placed) in
      (r.goes_on w cut s j can).0);
  rows = r.rows;
  first = r.first ∙ l.first;
  few = (let a = l.few in let d = r.few in omega (arith, a, d, b));
}

-- no round
pub longer_none : (u : World) (h : ℕ) (log : Log) → HasRows u log.known → IsLonger u h log log
longer_none u h log r =
    record { goes_on = λ w cut s i. i; rows = r; first = refl; few = omega arith }

pub longer_slack : (u : World) (m h : ℕ) (first log : Log) → m ≤ h → IsLonger u m first log
    → IsLonger u h first log
longer_slack u m h first log b l = record {
  goes_on = l.goes_on;
  rows = l.rows;
  first = l.first;
  few = (let a = l.few in omega (arith, a, b));
}
