-- The two tables of a round, from its start to its end.
use Rattle.std.specs.Prelude.{◌≡◌, ◌≢◌, ◌<◌, ◌+◌, ◌++◌, ℕ, Bool, true, false, List, [], ◌∷◌, Some}
use Rattle.std.specs.Prelude.{None, length, slice_get, Contains, IsTrue, refl, if◌then◌else◌}
use Rattle.std.proofs.Common.{sym, ◌∙◌, ap, subst, inl, inr, arith}
use Rattle.std.proofs.lemmas.Bool.{cases_lt}
use Rattle.std.proofs.lemmas.Option.{slice_get_within}
use Rattle.std.proofs.lemmas.List.Elements.{Contains-push_cases, Contains-append_left}
use Rattle.facts.specs.declared.fact.Fact.{Fact}
use Rattle.facts.specs.declared.fact.Fact.TheVariants as fact
use Rattle.facts.specs.declared.fact.Slot.{Slot}
use Rattle.facts.specs.declared.fact.Slot.TheVariants as slot
use Rattle.facts.specs.declared.instance.Instance.{Instance}
use Rattle.facts.specs.Order.{slot_of}
use Rattle.facts.proofs.Laws.{IsStronger-trans}
use Rattle.derivation.specs.Derivations.{Setting, At, Beats}
use Rattle.derivation.specs.Rounds.{conclusion, IsAhead, IsSame, AllSeen, Improves}
use Rattle.derivation.specs.Changes.{IsListed}
use Rattle.derivation.specs.Counts.{IsRisen, AreRisen}
use Rattle.derivation.proofs.Ahead.{ahead_begin, ahead_fewer, ahead_next, ahead_step, ahead_void}
use Rattle.derivation.proofs.Parts.{none_some}
use Rattle.derivation.specs.Parts.{slot_cases}
use Rattle.rule_universe.specs.declared.placed.Placed.{Placed}
use Rattle.rule_universe.specs.Placed.{slots_of, IsPlaced}
use Rattle.rule_universe.specs.Worlds.{World}
use Rattle.saturate.specs.declared.kept.Table.{Table}
use Rattle.saturate.specs.declared.kept.Tables.{Tables}
use Rattle.saturate.specs.Tables.{fact_at, IsShaped}
use Rattle.saturate.specs.Universes.{HasAllPlaces}
use Rattle.saturate.specs.Closed.{IsClosedUnder, IsMarked}
use Rattle.saturate.specs.Keeping.{InTurn, IsWhole}
use Rattle.saturate.specs.Working.{IsKnown, AreKnown, AreReady, AreAtWork, AreGoing, AreGathered}
use Rattle.saturate.specs.Working.{HasComeTo}
use Rattle.saturate.proofs.Lists.{none_in}
use Rattle.saturate.proofs.Places.{fact_at_proper}
use Rattle.saturate.proofs.Slots.{shaped_room, contains_slot}
use Rattle.saturate.proofs.Closed.{said_at}
use Rattle.saturate.proofs.Visits.{listed_more, pushed, risen_more, risen_pushed, slots_pushed}

-- VOID's slot by the table's word
pub void_said : (t : Table) (b : Bool) → t.void ≡ b
    → fact_at t slot.Void ≡ if b then Some fact.Void else None
void_said t b e = ap (λ (v : Bool). if v then Some fact.Void else None) e

-- The next instance concludes nothing that the old table doesn't beat.
pub idle_ahead : (s : Setting) (at new : At) (n : ℕ) → IsAhead s at new (λ j. j < n)
    → ((i : Instance) (c : Fact) → slice_get s.instances n ≡ Some i
    → conclusion s.rules at i ≡ Some c → Beats at c) → IsAhead s at new (λ j. j < n + 1)
idle_ahead s at new n a idle = record {
  made = a.made;
  grows = a.grows;
  beats = λ v j i c e l q.
      elim (cases_lt j n) [
        | inl h ↦ a.beats v j i c e h q
        | inr h ↦
            (let d : j ≡ n = omega (arith, l, h) in
            let b = idle i c (subst (λ m. slice_get s.instances m ≡ Some i) d e) q in
            let g = a.grows v (slot_of c) b.0 b.1 in
            (g.0, g.1, IsStronger-trans g.0 b.0 c g.2 b.2))
      ];
}

-- What changed has its places where VOID isn't known.
pub placed_all : (u : World) (changed : List Placed) (at new : At) → at slot.Void ≡ None
    → new slot.Void ≡ None → AreKnown u changed → AreRisen (slots_of changed) at new → (p : Placed)
    → Contains changed p → IsPlaced (length u.nodes) u.pairs p
placed_all u changed at new before after known risen p w =
    elim (known p w) [
      | inl h ↦ h
      | inr v ↦
          let r : IsRisen (at slot.Void) (new slot.Void) =
          subst (λ s. IsRisen (at s) (new s)) v (risen p.slot (contains_slot changed p w)) in
          absurd (subst (λ o. IsRisen None o) after
          (subst (λ o. IsRisen o (new slot.Void)) before r))
    ]

module _ (s : Setting) (u : World) where
  -- A round begins.
  pub going_start : (t : Tables) → AreReady u t → fact_at t.now slot.Void ≡ None
      → AreGoing s u t t [] 0
  going_start t r v = (
    record {
      now = refl;
      no_void = v;
      ahead = ahead_begin s (fact_at t.now) (fact_at t.next) (λ j. j < 0) (fact_at_proper t.now)
          (r.same v) (λ k l. omega arith);
      listed = λ x. inr (r.same v x);
      known = λ p w. absurd (none_in p w);
      risen = λ x w. absurd (none_in x w);
      places = r.places;
      places_next = r.places_next;
    },
    r.same v slot.Void ∙ v,
  )

  -- An instance passes.
  pub going_idle : (first t : Tables) (changed : List Placed) (k : ℕ)
      → AreGoing s u first t changed k → ((i : Instance) (c : Fact)
      → slice_get s.instances k ≡ Some i → conclusion s.rules (fact_at first.now) i ≡ Some c
      → Beats (fact_at first.now) c) → AreGoing s u first t changed (k + 1)
  going_idle first t changed k g idle = (
    record {
      now = (g.0).now;
      no_void = (g.0).no_void;
      ahead = idle_ahead s (fact_at t.now) (fact_at t.next) k (g.0).ahead
          (subst (λ (x : Table). (i : Instance) (c : Fact) → slice_get s.instances k ≡ Some i
          → conclusion s.rules (fact_at x) i ≡ Some c → Beats (fact_at x) c) (sym (g.0).now) idle);
      listed = (g.0).listed;
      known = (g.0).known;
      risen = (g.0).risen;
      places = (g.0).places;
      places_next = (g.0).places_next;
    },
    g.1,
  )

  -- All instances were seen.
  pub gathered_all : (first t : Tables) (changed : List Placed) (k : ℕ)
      → length s.instances ≡ k → AreGoing s u first t changed k → AreGathered s u first t changed
  gathered_all first t changed k e g = record {
    now = (g.0).now;
    no_void = (g.0).no_void;
    ahead = ahead_fewer s (fact_at t.now) (fact_at t.next) (λ j. j < k) AllSeen (g.0).ahead
        (λ j i there l. let h = slice_get_within s.instances j i there in omega (arith, h, e));
    listed = (g.0).listed;
    known = (g.0).known;
    risen = (g.0).risen;
    places = (g.0).places;
    places_next = (g.0).places_next;
  }

  -- By the table's word the round goes on, or needs no more.
  pub turned : (first t : Tables) (changed : List Placed) (k : ℕ)
      → AreAtWork s u first t changed (λ j. j < k)
      → InTurn t.next.void (AreGathered s u first t changed) (AreGoing s u first t changed k)
  turned first t changed k w = by_void t.next.void refl
    where
      by_void : (b : Bool) → t.next.void ≡ b
          → InTurn b (AreGathered s u first t changed) (AreGoing s u first t changed k)
      by_void true e = record {
        now = w.now;
        no_void = w.no_void;
        ahead = ahead_void s (fact_at t.now) (fact_at t.next) (λ j. j < k) AllSeen fact.Void w.ahead
            (void_said t.next true e);
        listed = w.listed;
        known = w.known;
        risen = w.risen;
        places = w.places;
        places_next = w.places_next;
      }
      by_void false e = (w, void_said t.next false e)

  -- ---- an instance concludes a fact
  module _ (first t : Tables) (changed : List Placed) (k : ℕ) (g : AreGoing s u first t changed k)
      (i : Instance) (there : slice_get s.instances k ≡ Some i) (c f : Fact)
      (is : conclusion s.rules (fact_at t.now) i ≡ Some c) (next : Table)
      (come : Improves (fact_at t.next) (fact_at next) c f) where
    ahead_more : IsAhead s (fact_at t.now) (fact_at next) (λ j. j < k + 1)
    ahead_more = ahead_next s (fact_at t.now) (fact_at next) k
        (ahead_step s (fact_at t.now) (fact_at t.next) (λ j. j < k) k i (g.0).ahead there c is
        (fact_at next) f come)

    -- What stood there is as strong.
    pub work_same : next ≡ t.next
        → AreAtWork s u first (record { now = t.now; next = next }) changed (λ j. j < k + 1)
    work_same e = record {
      now = (g.0).now;
      no_void = (g.0).no_void;
      ahead = ahead_more;
      listed = subst (λ (x : Table). IsListed (slots_of changed) (fact_at t.now) (fact_at x))
          (sym e) (g.0).listed;
      known = (g.0).known;
      risen = subst (λ (x : Table). AreRisen (slots_of changed) (fact_at t.now) (fact_at x))
          (sym e) (g.0).risen;
      places = (g.0).places;
      places_next = subst (HasAllPlaces u) (sym e) (g.0).places_next;
    }

    -- The slot that changed is listed.
    module _ (after : List Placed) (x : Slot) (p : ℕ)
        (push : after ≡ changed ++ record { slot = x; place = p } ∷ []) where
      known_more : IsKnown u (record { slot = x; place = p }) → AreKnown u after
      known_more known q w =
          elim (Contains-push_cases changed (record { slot = x; place = p }) q
          (subst (λ l. Contains l q) push w))
          [ inl h ↦ (g.0).known q h | inr d ↦ subst (IsKnown u) d known ]

      pub work_more : IsKnown u (record { slot = x; place = p }) → IsShaped t.next next
          → ((y : Slot) → y ≢ x → fact_at next y ≡ fact_at t.next y)
          → IsRisen (fact_at t.next x) (fact_at next x)
          → AreAtWork s u first (record { now = t.now; next = next }) after (λ j. j < k + 1)
      work_more known shape others rise =
          let longer : slots_of after ≡ slots_of changed ++ x ∷ [] =
          slots_pushed changed after (record { slot = x; place = p }) push in
          let at = fact_at t.now in
          record {
            now = (g.0).now;
            no_void = (g.0).no_void;
            ahead = ahead_more;
            listed = listed_more (slots_of changed) (slots_of after) at (fact_at t.next)
                (fact_at next) (g.0).listed
                (λ y w. subst (λ l. Contains l y) (sym longer)
                (Contains-append_left (slots_of changed) (x ∷ []) y w))
                (λ y. elim (slot_cases y x) [
                  | inl e ↦ inl (pushed (slots_of changed) (slots_of after) x y longer e)
                  | inr d ↦ inr (others y d)
                ]);
            known = known_more known;
            risen = risen_more (slots_of changed) (slots_of after) at (fact_at t.next)
                (fact_at next) ((g.0).ahead.grows g.1) (g.0).risen
                (risen_pushed (slots_of changed) (slots_of after) x (fact_at t.next) (fact_at next)
                longer others rise);
            places = (g.0).places;
            places_next = shaped_room (length u.nodes) u.pairs t.next next shape (g.0).places_next;
          }

  -- ---- the end of a round
  module _ (first t : Tables) (changed : List Placed) (w : AreGathered s u first t changed) where
    whole_to : (new : Table) → fact_at t.next ≡ fact_at new
        → IsWhole s u (fact_at first.now) (fact_at new) changed
    whole_to new e =
        subst (λ (x : Table). IsWhole s u (fact_at x) (fact_at new) changed) w.now
        (subst (λ (at : At). IsWhole s u (fact_at t.now) at changed) e (record {
          ahead = w.ahead;
          listed = λ v. w.listed;
          placed = λ v. placed_all u changed (fact_at t.now) (fact_at t.next) w.no_void v w.known
              w.risen;
        }))

    risen_to : (new : Table) → fact_at t.next ≡ fact_at new
        → AreRisen (slots_of changed) (fact_at first.now) (fact_at new)
    risen_to new e =
        subst (λ (x : Table). AreRisen (slots_of changed) (fact_at x) (fact_at new)) w.now
        (subst (λ (at : At). AreRisen (slots_of changed) (fact_at t.now) at) e w.risen)

    -- VOID was found, and the tables change places.
    pub come_swapped : (new : Tables) → t.next.void ≡ true → new.now ≡ t.next → new.next ≡ t.now
        → HasComeTo s u first new changed
    come_swapped new void n o =
        let e : fact_at t.next ≡ fact_at new.now = ap fact_at (sym n) in
        record {
          whole = whole_to new.now e;
          risen = risen_to new.now e;
          ready = record {
            places = subst (HasAllPlaces u) (sym n) w.places_next;
            places_next = subst (HasAllPlaces u) (sym o) w.places;
            same = λ v. absurd (none_some fact.Void (fact_at new.now slot.Void) v
                (void_said new.now true (ap (λ (x : Table). x.void) n ∙ void)));
          };
        }

    -- It wasn't, and the one caught up with the other.
    pub come_caught : (new : Tables) → IsSame (fact_at new.now) (fact_at t.next)
        → IsShaped t.now new.now → new.next ≡ t.next → HasComeTo s u first new changed
    come_caught new same shape n =
        let e : fact_at t.next ≡ fact_at new.now = (λ k x. same x k) in
        record {
          whole = whole_to new.now e;
          risen = risen_to new.now e;
          ready = record {
            places = shaped_room (length u.nodes) u.pairs t.now new.now shape w.places;
            places_next = subst (HasAllPlaces u) (sym n) w.places_next;
            same = λ v. subst (λ (x : Table). IsSame (fact_at new.now) (fact_at x)) (sym n) same;
          };
        }

-- ---- what callers are told
-- The word of a sweep is right of the table.
pub said_unless : (s : Setting) (t : Table) (b : Bool)
    → (IsTrue b → fact_at t slot.Void ≡ None → IsClosedUnder s (fact_at t))
    → IsMarked s (record t { closed = b })
said_unless s t b closed said v = subst (IsClosedUnder s) (said_at t b) (closed said v)

-- The word of the rounds is right of the table.
pub said_marked : (s : Setting) (t : Table) (b : Bool)
    → (IsTrue b → IsClosedUnder s (fact_at t)) → IsMarked s (record t { closed = b })
said_marked s t b closed = said_unless s t b (λ said v. closed said)
