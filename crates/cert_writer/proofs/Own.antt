-- What is so of a box's own steps, where the walk stands before the box, and how a box that isn't
-- cut ends.
use Rattle.std.specs.Prelude.{◌≡◌, ◌<◌, ◌≤◌, ◌+◌, ◌^◌, ℕ, List, [], ◌∷◌, length, Option, Some, None}
use Rattle.std.specs.Prelude.{refl}
use Rattle.std.specs.Borrow.{Bor}
use Rattle.std.specs.List.{AllByRecursion}
use Rattle.std.proofs.Common.{sym, ◌∙◌, ap, subst, inl, inr, arith}
use Rattle.std.proofs.lemmas.List.{length-map}
use Rattle.facts.specs.declared.fact.Fact.{Fact}
use Rattle.facts.specs.declared.fact.Fact.TheVariants as fact
use Rattle.facts.specs.declared.fact.Slot.TheVariants as slot
use Rattle.facts.proofs.CommonParts.{at_option, void_is}
use Rattle.goals.specs.declared.goal.Goal.{Goal}
use Rattle.goals.specs.declared.line.Line.{Line}
use Rattle.derivation.specs.Derivations.{Setting, Derives, At}
use Rattle.derivation.specs.Known.{Piece, GivenAt, IsTableAt}
use Rattle.derivation.specs.Rounds.{IsSame}
use Rattle.derivation.proofs.Parts.{none_some}
use Rattle.derivation.specs.Laws.{TablesAreOne}
use Rattle.rule_universe.specs.Worlds.{World}
use Rattle.box_tree.specs.Plans.{piece_at}
use Rattle.cert_bytes.specs.declared.item.Item.{Item}
use Rattle.cert_bytes.specs.declared.item.Item.TheVariants as item
use Rattle.cert_bytes.specs.declared.item.StepRow.{StepRow}
use Rattle.cert_bytes.specs.declared.style.Seen.{Seen}
use Rattle.cert_bytes.specs.Styles.{seen_in}
use Rattle.cert_checker.specs.Contexts.{Context, open_piece}
use Rattle.cert_checker.specs.Open.{Numbered}
use Rattle.cert_checker.specs.Steps.{step_fact}
use Rattle.cert_checker.specs.After.{after}
use Rattle.tree_certificates.specs.Sections.{behind, ArePlaces}
use Rattle.tree_certificates.specs.Traces.{HaveFields}
use Rattle.tree_certificates.specs.Trees.{Tree, leaf, cut, AllSettled, IsProved, IsSettledLeaf}
use Rattle.tree_certificates.specs.Trees.{lines_of_tree, steps_in, steps_in_each}
use Rattle.tree_certificates.specs.Walks.{numbered, behind_steps, IsBehind, steps_behind}
use Rattle.tree_certificates.specs.Moves.{WalksMove, AreSteps}
use Rattle.box_trace.specs.declared.known.Known.{Known}
use Rattle.box_trace.specs.declared.tracing.Traced.{Traced}
use Rattle.box_trace.specs.Boxes.{IsSomeBox, IsItsTable, IsTracedIn, AreItsSteps, log_of}
use Rattle.box_trace.specs.Boxes.{most_steps}
use Rattle.box_trace.specs.Tables.{known_at, place_in}
use Rattle.box_trace.specs.Short.{EndsBox, BoxesAreShort}
use Rattle.box_trace.specs.Rounds.{IsByRounds}
use Rattle.cert_writer.proofs.Boxes.{HasShortList}
use Rattle.cert_writer.specs.Boxes.{KnowsVoid, IsClosed, IsEnd, refs_in}
use Rattle.cert_writer.specs.Standing.{AreShort, Aim, IsAim, SectionStart, IsAt, HasEnded, AreCited}
use Rattle.cert_writer.specs.Standing.{most_for, steps_left, closed}
use Rattle.cert_writer.specs.Courses.{Course, IsCourse, HasBest, IsBefore, setting, best_at}
use Rattle.cert_writer.specs.Laws.{WritingGoesOn}
use Rattle.cert_writer.proofs.GoesOn.{enough}
use Rattle.cert_writer.proofs.Turn.{next_is}

-- What is so of a box's own steps.
pub record OwnSteps (c : Course) (p : SectionStart) (t : Traced) : Type 0 where
  pub steps : AreSteps c.aim.target.subject p.context t.steps.items
  pub few : length t.steps.items < most_for c.aim
  pub sized : (last : Item) → EndsBox last → AreShort c.aim t.steps.items last
  pub short : AllByRecursion HasShortList t.steps.items
  pub placed : ArePlaces (numbered (behind_steps p.context t.steps.items))
      (known_at c.aim.world t.known) (place_in c.aim.world t.known)
  pub table : IsTableAt (setting c) c.aim.height p.pieces (known_at c.aim.world t.known)
  pub behind : known_at c.aim.world t.known slot.Void ≡ None → IsBehind
      (setting c) c.aim.height c.aim.target.number (behind_steps p.context t.steps.items) p.pieces

-- ---- the best tables of a box
-- What stands on VOID's slot is VOID.
void_there : (u : Setting) (height : ℕ) (pieces : List Piece) (at : At)
    → IsTableAt u height pieces at → (f : Fact) → at slot.Void ≡ Some f → KnowsVoid at
void_there u height pieces at b f e = e ∙ ap Some (void_is f (b.reached slot.Void f e).0)

module _ (u : Setting) (height : ℕ) (pieces : List Piece) (at : At)
    (b : IsTableAt u height pieces at) where
  -- Where VOID isn't known nothing stands there.
  pub nothing_there : ¬ KnowsVoid at → at slot.Void ≡ None
  nothing_there n = at_option (at slot.Void) (λ o. at slot.Void ≡ o → at slot.Void ≡ None)
      (λ m q. q) (λ f m q. absurd (n (void_there u height pieces at b f q))) refl

  -- Where one best table has it, it is derived, so each has it.
  void_too : (new : At) → IsTableAt u height pieces new → (f : Fact)
      → at slot.Void ≡ Some f → KnowsVoid new
  void_too new c f e =
      let r = b.reached slot.Void f e in
      let d : Derives u (GivenAt u height pieces) height fact.Void =
      subst (λ x. Derives u (GivenAt u height pieces) height x) (void_is f r.0) r.1 in
      at_option (new slot.Void) (λ o. new slot.Void ≡ o → KnowsVoid new)
      (λ m q. let y = c.least q fact.Void d in absurd (none_some y.0 (new slot.Void) q y.1))
      (λ g m q. void_there u height pieces new c g q) refl

settled_too : (at new : At) (goals : List Goal) → IsSame at new
    → AllSettled at goals → AllSettled new goals
settled_too at new [] same a = tt
settled_too at new (g ∷ goals) same a =
    (((a.0).0, same g.of ∙ (a.0).1, (a.0).2), settled_too at new goals same a.1)

-- Each goal's step has the best fact on its slot.
are_cited : (u : World) (k : Known) (s : Numbered) (at : At) (goals : List Goal)
    → IsSame (known_at u k) at → ArePlaces s (known_at u k) (place_in u k)
    → AllSettled (known_at u k) goals
    → AreCited s.rows at goals (refs_in u k goals)
are_cited u k s at [] same placed a = tt
are_cited u k s at (g ∷ goals) same placed a = (
  ((a.0).0, same g.of ∙ (a.0).1, placed g.of (a.0).0 (a.0).1, (a.0).2),
  are_cited u k s at goals same placed a.1,
)

-- ---- steps
numbered_behind : (c : Context) (rows : List StepRow)
    → behind (numbered c) rows ≡ numbered (behind_steps c rows)
numbered_behind c [] = refl
numbered_behind c (row ∷ rows) = numbered_behind (after c (item.Step row)) rows

short_lists : (rows : List StepRow) → HaveFields rows → AllByRecursion HasShortList rows
short_lists [] h = tt
short_lists (row ∷ rows) h = ((h.0).counted, short_lists rows h.1)

-- ---- room for them
one_box : (most : ℕ) (tree : Tree) → most ≤ steps_in most tree
one_box most leaf = let l : most ≤ most = omega arith in l
one_box most (cut x points trees) =
    let l : most ≤ most + steps_in_each most trees = omega arith in l

fits : (start passed first sections most more rest : ℕ) (tree : Tree)
    → start ≡ first → passed ≡ sections
    → start + passed + (steps_in most tree + more + rest) ≤ 2 ^ 63
    → first + sections + most ≤ 2 ^ 63
fits start passed first sections most more rest tree e s h =
    let l = one_box most tree in omega (arith, e, s, h, l)

-- A trace has fewer steps than there is room for.
fewer : (t : Aim) → IsAim t → most_steps t.world t.height < most_for t
fewer t a = let l = a.enough in let h = a.writable.few_hypotheses in omega (arith, l, h)

module _ (c : Course) (path : List ℕ) (parent : Option (Bor Known)) (first : Seen)
    (p : SectionStart) (b : IsBefore c path parent first p) where
  pub first_is : p.context.next ≡ first.steps
  first_is = next_is c.aim.world (piece_at c.plan path) parent first.steps (numbered p.context)
      (open_piece p.context.cuts) b.section

  room_here : first.steps + first.sections + most_for c.aim ≤ 2 ^ 63
  room_here =
      let same : (seen_in p.items).sections ≡ first.sections =
      ap (λ (s : Seen). s.sections) b.seen_is in
      fits p.context.next (seen_in p.items).sections first.steps first.sections (most_for c.aim)
      (steps_behind (most_for c.aim) p.frames) (steps_left c.aim) p.tree first_is same b.here.room

  pub some_box : IsSomeBox c.aim.world c.aim.height (piece_at c.plan path) parent
  some_box = (p.pieces, b.box)

  pub has_room : IsCourse c → first.steps + most_steps c.aim.world c.aim.height < 2 ^ 64
  has_room a = let l = fewer c.aim a.aim in let h = room_here in omega (arith, l, h)

  -- for the box's steps and its end, with what was seen
  pub has_sections : IsCourse c → (first.steps + most_steps c.aim.world c.aim.height < 2 ^ 63)
      × (first.sections + most_steps c.aim.world c.aim.height < 2 ^ 63)
  has_sections a =
      let l = fewer c.aim a.aim in
      let h = room_here in (omega (arith, l, h), omega (arith, l, h))

pub few_hypotheses : (c : Course) → IsCourse c → length c.aim.world.hypotheses ≤ 65536
few_hypotheses c a = a.aim.writable.few_hypotheses

-- ---- the box's steps
module _ (moves : WalksMove) (one : TablesAreOne) where
  pub own_steps : (c : Course) → IsCourse c
      → HasBest c → (path : List ℕ) (parent : Option (Bor Known)) (first : Seen) (p : SectionStart)
      → IsBefore c path parent first p → (t : Traced)
      → IsItsTable c.aim.world c.aim.height (piece_at c.plan path) parent t.known
      → AreItsSteps c.aim.world (piece_at c.plan path) parent first.steps (log_of first.steps t)
      → length t.steps.items ≤ most_steps c.aim.world c.aim.height
      → BoxesAreShort → IsByRounds c.aim.world parent c.aim.height first.steps t → OwnSteps c p t
  own_steps c a best path parent first p b t its steps count boxes rounds =
      let u : World = c.aim.world in
      let height : ℕ = c.aim.height in
      let most : ℕ = most_for c.aim in
      let rows : List StepRow = t.steps.items in
      let at : At = known_at u t.known in
      let opened = b.here.entered.opened in
      let traced : IsTracedIn u (open_piece p.context.cuts)
      (numbered p.context) (log_of first.steps t) =
      steps a.aim.writable (numbered p.context) (open_piece p.context.cuts) b.section in
      let l = fewer c.aim a.aim in
      let few : length rows < most = omega (arith, count, l) in
      let n = first_is c path parent first p b in
      let h = room_here c path parent first p b in
      let room : p.context.next + length rows ≤ 2 ^ 64 = omega (arith, n, few, h) in
      let table : IsTableAt (setting c) height p.pieces at = its p.pieces b.box in
      record {
        steps = moves.written (setting c) u.hints a.aim.writable height most
            (enough c.aim a.aim) u.goals c.aim.target.subject c.aim.target.number a.aim.subject
            p.context p.pieces rows opened (traced.0).accepted traced.1 room;
        few = few;
        sized = λ last ends.
            let size = boxes u parent height first.steps rows last a.aim.small
            a.aim.low rounds ends in
            let wide = a.aim.wide in
            omega (arith, size, wide);
        short = short_lists rows traced.1;
        placed = subst (λ s. ArePlaces s at (place_in u t.known))
            (numbered_behind p.context rows) (traced.0).placed;
        table = table;
        behind = λ none.
            let same : IsSame at (best_at c p.pieces) =
            one (setting c) height p.pieces at (best_at c p.pieces) table (best p.pieces) none in
            moves.placed (setting c) u.hints a.aim.writable height most (enough c.aim a.aim)
            u.goals c.aim.target.subject c.aim.target.number a.aim.subject p.context p.pieces rows
            (place_in u t.known) opened
            (λ s f e. (traced.0).placed s f (sym (same s) ∙ e));
      }

-- a leaf has a reference for each goal
refs_few : (c : Course) → IsCourse c → (p : SectionStart) (t : Traced) (refs : List ℕ)
    → refs ≡ refs_in c.aim.world t.known c.aim.world.goals → length refs ≤ 65535
refs_few c a p t refs e =
    let l : length refs ≡ length c.aim.world.goals =
    ap length e ∙ length-map c.aim.world.goals (λ (g : Goal). place_in c.aim.world t.known g.of) in
    let few_goals = a.aim.subject.few_goals in
    omega (arith, l, few_goals)

-- ---- a box that isn't cut
module _ (one : TablesAreOne) where
  -- It shows something.
  pub closed_here : (c : Course)
      → IsCourse c → HasBest c → (p : SectionStart) → IsAt c.aim p → p.tree ≡ leaf → (k : Known)
      → IsTableAt (setting c) c.aim.height p.pieces (known_at c.aim.world k)
      → IsClosed (known_at c.aim.world k) c.aim.world.goals
  closed_here c a best p here e k b =
      let u : World = c.aim.world in
      let height : ℕ = c.aim.height in
      let all : At = best_at c p.pieces in
      let at : At = known_at u k in
      let shows : IsSettledLeaf all u.goals =
      subst (λ y. IsProved (setting c) height u.goals y p.pieces p.depth) e here.entered.proved in
      elim shows [
        | inl v ↦ inl (void_too (setting c) height p.pieces all (best p.pieces) at b v.0 v.1)
        | inr s ↦ inr (settled_too all at u.goals
            (one (setting c) height p.pieces all at (best p.pieces) b s.0) s.1)
      ]

module _ (goes : WritingGoesOn) (one : TablesAreOne) where
  -- Its section ends with its last item.
  pub box_ends : (c : Course) → IsCourse c
      → HasBest c → (path : List ℕ) (parent : Option (Bor Known)) (first : Seen) (p : SectionStart)
      → IsBefore c path parent first p → (t : Traced) → OwnSteps c p t
      → p.tree ≡ leaf → (i : Item) → IsEnd c.aim.world t.known i →
      (lines : List Line) × HasEnded c.aim (closed p t.steps.items i lines)
  box_ends c a best path parent first p b t own e (item.Dead r) h =
      let rows : List StepRow = t.steps.items in
      let there : step_fact (behind_steps p.context rows).steps r ≡ Some fact.Void =
      subst (λ n. step_fact (behind_steps p.context rows).steps n ≡ Some fact.Void) (sym h.1)
      (own.placed slot.Void fact.Void h.0) in
      let void = void_too (setting c) c.aim.height p.pieces (known_at c.aim.world t.known) own.table
      (best_at c p.pieces) (best p.pieces) fact.Void h.0 in (
        p.context.lines,
        goes.voids c.aim a.aim p rows r e b.here own.steps own.few
            (own.sized (item.Dead r) tt) void there,
      )
  box_ends c a best path parent first p b t own e (item.Leaf refs) h =
      let u : World = c.aim.world in
      let rows : List StepRow = t.steps.items in
      let at : At = known_at u t.known in
      let all : At = best_at c p.pieces in
      let none : at slot.Void ≡ None =
      nothing_there (setting c) c.aim.height p.pieces at own.table h.0 in
      let same : IsSame at all =
      one (setting c) c.aim.height p.pieces at all own.table (best p.pieces) none in
      let d : Context = behind_steps p.context rows in
      let cited : AreCited d.steps all u.goals refs = subst (λ rs. AreCited d.steps all u.goals rs)
      (sym h.2) (are_cited u t.known (numbered d) all u.goals same own.placed h.1) in (
        lines_of_tree (setting c) c.aim.height u.goals leaf p.pieces p.context.lines,
        goes.settles c.aim a.aim p rows refs e b.here
            (record { steps = own.steps; behind = own.behind none; few = own.few })
            (own.sized (item.Leaf refs) (refs_few c a p t refs h.2)) (same slot.Void ∙ none) cited,
      )
  box_ends c a best path parent first p b t own e _ h = absurd h
