-- What is so of the bytes of a box's own items.
use Rattle.std.specs.Prelude.{◌≡◌, ◌<◌, ◌≤◌, ◌+◌, ◌-◌, ℕ, zero, suc, List, [], ◌∷◌, ◌++◌, length}
use Rattle.std.specs.Prelude.{Option, Some, None, refl}
use Rattle.std.specs.Borrow.{Bor}
use Rattle.std.specs.List.{AllByRecursion}
use Rattle.std.proofs.Common.{sym, ◌∙◌, ap, subst, arith}
use Rattle.std.proofs.lemmas.List.{length-map}
use Rattle.fx_model.specs.declared.ExprId.{ExprId}
use Rattle.dyadic.specs.declared.number.Dyadic.{Dyadic}
use Rattle.facts.specs.declared.fact.Slot.TheVariants as slot
use Rattle.goals.specs.declared.goal.Goal.{Goal}
use Rattle.goals.specs.declared.line.Line.{Line}
use Rattle.derivation.specs.Derivations.{At}
use Rattle.derivation.specs.Known.{IsTableAt}
use Rattle.rule_universe.specs.Worlds.{World}
use Rattle.box_tree.specs.declared.cut.Cut.{Cut}
use Rattle.box_tree.specs.declared.cut.Cut.TheVariants.{Forced, Half, Bottom}
use Rattle.box_tree.specs.Plans.{cut_at, piece_at, pieces_at}
use Rattle.box_tree.specs.Regions.{PlanParts}
use Rattle.bisect.specs.declared.settler.State.{State}
use Rattle.cert_bytes.specs.declared.item.Item.{Item}
use Rattle.cert_bytes.specs.declared.item.Item.TheVariants as item
use Rattle.cert_bytes.specs.declared.item.StepRow.{StepRow}
use Rattle.cert_bytes.specs.Certificates.{HasSpelling}
use Rattle.cert_bytes.specs.declared.style.Seen.{Seen}
use Rattle.cert_bytes.specs.Styles.{seen_behind, seen_in}
use Rattle.cert_bytes.specs.Spelling.{spelled_behind}
use Rattle.cert_trim.specs.Trimmed.{number_behind_all}
use Rattle.cert_trim.specs.Used.{CiteEarlier}
use Rattle.cert_trim.specs.Behind.{stays_behind, trimmed_behind, IsLeafOrDead, AreFewer, section_of}
use Rattle.tree_certificates.specs.Trees.{leaf, cut, IsProved}
use Rattle.tree_certificates.specs.Walks.{numbered, behind_steps}
use Rattle.box_trace.specs.declared.known.Known.{Known}
use Rattle.box_trace.specs.declared.tracing.Traced.{Traced}
use Rattle.box_trace.specs.Boxes.{IsItsTable, AreItsSteps, log_of, most_steps}
use Rattle.box_trace.specs.Tables.{known_at, place_in, HasRows}
use Rattle.box_trace.specs.Short.{BoxesAreShort}
use Rattle.box_trace.specs.Rounds.{IsByRounds}
use Rattle.answer_certificates.specs.Boxes.{range_of_piece, pieces_from}
use Rattle.cert_writer.proofs.Boxes.{HasShortList}
use Rattle.cert_writer.specs.Boxes.{KnowsVoid, CutsAt, IsEnd, written_of}
use Rattle.cert_writer.specs.Standing.{Target, SectionStart, IsAt, Ended, HasEnded, AreBoxSteps}
use Rattle.cert_writer.specs.Standing.{inside, closed, trimmed}
use Rattle.cert_writer.specs.Courses.{Course, IsCourse, HasBest, course, setting, below, IsBefore}
use Rattle.cert_writer.specs.Courses.{IsKnownAt, AreOwnBytes}
use Rattle.cert_writer.specs.Walks.{MayEnd, IsLast, WalkGoesOn}
use Rattle.cert_writer.proofs.Seen.{seen_with}
use Rattle.cert_writer.proofs.Trimmed.{seen_steps}
use Rattle.cert_writer.proofs.Turn.{begun_front, enter, enter_at}
use Rattle.cert_writer.proofs.Own.{OwnSteps, own_steps, closed_here, box_ends, nothing_there}
use Rattle.cert_writer.proofs.Own.{first_is}
use Rattle.cert_writer.proofs.Node.{node_leaf, node_cut}

not_void : (at : At) (goals : List Goal) (k : Cut) (p : ExprId × List Dyadic)
    → CutsAt at goals k (Some p) → ¬ KnowsVoid at
not_void at goals (Forced x points) p h = h.0
not_void at goals (Half x m) p h = h.0
not_void at goals Bottom p h = absurd h

-- A leaf or a dead end ends a section.
ends_section : (u : World) (k : Known) (i : Item) → IsEnd u k i → IsLeafOrDead i
ends_section u k (item.Leaf refs) h = tt
ends_section u k (item.Dead r) h = tt
ends_section u k _ h = absurd h

-- what is written of a box that is cut, and of one that isn't
written_cut : (n start : ℕ) (items : List Item) → 0 < n → written_of n start items ≡ items
written_cut zero start items l = absurd (omega (arith, l))
written_cut (suc n) start items l = refl

written_end : (n start next : ℕ) (items : List Item) → n ≡ 0 → next ≡ start
    → written_of n start items ≡ trimmed_behind next items
written_end n start next items none same = ap (λ k. written_of k start items) none
    ∙ ap (λ k. trimmed_behind k items) (sym same)

-- its steps have spellings, and so has the last item
all_spelled : (rows : List StepRow) (i : Item) → AllByRecursion HasShortList rows
    → HasSpelling i → AllByRecursion HasSpelling (section_of rows i)
all_spelled [] i s h = (h, tt)
all_spelled (row ∷ rows) i s h = (s.0, all_spelled rows i s.1 h)

still_few : (fewer : AreFewer) (n start : ℕ) (items : List Item)
    → length (written_of n start items) ≤ length items
still_few fewer zero start items = fewer.items (stays_behind start items) start items
still_few fewer (suc n) start items = omega arith

still_spelled : (fewer : AreFewer) (n start : ℕ) (items : List Item)
    → AllByRecursion HasSpelling items → AllByRecursion HasSpelling (written_of n start items)
still_spelled fewer zero start items h = fewer.spelled (stays_behind start items) start items h
still_spelled fewer (suc n) start items h = h

pub own_length : (rows : List StepRow) (i : Item) → length (section_of rows i) ≡ length rows + 1
own_length [] i = refl
own_length (row ∷ rows) i = let h = own_length rows i in omega (arith, h)

module _ (plan : PlanParts) (laws : WalkGoesOn plan)
    (u : World) (height : ℕ) (t : Target) (lines : List Line) (states : List ℕ → State)
    (is : IsCourse (course u plan height t lines states))
    (path : List ℕ) (parent : Option (Bor Known)) (first : Seen) (p : SectionStart)
    (before : IsBefore (course u plan height t lines states) path parent first p)
    (tr : Traced) (its : IsItsTable u height (piece_at plan path) parent tr.known)
    (rows : HasRows u tr.known)
    (steps : AreItsSteps u (piece_at plan path) parent first.steps (log_of first.steps tr))
    (few : length tr.steps.items ≤ most_steps u height) (boxes : BoxesAreShort)
    (rounds : IsByRounds u parent height first.steps tr) (fewer : AreFewer) where
  abbrev c : Course
  c = course u plan height t lines states

  best : HasBest c
  best = laws.best c is

  pub own : OwnSteps c p tr
  own = own_steps laws.moves laws.tables c is best path parent first p before tr
      its steps few boxes rounds

  table : IsTableAt (setting c) height (pieces_at plan path) (known_at u tr.known)
  table = subst (λ y. IsTableAt (setting c) height y (known_at u tr.known)) before.pieces own.table

  pub may_end : MayEnd u tr.known (cut_at plan path)
  may_end h = closed_here laws.tables c is best p before.here (before.tree
      ∙ node_leaf c is path tr.known table h) tr.known own.table

  -- ---- the last item is how a box ends
  module _ (i : Item) (whole : CutsAt (known_at u tr.known) u.goals (cut_at plan path) None)
      (end : IsEnd u tr.known i) where
    leaf_here : p.tree ≡ leaf
    leaf_here = before.tree ∙ node_leaf c is path tr.known table whole

    ended_here : (ls : List Line) × HasEnded c.aim (closed p tr.steps.items i ls)
    ended_here = box_ends laws.writing laws.tables c is best path parent first p before tr own
        leaf_here i end

    start_is : p.context.next ≡ first.steps
    start_is = first_is c path parent first p before

    trimmed_here : CiteEarlier p.context.next (section_of tr.steps.items i)
        × HasEnded c.aim (trimmed p tr.steps.items i (ended_here.0))
    trimmed_here = laws.writing.trims c.aim is.aim p tr.steps.items i (ended_here.0) before.here
        (ends_section u tr.known i end) (ended_here.1)

    pub end_cites : CiteEarlier first.steps (section_of tr.steps.items i)
    end_cites = subst (λ k. CiteEarlier k (section_of tr.steps.items i)) start_is (trimmed_here.0)

    end_done : (n : ℕ) (next : Seen) → n ≡ 0
        → next ≡ seen_behind first (written_of n first.steps (section_of tr.steps.items i))
        → AreOwnBytes c path p tr.known n next
        (spelled_behind (seen_in p.items) (written_of n first.steps (section_of tr.steps.items i)))
    end_done n next none same =
        let own : List Item = section_of tr.steps.items i in
        let left : List Item = trimmed_behind p.context.next own in
        let e : Ended = trimmed p tr.steps.items i (ended_here.0) in
        let ended : HasEnded c.aim e = trimmed_here.1 in
        let written : written_of n first.steps own ≡ left =
        written_end n first.steps p.context.next own none start_is in
        let shown : next ≡ seen_behind first left = same ∙ ap (λ xs. seen_behind first xs) written
        in
        let steps : next.steps ≡ e.context.next =
        ap (λ (s : Seen). s.steps) shown ∙ seen_steps first left
        ∙ ap (λ k. number_behind_all k left) (sym start_is) in
        let seen : seen_in e.items ≡ next =
        seen_with p.items left first before.seen_is ∙ sym shown in
        subst (λ xs. AreOwnBytes c path p tr.known n next (spelled_behind (seen_in p.items) xs))
        (sym written)
        (record {
          done = λ old new a. (
            (λ l. absurd (omega (arith, l, none))),
            λ z. (
              e,
              ended,
              refl,
              steps,
              (left, refl, a),
              seen,
            ),
          );
          front = λ old new a. begun_front c.aim p.items left e.items old new (laws.writing.ended
              c.aim is.aim e ended) refl a;
          lean = λ z. (tr.steps.items, i, ends_section u tr.known i end, refl);
        })

  -- ---- it is a cut
  module _ (x : ExprId) (points : List Dyadic)
      (cuts : CutsAt (known_at u tr.known) u.goals (cut_at plan path) (Some (x, points))) where
    no_void : known_at u tr.known slot.Void ≡ None
    no_void = nothing_there (setting c) height (pieces_at plan path) (known_at u tr.known) table
        (not_void (known_at u tr.known) u.goals (cut_at plan path) (x, points) cuts)

    known_is : IsKnownAt c path tr.known (numbered (behind_steps p.context tr.steps.items))
    known_is = record { table = table; no_void = no_void; rows = rows; placed = own.placed }

    box_steps : AreBoxSteps c.aim p tr.steps.items
    box_steps = record { steps = own.steps; behind = own.behind no_void; few = own.few }

    node : (length path < 36) × (p.tree
        ≡ cut x points (pieces_from plan (below c (35 - length path)) path 0 (length points + 1)))
        × ((k : ℕ) → k < length points + 1 → piece_at plan (path ++ k ∷ [])
        ≡ Some (x, range_of_piece (piece_at plan (path ++ k ∷ []))))
    node = let n = node_cut c is laws.pieces path tr.known table x points cuts in
        (n.0, before.tree ∙ n.1, n.3)

    few_points : length points ≤ 63
    few_points = let proved = subst (λ y. IsProved (setting c) height u.goals y p.pieces p.depth)
        node.1 before.here.entered.proved in proved.2.few

    some_points : 1 ≤ length points
    some_points = let proved = subst (λ y. IsProved (setting c) height u.goals y p.pieces p.depth)
        node.1 before.here.entered.proved in proved.2.some

    cut_done : (n : ℕ) (next : Seen) → n ≡ length points + 1
        → next ≡ seen_behind first (section_of tr.steps.items (item.Cut x points))
        → AreOwnBytes c path p tr.known n next
        (spelled_behind (seen_in p.items) (section_of tr.steps.items (item.Cut x points)))
    cut_done n next count same =
        let tree : p.tree ≡ cut x points (pieces_from plan (below c (35 - length path)) path 0 n) =
        node.1 ∙ ap (λ m. cut x points
        (pieces_from plan (below c (35 - length path)) path 0 m)) (sym count) in
        let of_variable : (k : ℕ) → k < n → piece_at plan (path ++ k ∷ [])
        ≡ Some (x, range_of_piece (piece_at plan (path ++ k ∷ []))) =
        λ k l. node.2 k (omega (arith, l, count)) in
        let q : SectionStart = inside p tr.steps.items x points (range_of_piece
        (piece_at plan (path ++ 0 ∷ []))) (below c (35 - length path) (path ++ 0 ∷ []))
        (pieces_from plan (below c (35 - length path)) path (0 + 1) (length points)) in
        let at : IsAt c.aim q = enter_at laws.tables laws.writing c is path parent first p before
        tr.steps.items box_steps x points (own.sized (item.Cut x points) few_points) n count tree in
        record {
          done = λ old new a. (
            (λ l. enter laws.tables laws.writing c is best laws.one_more path
                parent first p before tr.steps.items box_steps tr.known known_is x points (own.sized
                (item.Cut x points) few_points) n count tree of_variable old new a next same),
            λ z. absurd (omega (arith, z, count)),
          );
          front = λ old new a.
              begun_front c.aim p.items (section_of tr.steps.items (item.Cut x points)) q.items old
              new (laws.writing.begun c.aim is.aim q at) refl a;
          lean = λ z. absurd (omega (arith, z, count));
        }

  -- ---- either way
  cut_spelled : (x : ExprId) (points : List Dyadic) (n : ℕ) (next : Seen) → IsLast u tr.known
      (cut_at plan path) (item.Cut x points) n
      → next ≡ seen_behind first (written_of n first.steps (section_of tr.steps.items (item.Cut x
      points)))
      → AreOwnBytes c path p tr.known n next
      (spelled_behind (seen_in p.items) (written_of n first.steps (section_of tr.steps.items
      (item.Cut x points))))
  cut_spelled x points n next l same =
      let own : List Item = section_of tr.steps.items (item.Cut x points) in
      let k = l.1 in
      let written = written_cut n first.steps own (omega (arith, k)) in
      subst (λ xs. AreOwnBytes c path p tr.known n next (spelled_behind (seen_in p.items) xs)) (sym
      written)
      (cut_done x points l.0 n next l.1 (same ∙ ap (λ xs. seen_behind first xs) written))

  pub own_done : (i : Item) (n : ℕ) (next : Seen) → IsLast u tr.known (cut_at plan path) i n
      → next ≡ seen_behind first (written_of n first.steps (section_of tr.steps.items i))
      → AreOwnBytes c path p tr.known n next
      (spelled_behind (seen_in p.items) (written_of n first.steps (section_of tr.steps.items i)))
  own_done (item.Cut x points) n next l same = cut_spelled x points n next l same
  own_done (item.Leaf refs) n next l same = end_done (item.Leaf refs) l.0 l.1 n next l.2 same
  own_done (item.Dead r) n next l same = end_done (item.Dead r) l.0 l.1 n next l.2 same
  own_done (item.Nodes m) n next l same = absurd l.1
  own_done (item.Node m) n next l same = absurd l.1
  own_done (item.Marks m) n next l same = absurd l.1
  own_done (item.Mark m) n next l same = absurd l.1
  own_done (item.Cases m) n next l same = absurd l.1
  own_done (item.Step r) n next l same = absurd l.1
  own_done item.End n next l same = absurd l.1

  -- what is asked of the items of a box that isn't cut
  pub own_cites : (i : Item) (n : ℕ) → IsLast u tr.known (cut_at plan path) i n → n ≡ 0
      → CiteEarlier first.steps (section_of tr.steps.items i)
  own_cites (item.Cut x points) n l none = let k = l.1 in absurd (omega (arith, k, none))
  own_cites (item.Leaf refs) n l none = end_cites (item.Leaf refs) l.0 l.1
  own_cites (item.Dead r) n l none = end_cites (item.Dead r) l.0 l.1
  own_cites (item.Nodes m) n l none = absurd l.1
  own_cites (item.Node m) n l none = absurd l.1
  own_cites (item.Marks m) n l none = absurd l.1
  own_cites (item.Mark m) n l none = absurd l.1
  own_cites (item.Cases m) n l none = absurd l.1
  own_cites (item.Step r) n l none = absurd l.1
  own_cites item.End n l none = absurd l.1

  last_spelled : (i : Item) (n : ℕ) → IsLast u tr.known (cut_at plan path) i n → HasSpelling i
  last_spelled (item.Cut x points) n l = some_points x points l.0
  last_spelled (item.Leaf refs) n l =
      let e : length refs ≡ length u.goals =
      ap length l.1.2 ∙ length-map u.goals (λ (g : Goal). place_in u tr.known g.of) in
      let few_goals = is.aim.subject.few_goals in
      omega (arith, e, few_goals)
  last_spelled (item.Dead r) n l = tt
  last_spelled (item.Nodes m) n l = absurd l.1
  last_spelled (item.Node m) n l = absurd l.1
  last_spelled (item.Marks m) n l = absurd l.1
  last_spelled (item.Mark m) n l = absurd l.1
  last_spelled (item.Cases m) n l = absurd l.1
  last_spelled (item.Step r) n l = absurd l.1
  last_spelled item.End n l = absurd l.1

  -- and of those that are spelled
  pub own_spelled : (i : Item) (n : ℕ) → IsLast u tr.known (cut_at plan path) i n
      → AllByRecursion HasSpelling (written_of n first.steps (section_of tr.steps.items i))
  own_spelled i n l = still_spelled fewer n first.steps (section_of tr.steps.items i)
      (all_spelled tr.steps.items i own.short (last_spelled i n l))

  pub own_few : (i : Item) (n : ℕ)
      → length (written_of n first.steps (section_of tr.steps.items i)) ≤ length tr.steps.items + 1
  own_few i n =
      let a = still_few fewer n first.steps (section_of tr.steps.items i) in
      let b = own_length tr.steps.items i in omega (arith, a, b)
