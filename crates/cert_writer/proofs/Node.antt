-- What is known at a box says whether and how it is cut, as the tree of boxes has it.
use Rattle.std.specs.Prelude.{◌≡◌, ◌<◌, ◌≤◌, ◌+◌, ◌-◌, ℕ, zero, suc, List, [], ◌∷◌, ◌++◌, length}
use Rattle.std.specs.Prelude.{Some, None, slice_get, refl}
use Rattle.std.proofs.Common.{sym, ◌∙◌, ap, subst, inl, inr, arith}
use Rattle.fx_model.specs.declared.ExprId.{ExprId}
use Rattle.dyadic.specs.declared.number.Dyadic.{Dyadic}
use Rattle.facts.specs.declared.fact.Fact.{Fact}
use Rattle.facts.specs.declared.fact.Slot.{Slot}
use Rattle.facts.specs.declared.fact.Fact.TheVariants as fact
use Rattle.facts.specs.declared.fact.Slot.TheVariants as slot
use Rattle.facts.proofs.Meets.{IsStronger-antisymm}
use Rattle.goals.specs.declared.goal.Goal.{Goal}
use Rattle.derivation.specs.Derivations.{Setting, At}
use Rattle.derivation.specs.Known.{Piece, Known, IsTableAt}
use Rattle.derivation.specs.Settled.{IsSettled}
use Rattle.derivation.proofs.Parts.{none_some}
use Rattle.box_tree.specs.declared.cut.Cut.{Cut}
use Rattle.box_tree.specs.declared.cut.Cut.TheVariants.{Forced, Half, Bottom}
use Rattle.box_tree.specs.Plans.{cut_at, piece_at, pieces_at}
use Rattle.box_tree.specs.Pieces.{piece_count}
use Rattle.box_tree.specs.Regions.{PlanParts}
use Rattle.bisect.specs.declared.settler.State.{State}
use Rattle.bisect.specs.declared.settler.State.TheVariants as state
use Rattle.bisect.specs.Trees.{children}
use Rattle.settler.specs.Standing.{IsBestKnown, AreSettledBy, StandsAs}
use Rattle.tree_certificates.specs.Trees.{Tree, Trees, leaf, cut, AllSettled}
use Rattle.box_trace.specs.declared.known.Known as seen
use Rattle.box_trace.specs.Tables.{known_at}
use Rattle.answer_certificates.specs.Boxes.{range_of_piece, variable_of, pieces_from, cut_into}
use Rattle.answer_certificates.specs.Boxes.{boxes_below}
use Rattle.answer_certificates.specs.Laws.{PiecesAreOfCuts}
use Rattle.cert_writer.specs.Boxes.{KnowsVoid, CutsAt}
use Rattle.cert_writer.specs.Courses.{Course, IsCourse, setting, below}
use Rattle.cert_writer.proofs.Own.{nothing_there}

-- ---- one box
-- In this state the cut goes at these points.
record IsSplitAt (d : Cut) (s : State) (p : ExprId × List Dyadic) : Type 0 where
  variable : variable_of d ≡ Some p.0
  count : piece_count d ≡ length p.1 + 1
  made : children d s ≡ length p.1 + 1
  tree : (trees : Trees) → cut_into d (length p.1 + 1) trees ≡ cut p.0 p.1 trees

into_points : (x : ExprId) (points : List Dyadic) (trees : Trees)
    → cut_into (Forced x points) (length points + 1) trees ≡ cut x points trees
into_points x points trees = let one : length points + 1 ≡ suc (length points) = omega arith in
    ap (λ (n : ℕ). cut_into (Forced x points) n trees) one

into_none : (d : Cut) (trees : Trees) → cut_into d zero trees ≡ leaf
into_none (Forced x points) trees = refl
into_none (Half x m) trees = refl
into_none Bottom trees = refl

module _ (u : Setting) (goals : List Goal) (height : ℕ) (pieces : List Piece) (at : At)
    (best : IsTableAt u height pieces at) where
  known_void : KnowsVoid at → Known u height pieces fact.Void
  known_void e = (best.reached slot.Void fact.Void e).1

  -- Where VOID is known, the table has it.
  knows_void : Known u height pieces fact.Void → ¬ ¬ KnowsVoid at
  knows_void k n = let none = nothing_there u height pieces at best n in
      let y = best.least none fact.Void k in none_some y.0 (at slot.Void) none y.1

  -- Where each goal is settled by the table's fact, it is met,
  met : (gs : List Goal) → AllSettled at gs → (k : ℕ) (g : Goal) → slice_get gs k ≡ Some g
      → IsSettled u height pieces g
  met [] a k g e = cc
  met (x ∷ gs) a zero g e =
      let same : x ≡ g = cc in
      let f : Fact = (a.0).0 in
      subst (IsSettled u height pieces) same (f, (best.reached x.of f (a.0).1).1, (a.0).2)
  met (x ∷ gs) a (suc k) g e = met gs a.1 k g e

  -- and a best known fact is the table's.
  best_at : at slot.Void ≡ None → (s : Slot) (f : Fact)
      → IsBestKnown u height pieces s f → at s ≡ Some f
  best_at none s f b =
      let y = best.least none f b.known in
      let e : at s ≡ Some y.0 = ap at (sym b.on_slot) ∙ y.1 in
      let r = best.reached s y.0 e in
      e ∙ ap Some (IsStronger-antisymm y.0 f y.2 (b.least y.0 r.1 r.0))

  settled : at slot.Void ≡ None → (gs : List Goal) (facts : List Fact)
      → AreSettledBy u height pieces gs facts → AllSettled at gs
  settled none [] [] a = tt
  settled none (g ∷ gs) (f ∷ facts) a =
      ((f, best_at none g.of f a.0, a.1), settled none gs facts a.2)
  settled none [] (f ∷ facts) a = absurd a
  settled none (g ∷ gs) [] a = absurd a

  -- Where what is known says that the box isn't cut, it goes into no pieces.
  not_cut : (d : Cut) (s : State) → StandsAs u goals height pieces s
      → CutsAt at goals d None → children d s ≡ 0
  not_cut (Forced x points) state.Void w h = refl
  not_cut (Forced x points) (state.Settled facts) w h = absurd (w.0 (known_void h))
  not_cut (Forced x points) (state.Open k) w h = absurd (w.0 (known_void h))
  not_cut (Half x m) state.Void w h = refl
  not_cut (Half x m) (state.Settled facts) w h = refl
  not_cut (Half x m) (state.Open k) w h = let first = w.1 in elim h [
    | inl v ↦ absurd (w.0 (known_void v))
    | inr a ↦ absurd (first.still_open (met goals a k first.goal first.there))
  ]
  not_cut Bottom state.Void w h = refl
  not_cut Bottom (state.Settled facts) w h = refl
  not_cut Bottom (state.Open k) w h = refl

  -- Where it says how, the cut goes so.
  is_cut : (d : Cut) (s : State) → StandsAs u goals height pieces s → (p : ExprId × List Dyadic)
      → CutsAt at goals d (Some p) → IsSplitAt d s p
  is_cut (Forced x points) state.Void w p h = absurd (knows_void w h.0)
  is_cut (Forced x points) (state.Settled facts) w p h =
      subst (IsSplitAt (Forced x points) (state.Settled facts)) (sym h.1)
      (record { variable = refl; count = refl; made = refl; tree = into_points x points })
  is_cut (Forced x points) (state.Open k) w p h =
      subst (IsSplitAt (Forced x points) (state.Open k)) (sym h.1)
      (record { variable = refl; count = refl; made = refl; tree = into_points x points })
  is_cut (Half x m) state.Void w p h = absurd (knows_void w h.0)
  is_cut (Half x m) (state.Settled facts) w p h =
      absurd (h.1 (settled (nothing_there u height pieces at best h.0) goals facts w.1))
  is_cut (Half x m) (state.Open k) w p h =
      subst (IsSplitAt (Half x m) (state.Open k)) (sym h.2)
      (record { variable = refl; count = refl; made = refl; tree = λ trees. refl })
  is_cut Bottom s w p h = absurd h

-- ---- the tree
module _ (plan : PlanParts) (states : List ℕ → State) (path : List ℕ) where
  -- the box at the path with those below it, if it goes into so many pieces
  abbrev cut_so : ℕ → ℕ → Tree
  cut_so cuts n =
      cut_into (cut_at plan path) n (pieces_from plan (boxes_below plan states cuts) path 0 n)

  no_boxes : (cuts : ℕ) → children (cut_at plan path) (states path) ≡ 0
      → boxes_below plan states cuts path ≡ leaf
  unfolding boxes_below
  no_boxes zero e = refl
  no_boxes (suc cuts) e = ap (cut_so cuts) e
      ∙ into_none (cut_at plan path) (pieces_from plan (boxes_below plan states cuts) path 0 0)

  some_boxes : (cuts n : ℕ) → children (cut_at plan path) (states path) ≡ n
      → boxes_below plan states (suc cuts) path ≡ cut_so cuts n
  unfolding boxes_below
  some_boxes cuts n e = ap (cut_so cuts) e

-- ---- a box of the walk
-- What is known says that the box isn't cut: the tree has a leaf there.
pub node_leaf : (c : Course) → IsCourse c → (path : List ℕ) (k : seen.Known)
    → IsTableAt (setting c) c.aim.height (pieces_at c.plan path) (known_at c.aim.world k)
    → CutsAt (known_at c.aim.world k) c.aim.world.goals (cut_at c.plan path) None
    → below c (36 - length path) path ≡ leaf
node_leaf c is path k table h =
    no_boxes c.plan c.states path (36 - length path)
    (not_cut (setting c) c.aim.world.goals c.aim.height (pieces_at c.plan path)
    (known_at c.aim.world k) table (cut_at c.plan path) (c.states path) (is.states path) h)

-- It says that it is cut so: the tree has this cut there, and its pieces are of the cut's variable.
pub node_cut : (c : Course) → IsCourse c → PiecesAreOfCuts c.plan → (path : List ℕ) (k : seen.Known)
    → IsTableAt (setting c) c.aim.height (pieces_at c.plan path) (known_at c.aim.world k)
    → (x : ExprId) (points : List Dyadic)
    → CutsAt (known_at c.aim.world k) c.aim.world.goals (cut_at c.plan path) (Some (x, points))
    → (length path < 36) × (below c (36 - length path) path
    ≡ cut x points (pieces_from c.plan (below c (35 - length path)) path 0 (length points + 1)))
    × (piece_count (cut_at c.plan path) ≡ length points + 1)
    × ((i : ℕ) → i < length points + 1 → piece_at c.plan (path ++ i ∷ [])
    ≡ Some (x, range_of_piece (piece_at c.plan (path ++ i ∷ []))))
node_cut c is of path k table x points h =
    let w = is_cut (setting c) c.aim.world.goals c.aim.height (pieces_at c.plan path)
    (known_at c.aim.world k) table (cut_at c.plan path) (c.states path)
    (is.states path) (x, points) h in
    let count : piece_count (cut_at c.plan path) ≡ length points + 1 = w.count in
    let deep : 36 ≤ length path → piece_count (cut_at c.plan path) ≡ 0 = is.depth path in
    let short : length path < 36 = grind (arith, deep, count) in
    let cuts : 36 - length path ≡ suc (35 - length path) = omega (arith, short) in (
      short,
      ap (λ (n : ℕ). below c n path) cuts
          ∙ (some_boxes c.plan c.states path (35 - length path) (length points + 1) w.made
          ∙ w.tree (pieces_from c.plan (below c (35 - length path)) path 0 (length points + 1))),
      count,
      λ i l. of path x w.variable i,
    )
