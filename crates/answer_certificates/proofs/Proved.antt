-- Where no leaf of a script's tree is open, the tree has a certificate, with the lines of its
-- leaves.
use Rattle.std.specs.Prelude.{◌≡◌, ◌≤◌, ◌+◌, ◌*◌, ℕ, zero, suc, List, [], ◌∷◌, ◌++◌, length, Option}
use Rattle.std.specs.Prelude.{Some, None, refl}
use Rattle.std.specs.Option.{option_map}
use Rattle.std.proofs.Common.{sym, ◌∙◌, ap, ap₂, subst, arith}
use Rattle.std.proofs.Math.Nat.{mul-add}
use Rattle.std.proofs.lemmas.List.{length-append}
use Rattle.fx_model.specs.declared.ExprId.{ExprId}
use Rattle.dyadic.specs.declared.number.Dyadic.{Dyadic}
use Rattle.dyadic.specs.declared.number.End.TheVariants as end
use Rattle.interval.specs.declared.interval.Interval.{Interval}
use Rattle.facts.specs.declared.fact.Fact.{Fact}
use Rattle.facts.specs.declared.fact.Fact.TheVariants as fact
use Rattle.facts.specs.declared.fact.Slot.TheVariants as slot
use Rattle.facts.specs.Order.{IsStronger}
use Rattle.goals.specs.declared.line.Line.{Line}
use Rattle.script_hints.specs.Few.{HaveFewPieces}
use Rattle.derivation.specs.Derivations.{Setting, At}
use Rattle.derivation.specs.Known.{Piece, IsTableAt}
use Rattle.derivation.specs.Exists.{table_at}
use Rattle.rule_universe.specs.Worlds.{World}
use Rattle.saturate.specs.Universes.{setting_of}
use Rattle.box_tree.specs.declared.cut.Cut.{Cut}
use Rattle.box_tree.specs.declared.cut.Cut.TheVariants.{Forced, Half, Bottom}
use Rattle.box_tree.specs.declared.next.Next.{Next}
use Rattle.box_tree.specs.declared.next.Next.TheVariants as next_cut
use Rattle.script_claims.specs.declared.range.SplitRange.{SplitRange}
use Rattle.box_tree.specs.Ranges.{range_in}
use Rattle.box_tree.specs.Points.{piece_of}
use Rattle.box_tree.specs.Pieces.{piece_count}
use Rattle.box_tree.specs.Regions.{PlanParts, Region, narrowed, next_of, piece_by, piece, region_at}
use Rattle.box_tree.specs.Plans.{cut_by, cut_at, interval_of, last_piece, with_last, pieces_at}
use Rattle.box_tree.specs.Plans.{piece_at}
use Rattle.box_tree.proofs.InRanges.{range_var}
use Rattle.bisect.specs.declared.settler.State.{State}
use Rattle.bisect.specs.declared.settler.State.TheVariants as state
use Rattle.bisect.specs.Trees.{tree_of, children, child_count}
use Rattle.bisect.specs.Trees as bisect
use Rattle.bisect.specs.Boxes.{open_goal, or_later, first_open, leaf_at, with_leaf, leaves_of}
use Rattle.bisect.proofs.Boxes.{first_none, later_none}
use Rattle.bisect.specs.Walks.{boxes_from}
use Rattle.bisect.specs.Walks as walks
use Rattle.settler.specs.Standing.{StandsAs, AreStates}
use Rattle.cert_checker.specs.Contexts.{piece_fact}
use Rattle.cert_checker.specs.Faults.{IsVariable}
use Rattle.tree_certificates.specs.Traces.{IsCutTo}
use Rattle.tree_certificates.specs.Trees.{Tree, Trees, leaf, cut, cut_of, IsProved, AreProved}
use Rattle.tree_certificates.specs.Trees.{lines_of_tree, lines_of_trees, steps_in, steps_in_each}
use Rattle.answer_certificates.specs.Boxes.{range_of_piece, pieces_from, cut_into, boxes_below}
use Rattle.answer_certificates.specs.Boxes.{rows_from}
use Rattle.answer_certificates.proofs.Cuts.{IsCutAlong, IsCut, next_cut as cuts_so}
use Rattle.answer_certificates.proofs.Known.{region_of_piece, pieces_of_piece, piece_there}
use Rattle.answer_certificates.proofs.Known.{AreRangesAt, range_here, interval_is, ranges_below}
use Rattle.answer_certificates.proofs.CutTo.{piece_ordered, checker_piece, checker_fact, cut_to}
use Rattle.answer_certificates.proofs.Leaves.{no_void, settled_leaf}
use Rattle.answer_certificates.proofs.Shown.{rows_both, rows_none, rows_length, leaf_rows}
use Rattle.answer_certificates.proofs.Shown.{leaves_both}

-- ---- what is cut along what
-- The box is cut along x at these points: its pieces have these ranges.
record IsSplit (plan : PlanParts) (g : Region) (n : Next) (x : ExprId)
    (points : List Dyadic) : Type 0 where
  along : IsCutAlong g.ranges x points
  ranges : (i : ℕ) → (piece_by plan n g i).ranges ≡ narrowed x points i g.ranges
  last : (i : ℕ) → (piece_by plan n g i).last ≡ Some x

forced_same : (y x : ExprId) (qs ps : List Dyadic) → Forced y qs ≡ Forced x ps → (y ≡ x) × (qs ≡ ps)
forced_same y x qs ps e = (cc, cc)

half_same : (y x : ExprId) (n m : Dyadic) → Half y n ≡ Half x m → (y ≡ x) × (n ≡ m)
half_same y x n m e = (cc, cc)

split_forced : (plan : PlanParts) (g : Region) (n : Next) (x : ExprId) (points : List Dyadic)
    → cut_by n ≡ Forced x points → IsCut g.ranges n → IsSplit plan g n x points
split_forced plan g (next_cut.Force y qs done) x points e c =
    let q = forced_same y x qs points e in
    let n : Next = next_cut.Force y qs done in
    let here : IsSplit plan g n y qs = record { along = c; ranges = λ i. refl; last = λ i. refl } in
    subst (λ z. IsSplit plan g n z points) q.0 (subst (λ zs. IsSplit plan g n y zs) q.1 here)
split_forced plan g (next_cut.Halve y m) x points e c = cc
split_forced plan g next_cut.Rest x points e c = cc

split_half : (plan : PlanParts) (g : Region) (n : Next) (x : ExprId) (m : Dyadic)
    → cut_by n ≡ Half x m → IsCut g.ranges n → IsSplit plan g n x (m ∷ [])
split_half plan g (next_cut.Halve y k) x m e c =
    let q = half_same y x k m e in
    let n : Next = next_cut.Halve y k in
    let here : IsSplit plan g n y (k ∷ []) =
    record { along = c; ranges = λ i. refl; last = λ i. refl } in
    subst (λ z. IsSplit plan g n z (m ∷ [])) q.0 (subst (λ z. IsSplit plan g n y (z ∷ [])) q.1 here)
split_half plan g (next_cut.Force y qs done) x m e c = cc
split_half plan g next_cut.Rest x m e c = cc

-- ---- lists of boxes
both_none : (t : bisect.Tree) (ps qs : List (List ℕ)) → first_open t (ps ++ qs) ≡ None
    → (first_open t ps ≡ None) × (first_open t qs ≡ None)
both_none t [] qs e = (refl, e)
both_none t (p ∷ ps) qs e =
    let o : Option ℕ = open_goal (child_count t p) (t.state_at p) in
    let here = first_none p o (first_open t (ps ++ qs)) e in
    let rest = both_none t ps qs (later_none p o (first_open t (ps ++ qs)) e) in
    (ap (λ z. or_later p z (first_open t ps)) here ∙ rest.0, rest.1)

no_children : (c : Cut) (s : State) → piece_count c ≡ 0 → children c s ≡ 0
no_children (Forced x points) s e = absurd (omega (arith, e))
no_children (Half x m) s e = absurd (omega (arith, e))
no_children Bottom state.Void e = refl
no_children Bottom (state.Settled facts) e = refl
no_children Bottom (state.Open k) e = refl

-- ---- the tree
module _ (u : World) (plan : PlanParts) (height : ℕ) (states : List ℕ → State)
    (stand : AreStates u plan height states)
    (best : (pieces : List Piece)
    → IsTableAt (setting_of u) height pieces (table_at (setting_of u) height pieces))
    (few : HaveFewPieces plan.cuts) (bottom : (path : List ℕ) → 36 ≤ length path
    → piece_count (cut_at plan path) ≡ 0) where
  abbrev v : Setting
  v = setting_of u

  abbrev t : bisect.Tree
  t = tree_of (cut_at plan) states

  abbrev table : List ℕ → At
  table path = table_at v height (pieces_at plan path)

  abbrev AreKnownRanges : List ℕ → Type 0
  AreKnownRanges path = AreRangesAt v height (pieces_at plan path) (region_at plan path).ranges

  -- ---- the pieces of a box that is cut
  record IsChild (path : List ℕ) (x : ExprId) (points : List Dyadic) (i : ℕ) : Type 0 where
    interval : Interval
    there : piece_at plan (path ++ i ∷ []) ≡ Some (x, interval)
    pieces : pieces_at plan (path ++ i ∷ []) ≡ (x, interval) ∷ pieces_at plan path
    ranges : AreKnownRanges (path ++ i ∷ [])
    piece : (p : Fact) × (piece_fact (cut_of x points 0 0) i ≡ Some p)
        × IsCutTo (table path) p (x, interval)

  child : (path : List ℕ) (x : ExprId) (points : List Dyadic) (i : ℕ)
      → IsSplit plan (region_at plan path) (next_of plan (region_at plan path)) x points
      → AreKnownRanges path → table path slot.Void ≡ None
      → i ≤ length points → IsChild path x points i
  child path x points i s known none l =
      let g : Region = region_at plan path in
      let r : SplitRange = s.along.range in
      let ok = s.along.lawful in
      let inside = s.along.within in
      let a = range_here v height (pieces_at plan path) g.ranges x r s.along.there known in
      let j : Interval = record {
        lo = end.At (piece_of r points i).low;
        hi = end.At (piece_of r points i).high;
        ordered = piece_ordered r points ok inside i l;
      } in
      let b = ranges_below v height
      (pieces_at plan path) g.ranges x points i r j s.along.there known refl refl in
      let found : interval_of (range_in x (piece plan g i).ranges) ≡ j =
      ap (λ rs. interval_of (range_in x rs)) (s.ranges i)
      ∙ (ap interval_of b.0 ∙ interval_is (piece_of r points i) j refl refl) in
      let last : last_piece (piece plan g i) ≡ Some (x, j) =
      ap (option_map (λ y. (y, interval_of (range_in y (piece plan g i).ranges)))) (s.last i)
      ∙ ap (λ (z : Interval). Some (x, z)) found in
      let pieces : pieces_at plan (path ++ i ∷ []) ≡ (x, j) ∷ pieces_at plan path =
      pieces_of_piece plan path i ∙ ap (λ o. with_last o (pieces_at plan path)) last in
      let ranges : (region_at plan (path ++ i ∷ [])).ranges ≡ narrowed x points i g.ranges =
      ap (λ (q : Region). q.ranges) (region_of_piece plan path i) ∙ s.ranges i in
      let var : r.var ≡ x = range_var x g.ranges r s.along.there in
      let y = (best (pieces_at plan path)).least none (fact.Bnd r.var a.interval) a.known in
      let e : table path (slot.Bnd x) ≡ Some y.0 =
      ap (λ (z : ExprId). table path (slot.Bnd z)) (sym var) ∙ y.1 in
      let w : IsStronger y.0 (fact.Bnd x a.interval) =
      subst (λ (z : ExprId). IsStronger y.0 (fact.Bnd z a.interval)) var y.2 in
      let on = ((best (pieces_at plan path)).reached (slot.Bnd x) y.0 e).0 in
      record {
        interval = j;
        there = piece_there plan path i ∙ last;
        pieces = pieces;
        ranges = subst (λ ps. AreRangesAt v height ps (region_at plan (path ++ i ∷ [])).ranges)
            (sym pieces)
            (subst (λ rs. AreRangesAt v height ((x, j) ∷ pieces_at plan path) rs) (sym ranges) b.1);
        piece = (
          fact.Bnd x (checker_piece r points ok inside i l),
          checker_fact r points ok inside x i l,
          cut_to r points ok inside
              (table path) x i l a.interval j y.0 a.low a.high refl refl e on w,
        );
      }

  -- ---- what holds of a box and those below it
  pub record Done (tree : Tree) (path : List ℕ) (depth : ℕ) (boxes : List (List ℕ)) : Type 0 where
    pub proved : IsProved v height u.goals tree (pieces_at plan path) depth
    pub shown : (lines : List Line) → length lines ≡ length u.goals
        → lines_of_tree v height u.goals tree (pieces_at plan path) lines
        ≡ rows_from 0 lines (leaves_of t boxes)
    pub counted : (most : ℕ) → steps_in most tree ≡ most * length boxes

  pub record DoneEach (x : ExprId) (points : List Dyadic) (trees : Trees) (path : List ℕ)
      (depth k : ℕ) (boxes : List (List ℕ)) : Type 0 where
    pub proved : AreProved v height u.goals x points trees k (pieces_at plan path) depth
    pub shown : (lines : List Line) → length lines ≡ length u.goals
        → lines_of_trees v height u.goals x trees (pieces_at plan path) lines
        ≡ rows_from 0 lines (leaves_of t boxes)
    pub counted : (most : ℕ) → steps_in_each most trees ≡ most * length boxes

  leaf_done : (path : List ℕ) (depth : ℕ) → child_count t path ≡ 0 → first_open t (path ∷ []) ≡ None
      → Done leaf path depth (path ∷ [])
  leaf_done path depth z n =
      let o : open_goal zero (states path) ≡ None = subst (λ k. open_goal k (states path) ≡ None) z
      (first_none path (open_goal (child_count t path) (states path)) None n) in
      let alone : leaves_of t (path ∷ []) ≡ leaf_at t path ∷ [] =
      ap (λ k. with_leaf k (leaf_at t path) []) z in
      record {
        proved = settled_leaf v height (pieces_at plan path)
            (best (pieces_at plan path)) u.goals (states path) (stand path) o;
        shown = λ lines e. leaf_rows v height (pieces_at plan path) (best (pieces_at plan path))
            u.goals path (states path) (stand path) o lines e ∙ ap (rows_from 0 lines) (sym alone);
        counted = λ most. omega arith;
      }

  -- the box at each path below so many cuts
  abbrev IsDoneBelow : ℕ → Type 0
  IsDoneBelow cuts = (path : List ℕ) (depth : ℕ) → length path ≡ depth → depth + cuts ≡ 36
      → AreKnownRanges path → first_open t (boxes_from t cuts path) ≡ None
      → Done (boxes_below plan states cuts path) path depth (boxes_from t cuts path)

  pieces_done : (cuts : ℕ) → IsDoneBelow cuts → (path : List ℕ) (depth : ℕ) (x : ExprId)
      (points : List Dyadic) → length path ≡ depth → depth + 1 + cuts ≡ 36
      → IsSplit plan (region_at plan path) (next_of plan (region_at plan path)) x points
      → AreKnownRanges path → table path slot.Void ≡ None
      → (n i : ℕ) → i + n ≡ length points + 1
      → first_open t (walks.pieces_from (boxes_from t cuts) path i n) ≡ None
      → DoneEach x points (pieces_from plan (boxes_below plan states cuts) path i n) path
      (depth + 1) i (walks.pieces_from (boxes_from t cuts) path i n)
  pieces_done cuts below path depth x points long deep s known none zero i c o = record {
    proved = omega (arith, c);
    shown = λ lines e. sym (rows_none 0 lines);
    counted = λ most. omega arith;
  }
  pieces_done cuts below path depth x points long deep s known none (suc n) i c o =
      let here : List (List ℕ) = boxes_from t cuts (path ++ i ∷ []) in
      let later : List (List ℕ) = walks.pieces_from (boxes_from t cuts) path (i + 1) n in
      let tree : Tree = boxes_below plan states cuts (path ++ i ∷ []) in
      let rest : Trees = pieces_from plan (boxes_below plan states cuts) path (i + 1) n in
      let l : i ≤ length points = omega (arith, c) in
      let h = child path x points i s known none l in
      let both = both_none t here later o in
      let longer : length (path ++ i ∷ []) ≡ depth + 1 =
      omega (arith, length-append path (i ∷ []), long) in
      let first = below (path ++ i ∷ []) (depth + 1) longer deep h.ranges both.0 in
      let behind = pieces_done cuts below path depth x points long deep s known none n (i + 1)
      (omega (arith, c)) both.1 in
      let same : range_of_piece (piece_at plan (path ++ i ∷ [])) ≡ h.interval =
      ap range_of_piece h.there in
      let pieces : pieces_at plan (path ++ i ∷ [])
      ≡ (x, range_of_piece (piece_at plan (path ++ i ∷ []))) ∷ pieces_at plan path =
      h.pieces ∙ ap (λ (z : Interval). (x, z) ∷ pieces_at plan path) (sym same) in
      record {
        proved = (
          l,
          subst (λ (z : Interval). (p : Fact) × (piece_fact (cut_of x points 0 0) i ≡ Some p)
              × IsCutTo (table path) p (x, z)) (sym same) h.piece,
          subst (λ ps. IsProved v height u.goals tree ps (depth + 1)) pieces first.proved,
          behind.proved,
        );
        shown = λ lines e.
            let one : lines_of_tree v height u.goals tree
            ((x, range_of_piece (piece_at plan (path ++ i ∷ []))) ∷ pieces_at plan path) lines
            ≡ rows_from 0 lines (leaves_of t here) =
            ap (λ ps. lines_of_tree v height u.goals tree ps lines) (sym pieces)
            ∙ first.shown lines e in
            ap (lines_of_trees v height u.goals x rest (pieces_at plan path)) one
            ∙ (behind.shown (rows_from 0 lines (leaves_of t here))
            (rows_length 0 lines (leaves_of t here) ∙ e)
            ∙ (sym (rows_both 0 lines (leaves_of t here) (leaves_of t later))
            ∙ ap (rows_from 0 lines) (sym (leaves_both t here later))));
        counted = λ most.
            ap₂ (λ (a b : ℕ). a + b) (first.counted most) (behind.counted most)
            ∙ (sym (mul-add most (length here) (length later))
            ∙ ap (λ (k : ℕ). most * k) (sym (length-append here later)));
      }

  cut_done : (cuts : ℕ) → IsDoneBelow cuts → (path : List ℕ) (depth : ℕ) (x : ExprId)
      (points : List Dyadic) → length path ≡ depth → depth + suc cuts ≡ 36
      → IsSplit plan (region_at plan path) (next_of plan (region_at plan path)) x points
      → AreKnownRanges path → table path slot.Void ≡ None
      → (m : ℕ) → suc m ≡ length points + 1 → child_count t path ≡ suc m
      → first_open t (path ∷ walks.pieces_from (boxes_from t cuts) path 0 (suc m)) ≡ None
      → Done (cut x points (pieces_from plan (boxes_below plan states cuts) path 0 (suc m))) path
      depth (path ∷ walks.pieces_from (boxes_from t cuts) path 0 (suc m))
  cut_done cuts below path depth x points long deep s known none m c count o =
      let g : Region = region_at plan path in
      let boxes : List (List ℕ) = walks.pieces_from (boxes_from t cuts) path 0 (suc m) in
      let a = range_here v height
      (pieces_at plan path) g.ranges x s.along.range s.along.there known in
      let var : s.along.range.var ≡ x = range_var x g.ranges s.along.range s.along.there in
      let each = pieces_done cuts below path depth x points long (omega (arith, deep)) s known none
      (suc m) 0 (omega (arith, c))
      (later_none path (open_goal (child_count t path) (states path)) (first_open t boxes) o) in
      let inner : leaves_of t (path ∷ boxes) ≡ leaves_of t boxes =
      ap (λ k. with_leaf k (leaf_at t path) (leaves_of t boxes)) count in
      record {
        proved = (
          subst (IsVariable u.nodes) var a.variable,
          omega (arith, deep),
          s.along.lawful,
          each.proved,
        );
        shown = λ lines e. each.shown lines e ∙ ap (rows_from 0 lines) (sym inner);
        counted = λ most.
            let k = each.counted most in
            let d : most * (1 + length boxes) ≡ most * 1 + most * length boxes =
            mul-add most 1 (length boxes) in
            let f : length (path ∷ boxes) ≡ 1 + length boxes = omega arith in
            let one : most ≡ most * 1 = omega arith in
            ap₂ (λ (a b : ℕ). a + b) one k ∙ (sym d ∙ ap (λ (n : ℕ). most * n) (sym f));
      }

  void_none : (path : List ℕ) (s : State) → states path ≡ s → (s ≡ state.Void → ⊥)
      → table path slot.Void ≡ None
  void_none path state.Void e n = absurd (n refl)
  void_none path (state.Settled facts) e n =
      no_void v height (pieces_at plan path) (best (pieces_at plan path))
      (subst (StandsAs v u.goals height (pieces_at plan path)) e (stand path)).0
  void_none path (state.Open k) e n =
      no_void v height (pieces_at plan path) (best (pieces_at plan path))
      (subst (StandsAs v u.goals height (pieces_at plan path)) e (stand path)).0

  is_cut : (path : List ℕ) → IsCut (region_at plan path).ranges (next_of plan (region_at plan path))
  is_cut path = cuts_so plan (region_at plan path) few

  forced_split : (path : List ℕ) (x : ExprId) (points : List Dyadic)
      → cut_at plan path ≡ Forced x points
      → IsSplit plan (region_at plan path) (next_of plan (region_at plan path)) x points
  unfolding cut_at
  forced_split path x points e = split_forced plan (region_at plan path)
      (next_of plan (region_at plan path)) x points e (is_cut path)

  half_split : (path : List ℕ) (x : ExprId) (m : Dyadic) → cut_at plan path ≡ Half x m
      → IsSplit plan (region_at plan path) (next_of plan (region_at plan path)) x (m ∷ [])
  unfolding cut_at
  half_split path x m e =
      split_half plan (region_at plan path) (next_of plan (region_at plan path)) x m e (is_cut path)

  module _ (cuts : ℕ) (below : IsDoneBelow cuts)
      (path : List ℕ) (depth : ℕ) (long : length path ≡ depth) (deep : depth + suc cuts ≡ 36)
      (known : AreKnownRanges path) where
    abbrev pieces_of : ℕ → List (List ℕ)
    pieces_of n = walks.pieces_from (boxes_from t cuts) path 0 n

    abbrev IsDoneAs : Cut → ℕ → Type 0
    IsDoneAs c n = first_open t (path ∷ pieces_of n) ≡ None → Done (cut_into c n
        (pieces_from plan (boxes_below plan states cuts) path 0 n)) path depth (path ∷ pieces_of n)

    count_is : (c : Cut) (s : State) → cut_at plan path ≡ c → states path ≡ s
        → child_count t path ≡ children c s
    count_is c s e f = ap₂ children e f

    by_leaf : child_count t path ≡ 0 → first_open t (path ∷ []) ≡ None
        → Done leaf path depth (path ∷ [])
    by_leaf z o = leaf_done path depth z o

    by_forced : (x : ExprId) (points : List Dyadic) (s : State) → cut_at plan path ≡ Forced x points
        → states path ≡ s → (s ≡ state.Void → ⊥) → child_count t path ≡ length points + 1
        → IsDoneAs (Forced x points) (length points + 1)
    by_forced x points s e f n count =
        let q : suc (length points) ≡ length points + 1 = omega arith in
        subst (IsDoneAs (Forced x points)) q
        (λ o. cut_done cuts below path depth x points long deep (forced_split path x points e) known
        (void_none path s f n) (length points) q (count ∙ sym q) o)

    by_cut : (c : Cut) (s : State) → cut_at plan path ≡ c → states path ≡ s
        → IsDoneAs c (children c s)
    by_cut (Forced x points) state.Void e f o =
        by_leaf (count_is (Forced x points) state.Void e f) o
    by_cut (Forced x points) (state.Settled facts) e f o = by_forced x points
        (state.Settled facts) e f (λ q. cc) (count_is (Forced x points) (state.Settled facts) e f) o
    by_cut (Forced x points) (state.Open k) e f o = by_forced x points (state.Open k) e f (λ q. cc)
        (count_is (Forced x points) (state.Open k) e f) o
    by_cut (Half x m) state.Void e f o = by_leaf (count_is (Half x m) state.Void e f) o
    by_cut (Half x m) (state.Settled facts) e f o =
        by_leaf (count_is (Half x m) (state.Settled facts) e f) o
    by_cut (Half x m) (state.Open k) e f o = cut_done cuts below path depth x (m ∷ []) long deep
        (half_split path x m e) known (void_none path (state.Open k) f (λ q. cc)) 1 (omega arith)
        (count_is (Half x m) (state.Open k) e f) o
    by_cut Bottom state.Void e f o = by_leaf (count_is Bottom state.Void e f) o
    by_cut Bottom (state.Settled facts) e f o =
        by_leaf (count_is Bottom (state.Settled facts) e f) o
    by_cut Bottom (state.Open k) e f o = by_leaf (count_is Bottom (state.Open k) e f) o

  -- Each box that is reached is so.
  pub box_done : (cuts : ℕ) → IsDoneBelow cuts
  unfolding boxes_below boxes_from
  box_done zero path depth long deep known o = leaf_done path depth
      (no_children (cut_at plan path) (states path) (bottom path (omega (arith, long, deep)))) o
  box_done (suc cuts) path depth long deep known o = by_cut cuts
      (box_done cuts) path depth long deep known (cut_at plan path) (states path) refl refl o
