-- Where no leaf of a case's tree is open, the tree has a certificate.
use Rattle.std.specs.Prelude.{◌≡◌, ◌≤◌, ◌*◌, ◌^◌, ℕ, List, [], ◌∷◌, length, Some, None, slice_get}
use Rattle.std.specs.Prelude.{refl}
use Rattle.std.specs.List.{AllByRecursion}
use Rattle.std.proofs.Common.{sym, ◌∙◌, ap, subst, inl, inr, arith}
use Rattle.std.proofs.lemmas.Bool.{cases_lt}
use Rattle.fx_model.specs.declared.ExprId.{ExprId}
use Rattle.fx_model.specs.declared.Node.{Node}
use Rattle.fx_model.specs.declared.Node.TheVariants.{Var}
use Rattle.facts.specs.declared.hint.HintRow.{HintRow}
use Rattle.facts.specs.declared.instance.Instance.{Instance}
use Rattle.facts.proofs.CommonParts.{at_option}
use Rattle.theorem_list.specs.Concludes.{concludes}
use Rattle.script_hints.specs.Few.{HaveFewPieces}
use Rattle.derivation.specs.Lists.{IsLawful}
use Rattle.derivation.specs.Derivations.{Setting}
use Rattle.derivation.specs.Known.{Piece, IsTableAt}
use Rattle.derivation.specs.Exists.{table_at}
use Rattle.derivation.specs.Laws.{TablesExist}
use Rattle.rule_universe.specs.Worlds.{World, IsWhole}
use Rattle.saturate.specs.Universes.{setting_of}
use Rattle.box_tree.specs.declared.cut.Cut.{Cut}
use Rattle.box_tree.specs.Pieces.{piece_count}
use Rattle.box_tree.specs.Regions.{PlanParts, region_below, region_at}
use Rattle.box_tree.specs.Plans.{cut_at, pieces_at}
use Rattle.box_tree.proofs.InRanges.{root_pieces}
use Rattle.bisect.specs.declared.settler.State.{State}
use Rattle.bisect.specs.declared.outcome.Leaf.{Leaf}
use Rattle.bisect.specs.declared.outcome.OpenLeaf.{OpenLeaf}
use Rattle.bisect.specs.declared.outcome.Outcome.{Outcome}
use Rattle.bisect.specs.declared.outcome.Outcome.TheVariants as outcome
use Rattle.bisect.specs.Trees.{tree_of}
use Rattle.bisect.specs.Trees as bisect
use Rattle.bisect.specs.Boxes.{AreBoxes, first_open, leaves_of}
use Rattle.bisect.specs.Answers.{IsAnswer, open_at}
use Rattle.bisect.specs.Walks.{boxes_from, IsListed}
use Rattle.settler.specs.Standing.{AreStates}
use Rattle.settler.specs.Answers.{plan_of}
use Rattle.cert_checker.specs.Faults.{IsVariable}
use Rattle.tree_certificates.specs.Trees.{Tree, IsProved, lines_of_tree}
use Rattle.answer_certificates.specs.Boxes.{boxes_of, rows_from, IsProvedTree}
use Rattle.answer_certificates.specs.Laws.{InstancesAreFew, TreesAreProved}
use Rattle.answer_certificates.proofs.Counted.{few_instances}
use Rattle.answer_certificates.proofs.Known.{AreRangesAt, whole_ranges}
use Rattle.answer_certificates.proofs.Proved.{box_done}

-- ---- the root
root_ranges : (u : Setting) (height : ℕ) (plan : PlanParts) → AreRangesAt u height [] plan.ranges
    → AreRangesAt u height (pieces_at plan []) (region_at plan []).ranges
unfolding pieces_at region_below
root_ranges u height plan a = a

variables_kept : (nodes all : List Node) → ((x : ExprId) (v : ℕ)
    → slice_get nodes x.0 ≡ Some (Var v) → slice_get all x.0 ≡ Some (Var v)) → (xs : List ExprId)
    → AllByRecursion (IsVariable nodes) xs → AllByRecursion (IsVariable all) xs
variables_kept nodes all f [] a = tt
variables_kept nodes all f (x ∷ xs) a =
    (((a.0).0, f x (a.0).0 (a.0).1), variables_kept nodes all f xs a.1)

-- ---- the list of boxes
abbrev pub IsOneAnswer : Type 0
IsOneAnswer = (t : bisect.Tree) (limit : ℕ) (found other : Outcome) → IsAnswer t limit found
    → IsAnswer t limit other → found ≡ other

abbrev pub BoxesAreListed : Type 0
BoxesAreListed = (cuts : List ℕ → Cut) (states : List ℕ → State) → ((path : List ℕ)
    → 36 ≤ length path → piece_count (cuts path) ≡ 0) → IsListed (tree_of cuts states)

same_leaves : (n m : ℕ) (xs ys : List Leaf)
    → outcome.Leaves n xs ≡ outcome.Leaves m ys → (n ≡ m) × (xs ≡ ys)
same_leaves n m xs ys e = (cc, cc)

not_limit : (n : ℕ) (xs : List Leaf) → outcome.Leaves n xs ≡ outcome.BoxLimit → ⊥
not_limit n xs e = cc

not_unproved : (n m : ℕ) (xs : List Leaf) (x : OpenLeaf)
    → outcome.Leaves n xs ≡ outcome.Unproved m x → ⊥
not_unproved n m xs x e = cc

-- what the answer says is said of the list that is computed
listed_answer : IsOneAnswer → (t : bisect.Tree) → IsListed t
    → (limit count : ℕ) (leaves : List Leaf) → IsAnswer t limit (outcome.Leaves count leaves)
    → (first_open t (boxes_from t 36 []) ≡ None) × (count ≡ length (boxes_from t 36 []))
    × (leaves ≡ leaves_of t (boxes_from t 36 []))
listed_answer one t listed limit count leaves a =
    let boxes : List (List ℕ) = boxes_from t 36 [] in
    elim (cases_lt limit (length boxes)) [
      | inl l ↦ absurd (not_limit count leaves
          (one t limit (outcome.Leaves count leaves) outcome.BoxLimit a (boxes, listed.boxes, l)))
      | inr l ↦ at_option (first_open t boxes)
          (λ o. first_open t boxes ≡ o
          → (first_open t boxes ≡ None) × (count ≡ length boxes) × (leaves ≡ leaves_of t boxes))
          (λ n e.
          let q = same_leaves count (length boxes) leaves (leaves_of t boxes) (one t limit
          (outcome.Leaves count leaves) (outcome.Leaves (length boxes) (leaves_of t boxes)) a (
            boxes,
            listed.boxes,
            (l, e, refl, refl),
          )) in
          (e, q.0, q.1))
          (λ x n e. absurd (not_unproved count
          (length boxes) leaves (open_at 0 x) (one t limit (outcome.Leaves count leaves)
          (outcome.Unproved (length boxes) (open_at 0 x)) a
          (boxes, listed.boxes, (l, e, refl, refl)))))
          refl
    ]

-- so it is of each list of the boxes
listed_so : IsOneAnswer → (t : bisect.Tree) → IsListed t → (boxes : List (List ℕ))
    → AreBoxes t boxes → first_open t boxes ≡ None
    → (first_open t (boxes_from t 36 []) ≡ None) × (length boxes ≡ length (boxes_from t 36 []))
    × (leaves_of t boxes ≡ leaves_of t (boxes_from t 36 []))
listed_so one t listed boxes are none =
    listed_answer one t listed (length boxes) (length boxes) (leaves_of t boxes)
    (boxes, are, (omega arith, none, refl, refl))

-- ---- numbers
pub instances_are_few : InstancesAreFew
instances_are_few s claims u has room =
    let rows = has.universe.hints.count in
    let hints = room.hints.rewrites in
    subst (λ (is : List Instance). length is ≤ 2 ^ 22) (sym has.universe.order)
    (few_instances u.nodes u.pairs u.hints room.short room.whole.few (omega (arith, rows, hints)))

-- ---- trees
-- no box is cut that lies 36 cuts below the root
abbrev pub IsShallow : PlanParts → Type 0
IsShallow plan = (path : List ℕ) → 36 ≤ length path → piece_count (cut_at plan path) ≡ 0

abbrev pub FewCutsEnd : Type 0
FewCutsEnd = (plan : PlanParts) → length plan.cuts ≤ 4 → plan.depth ≤ 32 → IsShallow plan

module _ (lawful : (nodes : List Node) (hints : List HintRow) → IsLawful (concludes nodes hints))
    (tables : TablesExist) (listed : BoxesAreListed) (one : IsOneAnswer) where
  -- of a plan whose ranges are known
  module _ (u : World) (plan : PlanParts) (height : ℕ) (states : List ℕ → State) where
    abbrev v : Setting
    v = setting_of u

    abbrev t : bisect.Tree
    t = tree_of (cut_at plan) states

    tree_proved : IsWhole u → AreStates u plan height states → AreRangesAt v height [] plan.ranges
        → HaveFewPieces plan.cuts → IsShallow plan
        → (boxes : List (List ℕ)) → AreBoxes t boxes → first_open t boxes ≡ None
        → IsProvedTree u height (boxes_of plan states) (length boxes) (leaves_of t boxes)
    tree_proved whole stand ranges few bottom boxes are none =
        let tree : Tree = boxes_of plan states in
        let said = listed_so one t (listed (cut_at plan) states bottom) boxes are none in
        let best : (pieces : List Piece) → IsTableAt v height pieces (table_at v height pieces) =
        tables v (lawful u.nodes u.hints) whole.closed height in
        let d = box_done u plan height states stand best few bottom 36 [] 0 refl refl
        (root_ranges v height plan ranges) said.0 in
        record {
          proved = subst (λ ps. IsProved v height u.goals tree ps 0) (root_pieces plan) d.proved;
          shown = λ lines e.
              ap (λ ps. lines_of_tree v height u.goals tree ps lines) (sym (root_pieces plan))
              ∙ (d.shown lines e ∙ ap (rows_from 0 lines) (sym said.2));
          steps = λ most. d.counted most ∙ ap (λ (n : ℕ). most * n) (sym said.1);
        }

  pub trees_are_proved : FewCutsEnd → TreesAreProved
  trees_are_proved ends s claims u has room o depth states stand boxes are none =
      let plan : PlanParts = plan_of s claims o.depth in
      let splits : AllByRecursion (IsVariable u.nodes) s.hints.order =
      variables_kept s.nodes u.nodes (λ x n e. has.universe.closure.begins x (Var n) e)
      s.hints.order room.splits in
      let ranges =
      whole_ranges (setting_of u) o.rounds claims has.universe.hypotheses s.hints.order splits in
      tree_proved u plan o.rounds states room.whole stand ranges room.hints.pieces
      (ends plan room.hints.cuts depth) boxes are none
