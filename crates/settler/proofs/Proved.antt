-- What is true where a script is proved.
use Rattle.std.specs.Prelude.{◌≡◌, ℕ, zero, suc, List, [], ◌∷◌, length, Some, slice_get, refl}
use Rattle.std.proofs.Common.{◌∙◌, ap, subst}
use Rattle.std.proofs.lemmas.Option.{slice_get_within}
use Rattle.goals.specs.declared.line.Line.{Line}
use Rattle.goals.specs.Holds.{LineHolds}
use Rattle.goals.specs.Stronger.{AreOfGoals}
use Rattle.script_claims.specs.declared.claim.Claim.{Claim}
use Rattle.script_claims.specs.Facts.{slot_of, goal_of}
use Rattle.script_grammar.specs.Spells.{View}
use Rattle.script_grammar.specs.Cases.{cases_of}
use Rattle.rule_universe.specs.Worlds.{World}
use Rattle.bisect.specs.Trees.{Tree}
use Rattle.bisect.specs.Boxes.{HasNoOpenLeaf}
use Rattle.bisect.specs.Gathered.{line_of}
use Rattle.case_trees.specs.Listed.{Listed, all_leaves}
use Rattle.case_trees.specs.Laws.{NoneIsOpen, LinesHoldOfEach}
use Rattle.script_truths.specs.Truths.{SomeCaseIsMet, OfUniverses, SettledGoalsAreTrue}
use Rattle.script_truths.specs.Truths.{GoalLinesHold}
use Rattle.settler.specs.Answers.{Options, AreTrees, IsTreeOf}
use Rattle.settler.specs.Held.{CasesHold, ProvedHolds}
use Rattle.settler.proofs.Tight.{goal_there, line_there}

-- the tree of the case in a place
pub tree_at : (s : View) (o : Options) (cases : List (List Claim)) (trees : List Tree)
    → AreTrees s o cases trees → (k : ℕ) (claims : List Claim) → slice_get cases k ≡ Some claims
    → (t : Tree) × (slice_get trees k ≡ Some t) × IsTreeOf s o claims t
tree_at s o [] trees are k claims e = cc
tree_at s o (c ∷ cases) [] are k claims e = absurd are
tree_at s o (c ∷ cases) (t ∷ trees) are zero claims e = let same : c ≡ claims = cc in
    (t, refl, subst (λ x. IsTreeOf s o x t) same are.0)
tree_at s o (c ∷ cases) (t ∷ trees) are (suc k) claims e = tree_at s o cases trees are.1 k claims e

module _ (met : SomeCaseIsMet) (settled : OfUniverses SettledGoalsAreTrue)
    (kept : OfUniverses GoalLinesHold) (kinds : AreOfGoals) (none : NoneIsOpen)
    (covers : LinesHoldOfEach) where
  pub proved_holds : (s : View) (o : Options) → CasesHold s o → ProvedHolds s o
  proved_holds s o holds lines a (count, (leaves, came, are)) meets k c g =
      let case = met s a meets in
      let claims : List Claim = case.1 in
      let tree = tree_at s o (cases_of s) came.trees came.are_trees case.0 claims case.2 in
      let t : Tree = tree.0 in
      let ls : List Listed = came.is_answer.0 in
      let listed = came.is_answer.1 in
      let by = came.is_answer.2 in
      let closed : HasNoOpenLeaf t = none came.trees ls case.0 t listed by.1 tree.1 in
      let held = holds case.0 claims case.2 t a tree.2 closed meets case.3 in
      let u : World = held.0 in
      let has = held.1 in
      let leaf = held.2 in
      let here : slice_get u.goals k ≡ Some (goal_of c) =
      ap (λ gs. slice_get gs k) has.universe.goals ∙ goal_there s.goals k c g in
      let f = leaf.held k (goal_of c) here in
      let l : Line = line_of (all_leaves ls) k in
      let holds_there : LineHolds u.nodes a (slot_of c) l =
      covers came.trees ls case.0 t listed tree.1 leaf.path leaf.facts leaf.is_leaf leaf.settled
      u.nodes a (slot_of c) k f.0 f.1 (kinds (goal_of c).want f.0 f.2.1) f.2.0 f.3 in
      let there : slice_get lines k ≡ Some l = ap (λ xs. slice_get xs k) are ∙ line_there leaves
      (length s.goals) k (slice_get_within s.goals k c g) ∙ ap (λ xs. Some (line_of xs k)) by.3 in (
        l,
        there,
        kept s claims u a has c (k, g) l holds_there,
        settled s claims u a has c (k, g) f.0 f.2 f.3,
      )
