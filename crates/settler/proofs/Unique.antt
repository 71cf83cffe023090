-- A script comes to one outcome, and has one answer.
use Rattle.std.specs.Prelude.{◌≡◌, ℕ, List, [], ◌∷◌, length, refl}
use Rattle.std.proofs.Common.{sym, ◌∙◌, ap, ap₂, subst}
use Rattle.script_claims.specs.declared.claim.Claim.{Claim}
use Rattle.script_grammar.specs.Spells.{View}
use Rattle.script_grammar.specs.Cases.{cases_of}
use Rattle.derivation.specs.Laws.{BoxesComeToOneState}
use Rattle.rule_universe.specs.Worlds.{World}
use Rattle.saturate.specs.Universes.{setting_of}
use Rattle.universe.specs.Universes.{UniversesAreOne}
use Rattle.box_tree.specs.Plans.{pieces_at}
use Rattle.box_tree.specs.Regions.{PlanParts}
use Rattle.bisect.specs.declared.settler.State.{State}
use Rattle.bisect.specs.declared.outcome.Leaf.{Leaf}
use Rattle.bisect.specs.Trees.{Tree}
use Rattle.bisect.specs.Gathered.{lines_of}
use Rattle.bisect.specs.declared.outcome.OpenLeaf.{OpenLeaf}
use Rattle.bisect.specs.declared.outcome.Outcome.{Outcome}
use Rattle.bisect.specs.declared.outcome.Outcome.TheVariants as outcome
use Rattle.case_trees.specs.Answers.{IsAnswerOfAll}
use Rattle.case_trees.specs.Laws.{HaveOneAnswer}
use Rattle.settler.specs.Standing.{AreStates}
use Rattle.settler.specs.Answers.{Options, plan_of, tree_by, IsTreeOf, AreTrees, ComesTo, Answer}
use Rattle.settler.specs.Answers.{expr_limit, box_limit, unproved, proved, IsScriptAnswer}
use Rattle.settler.proofs.Stands.{stands_once}

-- boxes have one state each
states_once : (one : BoxesComeToOneState) (u v : World)
    (plan : PlanParts) (height : ℕ) (xs ys : List ℕ → State) → u ≡ v → AreStates u plan height xs
    → AreStates v plan height ys → xs ≡ ys
states_once one u v plan height xs ys e a b =
    let c : AreStates u plan height ys = subst (λ w. AreStates w plan height ys) (sym e) b in
    λ i path. stands_once one (setting_of u) u.goals height (pieces_at plan path) (xs path)
    (ys path) (a path) (c path) i

module _ (universes : UniversesAreOne) (one : BoxesComeToOneState) (answers : HaveOneAnswer)
    (s : View) (o : Options) where
  -- a case has one tree
  pub one_tree : (claims : List Claim) (t v : Tree) → IsTreeOf s o claims t
      → IsTreeOf s o claims v → t ≡ v
  one_tree claims t v a b =
      let e : a.universe ≡ b.universe =
      universes s claims a.universe b.universe a.is_universe b.is_universe in
      let f : a.states ≡ b.states = states_once one a.universe b.universe
      (plan_of s claims o.depth) o.rounds a.states b.states e a.are_states b.are_states in
      a.is_tree ∙ ap (tree_by s claims o) f ∙ sym b.is_tree

  same_trees : (cases : List (List Claim)) (xs ys : List Tree) → AreTrees s o cases xs
      → AreTrees s o cases ys → xs ≡ ys
  same_trees [] [] [] a b = refl
  same_trees [] [] (y ∷ ys) a b = absurd b
  same_trees [] (x ∷ xs) ys a b = absurd a
  same_trees (c ∷ cases) [] ys a b = absurd a
  same_trees (c ∷ cases) (x ∷ xs) [] a b = absurd b
  same_trees (c ∷ cases) (x ∷ xs) (y ∷ ys) a b =
      ap₂ (λ t ts. t ∷ ts) (one_tree c x y a.0 b.0) (same_trees cases xs ys a.1 b.1)

  pub one_outcome : (found other : Outcome) → ComesTo s o found
      → ComesTo s o other → found ≡ other
  one_outcome found other a b =
      answers b.trees o.boxes found other (subst (λ ts. IsAnswerOfAll ts o.boxes found)
      (same_trees (cases_of s) a.trees b.trees a.are_trees b.are_trees) a.is_answer) b.is_answer

  same_unproved : (n m : ℕ) (x y : OpenLeaf) → outcome.Unproved n x ≡ outcome.Unproved m y
      → unproved x ≡ unproved y
  same_unproved n m x y e = cc

  same_leaves : (n m : ℕ) (xs ys : List Leaf) → outcome.Leaves n xs ≡ outcome.Leaves m ys → xs ≡ ys
  same_leaves n m xs ys e = cc

  limit_or_unproved : (n : ℕ) (x : OpenLeaf) → outcome.BoxLimit ≡ outcome.Unproved n x → ⊥
  limit_or_unproved n x e = cc

  limit_or_leaves : (n : ℕ) (xs : List Leaf) → outcome.BoxLimit ≡ outcome.Leaves n xs → ⊥
  limit_or_leaves n xs e = cc

  unproved_or_leaves : (n m : ℕ) (x : OpenLeaf) (xs : List Leaf)
      → outcome.Unproved n x ≡ outcome.Leaves m xs → ⊥
  unproved_or_leaves n m x xs e = cc

  pub one_answer : (x y : Answer) → IsScriptAnswer s o x → IsScriptAnswer s o y → x ≡ y
  one_answer expr_limit expr_limit a b = refl
  one_answer expr_limit box_limit a b = absurd (b.few a)
  one_answer expr_limit (unproved x) a b = absurd (b.1.few a)
  one_answer expr_limit (proved l) a b = absurd (b.1.1.few a)
  one_answer box_limit expr_limit a b = absurd (a.few b)
  one_answer box_limit box_limit a b = refl
  one_answer box_limit (unproved x) a b =
      absurd (limit_or_unproved b.0 x (one_outcome outcome.BoxLimit (outcome.Unproved b.0 x) a b.1))
  one_answer box_limit (proved l) a b = absurd
      (limit_or_leaves b.0 b.1.0 (one_outcome outcome.BoxLimit (outcome.Leaves b.0 b.1.0) a b.1.1))
  one_answer (unproved x) expr_limit a b = absurd (a.1.few b)
  one_answer (unproved x) box_limit a b =
      absurd (limit_or_unproved a.0 x (one_outcome outcome.BoxLimit (outcome.Unproved a.0 x) b a.1))
  one_answer (unproved x) (unproved y) a b = same_unproved a.0 b.0 x y
      (one_outcome (outcome.Unproved a.0 x) (outcome.Unproved b.0 y) a.1 b.1)
  one_answer (unproved x) (proved l) a b = absurd (unproved_or_leaves a.0 b.0 x b.1.0
      (one_outcome (outcome.Unproved a.0 x) (outcome.Leaves b.0 b.1.0) a.1 b.1.1))
  one_answer (proved l) expr_limit a b = absurd (a.1.1.few b)
  one_answer (proved l) box_limit a b = absurd
      (limit_or_leaves a.0 a.1.0 (one_outcome outcome.BoxLimit (outcome.Leaves a.0 a.1.0) b a.1.1))
  one_answer (proved l) (unproved y) a b = absurd (unproved_or_leaves b.0 a.0 y a.1.0
      (one_outcome (outcome.Unproved b.0 y) (outcome.Leaves a.0 a.1.0) b.1 a.1.1))
  one_answer (proved l) (proved m) a b =
      let e : a.1.0 ≡ b.1.0 = same_leaves a.0 b.0 a.1.0 b.1.0
      (one_outcome (outcome.Leaves a.0 a.1.0) (outcome.Leaves b.0 b.1.0) a.1.1 b.1.1) in
      let f : l ≡ m = a.1.2 ∙ ap (λ ls. lines_of ls (length s.goals)) e ∙ sym b.1.2 in
      ap proved f
