-- Cases with their plans.
use Rattle.std.specs.Prelude.{◌≡◌, ◌≤◌, ⊤, ℕ, List, [], ◌∷◌, length, map}
use Rattle.std.specs.List.{AllByRecursion}
use Rattle.script_claims.specs.declared.claim.Claim.{Claim}
use Rattle.script_claims.specs.Facts.{HasNormalBounds, facts_of}
use Rattle.script_grammar.specs.Spells.{View}
use Rattle.rule_universe.specs.Worlds.{World}
use Rattle.rule_universe.specs.Assumed.{assuming}
use Rattle.universe.specs.Cases.{AreHypotheses}
use Rattle.box_tree.specs.Pieces.{piece_count}
use Rattle.box_tree.specs.Plans.{cut_at}
use Rattle.box_tree.specs.Regions.{PlanParts}
use Rattle.bisect.specs.Trees.{Tree, tree_of}
use Rattle.script_truths.specs.Truths.{HasUniverse}
use Rattle.settler.specs.declared.cases.Case.{Case}
use Rattle.settler.specs.Answers.{Options, plan_of}
use Rattle.settler.specs.Decided.{state_at}
use Rattle.settler.specs.Held.{SettledLeavesHold, CaseHolds}

-- What each plan keeps: no box is cut that lies 36 cuts below the root, and leaves that are settled
-- hold.
pub record IsLawful (plan : PlanParts) : Type 0 where
  pub shallow : (path : List ℕ) → 36 ≤ length path → piece_count (cut_at plan path) ≡ 0
  pub hold : SettledLeavesHold plan

-- Its claims are hypotheses of the script, and its plan is theirs.
pub record IsCaseOf (s : View) (depth : ℕ) (case : Case) : Type 0 where
  pub claims : AreHypotheses s case.claims
  pub normal : AllByRecursion HasNormalBounds case.claims
  pub plan : case.plan ≡ plan_of s case.claims depth
  pub lawful : IsLawful case.plan

-- one for each list of claims, in their order
abbrev pub AreCases : View → ℕ → List (List Claim) → List Case → Type 0
AreCases s depth [] [] = ⊤
AreCases s depth (claims ∷ later) (c ∷ cs) = (c.claims ≡ claims)
    × IsCaseOf s depth c × AreCases s depth later cs
AreCases s depth _ _ = ⊥

-- ---- their trees. Only private functions cite these.
-- the tree of a case over the universe, each box settled by so many rounds
abbrev pub tree_in : World → ℕ → Case → Tree
tree_in u rounds case = tree_of
    (cut_at case.plan) (state_at (assuming u (facts_of case.claims)) case.plan rounds)

-- the tree of each case
abbrev pub trees_in : World → ℕ → List Case → List Tree
trees_in u rounds cs = map (tree_in u rounds) cs

-- A lawful case of a script with such a universe holds.
abbrev pub LawfulCasesHold : Type 0
LawfulCasesHold = (s : View) (u : World) (o : Options) (case : Case)
    → HasUniverse s case.claims u → IsCaseOf s o.depth case → CaseHolds s o case.claims
