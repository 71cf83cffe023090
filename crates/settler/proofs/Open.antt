-- The open leaf that is named is the first.
use Rattle.std.specs.Prelude.{◌≡◌, ℕ, zero, suc, List, [], ◌∷◌, Some, slice_get, refl}
use Rattle.std.proofs.Common.{subst}
use Rattle.script_claims.specs.declared.claim.Claim.{Claim}
use Rattle.script_grammar.specs.Spells.{View}
use Rattle.script_grammar.specs.Cases.{cases_of}
use Rattle.derivation.specs.Laws.{BoxesComeToOneState}
use Rattle.universe.specs.Universes.{UniversesAreOne}
use Rattle.bisect.specs.Trees.{Tree}
use Rattle.bisect.specs.Boxes.{HasNoOpenLeaf}
use Rattle.case_trees.specs.Laws.{FirstIsFirst, HaveOneAnswer}
use Rattle.settler.specs.Answers.{Options, IsTreeOf, AreTrees}
use Rattle.settler.specs.Open.{OpenLeavesAreFirst}
use Rattle.settler.proofs.Proved.{tree_at}
use Rattle.settler.proofs.Unique.{one_tree}

-- the case of the tree in a place
case_of : (s : View) (o : Options) (cases : List (List Claim)) (trees : List Tree)
    → AreTrees s o cases trees → (k : ℕ) (t : Tree) → slice_get trees k ≡ Some t
    → (claims : List Claim) × (slice_get cases k ≡ Some claims) × IsTreeOf s o claims t
case_of s o cases [] are k t e = cc
case_of s o [] (u ∷ trees) are k t e = absurd are
case_of s o (c ∷ cases) (u ∷ trees) are zero t e = let same : u ≡ t = cc in
    (c, refl, subst (IsTreeOf s o c) same are.0)
case_of s o (c ∷ cases) (u ∷ trees) are (suc k) t e = case_of s o cases trees are.1 k t e

pub open_first : FirstIsFirst → UniversesAreOne → BoxesComeToOneState
    → HaveOneAnswer → OpenLeavesAreFirst
open_first first universes one answers s o leaf (count, came) =
    let f = first came.trees came.is_answer.0 leaf came.is_answer.1 came.is_answer.2.1 in
    let case = case_of s o (cases_of s) came.trees came.are_trees leaf.case f.tree f.there in
    record {
      claims = case.0;
      there = case.1;
      tree = f.tree;
      is_tree = case.2;
      open_leaf = f.open_leaf;
      first = f.first;
      earlier = λ k before t l at is.
          let found = tree_at s o (cases_of s) came.trees came.are_trees k before at in
          subst HasNoOpenLeaf (one_tree universes one answers s o before found.0 t found.2 is)
          (f.earlier k found.0 l found.1);
    }
