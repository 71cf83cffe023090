-- Which leaf of an unproved script is named.
use Rattle.std.specs.Prelude.{◌≡◌, ◌<◌, ◌⊎◌, ℕ, List, Some, slice_get}
use Rattle.script_claims.specs.declared.claim.Claim.{Claim}
use Rattle.script_grammar.specs.Spells.{View}
use Rattle.script_grammar.specs.Cases.{cases_of}
use Rattle.bisect.specs.Trees.{Tree}
use Rattle.bisect.specs.Boxes.{IsBefore, IsOpenLeaf, HasNoOpenLeaf}
use Rattle.bisect.specs.declared.outcome.OpenLeaf.{OpenLeaf}
use Rattle.settler.specs.Answers.{Options, IsTreeOf, IsUnproved}

-- It is open in the tree of its case, and each other that is open there lies after it; no leaf of
-- an earlier case is open.
pub record IsFirstOpen (s : View) (o : Options) (leaf : OpenLeaf) : Type 0 where
  pub claims : List Claim
  pub there : slice_get (cases_of s) leaf.case ≡ Some claims
  pub tree : Tree
  pub is_tree : IsTreeOf s o claims tree
  pub open_leaf : IsOpenLeaf tree leaf.path leaf.goal
  pub first : (other : List ℕ) (goal : ℕ) → IsOpenLeaf tree other goal → (leaf.path ≡ other)
      ⊎ IsBefore leaf.path other
  pub earlier : (case : ℕ) (before : List Claim) (t : Tree) → case < leaf.case
      → slice_get (cases_of s) case ≡ Some before → IsTreeOf s o before t → HasNoOpenLeaf t

-- The leaf that is named is the first open one of the first case that has one.
abbrev pub OpenLeavesAreFirst : Type 0
OpenLeavesAreFirst = (s : View) (o : Options) (leaf : OpenLeaf)
    → IsUnproved s o leaf → IsFirstOpen s o leaf
