-- The trees of boxes of a script's cases, one for each case.
use Rattle.std.specs.Prelude.{◌≡◌, ◌≤◌, ◌+◌, ℕ, zero, suc, List, [], ◌∷◌, length}
use Rattle.std.proofs.Common.{arith}
use Rattle.fx_model.specs.declared.Node.{Node}
use Rattle.facts.specs.declared.hint.HintRow.{HintRow}
use Rattle.goals.specs.declared.goal.Goal.{Goal}
use Rattle.goals.specs.declared.line.Line.{Line}
use Rattle.derivation.specs.Derivations.{Setting}
use Rattle.cert_bytes.specs.declared.item.Item.{Item}
use Rattle.cert_bytes.specs.declared.item.Item.TheVariants as item
use Rattle.cert_checker.specs.declared.subject.Subject.{Subject}
use Rattle.tree_certificates.specs.Writing.{IsWritable}
use Rattle.tree_certificates.specs.Traces.{most_steps}
use Rattle.tree_certificates.specs.Trees.{Tree, IsProved, lines_of_tree, steps_in, IsSubjectOf}

-- What derivations of a case use, and the tree of its boxes.
pub record Root : Type 0 where
  pub setting : Setting
  pub tree : Tree

-- The leaves of the case with this number are settled in so many rounds, and what derivations
-- conclude of it can be written, in so many steps a box at most.
pub record IsRoot (subject : Subject) (hints : List HintRow)
    (height most : ℕ) (goals : List Goal) (nodes : List Node) (case : ℕ) (r : Root) : Type 0 where
  pub writable : IsWritable r.setting hints
  pub few : most_steps r.setting height ≤ most
  pub nodes_are : r.setting.nodes ≡ nodes
  pub subject_is : IsSubjectOf subject case r.setting hints goals
  pub proved : IsProved r.setting height goals r.tree [] 0

module _ (subject : Subject) (hints : List HintRow)
    (height most : ℕ) (goals : List Goal) (nodes : List Node) where
  -- From the case with this number to the last each has its root.
  abbrev pub AreRoots : ℕ → List Root → Type 0
  AreRoots case [] = case ≡ length subject.cases
  AreRoots case (r ∷ roots) = IsRoot subject hints height most goals nodes case r
      × AreRoots (case + 1) roots

  -- They are as many as the cases from this one on.
  pub roots_are_counted : (roots : List Root) (case : ℕ)
      → AreRoots case roots → case + length roots ≡ length subject.cases
  roots_are_counted [] case are = omega (arith, are)
  roots_are_counted (r ∷ roots) case are =
      let e = roots_are_counted roots (case + 1) are.1 in omega (arith, e)

-- how many steps there may be, so many for each box
abbrev pub steps_in_roots : ℕ → List Root → ℕ
steps_in_roots most [] = 0
steps_in_roots most (r ∷ roots) = steps_in most r.tree + steps_in_roots most roots

-- the lines with those of the leaves of each tree
abbrev pub lines_of_roots : ℕ → List Goal → List Root → List Line → List Line
lines_of_roots height goals [] lines = lines
lines_of_roots height goals (r ∷ roots) lines =
    lines_of_roots height goals roots (lines_of_tree r.setting height goals r.tree [] lines)

-- what tells the number of root sections: nothing where there is one
abbrev pub cases_items : ℕ → List Item
cases_items zero = []
cases_items (suc zero) = []
cases_items n = item.Cases n ∷ []
