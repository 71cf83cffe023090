-- A script of one case comes to what its tree comes to.
use Rattle.std.specs.Prelude.{List, [], ◌∷◌}
use Rattle.std.proofs.Common.{subst}
use Rattle.script_claims.specs.declared.claim.Claim.{Claim}
use Rattle.script_grammar.specs.Spells.{View}
use Rattle.bisect.specs.declared.outcome.Outcome.{Outcome}
use Rattle.bisect.specs.declared.outcome.Outcome.TheVariants as outcome
use Rattle.bisect.specs.Answers.{IsAnswer}
use Rattle.bisect.specs.Trees.{Tree}
use Rattle.case_trees.specs.Answers.{IsAnswerOfAll}
use Rattle.case_trees.specs.Laws.{OneIsAll}
use Rattle.settler.specs.Answers.{Options, AreTrees}
use Rattle.settler.specs.One.{CaseComesTo, OneCaseIsAll, ProvedInOneCase}

by_trees : OneIsAll → (s : View) (claims : List Claim)
    (o : Options) (found : Outcome) (trees : List Tree) → AreTrees s o (claims ∷ []) trees
    → IsAnswerOfAll trees o.boxes found → CaseComesTo s claims o found
by_trees one s claims o found [] are a = absurd are
by_trees one s claims o found (t ∷ u ∷ trees) are a = absurd are.1
by_trees one s claims o found (t ∷ []) are a = record {
  universe = are.0.universe;
  is_universe = are.0.is_universe;
  states = are.0.states;
  are_states = are.0.are_states;
  is_answer = subst (λ v. IsAnswer v o.boxes found) are.0.is_tree ((one t o.boxes found).1 a);
}

pub one_case_is_all : OneIsAll → OneCaseIsAll
one_case_is_all one s claims o found e came = by_trees one s claims o found came.trees
    (subst (λ cases. AreTrees s o cases came.trees) e came.are_trees) came.is_answer

pub proved_in_one : OneIsAll → ProvedInOneCase
proved_in_one one s claims o lines e (count, (leaves, came, are)) =
    (count, (leaves, one_case_is_all one s claims o (outcome.Leaves count leaves) e came, are))
