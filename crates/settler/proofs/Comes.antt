-- What a script comes to, from what the trees of its cases come to.
use Rattle.std.specs.Prelude.{List, [], ◌∷◌}
use Rattle.std.proofs.Common.{subst}
use Rattle.fx_model.specs.Expression.{IsOrdered}
use Rattle.fx_model.specs.declared.Node.{Node}
use Rattle.facts.specs.declared.hint.HintRow.{HintRow}
use Rattle.goals.specs.Stronger.{StrongerSettles}
use Rattle.theorem_list.specs.Concludes.{concludes}
use Rattle.script_claims.specs.declared.claim.Claim.{Claim}
use Rattle.script_claims.specs.Facts.{facts_of}
use Rattle.script_grammar.specs.Spells.{View}
use Rattle.script_grammar.specs.Names.{NamesNodes}
use Rattle.script_grammar.specs.Cases.{cases_of}
use Rattle.derivation.specs.Derivations.{IsClosed}
use Rattle.derivation.specs.Lists.{IsLawful}
use Rattle.derivation.specs.Laws.{TablesExist, BoxesComeToOneState}
use Rattle.rule_universe.specs.Worlds.{World}
use Rattle.rule_universe.specs.Assumed.{assuming}
use Rattle.saturate.specs.Universes.{setting_of}
use Rattle.universe.specs.Universes.{IsUniverse, IsTooLarge}
use Rattle.universe.proofs.Universes.{assumed}
use Rattle.box_tree.specs.Plans.{cut_at, pieces_at}
use Rattle.bisect.specs.Trees.{tree_of}
use Rattle.bisect.specs.declared.outcome.Outcome.{Outcome}
use Rattle.case_trees.specs.Answers.{IsAnswerOfAll}
use Rattle.script_truths.specs.Truths.{HasUniverse}
use Rattle.settler.specs.declared.cases.Case.{Case}
use Rattle.settler.specs.Answers.{Options, plan_of, IsTreeOf, AreTrees, ComesTo}
use Rattle.settler.specs.Cases.{IsCaseOf, AreCases, LawfulCasesHold, tree_in, trees_in}
use Rattle.settler.specs.Decided.{state_at}
use Rattle.settler.specs.Held.{CaseHolds, CasesHold}
use Rattle.settler.proofs.Planned.{case_at}
use Rattle.settler.proofs.Stands.{stands_at}

module _ (s : View) (o : Options) (u : World) (before : List Claim)
    (is : IsUniverse s before u) where
  module _ (exist : TablesExist) (one : BoxesComeToOneState) (stronger : StrongerSettles)
      (lawful : (nodes : List Node) (hints : List HintRow) → IsLawful (concludes nodes hints))
      (closed : IsClosed u.instances) where
    -- a case has its tree
    tree_of_case : (c : Case) → IsCaseOf s o.depth c → IsTreeOf s o c.claims (tree_in u o.rounds c)
    tree_of_case c case =
        let v : World = assuming u (facts_of c.claims) in
        record {
          universe = v;
          is_universe = assumed s u before c.claims is case.claims;
          states = state_at v (plan_of s c.claims o.depth) o.rounds;
          are_states = λ path. stands_at exist one stronger (setting_of v) (lawful u.nodes u.hints)
              closed u.goals o.rounds (pieces_at (plan_of s c.claims o.depth) path);
          is_tree = λ i. tree_of (cut_at (case.plan i)) (state_at v (case.plan i) o.rounds);
        }

    trees_are : (cases : List (List Claim)) (cs : List Case) → AreCases s o.depth cases cs
        → AreTrees s o cases (trees_in u o.rounds cs)
    trees_are [] [] are = tt
    trees_are [] (c ∷ cs) are = absurd are
    trees_are (x ∷ cases) [] are = absurd are
    trees_are (x ∷ cases) (c ∷ cs) are = (
      subst (λ claims. IsTreeOf s o claims (tree_in u o.rounds c)) are.0 (tree_of_case c are.1),
      trees_are cases cs are.2,
    )

    pub comes_to : ¬ IsTooLarge s
        → (cs : List Case) → AreCases s o.depth (cases_of s) cs → (found : Outcome)
        → IsAnswerOfAll (trees_in u o.rounds cs) o.boxes found → ComesTo s o found
    comes_to few cs are found answer = record {
      few = few;
      trees = trees_in u o.rounds cs;
      are_trees = trees_are (cases_of s) cs are;
      is_answer = answer;
    }

  -- each case holds
  pub each_holds : LawfulCasesHold → NamesNodes s → IsOrdered s.nodes → IsOrdered u.nodes
      → (cs : List Case) → AreCases s o.depth (cases_of s) cs → CasesHold s o
  each_holds holds names ordered nodes cs are k claims e =
      let case = case_at s o.depth (cases_of s) cs are k claims e in
      let c : Case = case.0 in
      let has : HasUniverse s c.claims (assuming u (facts_of c.claims)) = record {
        names = names;
        ordered = ordered;
        universe = assumed s u before c.claims is (case.2).claims;
        nodes = nodes;
      } in
      subst (CaseHolds s o) case.1 (holds s (assuming u (facts_of c.claims)) o c has case.2)
