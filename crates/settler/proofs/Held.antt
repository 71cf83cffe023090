-- What settled leaves say is true of assignments.
use Rattle.std.specs.Prelude.{◌≡◌, ℕ, List}
use Rattle.std.proofs.Common.{sym, subst}
use Rattle.fx_model.specs.Expression.{Assignment}
use Rattle.facts.specs.declared.fact.Fact.{Fact}
use Rattle.facts.specs.declared.fact.Fact.TheVariants as fact
use Rattle.facts.specs.Holds.{Holds}
use Rattle.derivation.specs.Known.{Known}
use Rattle.rule_universe.specs.Worlds.{World}
use Rattle.saturate.specs.Universes.{setting_of}
use Rattle.universe.specs.Universes.{UniversesAreOne}
use Rattle.box_tree.specs.Plans.{pieces_at}
use Rattle.box_tree.specs.Regions.{PlanParts}
use Rattle.bisect.specs.declared.settler.State.{State}
use Rattle.bisect.specs.declared.settler.State.TheVariants as state
use Rattle.bisect.specs.Trees.{Tree, IsLeaf}
use Rattle.bisect.specs.Boxes.{HasNoOpenLeaf}
use Rattle.script_truths.specs.Truths.{HasUniverse, WhereMet, HypothesesHold, HintsAreTrue}
use Rattle.script_truths.specs.Truths.{LiesInWholeBox}
use Rattle.settler.specs.Standing.{StandsAs}
use Rattle.settler.specs.Answers.{plan_of, tree_by}
use Rattle.settler.specs.Cases.{LawfulCasesHold}
use Rattle.settler.specs.Held.{MeetsUniverse, HasHeldLeaf, SettledLeavesHold}
use Rattle.settler.proofs.Tight.{settled_fact}

-- a leaf that isn't open, where what is known at its box holds
pub held_leaf : (u : World) (plan : PlanParts) (height : ℕ) (t : Tree) (a : Assignment)
    (path : List ℕ) → IsLeaf t path → HasNoOpenLeaf t
    → ((f : Fact) → Known (setting_of u) height (pieces_at plan path) f → Holds u.nodes a f) →
    (s : State) → t.state_at path ≡ s
    → StandsAs (setting_of u) u.goals height (pieces_at plan path) s → HasHeldLeaf u t a
held_leaf u plan height t a path leaf closed hold state.Void e w = absurd (hold fact.Void w)
held_leaf u plan height t a path leaf closed hold (state.Open goal) e w =
    absurd (closed path goal (leaf, e))
held_leaf u plan height t a path leaf closed hold (state.Settled facts) e w = record {
  path = path;
  is_leaf = leaf;
  facts = facts;
  settled = e;
  held = λ k goal g.
      let f = settled_fact (setting_of u) height (pieces_at plan path) u.goals facts w.1 k goal g in
      (f.0, f.1, f.3, hold f.0 (f.2).known);
}

-- ---- of a case
pub case_holds : UniversesAreOne → WhereMet HypothesesHold → WhereMet HintsAreTrue
    → WhereMet LiesInWholeBox → LawfulCasesHold
case_holds universes hypotheses hints whole s u o case has is t a tree closed meets truth =
    let v : World = tree.universe in
    let plan : PlanParts = plan_of s case.claims o.depth in
    let here : HasUniverse s case.claims v = subst (HasUniverse s case.claims)
    (universes s case.claims u v has.universe tree.is_universe) has in
    let met : MeetsUniverse v plan a = record {
      hypotheses = hypotheses s case.claims v a here meets truth;
      rows = hints s case.claims v a here meets truth;
      inside = whole s case.claims v a here meets truth o.depth;
    } in
    let hold : SettledLeavesHold plan = subst SettledLeavesHold is.plan is.lawful.hold in
    let leaf : HasHeldLeaf v (tree_by s case.claims o tree.states) a = hold v o.rounds tree.states a
    here.nodes tree.are_states (subst HasNoOpenLeaf tree.is_tree closed) met in
    (v, here, subst (λ x. HasHeldLeaf v x a) (sym tree.is_tree) leaf)
