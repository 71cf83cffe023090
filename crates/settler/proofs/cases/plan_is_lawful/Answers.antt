use Rattle.std.specs.Prelude.{refl}
use Rattle.fx_model.specs.Expression.{value}
use Rattle.facts.specs.declared.fact.Fact.{Fact}
use Rattle.facts.specs.Holds.{Holds}
use Rattle.derivation.specs.Known.{Known}
use Rattle.saturate.specs.Universes.{setting_of}
use Rattle.box_tree.specs.Plans.{cut_at, pieces_at}
use Rattle.bisect.specs.Trees.{tree_of}
use Rattle.settler.proofs.Held.{held_leaf}
use Rattle.settler.proofs.cases.plan_is_lawful.Goals as goal

pub returns : goal.returns
returns c = record {
  shallow = c.laws.ensures;
  hold = λ u rounds states a ordered are closed meets.
      let plan = c.args.plan.now in
      let t = tree_of (cut_at plan) states in
      let sound = c.rules_are_sound_for.ensures u.nodes u.hints a ordered meets.rows in
      let leaf = c.leaves_cover.ensures.some states (value u.nodes a) meets.inside in
      let hold : (f : Fact) → Known (setting_of u) rounds (pieces_at plan leaf.0) f
      → Holds u.nodes a f =
      c.known_facts_hold.ensures.known (setting_of u) a sound ordered meets.hypotheses rounds
      (pieces_at plan leaf.0) (c.covers.ensures.pieces (value u.nodes a) leaf.0 leaf.2) in
      held_leaf u plan rounds t a leaf.0 leaf.1 closed hold (states leaf.0) refl (are leaf.0);
}
