-- What derivations over a script's universe use can be written as steps.
use Rattle.std.specs.Prelude.{◌<◌, ◌^◌, List, length, refl}
use Rattle.std.proofs.Common.{arith}
use Rattle.std.proofs.lemmas.Option.{slice_get_within}
use Rattle.fx_model.specs.declared.ExprId.{ExprId}
use Rattle.fx_model.specs.declared.Node.{Node}
use Rattle.fx_model.specs.declared.Node.TheVariants.{Sub}
use Rattle.pair_closure.specs.Reached.{Has}
use Rattle.pair_closure.specs.Reached.IsReached.{begin}
use Rattle.pair_closure.specs.Closure.{IsClosure}
use Rattle.pair_closure.specs.Closure.BeginsExpressions.{difference}
use Rattle.facts.specs.declared.fact.Slot.{Slot}
use Rattle.facts.specs.declared.fact.Slot.TheVariants as slot
use Rattle.facts.specs.declared.hint.HintRow.{HintRow}
use Rattle.theorem_list.specs.Concludes.{concludes}
use Rattle.script_claims.specs.declared.claim.Claim.{Claim}
use Rattle.script_grammar.specs.Spells.{View}
use Rattle.derivation.specs.Lists.{IsLawful as IsLawfulList}
use Rattle.rule_universe.specs.Worlds.{World, IsSlot}
use Rattle.universe.specs.Starts.{starting_pairs}
use Rattle.script_truths.specs.Truths.{HasUniverse}
use Rattle.tree_certificates.specs.Writing.{IsSlotKnown}
use Rattle.tree_certificates.specs.Laws.{RulesFitSteps}
use Rattle.answer_certificates.specs.Scripts.{HasRoom}
use Rattle.answer_certificates.specs.Laws.{UniversesAreWritten}
use Rattle.answer_certificates.proofs.Arguments.{arg_below}

-- both sides of a pair are made before their difference
pair_known : (s : View) (claims : List Claim) (u : World) → HasUniverse s claims u → HasRoom s u
    → (x y : ExprId) → Has u.pairs (x, y) → (x.0 < length u.nodes) × (y.0 < length u.nodes)
pair_known s claims u has room x y p =
    let c : IsClosure s.nodes (starting_pairs s) u.nodes u.pairs = has.universe.closure in
    let d : Has u.nodes (Sub x y) =
    c.expressions.each (Sub x y) (begin (Sub x y) (difference x y (c.pairs.only (x, y) p))) in
    let l = (room.lawful (record { 0 = d.0 }) (Sub x y) d.1).children in
    let a : x.0 < d.0 = l.0 in
    let b : y.0 < d.0 = l.1 in
    let w = slice_get_within u.nodes d.0 (Sub x y) d.1 in
    (omega (arith, a, w), omega (arith, b, w))

slot_known : (s : View) (claims : List Claim) (u : World) → HasUniverse s claims u → HasRoom s u
    → (t : Slot) → IsSlot (length u.nodes) u.pairs t → IsSlotKnown u.nodes t
slot_known s claims u has room (slot.Bnd x) h = h
slot_known s claims u has room (slot.Abs x) h = h
slot_known s claims u has room (slot.Fix x) h = h
slot_known s claims u has room (slot.Nzr x) h = h
slot_known s claims u has room (slot.Rel x y) h = pair_known s claims u has room x y h
slot_known s claims u has room slot.Void h = tt

pub universes_are_written : ((nodes : List Node) (hints : List HintRow)
    → IsLawfulList (concludes nodes hints)) → RulesFitSteps → UniversesAreWritten
universes_are_written lawful fits s claims u has room = record {
  listed = λ number arg premises target. refl;
  on_target = (lawful u.nodes u.hints).on_target;
  void_fits = fits.void_fits u.nodes u.hints has.nodes;
  low = fits.low u.nodes u.hints;
  counted = fits.counted u.nodes u.hints has.nodes;
  args = λ k i e.
      let few = room.hints.rewrites in
      let same = has.universe.hints.count in
      arg_below u.nodes (Has u.pairs) u.hints (2 ^ 16) (omega arith)
      (omega (arith, few, same)) i (has.universe.instances.only i (k, e));
  targets = λ k i e. slot_known s claims u has room i.target (room.whole.targets k i e);
  hypotheses = λ k f e. slot_known s claims u has room _ (room.whole.hypotheses k f e);
  few_hypotheses = room.hypotheses;
  few_nodes = let l = room.short in omega (arith, l);
}
