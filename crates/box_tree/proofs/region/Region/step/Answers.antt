use Rattle.std.proofs.Common.{List, length, ap, sym, subst, ◌∙◌, arith}
use Rattle.std.proofs.lemmas.List.{nil_from_length}
use Rattle.script_hints.specs.declared.hint.Split.{Split}
use Rattle.box_tree.specs.Nexts.{IsWithinNext}
use Rattle.box_tree.proofs.Within.{half_within}
use Rattle.box_tree.proofs.Turns.{cut_done, halving_done, rest_done}
use Rattle.box_tree.proofs.region.Region.step.Goals as goal

pub halve-requires : goal.halve-requires
halve-requires c = record {
  within = subst (IsWithinNext c.args.self.now.ranges) (sym c.in-Some.ensures.is)
      (half_within c.args.plan.now c.args.self.now);
}

pub returns-in-len1-up : goal.returns-in-len1-up
returns-in-len1-up c =
    cut_done c.args.plan.now c.args.self.now _ c.args.i c.made_before-self-inside.result
    c.forced.result.now c.split-item.result c.forced.ensures.is c.in-len1-up.len_at_least
    c.split-item.is c.made_before-self-inside.ensures
    (c.self-in-len1-up.view_is ∙ c.force.ensures)

pub returns-in-Some : goal.returns-in-Some
returns-in-Some c =
    halving_done c.args.plan.now c.args.self.now _ c.args.i (length c.cuts.result.now)
    c.forced.result.now c.in-Some.x c.in-Some.m c.forced.ensures.is
    (nil_from_length c.forced.result.now (omega arith)) c.in-Some.ensures.is
    (ap (λ (cs : List Split). length cs) c.cuts.ensures.value)
    (c.self.view_is ∙ c.halve.ensures)

pub returns-in-None : goal.returns-in-None
returns-in-None c =
    rest_done c.args.plan.now c.args.self.now c.args.i c.forced.result.now c.forced.ensures.is
    (nil_from_length c.forced.result.now (omega arith)) c.in-None.ensures.is
