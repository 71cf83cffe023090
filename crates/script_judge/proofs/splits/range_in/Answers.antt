use Rattle.std.proofs.Common.{sym, ◌∙◌, subst}
use Rattle.std.specs.List.{AllByRecursion}
use Rattle.script_claims.specs.Facts.{HasNormalBounds}
use Rattle.script_judge.proofs.CaseRanges.{found_here, found_later}
use Rattle.script_judge.proofs.splits.range_in.Goals as goal

pub split_range-range-requires : goal.split_range-range-requires
split_range-range-requires c =
    (subst (AllByRecursion (AllByRecursion HasNormalBounds)) c.in-Some.ensures.taken
    c.loop-claims.invariant.normal).0

pub returns-then-is_some : goal.returns-then-is_some
returns-then-is_some c =
    found_here c.args.x _ _ _ _ c.in-Some.ensures.taken c.split_range-range.ensures.is
    (sym c.is_some.ensures ∙ c.if-is_some.true)
    ∙ sym c.loop-claims.invariant.ranged

pub loop-claims-preserved : goal.loop-claims-preserved
loop-claims-preserved c = record {
  ranged = c.loop-claims.invariant.ranged
      ∙ found_later c.args.x _ _ _ _ c.in-Some.ensures.taken c.split_range-range.ensures.is
      (sym c.is_some.ensures ∙ c.if-is_some.false);
  normal = (subst (AllByRecursion (AllByRecursion HasNormalBounds)) c.in-Some.ensures.taken
      c.loop-claims.invariant.normal).1;
}
