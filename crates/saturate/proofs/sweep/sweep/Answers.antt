use Rattle.std.proofs.Common.{arith, subst}
use Rattle.facts.specs.declared.fact.Fact.TheVariants as fact
use Rattle.facts.specs.declared.fact.Slot.TheVariants as slot
use Rattle.derivation.proofs.Parts.{none_some}
use Rattle.saturate.specs.Universes.{setting_by}
use Rattle.saturate.specs.Sweeping.{IsSweeping, IsEnded, IsCourse, NoneDue}
use Rattle.saturate.proofs.Swept.{sweeping_start, none_quiet, swept_best}
use Rattle.saturate.proofs.sweep.sweep.Goals as goal

pub loop-init : goal.loop-init
loop-init g c =
    let u = c.args.uni.now in
    record {
      sweeping = sweeping_start (setting_by g.C.Concludes.rules u) u c.args.height
          (g.K.Sweeps.facts u c.args.kept.now) c.requires.no_void c.args.work.now.due.items
          c.requires.due c.requires.quiet c.args.work.now.heights.items c.requires.heights;
      fits = c.requires.fits;
      came = c.sweeps_are_whole.ensures.none u c.args.kept.now;
      cost = omega arith;
    }

-- VOID came
pub returns-in-Best-clause-best : goal.returns-in-Best-clause-best
returns-in-Best-clause-best g c = λ said.
    let u = c.args.uni.now in
    let s = setting_by g.C.Concludes.rules u in
    let first = g.K.Sweeps.facts u c.args.kept.now in
    let new = g.K.Sweeps.facts u c.pass.new.kept in
    let work = c.pass.new.work in
    (subst (λ o. IsCourse o (IsSweeping s u first c.args.height new work.heights.items
    work.due.items) (IsEnded s first c.args.height new)) c.in-Best.is
    (c.in_ok-course.ensures.passed first c.loop.invariant.sweeping)).0

pub returns-in-Best-clause-closed : goal.returns-in-Best-clause-closed
returns-in-Best-clause-closed g c = λ said v.
    let u = c.args.uni.now in
    let s = setting_by g.C.Concludes.rules u in
    let first = g.K.Sweeps.facts u c.args.kept.now in
    let new = g.K.Sweeps.facts u c.pass.new.kept in
    let work = c.pass.new.work in
    let ended = subst (λ o. IsCourse o (IsSweeping s u first c.args.height new work.heights.items
    work.due.items) (IsEnded s first c.args.height new)) c.in-Best.is
    (c.in_ok-course.ensures.passed first c.loop.invariant.sweeping) in
    absurd (none_some fact.Void (new slot.Void) v ended.1)

-- no instance is due any more
pub returns-then-none_due-clause-best : goal.returns-then-none_due-clause-best
returns-then-none_due-clause-best g c = λ said.
    let u = c.args.uni.now in
    let s = setting_by g.C.Concludes.rules u in
    let first = g.K.Sweeps.facts u c.args.kept.now in
    let new = g.K.Sweeps.facts u c.pass.new.kept in
    let work = c.pass.new.work in
    let after = subst (λ o. IsCourse o (IsSweeping s u first c.args.height new work.heights.items
    work.due.items) (IsEnded s first c.args.height new)) c.in-On.is
    (c.in_ok-course.ensures.passed first c.loop.invariant.sweeping) in
    let still = subst NoneDue c.deref.ensures.value (c.none_due.ensures c.if-none_due.true) in
    swept_best s (c.rules_are_lawful.ensures u.nodes u.hints) c.laws.ensures.universe.closed u first
    (c.sweeps_are_whole.ensures.proper u c.args.kept.now c.requires.fits) c.args.height new
    (c.sweeps_are_whole.ensures.proper u c.pass.new.kept c.in_ok-course.ensures.fits)
    work.heights.items after.swept
    (none_quiet s work.due.items new after.long after.quiet still)

pub returns-then-none_due-clause-closed : goal.returns-then-none_due-clause-closed
returns-then-none_due-clause-closed g c = λ said v.
    let u = c.args.uni.now in
    let s = setting_by g.C.Concludes.rules u in
    let first = g.K.Sweeps.facts u c.args.kept.now in
    let new = g.K.Sweeps.facts u c.pass.new.kept in
    let work = c.pass.new.work in
    let after = subst (λ o. IsCourse o (IsSweeping s u first c.args.height new work.heights.items
    work.due.items) (IsEnded s first c.args.height new)) c.in-On.is
    (c.in_ok-course.ensures.passed first c.loop.invariant.sweeping) in
    let still = subst NoneDue c.deref.ensures.value (c.none_due.ensures c.if-none_due.true) in
    none_quiet s work.due.items new after.long after.quiet still

pub loop-preserved : goal.loop-preserved
loop-preserved g c =
    let u = c.args.uni.now in
    let s = setting_by g.C.Concludes.rules u in
    let first = g.K.Sweeps.facts u c.args.kept.now in
    let new = g.K.Sweeps.facts u c.pass.new.kept in
    let work = c.pass.new.work in
    record {
      sweeping = subst (λ o. IsCourse o (IsSweeping s u first c.args.height new work.heights.items
          work.due.items) (IsEnded s first c.args.height new)) c.in-On.is
          (c.in_ok-course.ensures.passed first c.loop.invariant.sweeping);
      fits = c.in_ok-course.ensures.fits;
      came = c.in_ok-course.ensures.came c.args.kept.now c.loop.invariant.came;
      cost = omega (arith, c.pass.ensures.cost, c.loop.invariant.cost);
    }
