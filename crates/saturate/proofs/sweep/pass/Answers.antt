use Rattle.std.proofs.Common.{arith, ap, subst, slice_index_or}
use Rattle.std.proofs.lemmas.List.Elements.{Contains-get_or}
use Rattle.derivation.specs.Derivations.{At}
use Rattle.saturate.specs.Universes.{setting_by}
use Rattle.saturate.specs.Sweeping.{IsSweeping, IsEnded, IsCourse}
use Rattle.saturate.proofs.sweep.pass.Goals as goal
use Rattle.saturate.proofs.sweep.pass.Goals.{then-index+in_ok-course+in-On, else-index}

pub index-requires : goal.index-requires
index-requires g c =
    let l = c.order-k-items.ensures
    (slice_index_or c.order-k-items.result.now c.loop-k.k-index 0)
    (Contains-get_or c.order-k-items.result.now c.loop-k.k-index 0 c.loop-k-test.true) in
    omega (arith, l, c.loop-k.invariant.long, c.loop-k.work.due.ok.0)

pub visit-requires-clause-within : goal.visit-requires-clause-within
visit-requires-clause-within g c = c.order-k-items.ensures
    (slice_index_or c.order-k-items.result.now c.loop-k.k-index 0)
    (Contains-get_or c.order-k-items.result.now c.loop-k.k-index 0 c.loop-k-test.true)

pub visit-requires-clause-sweeping : goal.visit-requires-clause-sweeping
visit-requires-clause-sweeping g c =
    (c.requires.sweeping.0, c.loop-k.invariant.sweeping c.requires.sweeping.0 c.requires.sweeping.1)

-- one of the instances ended the sweep
pub returns-in_default-clause-passed : goal.returns-in_default-clause-passed
returns-in_default-clause-passed g c = λ first w.
    c.in_ok-course.ensures.visited first (c.loop-k.invariant.sweeping first w)

pub loop-k-preserved : goal.loop-k-preserved
loop-k-preserved g c =
    elim c.if-index.branch [
      | then-index+in_ok-course+in-On w ↦
          (let u = c.args.uni.now in
          let s = setting_by g.C.Concludes.rules u in
          let new = g.K.Sweeps.facts u w.visit.new.kept in
          let work = w.visit.new.work in
          let next = λ (first : At) (x : IsSweeping s u first c.args.height
          (g.K.Sweeps.facts u c.loop-k.kept) c.loop-k.work.heights.items c.loop-k.work.due.items).
          subst (λ o. IsCourse o (IsSweeping s u first c.args.height new work.heights.items
          work.due.items) (IsEnded s first c.args.height new)) w.in-On.is
          (w.in_ok-course.ensures.visited first x) in
          let before = c.loop-k.invariant.sweeping c.requires.sweeping.0 c.requires.sweeping.1 in
          rw (w.kept-is, w.work-is) (record {
            sweeping = λ first x. next first (c.loop-k.invariant.sweeping first x);
            long = (next c.requires.sweeping.0 before).long;
            fits = w.in_ok-course.ensures.fits;
            came = λ first x. w.in_ok-course.ensures.came first (c.loop-k.invariant.came first x);
            cost = omega (
              arith,
              ap g.C.Concludes.asked w.steps-is,
              w.visit.ensures.cost,
              c.loop-k.invariant.cost,
            );
          }))
      | else-index w ↦
          rw (w.kept-is, w.work-is) (record {
            sweeping = c.loop-k.invariant.sweeping;
            long = c.loop-k.invariant.long;
            fits = c.loop-k.invariant.fits;
            came = c.loop-k.invariant.came;
            cost = omega (
              arith,
              ap g.C.Concludes.asked w.steps-is,
              c.loop-k.invariant.cost,
            );
          })
    ]
