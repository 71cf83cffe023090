use Rattle.std.proofs.Common.{◌≡◌, ◌<◌, ◌+◌, Option, length, sym, subst, arith}
use Rattle.std.specs.Prelude.{IfSome}
use Rattle.std.proofs.Math.ListN.{length-set}
use Rattle.std.proofs.lemmas.Grind.{common_steps}
use Rattle.job_workers.specs.Results.{AreResults}
use Rattle.job_workers.proofs.Results.{results_push, slots_set}
use Rattle.job_workers.proofs.gather.finish.Goals as goal

pub loop-number-preserved : goal.loop-number-preserved
loop-number-preserved g c =
    let P = g.J.Job.is_result c.args.job.now in
    let n = c.loop-number.number in
    let outs = c.loop-number.outs.items in
    let here : IfSome c.result_of.new.slot (P c.loop-number.number) =
    subst (λ (o : Option _). IfSome o (P c.loop-number.number))
    (sym c.in_ok-out.ensures.taken) tt in
    let long = length-set c.loop-number.slots c.loop-number.number c.result_of.new.slot in
    let inside : c.loop-number.number < length c.loop-number.slots = omega arith in (
      first_of (omega arith, grind (arith, common_steps)),
      first_of (omega arith, grind (arith, common_steps)),
      λ k below. slots_set P c.loop-number.slots c.loop-number.number
          c.result_of.new.slot inside c.loop-number.invariant.2 here k (omega (arith, long)),
      subst (AreResults P 0) (sym c.push_reserved.ensures.items)
          (results_push P 0 outs c.in_ok-out.out c.loop-number.invariant.3
          (subst (λ m. P m c.in_ok-out.out) (let e : n ≡ 0 + length outs = omega arith in e)
          c.in_ok-out.ensures.result)),
    )
