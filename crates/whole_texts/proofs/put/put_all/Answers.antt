use Rattle.std.proofs.Common.{arith}
use Rattle.std.proofs.Math.Seq.{take-add}
use Rattle.whole_texts.proofs.Pieces.{appends_both, rest_of}
use Rattle.whole_texts.proofs.Taking.{on_failure}
use Rattle.whole_texts.proofs.put.put_all.Goals as goal

pub returns-in_err-done-clause-err : goal.returns-in_err-done-clause-err
returns-in_err-done-clause-err g c =
    on_failure _ _ _ _ c.args.text.now c.loop-done.done c.loop-done.invariant.taken
    c.in_err-done.ensures.bytes

pub loop-done-preserved : goal.loop-done-preserved
loop-done-preserved g c = record {
  within = omega (arith, c.in_ok-done.ensures.bound);
  taken = rw (take-add c.loop-done.done c.in_ok-done.field-0 c.args.text.now)
      (appends_both _ _ _ _ _ c.loop-done.invariant.taken
      (rw rest_of at c.in_ok-done.ensures.bytes));
  later = omega (arith, c.in_ok-done.ensures.cause.later, c.loop-done.invariant.later);
}
