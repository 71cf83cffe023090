use Rattle.std.proofs.Common.{Ok, arith}
use Rattle.std.proofs.Math.Seq.{take-add}
use Rattle.whole_texts.proofs.OnlyWrites.{only_writes_on, only_writes_by}
use Rattle.whole_texts.proofs.Taking.{on_failure}
use Rattle.whole_texts.proofs.write.append_all.Goals as goal
use Rattle.whole_texts.proofs.Pieces.{appends_both, rest_of}

pub returns-in_err-done-clause-err : goal.returns-in_err-done-clause-err
returns-in_err-done-clause-err g c = on_failure _ _ _ _ c.args.bytes.now c.loop-done.done
    c.loop-done.invariant.taken c.in_err-done.ensures.bytes

pub loop-done-preserved : goal.loop-done-preserved
loop-done-preserved g c = record {
  within = omega (arith, c.in_ok-done.ensures.bound);
  taken = rw (take-add c.loop-done.done c.in_ok-done.field-0 c.args.bytes.now)
      (appends_both _ _ _ _ _ c.loop-done.invariant.taken
      (rw rest_of at c.in_ok-done.ensures.bytes));
  only_writes =
      let e = c.in_ok-done.ensures in
      only_writes_on c.loop-done.invariant.only_writes
      (only_writes_by (Ok c.in_ok-done.field-0) e.others e.cause e.quiet);
}
