use Rattle.std.proofs.Common.{◌<◌, ◌+◌, ◌++◌, length, take, subst, arith}
use Rattle.std.proofs.lemmas.List.Elements.{All-from_recursion}
use Rattle.cert_trim.specs.Flags.{AreFlags}
use Rattle.cert_trim.proofs.Flagging.{flag_more, whole}
use Rattle.cert_trim.proofs.used.flag_all.Goals as goal

pub flag_step-requires : goal.flag_step-requires
flag_step-requires c =
    let below : c.loop-number.number-index < length c.args.numbers.now = omega arith in
    let inside = All-from_recursion (λ m. m < c.args.start + length c.args.flags.now)
    c.args.numbers.now c.requires c.loop-number.number-index 0 below in
    omega (arith, inside)

pub loop-number-preserved : goal.loop-number-preserved
loop-number-preserved c = λ later h.
    let below : c.loop-number.number-index < length c.args.numbers.now = omega arith in
    flag_more c.args.start c.flag_step.new.flags c.args.numbers.now later
    c.loop-number.number-index below
    (c.flag_step.ensures (take c.loop-number.number-index c.args.numbers.now ++ later)
    (c.loop-number.invariant later h))

pub returns : goal.returns
returns c = λ later h.
    subst (λ ns. AreFlags c.args.start c.loop-number.flags (ns ++ later)) (whole c.args.numbers.now
    c.loop-number.number-index (omega arith)) (c.loop-number.invariant later h)
