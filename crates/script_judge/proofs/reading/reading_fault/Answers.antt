use Rattle.std.proofs.Common.{refl}
use Rattle.std.proofs.lemmas.Result.{IfOk-weaker}
use Rattle.script_judge.specs.Reading.{IsFaultOf, unread}
use Rattle.script_judge.proofs.Faulted.{readable_of, read_fault}
use Rattle.script_judge.proofs.reading.reading_fault.Goals as goal

pub returns-in-Some : goal.returns-in-Some
returns-in-Some c = unread c.in-Some.ensures

pub returns : goal.returns
returns c =
    IfOk-weaker c.fault.result _ (IsFaultOf c.args.text.now)
    (read_fault c.args.text.now _ _ (readable_of c.args.text.now c.text_refusal.result
    c.text_refusal.ensures c.in_default.is) c.in_ok-read.ensures.reading refl) c.fault.ensures
