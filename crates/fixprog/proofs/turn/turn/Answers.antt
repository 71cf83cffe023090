use Rattle.std.proofs.Common.{Some, None, subst}
use Rattle.fixprog.specs.Read.{IsRead}
use Rattle.fixprog.specs.First.{IsFirstFault}
use Rattle.fixprog.proofs.Unique.{firsts_are_unique}
use Rattle.fixprog.proofs.turn.turn.Goals as goal

pub returns-in-Some-clause-answered : goal.returns-in-Some-clause-answered
returns-in-Some-clause-answered c p s f e = let u =
    firsts_are_unique c.args.text.now None (Some c.in-Some.fault) s.accepted
    c.in-Some.ensures.fault in cc

pub returns-in-Ok-Err-clause-answered : goal.returns-in-Ok-Err-clause-answered
returns-in-Ok-Err-clause-answered c p s f e =
    let first : IsFirstFault c.args.text.now (Some c.in-Ok-Err.fault) =
    subst (IsRead c.args.text.now) c.in-Ok-Err.field-0-is c.in-Ok-Err.ensures in
    let u = firsts_are_unique c.args.text.now None (Some c.in-Ok-Err.fault) s.accepted first in
    cc
