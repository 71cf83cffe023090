use Rattle.std.proofs.Common.{refl}
use Rattle.box_trace.specs.Logs.{IsQuietApart}
use Rattle.box_trace.specs.Tables.{known_at}
use Rattle.box_trace.proofs.Said.{some_is}
use Rattle.box_trace.proofs.rounds.run.Goals as goal

pub rounds_below-requires-clause-placed : goal.rounds_below-requires-clause-placed
rounds_below-requires-clause-placed g c =
    let u = c.args.uni.now in
    let at = known_at u c.args.gathering.now.log.known in
    ((some_is (IsQuietApart u at) c.args.changed c.in-Some.x c.in-Some.is c.requires.quiet).0, refl)

pub rounds_below-requires-clause-quiet : goal.rounds_below-requires-clause-quiet
rounds_below-requires-clause-quiet g c =
    let u = c.args.uni.now in
    let at = known_at u c.args.gathering.now.log.known in
    (some_is (IsQuietApart u at) c.args.changed c.in-Some.x c.in-Some.is c.requires.quiet).1
