use Rattle.std.proofs.Common.{sym}
use Rattle.script_cases.proofs.Lengths.{start_behind}
use Rattle.script_cases.proofs.parts.start_at.Goals as goal

pub returns-then-number-gt0 : goal.returns-then-number-gt0
returns-then-number-gt0 c =
    sym (start_behind 0 c.args.places.now c.args.number c.if-number-gt0.true c.requires)
