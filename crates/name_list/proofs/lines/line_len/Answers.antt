use Rattle.std.proofs.Common.{arith}
use Rattle.name_list.proofs.First.{stops_at, stops_behind}
use Rattle.name_list.proofs.lines.line_len.Goals as goal

pub returns-then-byte-eq10-clause-is : goal.returns-then-byte-eq10-clause-is
returns-then-byte-eq10-clause-is c =
    stops_at c.args.text.now c.loop-i.i (omega arith) c.loop-i.invariant c.if-byte-eq10.true

pub returns-clause-is : goal.returns-clause-is
returns-clause-is c = stops_behind c.args.text.now c.loop-i.i (omega arith) c.loop-i.invariant
