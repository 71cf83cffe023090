use Rattle.std.proofs.Common.{arith}
use Rattle.box_tree.proofs.Staying.{whole_piece, no_piece}
use Rattle.box_tree.proofs.points.last_piece.Goals as goal

pub returns-then-i-eq0 : goal.returns-then-i-eq0
returns-then-i-eq0 c = whole_piece c.args.range c.args.i c.if-i-eq0.true

pub returns : goal.returns
returns c = no_piece c.args.range c.args.i (omega arith)
