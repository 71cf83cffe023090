use Rattle.std.proofs.Common.{◌≡◌, take}
use Rattle.poly_normal.specs.Places.{places, trues}
use Rattle.poly_normal.proofs.answer.width_of.Given as goal

abbrev pub invariant-loop-i : goal.invariant-loop-i
invariant-loop-i l = l.width ≡ trues (take l.i (places l.nodes l.marks))
