use Rattle.poly_normal.proofs.Tables.{IsTable}
use Rattle.poly_normal.proofs.answer.table.Given as goal

abbrev pub invariant-loop-i : goal.invariant-loop-i
invariant-loop-i l = IsTable l.nodes l.marks l.i l.place l.forms.items
