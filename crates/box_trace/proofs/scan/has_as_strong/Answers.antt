use Rattle.std.specs.Prelude.{◌≡◌, Bool, true, false, Option, Some, IsTrue, refl}
use Rattle.std.proofs.Common.{sym, ◌∙◌}
use Rattle.facts.specs.declared.fact.Fact.{Fact}
use Rattle.facts.specs.Order.{IsStronger}
use Rattle.box_trace.specs.declared.known.Cited.{Cited}
use Rattle.box_trace.specs.Tables.{row_in}
use Rattle.box_trace.specs.Scans.{IsBeaten}
use Rattle.box_trace.proofs.scan.has_as_strong.Goals as goal

beaten_by : (o : Option Cited) (row : Cited) (c : Fact) (b : Bool) → o ≡ Some row
    → (IsTrue b → IsStronger row.fact c) → IsBeaten o c b
beaten_by o row c true e f = (row, e, f refl)
beaten_by o row c false e f = tt

pub returns-in-Some : goal.returns-in-Some
returns-in-Some c = beaten_by (row_in c.args.now.now.rows.items (Some c.args.place)) c.in-Some.row
    c.args.c.now c.stronger.result (sym c.at.ensures ∙ c.in-Some.is) c.stronger.ensures.0
