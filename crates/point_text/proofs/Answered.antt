-- What is spelled is answered, and nothing else.
use Rattle.std.specs.Prelude.{◌≡◌, ℕ, List}
use Rattle.std.proofs.Common.{IfOk, Ok, Err, Result}
use Rattle.script_words.specs.Lex.{LexesOnce}
use Rattle.script_nodes.specs.Known.{Name}
use Rattle.script_nodes.specs.Literals.{ReadsLiterals}
use Rattle.point_values.specs.Rows.{Row}
use Rattle.point_eval.specs.declared.point.Point.{Point}
use Rattle.point_text.specs.declared.fault.PointFault.{PointFault}
use Rattle.point_text.specs.declared.fault.PointStop.{PointStop}
use Rattle.point_text.specs.declared.fault.PointStop.TheVariants.{Fault}
use Rattle.point_text.specs.Points.{SpellsPoint}
use Rattle.point_text.specs.PointFaults.{IsPointFault}
use Rattle.point_text.proofs.Spelled.{spelled_faultless, spelled_once}

same_rows : ReadsLiterals → LexesOnce
    → (variables : List Name) (text : List ℕ) (r : Result Point PointStop)
    → IfOk r (λ point. SpellsPoint variables text point.rows) → (rows : List Row)
    → SpellsPoint variables text rows
    → IfOk r (λ point. point.rows ≡ rows)
same_rows law once variables text (Ok p) h rows s =
    spelled_once law once variables text p.rows rows h s
same_rows law once variables text (Err e) h rows s = tt

pub answered_by : ReadsLiterals → LexesOnce
    → (variables : List Name) (text : List ℕ) (r : Result Point PointStop)
    → IfOk r (λ point. SpellsPoint variables text point.rows)
    → ((f : PointFault) → r ≡ Err (Fault f) → IsPointFault variables text f)
    → (rows : List Row) → SpellsPoint variables text rows
    → IfOk r (λ point. point.rows ≡ rows) × ((f : PointFault) → ¬ (r ≡ Err (Fault f)))
answered_by law once variables text r spelled fault rows s = (
  same_rows law once variables text r spelled rows s,
  λ f e. spelled_faultless law once variables text rows f s (fault f e),
)
