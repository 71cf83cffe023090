-- A text spells one point, or has one fault.
use Rattle.std.specs.Prelude.{◌≡◌, ℕ, List}
use Rattle.script_nodes.specs.Known.{Name}
use Rattle.point_values.specs.Rows.{Row}
use Rattle.point_text.specs.declared.fault.PointFault.{PointFault}
use Rattle.point_text.specs.Points.{SpellsPoint}
use Rattle.point_text.specs.PointFaults.{IsPointFault}

-- For some variables a text spells one list of rows at most.
abbrev pub SpelledOnce : Type 0
SpelledOnce = (variables : List Name) (text : List ℕ) (rows others : List Row)
    → SpellsPoint variables text rows → SpellsPoint variables text others → rows ≡ others

-- A text that spells a point has no fault.
abbrev pub NeverBoth : Type 0
NeverBoth = (variables : List Name) (text : List ℕ) (rows : List Row) (f : PointFault)
    → SpellsPoint variables text rows → IsPointFault variables text f → ⊥

-- A text has one fault at most.
abbrev pub FaultsAreOne : Type 0
FaultsAreOne = (variables : List Name) (text : List ℕ) (f g : PointFault)
    → IsPointFault variables text f → IsPointFault variables text g → f ≡ g
