-- Where lines hold of a program's script, the values of its steps and outputs lie in them.
use Rattle.std.specs.Prelude.{◌≡◌, ℕ, ℤ, List, Some, slice_get}
use Rattle.fx_model.specs.Fraction.{Fraction}
use Rattle.fx_model.specs.Enclosure.{Lies}
use Rattle.fx_model.specs.Expression.{Assignment}
use Rattle.interval.specs.declared.interval.Interval.{Interval}
use Rattle.interval.specs.Intervals.{range_of}
use Rattle.goals.specs.declared.line.Line.{Line}
use Rattle.goals.specs.declared.line.Line.TheVariants as line
use Rattle.goals.specs.Holds.{LineHolds}
use Rattle.script_nodes.specs.Known.{entry_of}
use Rattle.script_claims.specs.declared.claim.Claim.{Claim}
use Rattle.script_claims.specs.Facts.{slot_of}
use Rattle.script_claims.specs.Meets.{IsTrueAt}
use Rattle.script_grammar.specs.Spells.{View, Spells as SpellsScript}
use Rattle.script_meets.specs.Meets.{Meets}
use Rattle.fixprog.specs.Words.{Name}
use Rattle.fixprog.specs.Grammar.{Program}
use Rattle.fixprog.specs.Execution.{Values, values, AreInRange, execution_of}
use Rattle.fixprog.specs.Turned.{script_of}
use Rattle.fixprog.specs.First.{Spells}
use Rattle.program_truths.specs.Promise.{goal_names}

-- Each goal has a line in its place, which holds of the assignment; and the goal is true, with
-- bounds exactly as they are written.
abbrev pub HoldAt : View → Assignment → List Line → Type 0
HoldAt s a lines = (k : ℕ) (c : Claim) → slice_get s.goals k ≡ Some c → (l : Line)
    × (slice_get lines k ≡ Some l) × LineHolds s.nodes a (slot_of c) l × IsTrueAt s.nodes a c

-- The name has a value, and the line with this number has an interval in which the value lies.
pub record LiesInLine (vs : Values) (lines : List Line) (k : ℕ) (t : Name) : Type 0 where
  pub number : Fraction
  pub entry : entry_of vs t ≡ Some number
  pub interval : Interval
  pub printed : slice_get lines k ≡ Some (line.In interval)
  pub lies : Lies (range_of interval) number

-- The run on these words ends without wrapping, and the value of each step and output lies in the
-- interval of its line. The lines of the steps come first, then those of the outputs.
pub record EndsWithin (p : Program) (lines : List Line) (words : List ℤ) : Type 0 where
  pub last : Values
  pub ends : execution_of p words ≡ values last
  pub within : (k : ℕ) (t : Name) → slice_get (goal_names p) k ≡ Some t
      → LiesInLine last lines k t

-- Where lines hold, and the goals are true, of each assignment that meets the program's script:
-- no run of the program on words in range wraps, and its values lie in the lines' intervals.
abbrev pub OutputsLie : Type 0
OutputsLie = (text : List ℕ) (p : Program) → Spells text p → (s : View)
    → SpellsScript (script_of p) s → (lines : List Line)
    → ((a : Assignment) → Meets a s → HoldAt s a lines)
    → (words : List ℤ) → AreInRange p.inputs words → EndsWithin p lines words
