-- Nodes never go while words of hints are read.
use Rattle.std.proofs.Common.{ℕ, ◌≤◌, IfSome, Option, Some, None, le_refl}
use Rattle.script_words.specs.Words.{Word, name, rounding, literal, sign}
use Rattle.script_shape.specs.declared.due.Due.TheVariants as d
use Rattle.script_nodes.specs.Waits.{Reading, Complete, expr_done}
use Rattle.script_nodes.specs.Growth.{node_count, NamesGrow, EndsGrow, WordsGrow}
use Rattle.script_hints.specs.Reading.{HintReading, ended_as, ended, variable_word, read_hint}
use Rattle.script_hints.specs.ReadingLaw.{HintsGrow}

abbrev counted : HintReading → ℕ
counted r = node_count r.reading.known

more : (r : Reading) (o : Option Complete) → IfSome o (λ c. node_count r.known ≤ node_count c.0.0)
    → node_count r.known ≤ node_count (ended_as r o).0.known
more r None h = le_refl (node_count r.known)
more r (Some c) h = h

ended_grows : EndsGrow → (r : Reading) → node_count r.known ≤ node_count (ended r).0.known
ended_grows ends r = more r (expr_done None r r.waits) (ends None r r.waits)

variable_grows : NamesGrow → (w : Word) (r : HintReading) → counted r ≤ counted (variable_word w r)
variable_grows names (name k text) r = names r.reading.known text
variable_grows names (rounding k text) r = names r.reading.known text
variable_grows names (literal k text) r = le_refl (counted r)
variable_grows names (sign g) r = le_refl (counted r)

module _ (names : NamesGrow) (ends : EndsGrow) (words : WordsGrow) where
  pub hints_grow : HintsGrow
  unfolding read_hint
  hints_grow d.HintRest w r = ended_grows ends r.reading
  hints_grow d.GoalSplit w r = ended_grows ends r.reading
  hints_grow d.Needs w r = ended_grows ends r.reading
  hints_grow d.NeedRelation w r = ended_grows ends r.reading
  hints_grow d.Semicolon w r = ended_grows ends r.reading
  hints_grow d.Bound w r = le_refl (counted r)
  hints_grow d.Magnitude w r = le_refl (counted r)
  hints_grow d.Hints w r = le_refl (counted r)
  hints_grow d.SplitName w r = variable_grows names w r
  hints_grow d.Cut w r = le_refl (counted r)
  hints_grow role w r = words None r.reading role w
