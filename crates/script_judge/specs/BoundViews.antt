-- The code's bounds as those that definitions speak of.
use Rattle.std.specs.Option.{option_map}
use Rattle.literal_order.specs.Values.{written_value}
use Rattle.script_judge.specs.declared.bounds.Bounds.{Bounds}
use Rattle.script_judge.specs.declared.numbers.Notes.{Notes as CodeNotes}
use Rattle.script_judge.specs.Bounds.{BoundsSeen}
use Rattle.script_judge.specs.Numbers.{Notes}

-- what stands before a bound
abbrev pub bounds_of : Bounds → BoundsSeen
bounds_of b = record {
  relative = b.relative;
  lower_due = b.lower_due;
  lower = option_map written_value b.lower;
}

-- what is told of a token
abbrev pub notes_of : CodeNotes → Notes
notes_of v = record {
  past = v.past;
  number = option_map written_value v.number;
}
