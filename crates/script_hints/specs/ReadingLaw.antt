-- Reading the words of hints from the left gives the nodes of their expressions, and what the hints
-- say.
use Rattle.std.specs.Prelude.{◌≡◌, ◌≤◌}
use Rattle.script_words.specs.Words.{Word}
use Rattle.script_shape.specs.declared.due.Due.{Due}
use Rattle.script_shape.specs.Hints.{Hints}
use Rattle.script_shape.specs.Roles.{hints_leaves}
use Rattle.script_nodes.specs.Known.{Known}
use Rattle.script_nodes.specs.Growth.{node_count}
use Rattle.script_hints.specs.declared.hint.HintList.{HintList}
use Rattle.script_hints.specs.Hints.{with_hints}
use Rattle.script_hints.specs.Reading.{HintReading, hints_from, read_hint, read_hints}

-- Whatever is known, and whatever hints stand before, the words of hints are read as their trees.
abbrev pub ReadsHints : Type 0
ReadsHints = (h : Hints) (k : Known) (l : HintList) → read_hints (hints_leaves h) (hints_from k l)
    ≡ hints_from (with_hints h (k, l)).0 (with_hints h (k, l)).1

-- Nodes never go: behind a word there are as many as before it, or more.
abbrev pub HintsGrow : Type 0
HintsGrow = (role : Due) (w : Word) (r : HintReading)
    → node_count r.reading.known ≤ node_count (read_hint role w r).reading.known
