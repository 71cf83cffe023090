-- What a script says, word by word from the left: its definitions and its formula, then its hints.
use Rattle.std.specs.Prelude.{◌≡◌, List, [], map, take, drop}
use Rattle.script_shape.specs.Tree.{Script}
use Rattle.script_shape.specs.Roles.{Leaf, script_leaves}
use Rattle.script_nodes.specs.Known.{nothing_known}
use Rattle.script_nodes.specs.Waits.{Reading}
use Rattle.script_claims.specs.Claims.{Sides, no_sides}
use Rattle.script_hints.specs.declared.hint.HintList.{HintList}
use Rattle.script_hints.specs.Hints.{no_hints}
use Rattle.script_hints.specs.Drafts.{fresh}
use Rattle.script_hints.specs.Reading.{HintReading, read_hints}
use Rattle.script_judge.specs.Front.{Front, ended, no_front, read_front}
use Rattle.script_grammar.specs.Judgement.{formula_end}
use Rattle.script_grammar.specs.Meaning.{Meaning, meaning_of}

-- before the first hint
abbrev pub hints_begun : Reading → HintReading
hints_begun r = record { reading = r; draft = fresh no_hints }

-- what is known behind hints, and what they say
abbrev pub behind_hints : HintReading → Reading × HintList
behind_hints h = (h.reading, h.draft.list)

-- what a formula with these sides and the hints behind it say
abbrev pub said_behind : Sides → HintReading → Meaning
said_behind sides h = record {
  known = h.reading.known;
  hypotheses = sides.hypotheses;
  goals = sides.goals;
  parts = sides.parts;
  hints = h.draft.list;
}

-- behind the formula the leaves are read as hints; before its end they say nothing
abbrev pub read_behind : Front → List Leaf → Meaning
read_behind (ended r sides) ls = said_behind sides (read_hints ls (hints_begun r))
read_behind f ls =
    said_behind no_sides (hints_begun (record { known = nothing_known; waits = [] }))

-- What these leaves say, read one after the other: those up to the first `}` are the definitions
-- and the formula.
abbrev pub read_leaves : List Leaf → Meaning
read_leaves ls =
    let end = formula_end (map (λ l. l.role) ls) in
    read_behind (read_front (take end ls) no_front) (drop end ls)

-- Reading the words of a script from the left gives what its tree says.
abbrev pub ReadsScripts : Type 0
ReadsScripts = (tree : Script) → read_leaves (script_leaves tree) ≡ meaning_of tree
