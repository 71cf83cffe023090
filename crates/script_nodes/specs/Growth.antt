-- Nodes never go: behind a word there are as many as before it, or more.
use Rattle.std.specs.Prelude.{ℕ, ◌≤◌, List, length, Option, IfSome}
use Rattle.fx_model.specs.declared.Rounding.{Rounding}
use Rattle.script_words.specs.Words.{Word}
use Rattle.script_shape.specs.declared.due.Due.{Due}
use Rattle.script_nodes.specs.declared.waits.Waits.{Waits}
use Rattle.script_nodes.specs.Known.{Name, Known, named}
use Rattle.script_nodes.specs.Waits.{Reading, expr_done, read}
use Rattle.script_nodes.specs.Defining.{Defining, define_word}

-- how many nodes there are
abbrev pub node_count : Known → ℕ
node_count k = length k.nodes

-- where a name is placed
abbrev pub NamesGrow : Type 0
NamesGrow = (k : Known) (text : Name) → node_count k ≤ node_count (named k text).0

-- where an expression ends
abbrev pub EndsGrow : Type 0
EndsGrow = (q : Option Rounding) (r : Reading) (ws : List Waits)
    → IfSome (expr_done q r ws) (λ c. node_count r.known ≤ node_count c.0.0)

-- behind a word of an expression
abbrev pub WordsGrow : Type 0
WordsGrow = (q : Option Rounding) (r : Reading) (role : Due) (w : Word)
    → node_count r.known ≤ node_count (read q role w r).known

-- behind a word of a definition
abbrev pub DefiningGrows : Type 0
DefiningGrows = (role : Due) (w : Word) (p : Defining)
    → node_count p.reading.known ≤ node_count (define_word role w p).reading.known
