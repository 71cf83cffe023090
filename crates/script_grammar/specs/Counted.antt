-- The nodes of a script that the judge lets pass.
use Rattle.std.specs.Prelude.{◌≡◌, ℕ, ◌≤◌, List, length, Option, Some}
use Rattle.script_words.specs.declared.lex.Token.{Token}
use Rattle.script_words.specs.Named.{words_of}
use Rattle.script_shape.specs.Tree.{Script, script_words, formula, define}
use Rattle.script_shape.specs.Roles.{Leaf, script_leaves}
use Rattle.script_cases.specs.Cases.{case_count}
use Rattle.script_nodes.specs.Known.{Known, nothing_known}
use Rattle.script_nodes.specs.Definitions.{definition_value}
use Rattle.script_claims.specs.Claims.{formula_claims}
use Rattle.script_hints.specs.Hints.{no_hints, with_hints}
use Rattle.script_judge.specs.Said.{Said, claims_behind, said_from}
use Rattle.script_judge.specs.Front.{front_leaves}
use Rattle.script_judge.specs.Judge.{Seen, nothing_seen}
use Rattle.script_judge.specs.Judging.{Passed}

-- what is known behind a script, and before it
abbrev pub known_behind : Script → Known → Known
known_behind (formula f h) k = (with_hints h ((formula_claims f k).known, no_hints)).0
known_behind (define x rest) k = known_behind rest (definition_value x k)

-- A script of some text has no more nodes than the judge counts, which are 512, if it lets all its
-- words pass. Others may stand behind them. (Of a tree alone it isn't true: one may use the name of
-- an operator as a variable. In a text such a name is another word.)
abbrev pub NodesAreCounted : Type 0
NodesAreCounted = (text : List ℕ) (tokens : List Token) (tree : Script) (behind : List Leaf)
    (last : Seen) → words_of text tokens ≡ script_words tree
    → Passed (nothing_seen (Some (said_from tree nothing_known))) (script_leaves tree) behind last
    → length (known_behind tree nothing_known).nodes ≤ 512

-- A formula has 64 cases at most, if the judge lets its words pass and those before them, whatever
-- is known before them and said by the text.
abbrev pub CasesAreCounted : Type 0
CasesAreCounted = (tree : Script) (k : Known) (said : Option Said) (behind : List Leaf)
    (last : Seen) → Passed (nothing_seen said) (front_leaves tree) behind last
    → case_count (claims_behind tree k).sides.parts.before ≤ 64
