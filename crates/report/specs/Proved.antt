-- The lines of a script whose goals are proved.
use Rattle.std.specs.Prelude.{ℕ, ◌+◌, ◌++◌, codes, List, [], ◌∷◌, slice_range}
use Rattle.std.specs.Fmt.{decimal}
use Rattle.facts.specs.declared.hint.HintMark.{HintMark}
use Rattle.facts.specs.declared.hint.HintMark.TheVariants.{Checked, Assumed}
use Rattle.goals.specs.declared.line.Line.{Line}
use Rattle.goals.specs.declared.line.Line.TheVariants as shown
use Rattle.script_words.specs.declared.lex.Token.{Token}
use Rattle.goal_spans.specs.declared.span.Span.{Span}
use Rattle.report.specs.Lines.{Bytes, joined, interval_text}

-- what is shown of a goal: an interval; that both sides of a relative goal are 0; that no
-- assignment is left
abbrev pub shown_text : Line → Bytes
shown_text (shown.In i) = interval_text i
shown_text shown.None = codes "none"
shown_text shown.Empty = codes "empty"

-- a goal, by the tokens of its expression in the text, and what is shown of it
abbrev pub goal_line : Bytes → List Token → Line → Bytes
goal_line text tokens l = joined text tokens ++ codes " in " ++ shown_text l ++ codes "\n"

-- a line for each goal, by the span of its tokens
abbrev pub goal_lines : Bytes → List Token → List Span → List Line → Bytes
goal_lines text tokens [] ls = []
goal_lines text tokens (s ∷ ss) [] = []
goal_lines text tokens (s ∷ ss) (l ∷ ls) =
    goal_line text (slice_range tokens s.first s.end) l ++ goal_lines text tokens ss ls

-- an assumed hint, by its number; a checked one has no line
abbrev pub hint_line : ℕ → HintMark → Bytes
hint_line k Checked = []
hint_line k Assumed = codes "hint " ++ decimal k ++ codes " assumed\n"

-- a line for each assumed hint, of those from number k on
abbrev pub hint_lines : ℕ → List HintMark → Bytes
hint_lines k [] = []
hint_lines k (m ∷ ms) = hint_line k m ++ hint_lines (k + 1) ms

-- the goals, then the assumed hints, which are counted from 1
abbrev pub answer_text : Bytes → List Token → List Span → List Line → List HintMark → Bytes
answer_text text tokens spans lines marks = goal_lines text tokens spans lines ++ hint_lines 1 marks

-- of the made script of degree n that is proved: how many boxes its tree has, and what is shown of
-- its goal
abbrev pub made_text : ℕ → ℕ → Line → Bytes
made_text n boxes l = codes "gen " ++ decimal n ++ codes ": " ++ decimal boxes ++ codes " boxes, "
    ++ shown_text l ++ codes "\n"
