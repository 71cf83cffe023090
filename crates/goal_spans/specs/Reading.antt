-- The spans of a script's goals, word by word from the left.
use Rattle.std.specs.Prelude.{◌≡◌, ℕ, ◌+◌, List, [], ◌∷◌, ◌++◌}
use Rattle.script_words.specs.declared.class.Symbol.TheVariants as s
use Rattle.script_words.specs.Words.{Word, sign}
use Rattle.script_shape.specs.declared.due.Due.{Due}
use Rattle.script_shape.specs.declared.due.Due.TheVariants as d
use Rattle.script_shape.specs.Tree.{Script}
use Rattle.script_shape.specs.Roles.{Leaf, script_leaves}
use Rattle.goal_spans.specs.declared.span.Span.{Span}
use Rattle.goal_spans.specs.declared.reader.Stage.{Stage}
use Rattle.goal_spans.specs.declared.reader.Stage.TheVariants as stage
use Rattle.goal_spans.specs.Spans.{goal_spans}

-- where the reading stands, the number of the word in hand, the first word of the proposition in
-- hand and the end of its expression part, and the spans of the goals before it
pub record State : Type 0 where
  pub stage : Stage
  pub at : ℕ
  pub first : ℕ
  pub end : ℕ
  pub spans : List Span

-- a proposition begins behind the word in hand, which is a sign between propositions or `not`
abbrev pub begun : State → State
begun st = record st { first = st.at + 1; end = st.at + 1 }

-- the expression part ends before the word in hand
abbrev pub parted : State → State
parted st = record st { end = st.at }

-- the proposition in hand is one more goal
abbrev pub with_goal : State → State
with_goal st = record st { spans = st.spans ++ (record { first = st.first; end = st.end } ∷ []) }

-- ---- what a word is to the reading

-- before the formula: its brace begins it
abbrev pub opened : Due → Word → State → State
opened d.Script (sign s.OpenBrace) st = begun (record st { stage = stage.Formula })
opened r w st = st

-- behind the first expression of a proposition: a second one follows `-/`
abbrev pub related : Word → State → State
related (sign s.Against) st = st
related w st = parted st

-- behind a proposition: an arrow makes hypotheses of what stands before it
abbrev pub connected : Word → State → State
connected (sign s.Arrow) st = begun (record st { spans = [] })
connected w st = begun (with_goal st)

-- behind the formula
abbrev pub closed : State → State
closed st = record (with_goal st) { stage = stage.Hints }

-- What a word within the formula does to the reading, by the part of the grammar that it is read
-- as.
abbrev pub in_formula : Due → Word → State → State
in_formula d.Relation w st = related w st
in_formula d.In w st = parted st
in_formula d.Claim w st = begun st
in_formula d.Connective w st = connected w st
in_formula d.CloseBrace w st = closed st
in_formula r w st = st

-- What a word does to the reading; before the formula only its brace counts, and among hints
-- nothing does.
abbrev pub at_stage : Stage → Due → Word → State → State
at_stage stage.Definitions r w st = opened r w st
at_stage stage.Formula r w st = in_formula r w st
at_stage stage.Hints r w st = st

-- ---- words, each counted

-- The reading one word further, which is counted whatever it is.
unfoldable pub read_word : Due → Word → State → State
read_word r w st = record (at_stage st.stage r w st) { at = st.at + 1 }

-- The reading behind all these words, each with the part of the grammar that it is read as.
unfoldable pub read_leaves : List Leaf → State → State
read_leaves [] st = st
read_leaves (l ∷ ls) st = read_leaves ls (read_word l.role l.word st)

-- Where the reading stands before the first word, which has number 0, with no goal found.
abbrev pub start : State
start = record { stage = stage.Definitions; at = 0; first = 0; end = 0; spans = [] }

-- The spans of goals that reading these words from the left finds, in order.
abbrev pub spans_read : List Leaf → List Span
spans_read ls = (read_leaves ls start).spans

-- Reading the words of a script from the left gives the spans of its tree.
abbrev pub ReadsSpans : Type 0
ReadsSpans = (tree : Script) → spans_read (script_leaves tree) ≡ goal_spans tree
