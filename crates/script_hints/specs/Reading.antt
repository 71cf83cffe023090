-- Hints, word by word from the left. Each word goes to the expression in hand, or ends it and goes
-- to the hint.
use Rattle.std.specs.Prelude.{List, [], ◌∷◌, Option, Some, None}
use Rattle.fx_model.specs.declared.ExprId.{ExprId}
use Rattle.script_words.specs.declared.class.Symbol.{Symbol}
use Rattle.script_words.specs.declared.class.Symbol.TheVariants as s
use Rattle.script_words.specs.Words.{Word, name, rounding, literal, sign}
use Rattle.script_shape.specs.declared.due.Due.{Due}
use Rattle.script_shape.specs.declared.due.Due.TheVariants as d
use Rattle.script_shape.specs.Roles.{Leaf}
use Rattle.script_nodes.specs.Literals.{literal_of}
use Rattle.script_nodes.specs.Operators.{number_of}
use Rattle.script_nodes.specs.Known.{Known, PlacedNode, named}
use Rattle.script_nodes.specs.Waits.{Reading, Complete, expr_done, read}
use Rattle.script_hints.specs.declared.hint.HintList.{HintList}
use Rattle.script_hints.specs.Drafts.{Draft, fresh, side_ended, needs_opened, related, bound_signed}
use Rattle.script_hints.specs.Drafts.{with_bound, cut_begun, with_split_variable, cut_into}
use Rattle.script_hints.specs.Drafts.{points_begun, hint_ended}

-- the expression in hand, and the hint
pub record HintReading : Type 0 where
  pub reading : Reading
  pub draft : Draft

-- before a hint
abbrev pub hints_from : Known → HintList → HintReading
hints_from k l = record { reading = record { known = k; waits = [] }; draft = fresh l }

-- ---- the end of an expression

-- what stands where no expression has ended
abbrev pub no_expression : ExprId
no_expression = record { 0 = 0 }

-- what is left of the reading, and the number of the expression
abbrev pub Ended : Type 0
Ended = Reading × ExprId

-- The reading behind the expression that has ended, and its number; where none has ended, the
-- reading stays as it is.
abbrev pub ended_as : Reading → Option Complete → Ended
ended_as r (Some c) = (record { known = c.0.0; waits = c.1 }, c.0.1)
ended_as r None = (r, no_expression)

-- The reading once the expression in hand ends, and the number of that expression.
abbrev pub ended : Reading → Ended
ended r = ended_as r (expr_done None r r.waits)

-- The reading that is left, and the draft changed by `f` with the number of the expression that
-- ended.
abbrev pub then_draft : (ExprId → Draft → Draft) → Draft → Ended → HintReading
then_draft f h e = record { reading = e.0; draft = f e.1 h }

-- ---- words, by their roles

-- A word that is a sign changes the draft by `f`; any other leaves it.
abbrev pub by_sign : (Symbol → ExprId → Draft → Draft) → Word → ExprId → Draft → Draft
by_sign f (sign g) x h = f g x h
by_sign f w x h = h

-- A word of a bound: a literal is the bound, a minus makes the one that follows negative, and
-- others change nothing.
abbrev pub bound_word : Word → Draft → Draft
bound_word (literal k text) h =
    with_bound (record { literal = literal_of text; negative = h.negative }) h
bound_word (sign g) h = bound_signed g h
bound_word w h = h

-- A word behind the variable of a cut: digits give its number of pieces, `(` begins its points, and
-- others change nothing.
abbrev pub cut_word : Word → Draft → Draft
cut_word (literal k text) h = cut_into (number_of text) h
cut_word (sign s.OpenParen) h = points_begun h
cut_word w h = h

-- A split's variable goes to the draft, and what is known behind it to the reading.
abbrev pub variable_placed : PlacedNode → HintReading → HintReading
variable_placed p r = record {
  reading = record { known = p.0; waits = r.reading.waits };
  draft = with_split_variable p.1 r.draft;
}

-- a name that has a value stands for that, as in an expression; a script that is accepted splits
-- variables alone
abbrev pub variable_word : Word → HintReading → HintReading
variable_word (name k text) r = variable_placed (named r.reading.known text) r
variable_word (rounding k text) r = variable_placed (named r.reading.known text) r
variable_word w r = r

-- the draft is changed by f
abbrev pub drafted : (Draft → Draft) → HintReading → HintReading
drafted f r = record { reading = r.reading; draft = f r.draft }

-- what stands behind a word
unfoldable pub read_hint : Due → Word → HintReading → HintReading
read_hint d.HintRest w r = then_draft (by_sign side_ended w) r.draft (ended r.reading)
read_hint d.GoalSplit w r = then_draft (by_sign side_ended w) r.draft (ended r.reading)
read_hint d.Needs w r = then_draft needs_opened r.draft (ended r.reading)
read_hint d.NeedRelation w r = then_draft (by_sign related w) r.draft (ended r.reading)
read_hint d.Semicolon w r = then_draft hint_ended r.draft (ended r.reading)
read_hint d.Bound w r = drafted (bound_word w) r
read_hint d.Magnitude w r = drafted (bound_word w) r
read_hint d.Hints w r = drafted cut_begun r
read_hint d.SplitName w r = variable_word w r
read_hint d.Cut w r = drafted (cut_word w) r
read_hint role w r = record { reading = read None role w r.reading; draft = r.draft }

-- what the words make, one after the other
unfoldable pub read_hints : List Leaf → HintReading → HintReading
read_hints [] r = r
read_hints (l ∷ ls) r = read_hints ls (read_hint l.role l.word r)
