-- What becomes of a text.
use Rattle.std.specs.Prelude.{◌≡◌, ℕ, suc, ◌≤◌, List, [], ◌∷◌, ◌++◌, length, map, take, Some, None}
use Rattle.std.specs.Prelude.{Bool, true, false, if◌then◌else◌}
use Rattle.script_words.specs.declared.lex.Token.{Token}
use Rattle.script_words.specs.Words.{Word}
use Rattle.script_words.specs.Named.{words_of}
use Rattle.script_shape.specs.declared.due.Due.{Due}
use Rattle.script_shape.specs.Tree.{Script}
use Rattle.script_shape.specs.Roles.{Leaf, HasRoles, leaves_of}
use Rattle.script_judge.specs.declared.formula.Formula.{Formula}
use Rattle.script_judge.specs.Reading.{IsReadingOf}
use Rattle.script_judge.specs.First.{IsFirstRefusal}
use Rattle.script_judge.specs.Front.{closes_formula, ended, front_leaves, no_front, read_front}
use Rattle.script_judge.specs.Front.{said_in}
use Rattle.script_judge.specs.Judge.{Seen, nothing_seen}
use Rattle.script_judge.specs.Judging.{Passed}
use Rattle.script_judge.specs.Views.{reading_of}
use Rattle.script_grammar.specs.declared.judgement.Judgement.{Judgement}
use Rattle.script_grammar.specs.declared.judgement.Judgement.TheVariants as judgement

-- how many roles there are up to the first `}`, and all where there is none
abbrev pub formula_end : List Due → ℕ
formula_end [] = 0
formula_end (r ∷ rs) = if closes_formula r then 1 else suc (formula_end rs)

-- one of them is a `}`
abbrev pub has_formula : List Due → Bool
has_formula [] = false
has_formula (r ∷ rs) = if closes_formula r then true else has_formula rs

-- what the leaves up to the first `}` say is this
abbrev pub IsFormulaOf : List Leaf → ℕ → Formula → Type 0
IsFormulaOf leaves end f = read_front (take end leaves) no_front ≡ ended f.nodes f.sides

-- The refusal is the text's first. Or there is none, the text is read so, and its formula says
-- this.
abbrev pub IsJudgement : List ℕ → Judgement → Type 0
IsJudgement text (judgement.Refused r) = IsFirstRefusal text (Some r)
IsJudgement text (judgement.Accepted read f) =
    IsFirstRefusal text None × IsReadingOf text (reading_of read)
    × IsFormulaOf (reading_of read).leaves (formula_end read.shape.roles.items) f

-- Words are those of these tokens of some text, and so many of them as have roles begin a script,
-- in which these are their roles.
pub record AreRead (tokens : List Token) (ws : List Word) (rs : List Due) : Type 0 where
  pub taken : length rs ≤ length ws
  pub text : List ℕ
  pub words : words_of text tokens ≡ ws
  pub roles : HasRoles (take (length rs) ws) (leaves_of rs ws)

-- The leaves are those of a script of some text up to the `}` of its formula, and the judge lets
-- them pass, by what they and those behind them say.
pub record IsPassedFront (leaves : List Leaf) : Type 0 where
  pub tree : Script
  pub leaves_are : leaves ≡ front_leaves tree
  pub text : List ℕ
  pub tokens : List Token
  pub words : words_of text tokens ≡ map (λ l. l.word) leaves
  pub behind : List Leaf
  pub last : Seen
  pub passes : Passed (nothing_seen (said_in (leaves ++ behind))) leaves behind last
