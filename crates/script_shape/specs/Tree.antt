-- The grammar of scripts: one type for each row of its table, one constructor for each form, and
-- the words that each form spells. Repetitions that group to the left recurse on the left.
use Rattle.std.specs.Prelude.{◌≡◌, ℕ, All, List, [], ◌∷◌, ◌++◌}
use Rattle.script_words.specs.Words.{Word, rounding, sign}
use Rattle.script_words.specs.Named.{IsToken}
use Rattle.script_words.specs.declared.class.Spelled.{Spelled}
use Rattle.script_words.specs.declared.class.Symbol.TheVariants as s
use Rattle.script_shape.specs.Expressions.{AnyName, name_words, Operator, operator_words, Expr}
use Rattle.script_shape.specs.Expressions.{expr_words}
use Rattle.script_shape.specs.Propositions.{Formula, formula_words}
use Rattle.script_shape.specs.Hints.{Hints, hints_words}

-- what stands between a definition's name and its expression. After a written operator the sign
-- `>=` stands for `>` `=`
pub data How : Type 0 where
  exactly : How
  rounded_by : Spelled → List ℕ → How
  rounded_apart : Operator → How
  rounded_joined : Operator → How

-- the words between a defined name and its expression
abbrev pub how_words : How → List Word
how_words exactly = sign s.Equal ∷ []
how_words (rounded_by k text) = rounding k text ∷ (sign s.Equal ∷ [])
how_words (rounded_apart o) = operator_words o ++ (sign s.Greater ∷ (sign s.Equal ∷ []))
how_words (rounded_joined o) = operator_words o ++ (sign s.GreaterEqual ∷ [])

-- a name for an operator, or for an expression's value
pub data Definition : Type 0 where
  names_operator : AnyName → Operator → Definition
  names_value : AnyName → How → Expr → Definition

-- the words of a definition
abbrev pub definition_words : Definition → List Word
definition_words (names_operator n o) = sign s.At ∷ (name_words n
    ++ (sign s.Equal ∷ (operator_words o ++ (sign s.Greater ∷ (sign s.Semicolon ∷ [])))))
definition_words (names_value n h e) =
    name_words n ++ (how_words h ++ (expr_words e ++ (sign s.Semicolon ∷ [])))

-- definitions, and then the formula with the hints
pub data Script : Type 0 where
  formula : Formula → Hints → Script
  define : Definition → Script → Script

-- the words of a script
abbrev pub script_words : Script → List Word
script_words (formula f h) =
    sign s.OpenBrace ∷ (formula_words f ++ (sign s.CloseBrace ∷ hints_words h))
script_words (define d rest) = definition_words d ++ script_words rest

-- The words are a whole script.
abbrev pub IsScript : List Word → Type 0
IsScript ws = (tree : Script) × (script_words tree ≡ ws)

-- The words begin a script: some more words, each of which a token can be, make them a whole one.
pub record BeginsScript (ws : List Word) : Type 0 where
  pub tree : Script
  pub more : List Word
  pub words : script_words tree ≡ ws ++ more
  pub spelled : All IsToken more
