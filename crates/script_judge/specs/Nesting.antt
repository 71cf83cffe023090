-- What is open: parentheses of expressions and calls, bars, and minus signs whose factor isn't
-- complete.
use Rattle.std.specs.Prelude.{List, [], ◌∷◌}
use Rattle.script_words.specs.declared.class.Symbol.{Symbol}
use Rattle.script_words.specs.declared.class.Symbol.TheVariants as s
use Rattle.script_words.specs.Words.{Word, name, rounding, literal, sign}
use Rattle.script_shape.specs.declared.due.Due.{Due}
use Rattle.script_shape.specs.declared.due.Due.TheVariants as d
use Rattle.script_judge.specs.declared.nesting.Open.{Open}
use Rattle.script_judge.specs.declared.nesting.Open.TheVariants.{Pair, Minus}

-- an operand is complete: the minus signs before it end
abbrev pub without_minus : List Open → List Open
without_minus [] = []
without_minus (Minus ∷ os) = without_minus os
without_minus (Pair ∷ os) = Pair ∷ os

-- a closing sign ends what it closes, which is the first that is open, and is the end of an operand
abbrev pub closed : List Open → List Open
closed [] = []
closed (o ∷ os) = without_minus os

-- a sign that an operand begins with opens itself
abbrev pub opened_by_sign : Symbol → List Open → List Open
opened_by_sign s.OpenParen os = Pair ∷ os
opened_by_sign s.Bar os = Pair ∷ os
opened_by_sign s.Minus os = Minus ∷ os
opened_by_sign g os = os

-- a literal or a name is a whole operand
abbrev pub opened_by_operand : Word → List Open → List Open
opened_by_operand (literal k text) os = without_minus os
opened_by_operand (name k text) os = without_minus os
opened_by_operand (rounding k text) os = os
opened_by_operand (sign g) os = opened_by_sign g os

-- what is open after a token, the last first
abbrev pub opened_after : List Open → Due → Word → List Open
opened_after os d.Operand w = opened_by_operand w os
opened_after os d.OpenParen w = Pair ∷ os
opened_after os d.CloseParen w = closed os
opened_after os d.CloseBar w = closed os
opened_after os r w = os
