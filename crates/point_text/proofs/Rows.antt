-- What stands behind a name is no row.
use Rattle.std.specs.Prelude.{ℕ, List, Option, Bool}
use Rattle.fx_model.specs.declared.Literal.{Literal}
use Rattle.script_words.specs.declared.class.Symbol.TheVariants as s
use Rattle.script_words.specs.declared.lex.Token.{Token}
use Rattle.script_words.specs.declared.lex.TokenKind.TheVariants as kind
use Rattle.point_text.specs.declared.fault.PointFault.{PointFault}
use Rattle.point_text.specs.Taken.{IsTaken, IsLiteralTaken, IsSignTaken, IsDivisorTaken, HasKind}
use Rattle.point_text.specs.Taken.{IsUnexpected, IsLiteralRefused, IsDivisorRefused, IsRowRefused}
use Rattle.point_text.specs.Taken.{no_equal, no_number, no_divisor, no_semicolon}

pub equal_refused : (text : List ℕ) (rest : List Token) (end f : PointFault)
    → IsUnexpected rest end f → ¬ HasKind (kind.Sign s.Equal) rest → IsRowRefused text rest end f
equal_refused text rest end f = no_equal

pub number_refused : (text : List ℕ) (rest : List Token) (end f : PointFault) (negative :
    Bool) (behind_equal behind_sign : List Token) → IsTaken (kind.Sign s.Equal) rest behind_equal
    → IsSignTaken behind_equal negative behind_sign → IsLiteralRefused text behind_sign end f
    → IsRowRefused text rest end f
number_refused text rest end f = no_number

pub row_divisor_refused : (text : List ℕ) (rest : List Token) (end f : PointFault) (negative :
    Bool) (l : Literal) (behind_equal behind_sign behind_number : List Token)
    → IsTaken (kind.Sign s.Equal) rest behind_equal → IsSignTaken behind_equal negative behind_sign
    → IsLiteralTaken text behind_sign l behind_number → IsDivisorRefused text behind_number end f
    → IsRowRefused text rest end f
row_divisor_refused text rest end f = no_divisor

pub semicolon_refused : (text : List ℕ) (rest : List Token) (end f : PointFault) (negative :
    Bool) (l : Literal) (o : Option Literal)
    (behind_equal behind_sign behind_number behind_divisor : List Token)
    → IsTaken (kind.Sign s.Equal) rest behind_equal → IsSignTaken behind_equal negative behind_sign
    → IsLiteralTaken text behind_sign l behind_number
    → IsDivisorTaken text behind_number o behind_divisor → IsUnexpected behind_divisor end f
    → ¬ HasKind (kind.Sign s.Semicolon) behind_divisor → IsRowRefused text rest end f
semicolon_refused text rest end f = no_semicolon

-- what stands behind a name is refused so
pub ruleset refusals = (equal_refused, number_refused, row_divisor_refused, semicolon_refused)
