-- Something can always come: a part for each thing that is due, made of words that tokens can be.
use Rattle.std.proofs.Common.{◌≡◌, ℕ, All, List, [], ◌∷◌, codes, length, Some, refl}
use Rattle.std.specs.List.{AllByRecursion}
use Rattle.std.proofs.lemmas.List.Elements.{All-nil, All-append, All-from_recursion}
use Rattle.script_words.specs.declared.class.Spelled.TheVariants as spelled
use Rattle.script_words.specs.declared.class.Number.TheVariants as digits_kind
use Rattle.script_words.specs.declared.class.Symbol.{Symbol}
use Rattle.script_words.specs.declared.class.Symbol.TheVariants as s
use Rattle.script_words.specs.declared.lex.TokenKind.TheVariants as kind
use Rattle.script_words.specs.Words.{name, literal, sign}
use Rattle.script_words.specs.Literals.{literal_len, scaled_len}
use Rattle.script_words.specs.Lex.{front}
use Rattle.script_words.specs.Named.{IsToken}
use Rattle.script_shape.specs.declared.due.Due.{Due}
use Rattle.script_shape.specs.declared.due.Due.TheVariants as due
use Rattle.script_shape.specs.Expressions.{AnyName, plain, free, Digits, digits, natural, unsigned}
use Rattle.script_shape.specs.Expressions.{int, Expr, term, factor, atom, number}
use Rattle.script_shape.specs.Propositions.{asked, lies_in, affirmed, single}
use Rattle.script_shape.specs.Hints.{nonzero, always, in_four, last_name, halved_by, like, no_hint}
use Rattle.script_shape.specs.Tree.{exactly, formula}
use Rattle.script_shape.proofs.Parts.{Part, part_words, Parts, parts_words, apart, to_pieces}
use Rattle.script_shape.proofs.Parts.{skipped}

-- ---- words that tokens can be

-- the bytes of a sign
abbrev sign_text : Symbol → List ℕ
sign_text s.OpenBrace = codes "{"
sign_text s.CloseBrace = codes "}"
sign_text s.OpenParen = codes "("
sign_text s.CloseParen = codes ")"
sign_text s.OpenBracket = codes "["
sign_text s.CloseBracket = codes "]"
sign_text s.Comma = codes ","
sign_text s.Semicolon = codes ";"
sign_text s.Equal = codes "="
sign_text s.Plus = codes "+"
sign_text s.Minus = codes "-"
sign_text s.Star = codes "*"
sign_text s.Slash = codes "/"
sign_text s.Bar = codes "|"
sign_text s.Less = codes "<"
sign_text s.Greater = codes ">"
sign_text s.Ask = codes "?"
sign_text s.Dollar = codes "$"
sign_text s.Tilde = codes "~"
sign_text s.At = codes "@"
sign_text s.LessEqual = codes "<="
sign_text s.GreaterEqual = codes ">="
sign_text s.Unequal = codes "<>"
sign_text s.Arrow = codes "->"
sign_text s.Against = codes "-/"
sign_text s.And = codes "/\\"
sign_text s.Or = codes "\\/"
sign_text s.In = codes "in"
sign_text s.Not = codes "not"
sign_text s.Fixed = codes "fixed"
sign_text s.Int = codes "int"
sign_text s.Fma = codes "fma"
sign_text s.Float = codes "float"
sign_text s.Sqrt = codes "sqrt"

-- it is a token of its own
sign_alone : (g : Symbol) → front (sign_text g) ≡ Some (kind.Sign g, length (sign_text g))
unfolding front
sign_alone s.OpenBrace = refl
sign_alone s.CloseBrace = refl
sign_alone s.OpenParen = refl
sign_alone s.CloseParen = refl
sign_alone s.OpenBracket = refl
sign_alone s.CloseBracket = refl
sign_alone s.Comma = refl
sign_alone s.Semicolon = refl
sign_alone s.Equal = refl
sign_alone s.Plus = refl
sign_alone s.Minus = refl
sign_alone s.Star = refl
sign_alone s.Slash = refl
sign_alone s.Bar = refl
sign_alone s.Less = refl
sign_alone s.Greater = refl
sign_alone s.Ask = refl
sign_alone s.Dollar = refl
sign_alone s.Tilde = refl
sign_alone s.At = refl
sign_alone s.LessEqual = refl
sign_alone s.GreaterEqual = refl
sign_alone s.Unequal = refl
sign_alone s.Arrow = refl
sign_alone s.Against = refl
sign_alone s.And = refl
sign_alone s.Or = refl
sign_alone s.In = refl
sign_alone s.Not = refl
sign_alone s.Fixed = refl
sign_alone s.Int = refl
sign_alone s.Fma = refl
sign_alone s.Float = refl
sign_alone s.Sqrt = refl

some_sign : (g : Symbol) → IsToken (sign g)
some_sign g = record {
  text = sign_text g;
  kind = kind.Sign g;
  operators = [];
  alone = sign_alone g;
  word = refl;
}

one : IsToken (literal digits_kind.Digits (codes "1"))
unfolding front literal_len scaled_len
one = record { text = codes "1"; kind = kind.Literal; operators = []; alone = refl; word = refl }

zero : IsToken (literal digits_kind.Zero (codes "0"))
unfolding front literal_len scaled_len
zero = record { text = codes "0"; kind = kind.Literal; operators = []; alone = refl; word = refl }

plain_x : IsToken (name spelled.Plain (codes "x"))
unfolding front
plain_x = record { text = codes "x"; kind = kind.Name; operators = []; alone = refl; word = refl }

direction_dn : IsToken (name spelled.Direction (codes "dn"))
unfolding front
direction_dn =
    record { text = codes "dn"; kind = kind.Name; operators = []; alone = refl; word = refl }

fix_itself : IsToken (name spelled.Fix (codes "FIX"))
unfolding front
fix_itself =
    record { text = codes "FIX"; kind = kind.Name; operators = []; alone = refl; word = refl }

-- ---- a part for each thing that is due

abbrev some_expr : Expr
some_expr = term (factor (atom (number digits_kind.Digits (codes "1"))))

abbrev some_name : AnyName
some_name = plain spelled.Plain (codes "x")

abbrev some_digits : Digits
some_digits = digits (codes "1")

abbrev some_part : (d : Due) → Part d
some_part due.Script = formula (single (affirmed (lies_in some_expr asked))) no_hint
some_part due.NewName = some_name
some_part due.DefinedBy = exactly
some_part due.Operator = int (free (codes "dn"))
some_part due.Whole = natural some_digits
some_part due.WholeDigits = some_digits
some_part due.Direction = free (codes "dn")
some_part due.CloseOperator = apart
some_part due.Claim = affirmed (lies_in some_expr asked)
some_part due.Prop = lies_in some_expr asked
some_part due.Operand = some_expr
some_part due.Tail = (skipped due.Tail refl).0
some_part due.Fix = free (codes "FIX")
some_part due.Relation = record { words = _; make = λ e. lies_in e asked; spells = λ e. refl }
some_part due.Range = asked
some_part due.Bound = unsigned digits_kind.Digits (codes "1")
some_part due.Magnitude = (digits_kind.Digits, codes "1")
some_part due.Connective = (skipped due.Connective refl).0
some_part due.Hints = no_hint
some_part due.HintRest = record { words = _; make = λ e. like e some_expr; spells = λ e. refl }
some_part due.GoalSplit =
    record { words = _; make = λ e. halved_by e (last_name some_name); spells = λ e. refl }
some_part due.SplitName = some_name
some_part due.SplitNames = (skipped due.SplitNames refl).0
some_part due.SplitCut = in_four
some_part due.Cut = to_pieces some_digits
some_part due.Points = (skipped due.Points refl).0
some_part due.Needs = always
some_part due.NeedRelation =
    record { words = _; make = λ e. nonzero e (codes "0"); spells = λ e. refl }
some_part due.Zero = codes "0"
some_part due.MoreNeeds = (skipped due.MoreNeeds refl).0
some_part due.Equal = tt
some_part due.Less = tt
some_part due.Greater = tt
some_part due.Semicolon = tt
some_part due.OpenParen = tt
some_part due.CloseParen = tt
some_part due.CloseBar = tt
some_part due.Comma = tt
some_part due.In = tt
some_part due.CloseBracket = tt
some_part due.CloseBrace = tt

pub some_parts : (ds : List Due) → Parts ds
some_parts [] = tt
some_parts (d ∷ ds) = (some_part d, some_parts ds)

-- its words are tokens
part_spelled : (d : Due) → AllByRecursion IsToken (part_words d (some_part d))
unfolding skipped
part_spelled due.Script = (
  some_sign s.OpenBrace,
  (one, (some_sign s.In, (some_sign s.Ask, (some_sign s.CloseBrace, tt)))),
)
part_spelled due.NewName = (plain_x, tt)
part_spelled due.DefinedBy = (some_sign s.Equal, tt)
part_spelled due.Operator = (some_sign s.Int, (some_sign s.Less, (direction_dn, tt)))
part_spelled due.Whole = (one, tt)
part_spelled due.WholeDigits = (one, tt)
part_spelled due.Direction = (direction_dn, tt)
part_spelled due.CloseOperator = (some_sign s.Greater, (some_sign s.Equal, tt))
part_spelled due.Claim = (one, (some_sign s.In, (some_sign s.Ask, tt)))
part_spelled due.Prop = (one, (some_sign s.In, (some_sign s.Ask, tt)))
part_spelled due.Operand = (one, tt)
part_spelled due.Tail = tt
part_spelled due.Fix = (fix_itself, tt)
part_spelled due.Relation = (some_sign s.In, (some_sign s.Ask, tt))
part_spelled due.Range = (some_sign s.Ask, tt)
part_spelled due.Bound = (one, tt)
part_spelled due.Magnitude = (one, tt)
part_spelled due.Connective = tt
part_spelled due.Hints = tt
part_spelled due.HintRest = (some_sign s.Tilde, (one, tt))
part_spelled due.GoalSplit = (some_sign s.Dollar, (plain_x, tt))
part_spelled due.SplitName = (plain_x, tt)
part_spelled due.SplitNames = tt
part_spelled due.SplitCut = tt
part_spelled due.Cut = (one, tt)
part_spelled due.Points = tt
part_spelled due.Needs = tt
part_spelled due.NeedRelation = (some_sign s.Unequal, (zero, tt))
part_spelled due.Zero = (zero, tt)
part_spelled due.MoreNeeds = tt
part_spelled due.Equal = (some_sign s.Equal, tt)
part_spelled due.Less = (some_sign s.Less, tt)
part_spelled due.Greater = (some_sign s.Greater, tt)
part_spelled due.Semicolon = (some_sign s.Semicolon, tt)
part_spelled due.OpenParen = (some_sign s.OpenParen, tt)
part_spelled due.CloseParen = (some_sign s.CloseParen, tt)
part_spelled due.CloseBar = (some_sign s.Bar, tt)
part_spelled due.Comma = (some_sign s.Comma, tt)
part_spelled due.In = (some_sign s.In, tt)
part_spelled due.CloseBracket = (some_sign s.CloseBracket, tt)
part_spelled due.CloseBrace = (some_sign s.CloseBrace, tt)

pub parts_spelled : (ds : List Due) → All IsToken (parts_words ds (some_parts ds))
unfolding some_parts
parts_spelled [] = All-nil IsToken
parts_spelled (d ∷ ds) =
    All-append IsToken (part_words d (some_part d)) (parts_words ds (some_parts ds))
    (All-from_recursion IsToken _ (part_spelled d)) (parts_spelled ds)
