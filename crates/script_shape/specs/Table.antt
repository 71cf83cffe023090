-- The table of the grammar: what each thing that is due takes, and what is due after it, the next
-- first.
use Rattle.std.specs.Prelude.{List, [], ◌∷◌, ◌++◌, Option, Some, None, Bool, true, false, ◌≡◌}
use Rattle.std.specs.Prelude.{reverse, MatchOption}
use Rattle.std.specs.Borrow.{Bor}
use Rattle.script_words.specs.declared.class.Class.{Class}
use Rattle.script_words.specs.declared.class.Class.TheVariants.{Name, Rounding, Literal, Sign}
use Rattle.script_words.specs.declared.class.Spelled.TheVariants as spelled
use Rattle.script_words.specs.declared.class.Number.TheVariants as digits_kind
use Rattle.script_words.specs.declared.class.Symbol.TheVariants as s
use Rattle.script_shape.specs.declared.due.Due.{Due}
use Rattle.script_shape.specs.declared.due.Due.TheVariants as d

-- what an expression still needs after its first token
abbrev pub operand : Class → Option (List Due)
operand (Sign s.Minus) = Some (d.Operand ∷ [])
operand (Literal k) = Some (d.Tail ∷ [])
operand (Name k) = Some (d.Tail ∷ [])
operand (Sign s.OpenParen) = Some (d.Operand ∷ d.CloseParen ∷ d.Tail ∷ [])
operand (Sign s.Bar) = Some (d.Operand ∷ d.CloseBar ∷ d.Tail ∷ [])
operand (Rounding k) = Some (d.OpenParen ∷ d.Operand ∷ d.CloseParen ∷ d.Tail ∷ [])
operand (Sign s.Fixed) = Some (d.Less ∷ d.Whole ∷ d.Comma ∷ d.Direction ∷ d.Greater ∷ d.OpenParen
    ∷ d.Operand ∷ d.CloseParen ∷ d.Tail ∷ [])
operand (Sign s.Int) =
    Some (d.Less ∷ d.Direction ∷ d.Greater ∷ d.OpenParen ∷ d.Operand ∷ d.CloseParen ∷ d.Tail ∷ [])
operand (Sign s.Fma) = Some (d.OpenParen ∷ d.Operand ∷ d.Comma ∷ d.Operand ∷ d.Comma ∷ d.Operand
    ∷ d.CloseParen ∷ d.Tail ∷ [])
operand _ = None

-- an expression, and then what follows it
abbrev pub then_due : Option (List Due) → List Due → Option (List Due)
then_due None later = None
then_due (Some new) later = Some (new ++ later)

-- what is due after a token of this class, in place of what was due
abbrev pub takes : Due → Class → Option (List Due)
takes d.Script (Sign s.At) =
    Some (d.NewName ∷ d.Equal ∷ d.Operator ∷ d.Greater ∷ d.Semicolon ∷ d.Script ∷ [])
takes d.Script (Name k) = Some (d.DefinedBy ∷ d.Operand ∷ d.Semicolon ∷ d.Script ∷ [])
takes d.Script (Rounding k) = Some (d.DefinedBy ∷ d.Operand ∷ d.Semicolon ∷ d.Script ∷ [])
takes d.Script (Sign s.OpenBrace) = Some (d.Claim ∷ d.Connective ∷ d.CloseBrace ∷ d.Hints ∷ [])
takes d.NewName (Name k) = Some []
takes d.NewName (Rounding k) = Some []
takes d.DefinedBy (Sign s.Equal) = Some []
takes d.DefinedBy (Rounding k) = Some (d.Equal ∷ [])
takes d.DefinedBy (Sign s.Fixed) =
    Some (d.Less ∷ d.Whole ∷ d.Comma ∷ d.Direction ∷ d.CloseOperator ∷ [])
takes d.DefinedBy (Sign s.Int) = Some (d.Less ∷ d.Direction ∷ d.CloseOperator ∷ [])
takes d.Equal (Sign s.Equal) = Some []
takes d.Operator (Sign s.Fixed) = Some (d.Less ∷ d.Whole ∷ d.Comma ∷ d.Direction ∷ [])
takes d.Operator (Sign s.Int) = Some (d.Less ∷ d.Direction ∷ [])
takes d.Less (Sign s.Less) = Some []
takes d.Greater (Sign s.Greater) = Some []
takes d.Whole (Sign s.Minus) = Some (d.WholeDigits ∷ [])
takes d.Whole (Literal digits_kind.Zero) = Some []
takes d.Whole (Literal digits_kind.Digits) = Some []
takes d.WholeDigits (Literal digits_kind.Zero) = Some []
takes d.WholeDigits (Literal digits_kind.Digits) = Some []
takes d.Direction (Name spelled.Direction) = Some []
takes d.Direction (Rounding spelled.Direction) = Some []
takes d.CloseOperator (Sign s.Greater) = Some (d.Equal ∷ [])
takes d.CloseOperator (Sign s.GreaterEqual) = Some []
takes d.Semicolon (Sign s.Semicolon) = Some []
takes d.Claim (Sign s.Not) = Some (d.Prop ∷ [])
takes d.Claim (Sign s.At) =
    Some (d.Fix ∷ d.OpenParen ∷ d.Operand ∷ d.Comma ∷ d.Whole ∷ d.CloseParen ∷ [])
takes d.Claim c = then_due (operand c) (d.Relation ∷ [])
takes d.Prop (Sign s.At) =
    Some (d.Fix ∷ d.OpenParen ∷ d.Operand ∷ d.Comma ∷ d.Whole ∷ d.CloseParen ∷ [])
takes d.Prop c = then_due (operand c) (d.Relation ∷ [])
takes d.Operand c = operand c
takes d.Tail (Sign s.Plus) = Some (d.Operand ∷ [])
takes d.Tail (Sign s.Minus) = Some (d.Operand ∷ [])
takes d.Tail (Sign s.Star) = Some (d.Operand ∷ [])
takes d.Tail (Sign s.Slash) = Some (d.Operand ∷ [])
takes d.OpenParen (Sign s.OpenParen) = Some []
takes d.CloseParen (Sign s.CloseParen) = Some []
takes d.CloseBar (Sign s.Bar) = Some []
takes d.Comma (Sign s.Comma) = Some []
takes d.Fix (Name spelled.Fix) = Some []
takes d.Fix (Rounding spelled.Fix) = Some []
takes d.Relation (Sign s.In) = Some (d.Range ∷ [])
takes d.Relation (Sign s.Against) = Some (d.Operand ∷ d.In ∷ d.Range ∷ [])
takes d.Relation (Sign s.LessEqual) = Some (d.Bound ∷ [])
takes d.Relation (Sign s.GreaterEqual) = Some (d.Bound ∷ [])
takes d.In (Sign s.In) = Some []
takes d.Range (Sign s.Ask) = Some []
takes d.Range (Sign s.OpenBracket) = Some (d.Bound ∷ d.Comma ∷ d.Bound ∷ d.CloseBracket ∷ [])
takes d.Bound (Literal k) = Some []
takes d.Bound (Sign s.Plus) = Some (d.Magnitude ∷ [])
takes d.Bound (Sign s.Minus) = Some (d.Magnitude ∷ [])
takes d.Magnitude (Literal k) = Some []
takes d.CloseBracket (Sign s.CloseBracket) = Some []
takes d.Connective (Sign s.And) = Some (d.Claim ∷ d.Connective ∷ [])
takes d.Connective (Sign s.Or) = Some (d.Claim ∷ d.Connective ∷ [])
takes d.Connective (Sign s.Arrow) = Some (d.Claim ∷ d.Connective ∷ [])
takes d.CloseBrace (Sign s.CloseBrace) = Some []
takes d.Hints (Sign s.Dollar) = Some (d.SplitName ∷ d.SplitCut ∷ d.Semicolon ∷ d.Hints ∷ [])
takes d.Hints c = then_due (operand c) (d.HintRest ∷ d.Semicolon ∷ d.Hints ∷ [])
takes d.HintRest (Sign s.Arrow) = Some (d.Operand ∷ d.Needs ∷ [])
takes d.HintRest (Sign s.Tilde) = Some (d.Operand ∷ [])
takes d.HintRest (Sign s.Comma) = Some (d.Operand ∷ d.GoalSplit ∷ [])
takes d.HintRest (Sign s.Dollar) = Some (d.SplitName ∷ d.SplitNames ∷ [])
takes d.GoalSplit (Sign s.Comma) = Some (d.Operand ∷ d.GoalSplit ∷ [])
takes d.GoalSplit (Sign s.Dollar) = Some (d.SplitName ∷ d.SplitNames ∷ [])
takes d.SplitName (Name k) = Some []
takes d.SplitName (Rounding k) = Some []
takes d.SplitNames (Sign s.Comma) = Some (d.SplitName ∷ d.SplitNames ∷ [])
takes d.SplitCut (Sign s.In) = Some (d.Cut ∷ [])
takes d.Cut (Literal digits_kind.Zero) = Some []
takes d.Cut (Literal digits_kind.Digits) = Some []
takes d.Cut (Sign s.OpenParen) = Some (d.Bound ∷ d.Points ∷ d.CloseParen ∷ [])
takes d.Points (Sign s.Comma) = Some (d.Bound ∷ d.Points ∷ [])
takes d.Needs (Sign s.OpenBrace) =
    Some (d.Operand ∷ d.NeedRelation ∷ d.MoreNeeds ∷ d.CloseBrace ∷ [])
takes d.NeedRelation (Sign s.Unequal) = Some (d.Zero ∷ [])
takes d.NeedRelation (Sign s.Less) = Some (d.Bound ∷ [])
takes d.NeedRelation (Sign s.LessEqual) = Some (d.Bound ∷ [])
takes d.NeedRelation (Sign s.Greater) = Some (d.Bound ∷ [])
takes d.NeedRelation (Sign s.GreaterEqual) = Some (d.Bound ∷ [])
takes d.Zero (Literal digits_kind.Zero) = Some []
takes d.MoreNeeds (Sign s.Comma) = Some (d.Operand ∷ d.NeedRelation ∷ d.MoreNeeds ∷ [])
takes _ _ = None

-- what may be left out
abbrev pub may_skip : Due → Bool
may_skip d.Tail = true
may_skip d.Connective = true
may_skip d.Hints = true
may_skip d.SplitNames = true
may_skip d.SplitCut = true
may_skip d.Points = true
may_skip d.Needs = true
may_skip d.MoreNeeds = true
may_skip _ = false

-- The role of a token that a due thing takes: an operand that begins a proposition or a hint has
-- that of an operand.
abbrev pub role_of : Due → Class → Due
role_of d.Claim (Sign s.Not) = d.Claim
role_of d.Claim (Sign s.At) = d.Prop
role_of d.Claim c = d.Operand
role_of d.Prop (Sign s.At) = d.Prop
role_of d.Prop c = d.Operand
role_of d.Hints (Sign s.Dollar) = d.Hints
role_of d.Hints c = d.Operand
role_of r c = r

-- What a call of the table answers: nothing where nothing is taken, else what is due, the last
-- first.
abbrev pub Answers : Option (List Due) → Option (Bor (List Due)) → Type 0
Answers wanted answer = MatchOption answer (wanted ≡ None) (λ new. wanted ≡ Some (reverse new.now))
