-- A run that checks the role of each word.
use Rattle.std.proofs.Common.{◌≡◌, ℕ, List, [], ◌∷◌, Option, Some, None, option_and_then, cond, eqb}
use Rattle.std.proofs.Common.{refl, sym, ap, ◌∙◌}
use Rattle.script_words.specs.Words.{Word, class_of}
use Rattle.script_shape.specs.declared.due.Due.{Due}
use Rattle.script_shape.specs.declared.due.Due.TheVariants as due
use Rattle.script_shape.specs.Roles.{Leaf}
use Rattle.script_shape.specs.Shape.{step, role_next}

abbrev pub number_of : Due → ℕ
number_of due.Script = 0
number_of due.NewName = 1
number_of due.DefinedBy = 2
number_of due.Equal = 3
number_of due.Operator = 4
number_of due.Less = 5
number_of due.Greater = 6
number_of due.Whole = 7
number_of due.WholeDigits = 8
number_of due.Direction = 9
number_of due.CloseOperator = 10
number_of due.Semicolon = 11
number_of due.Prop = 12
number_of due.Operand = 13
number_of due.Tail = 14
number_of due.OpenParen = 15
number_of due.CloseParen = 16
number_of due.CloseBar = 17
number_of due.Comma = 18
number_of due.Fix = 19
number_of due.Relation = 20
number_of due.In = 21
number_of due.Range = 22
number_of due.Bound = 23
number_of due.Magnitude = 24
number_of due.CloseBracket = 25
number_of due.Connective = 26
number_of due.CloseBrace = 27
number_of due.Hints = 28
number_of due.HintRest = 29
number_of due.GoalSplit = 30
number_of due.SplitName = 31
number_of due.SplitNames = 32
number_of due.SplitCut = 33
number_of due.Cut = 34
number_of due.Points = 35
number_of due.Needs = 36
number_of due.NeedRelation = 37
number_of due.Zero = 38
number_of due.MoreNeeds = 39
number_of due.Claim = 40

abbrev due_with : ℕ → Due → Due
due_with n other = cond (eqb n 0) due.Script (cond (eqb n 1) due.NewName
    (cond (eqb n 2) due.DefinedBy (cond (eqb n 3) due.Equal (cond (eqb n 4) due.Operator
    (cond (eqb n 5) due.Less (cond (eqb n 6) due.Greater (cond (eqb n 7) due.Whole
    (cond (eqb n 8) due.WholeDigits (cond (eqb n 9) due.Direction (cond (eqb n 10) due.CloseOperator
    (cond (eqb n 11) due.Semicolon (cond (eqb n 12) due.Prop (cond (eqb n 13) due.Operand
    (cond (eqb n 14) due.Tail (cond (eqb n 15) due.OpenParen (cond (eqb n 16) due.CloseParen (cond
    (eqb n 17) due.CloseBar (cond (eqb n 18) due.Comma (cond (eqb n 19) due.Fix (cond (eqb n 20)
    due.Relation (cond (eqb n 21) due.In (cond (eqb n 22) due.Range (cond (eqb n 23) due.Bound
    (cond (eqb n 24) due.Magnitude (cond (eqb n 25) due.CloseBracket (cond (eqb n 26) due.Connective
    (cond (eqb n 27) due.CloseBrace (cond (eqb n 28) due.Hints (cond (eqb n 29) due.HintRest (cond
    (eqb n 30) due.GoalSplit (cond (eqb n 31) due.SplitName (cond (eqb n 32) due.SplitNames (cond
    (eqb n 33) due.SplitCut (cond (eqb n 34) due.Cut (cond (eqb n 35) due.Points (cond (eqb n 36)
    due.Needs (cond (eqb n 37) due.NeedRelation (cond (eqb n 38) due.Zero (cond (eqb n 39)
    due.MoreNeeds (cond (eqb n 40) due.Claim (other)))))))))))))))))))))))))))))))))))))))))

pub same_number : (a b : Due) → number_of a ≡ number_of b → a ≡ b
same_number a b e = sym (back a a) ∙ ap (λ n. due_with n a) e ∙ back b a
  where
    back : (x other : Due) → due_with (number_of x) other ≡ x
    back due.Script other = refl
    back due.NewName other = refl
    back due.DefinedBy other = refl
    back due.Equal other = refl
    back due.Operator other = refl
    back due.Less other = refl
    back due.Greater other = refl
    back due.Whole other = refl
    back due.WholeDigits other = refl
    back due.Direction other = refl
    back due.CloseOperator other = refl
    back due.Semicolon other = refl
    back due.Prop other = refl
    back due.Operand other = refl
    back due.Tail other = refl
    back due.OpenParen other = refl
    back due.CloseParen other = refl
    back due.CloseBar other = refl
    back due.Comma other = refl
    back due.Fix other = refl
    back due.Relation other = refl
    back due.In other = refl
    back due.Range other = refl
    back due.Bound other = refl
    back due.Magnitude other = refl
    back due.CloseBracket other = refl
    back due.Connective other = refl
    back due.CloseBrace other = refl
    back due.Hints other = refl
    back due.HintRest other = refl
    back due.GoalSplit other = refl
    back due.SplitName other = refl
    back due.SplitNames other = refl
    back due.SplitCut other = refl
    back due.Cut other = refl
    back due.Points other = refl
    back due.Needs other = refl
    back due.NeedRelation other = refl
    back due.Zero other = refl
    back due.MoreNeeds other = refl
    back due.Claim other = refl

-- the role of a word where these things are due
abbrev pub role_at : Word → List Due → Option Due
role_at w left = role_next (class_of w) left

abbrev pub checked : Option Due → Due → Option (List Due) → Option (List Due)
checked None role o = None
checked (Some r) role o = cond (eqb (number_of r) (number_of role)) o None

unfoldable pub step_as : Leaf → List Due → Option (List Due)
step_as l left = checked (role_at l.word left) l.role (step (class_of l.word) left)

unfoldable pub run_as : List Leaf → List Due → Option (List Due)
run_as [] left = Some left
run_as (l ∷ ls) left = option_and_then (run_as ls) (step_as l left)
