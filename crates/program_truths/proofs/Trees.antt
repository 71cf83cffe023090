-- The tree of a program's script.
use Rattle.std.proofs.Common.{ℕ, ℤ, pos, negsuc, zero, suc, codes, List, [], ◌∷◌, ◌++◌, map}
use Rattle.std.specs.Fmt.{decimal}
use Rattle.std.specs.Str.Parse.{digits_value}
use Rattle.script_words.specs.Named.{spelled_of, number_of}
use Rattle.script_shape.specs.Expressions.{plain, free, zero_alone, digits, Whole, natural}
use Rattle.script_shape.specs.Expressions.{opposite, Bound, unsigned, positive, negative, fixed}
use Rattle.script_shape.specs.Expressions.{Expr, term, sum, difference, factor, product, negation}
use Rattle.script_shape.specs.Expressions.{atom, Atom, number, variable, rounded}
use Rattle.script_shape.specs.Tree.{exactly, Definition, names_value, Script, formula, define}
use Rattle.script_shape.specs.Propositions.{asked, between, Prop, lies_in, multiple, affirmed}
use Rattle.script_shape.specs.Propositions.{Formula, single, and, implies}
use Rattle.script_shape.specs.Hints.{no_hint}
use Rattle.fixprog.specs.declared.program.Mark.{Mark}
use Rattle.fixprog.specs.declared.program.Mark.TheVariants as mark
use Rattle.fixprog.specs.Words.{Name}
use Rattle.fixprog.specs.Grammar.{Operand, named, given, Operation, copy, negation as minus}
use Rattle.fixprog.specs.Grammar.{sum as added, difference as subtracted, product as multiplied}
use Rattle.fixprog.specs.Grammar.{shift_right, shift_left, Bound as End, Input, Step, Program}
use Rattle.fixprog.specs.Grammar.{outputs}
use Rattle.fixprog.specs.declared.format.Format.{Format}
use Rattle.fixprog.specs.Formats.{format_of, least, greatest}
use Rattle.fixprog.specs.Execution.{way_text}
use Rattle.fixprog.specs.Turned.{last_place_text}

-- ---- definitions of steps

-- the number `-F`, and `0` where F is 0
abbrev pub place_whole : ℕ → Whole
place_whole zero = natural (zero_alone (codes "0"))
place_whole (suc k) = opposite (digits (decimal (suc k)))

abbrev pub name_atom : Name → Atom
name_atom t = variable (spelled_of t) t

abbrev pub literal_atom : List ℕ → Atom
literal_atom t = number (number_of t) t

abbrev pub operand_atom : Operand → Atom
operand_atom (named t) = name_atom t
operand_atom (given t) = literal_atom t

abbrev pub product_of : Atom → Atom → Expr
product_of a b = term (product (factor (atom a)) (atom b))

abbrev pub operation_expr : Operation → Expr
operation_expr (copy a) = term (factor (atom (operand_atom a)))
operation_expr (minus a) = term (factor (negation (atom (operand_atom a))))
operation_expr (added a b) = sum (term (factor (atom (operand_atom a))))
    (factor (atom (operand_atom b)))
operation_expr (subtracted a b) = difference (term (factor (atom (operand_atom a))))
    (factor (atom (operand_atom b)))
operation_expr (multiplied a b) = product_of (operand_atom a) (operand_atom b)
operation_expr (shift_right a k) = product_of (operand_atom a)
    (literal_atom (codes "1b-" ++ decimal (digits_value 10 k.text)))
operation_expr (shift_left a k) = product_of (operand_atom a)
    (literal_atom (codes "1b" ++ decimal (digits_value 10 k.text)))

abbrev pub step_expr : Step → Expr
step_expr x = term (factor (atom (rounded (fixed (place_whole (format_of x.format).places)
    (free (way_text x.way))) (operation_expr x.operation))))

abbrev pub step_definition : Step → Definition
step_definition x = names_value (plain (spelled_of x.name) x.name) exactly (step_expr x)

-- ---- propositions

abbrev pub name_expr : Name → Expr
name_expr t = term (factor (atom (name_atom t)))

abbrev pub marked : Mark → List ℕ → Bound
marked mark.Unmarked t = unsigned (number_of t) t
marked mark.Plus t = positive (number_of t) t
marked mark.Minus t = negative (number_of t) t

abbrev pub end_bound : End → Bound
end_bound e = marked e.mark e.text

abbrev pub range_prop : Input → Prop
range_prop x = lies_in (name_expr x.name) (between (end_bound x.lower) (end_bound x.upper))

abbrev pub place_prop : Input → Prop
place_prop x = multiple (free (codes "FIX")) (name_expr x.name)
    (place_whole (format_of x.format).places)

-- the number w * 2^L, as it is written
abbrev pub word_literal : ℕ → Format → List ℕ
word_literal n f = decimal n ++ (codes "b" ++ last_place_text f)

abbrev pub word_bound : ℤ → Format → Bound
word_bound (pos n) f = unsigned (number_of (word_literal n f)) (word_literal n f)
word_bound (negsuc n) f = negative (number_of (word_literal (suc n) f)) (word_literal (suc n) f)

abbrev pub format_prop : Step → Prop
format_prop x = lies_in (name_expr x.name) (between (word_bound (least (format_of x.format))
    (format_of x.format)) (word_bound (greatest (format_of x.format)) (format_of x.format)))

abbrev pub output_prop : Name → Prop
output_prop t = lies_in (name_expr t) asked

-- ---- the formula

abbrev pub input_props : List Input → List Prop
input_props [] = []
input_props (x ∷ xs) = range_prop x ∷ (place_prop x ∷ input_props xs)

abbrev pub goal_props : Program → List Prop
goal_props p = map format_prop p.steps ++ map output_prop (outputs p)

-- a proposition as it stands: alone, behind `/\`, and behind `->`
abbrev pub alone : Prop → Formula
alone p = single (affirmed p)

abbrev pub also : Formula → Prop → Formula
also f p = and f (affirmed p)

abbrev pub so : Formula → Prop → Formula
so f p = implies f (affirmed p)

abbrev pub and_all : Formula → List Prop → Formula
and_all f [] = f
and_all f (g ∷ gs) = and_all (also f g) gs

-- the goals behind what was joined before
abbrev pub goals_behind : Formula → List Prop → Formula
goals_behind f [] = f
goals_behind f (g ∷ gs) = and_all (so f g) gs

-- There is a goal: a program has an output.
abbrev pub goals_alone : List Prop → Formula
goals_alone [] = alone (output_prop [])
goals_alone (g ∷ gs) = and_all (alone g) gs

abbrev pub formula_of : List Prop → List Prop → Formula
formula_of [] goals = goals_alone goals
formula_of (h ∷ hs) goals = goals_behind (and_all (alone h) hs) goals

abbrev pub program_formula : Program → Formula
program_formula p = formula_of (input_props p.inputs) (goal_props p)

abbrev pub script_from : Formula → List Step → Script
script_from f [] = formula f no_hint
script_from f (x ∷ xs) = define (step_definition x) (script_from f xs)

abbrev pub tree_of : Program → Script
tree_of p = script_from (program_formula p) p.steps
