-- The nodes of an expression, word by word from the left, with a list of what waits for an operand,
-- the last first.
use Rattle.std.specs.Prelude.{List, [], ◌∷◌, Option, Some, None, Bool, true, false}
use Rattle.fx_model.specs.declared.Rounding.{Rounding}
use Rattle.fx_model.specs.declared.ExprId.{ExprId}
use Rattle.fx_model.specs.declared.Node.TheVariants.{Lit, Neg, Add, Sub, Mul, Div, Abs, Round}
use Rattle.script_words.specs.declared.class.Symbol.{Symbol}
use Rattle.script_words.specs.declared.class.Symbol.TheVariants as s
use Rattle.script_words.specs.Words.{Word, name, rounding, literal, sign}
use Rattle.script_shape.specs.declared.due.Due.{Due}
use Rattle.script_shape.specs.declared.due.Due.TheVariants as d
use Rattle.script_shape.specs.Roles.{Leaf}
use Rattle.script_nodes.specs.declared.waits.Waits.{Waits}
use Rattle.script_nodes.specs.declared.waits.Waits.TheVariants as wait
use Rattle.script_nodes.specs.OperatorWords.{operator_ended, whole_read, opposite_read}
use Rattle.script_nodes.specs.OperatorWords.{direction_read}
use Rattle.script_nodes.specs.Literals.{literal_of}
use Rattle.script_nodes.specs.Known.{Known, PlacedNode, put, named, no_rounding, operator_named}
use Rattle.script_nodes.specs.Values.{one_operand, two_operands, fused_sum}

-- what is known so far, and what waits, the last first
pub record Reading : Type 0 where
  pub known : Known
  pub waits : List Waits

-- this waits, too
abbrev pub then_waits : Waits → Reading → Reading
then_waits w r = record { known = r.known; waits = w ∷ r.waits }

-- the same with another list of what waits
abbrev pub with_waits : Reading → List Waits → Reading
with_waits r ws = record { known = r.known; waits = ws }

-- all that waits but the first
abbrev pub rest : List Waits → List Waits
rest [] = []
rest (w ∷ ws) = ws

-- the first is a minus
abbrev pub is_minus_first : List Waits → Bool
is_minus_first (wait.Minus ∷ ws) = true
is_minus_first ws = false

-- an operand that is read waits as a term
abbrev pub waiting : PlacedNode → List Waits → Reading
waiting p ws = record { known = p.0; waits = wait.Term p.1 ∷ ws }

-- a number is complete, and what waits for it is left
abbrev pub Complete : Type 0
Complete = PlacedNode × List Waits

-- ---- what a sign makes of the expression before it; where no term waits, nothing

-- an operation on the expression
abbrev pub then_operation : (ExprId → Waits) → Reading → Option Complete → Reading
then_operation w r (Some c) = record { known = c.0.0; waits = w c.0.1 ∷ c.1 }
then_operation w r None = r

-- an operation on the term
abbrev pub term_operation : (ExprId → Waits) → Reading → List Waits → Reading
term_operation w r (wait.Term v ∷ ws) = record { known = r.known; waits = w v ∷ ws }
term_operation w r ws = r

-- the comma behind an operand of an `fma`
abbrev pub parting : PlacedNode → List Waits → Reading
parting p (wait.Fma ∷ ws) = record { known = p.0; waits = wait.FmaWithOne p.1 ∷ ws }
parting p (wait.FmaWithOne a ∷ ws) = record { known = p.0; waits = wait.FmaWithTwo a p.1 ∷ ws }
parting p ws = waiting p ws

-- where a comma follows the expression; the same where none is finished
abbrev pub parted : Reading → Option Complete → Reading
parted r (Some c) = parting c.0 c.1
parted r None = r

-- a sign that an operand begins with
abbrev pub sign_operand : Symbol → Reading → Reading
sign_operand s.Minus r = then_waits wait.Minus r
sign_operand s.OpenParen r = then_waits wait.Paren r
sign_operand s.Bar r = then_waits wait.Bar r
sign_operand s.Fixed r = then_waits (wait.Operator no_rounding) r
sign_operand s.Int r = then_waits (wait.Operator no_rounding) r
sign_operand s.Fma r = then_waits wait.Fma r
sign_operand g r = r

module _ (q : Option Rounding) where
  -- ---- a factor is complete, a term, an expression

  -- What a factor makes: it is negated where signs wait for it, and then it ends the product or the
  -- quotient that waits for it.
  abbrev pub factor_done : List Waits → PlacedNode → Reading
  factor_done [] p = waiting p []
  factor_done (wait.Minus ∷ ws) p = factor_done ws (one_operand Neg p)
  factor_done (wait.Product u ∷ ws) p = waiting (two_operands q Mul u p) ws
  factor_done (wait.Quotient u ∷ ws) p = waiting (two_operands q Div u p) ws
  factor_done (w ∷ ws) p = waiting p (w ∷ ws)

  -- what a term makes: it is added or subtracted, where that waits for it
  abbrev pub term_done : Known → ExprId → List Waits → Complete
  term_done k v (wait.Sum u ∷ ws) = (two_operands q Add u (k, v), ws)
  term_done k v (wait.Difference u ∷ ws) = (two_operands q Sub u (k, v), ws)
  term_done k v ws = ((k, v), ws)

  -- the expression that its last term finishes, and what waits behind it
  abbrev pub expr_done : Reading → List Waits → Option Complete
  expr_done r (wait.Term v ∷ ws) = Some (term_done r.known v ws)
  expr_done r ws = None

  -- the sign that closes what was open before it
  abbrev pub closing : PlacedNode → List Waits → Reading
  closing p (wait.Paren ∷ ws) = factor_done ws p
  closing p (wait.Bar ∷ ws) = factor_done ws (one_operand Abs p)
  closing p (wait.Call r ∷ ws) = factor_done ws (one_operand (Round r) p)
  closing p (wait.FmaWithTwo a b ∷ ws) = factor_done ws (fused_sum q a b p)
  closing p ws = waiting p ws

  -- where a sign closes the expression; the same where none is finished
  abbrev pub closed : Reading → Option Complete → Reading
  closed r (Some c) = closing c.0 c.1
  closed r None = r

  -- ---- words, by their roles

  -- what a word makes where an operand is due
  abbrev pub operand : Word → Reading → Reading
  operand (literal k text) r = factor_done r.waits (put r.known (Lit (literal_of text)))
  operand (name k text) r = factor_done r.waits (named r.known text)
  operand (rounding k text) r = then_waits (wait.Call (operator_named r.known text)) r
  operand (sign g) r = sign_operand g r

  -- what a word makes where an operation is due
  abbrev pub operation : Word → Reading → Reading
  operation (sign s.Plus) r = then_operation wait.Sum r (expr_done r r.waits)
  operation (sign s.Minus) r = then_operation wait.Difference r (expr_done r r.waits)
  operation (sign s.Star) r = term_operation wait.Product r r.waits
  operation (sign s.Slash) r = term_operation wait.Quotient r r.waits
  operation w r = r

  -- what stands behind a word
  unfoldable pub read : Due → Word → Reading → Reading
  read d.Operand w r = operand w r
  read d.Tail w r = operation w r
  read d.CloseParen w r = closed r (expr_done r r.waits)
  read d.CloseBar w r = closed r (expr_done r r.waits)
  read d.Comma w r = parted r (expr_done r r.waits)
  read d.Whole w r = with_waits r (whole_read w r.waits)
  read d.WholeDigits w r = with_waits r (opposite_read w r.waits)
  read d.Direction w r = with_waits r (direction_read w r.waits)
  read d.Greater w r = with_waits r (operator_ended r.waits)
  read _ w r = r

  -- what the words make, one after the other
  unfoldable pub read_all : List Leaf → Reading → Reading
  read_all [] r = r
  read_all (l ∷ ls) r = read_all ls (read l.role l.word r)
