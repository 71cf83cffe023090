-- What has a node keeps it while words of hints are read.
use Rattle.std.proofs.Common.{List, [], ◌∷◌, Option, Some, None, IfSome}
use Rattle.fx_model.specs.declared.Rounding.{Rounding}
use Rattle.fx_model.specs.declared.ExprId.{ExprId}
use Rattle.fx_model.specs.declared.Node.{Node}
use Rattle.fx_model.specs.declared.Node.TheVariants.{Lit, Neg, Add, Sub, Mul, Div, Abs, Round}
use Rattle.script_words.specs.declared.class.Symbol.{Symbol}
use Rattle.script_words.specs.declared.class.Symbol.TheVariants as s
use Rattle.script_words.specs.Words.{Word, name, rounding, literal, sign}
use Rattle.script_shape.specs.declared.due.Due.{Due}
use Rattle.script_shape.specs.declared.due.Due.TheVariants as d
use Rattle.script_nodes.specs.declared.waits.Waits.{Waits}
use Rattle.script_nodes.specs.declared.waits.Waits.TheVariants as wait
use Rattle.script_nodes.specs.Literals.{literal_of}
use Rattle.script_nodes.specs.Known.{Known, PlacedNode, put, named}
use Rattle.script_nodes.specs.Values.{then_rounded, one_operand, fused_sum}
use Rattle.script_nodes.specs.Waits.{Reading, Complete, factor_done, term_done, expr_done, closing}
use Rattle.script_nodes.specs.Waits.{closed, parting, parted, then_operation, term_operation}
use Rattle.script_nodes.specs.Waits.{sign_operand, operand, operation, read}
use Rattle.script_hints.specs.Reading.{HintReading, ended_as, ended, variable_word, read_hint}
use Rattle.script_grammar.proofs.There.{Later, put_later, named_later}

itself : (k : Known) → Later k k
itself k text h = h

both : (a b c : Known) → Later a b → Later b c → Later a c
both a b c f g text h = g text (f text h)

module _ (q : Option Rounding) where
  -- ---- operations

  rounded_later : (o : Option Rounding) (p : PlacedNode) → Later p.0 (then_rounded o p).0
  rounded_later None p = itself p.0
  rounded_later (Some r) p = put_later p.0 (Round r p.1)

  two_later : (k : Known) (n : Node) → Later k (then_rounded q (put k n)).0
  two_later k n = both k (put k n).0 (then_rounded q (put k n)).0 (put_later k n)
      (rounded_later q (put k n))

  fused_later : (a b : ExprId) (p : PlacedNode) → Later p.0 (fused_sum q a b p).0
  fused_later a b p = both p.0 (put p.0 (Mul a b)).0 (fused_sum q a b p).0
      (put_later p.0 (Mul a b)) (two_later (put p.0 (Mul a b)).0 (Add (put p.0 (Mul a b)).1 p.1))

  -- ---- a factor is complete, a term, an expression

  factor_later : (ws : List Waits) (p : PlacedNode) → Later p.0 (factor_done q ws p).known
  factor_later [] p = itself p.0
  factor_later (wait.Minus ∷ ws) p =
      both p.0 (one_operand Neg p).0 (factor_done q ws (one_operand Neg p)).known
      (put_later p.0 (Neg p.1)) (factor_later ws (one_operand Neg p))
  factor_later (wait.Product u ∷ ws) p = two_later p.0 (Mul u p.1)
  factor_later (wait.Quotient u ∷ ws) p = two_later p.0 (Div u p.1)
  factor_later (w ∷ ws) p = itself p.0

  term_later : (k : Known) (v : ExprId) (ws : List Waits) → Later k (term_done q k v ws).0.0
  term_later k v [] = itself k
  term_later k v (wait.Sum u ∷ ws) = two_later k (Add u v)
  term_later k v (wait.Difference u ∷ ws) = two_later k (Sub u v)
  term_later k v (w ∷ ws) = itself k

  -- what is complete is behind it
  abbrev IsLater : Known → Option Complete → Type 0
  IsLater k o = IfSome o (λ c. Later k c.0.0)

  expr_later : (r : Reading) (ws : List Waits) → IsLater r.known (expr_done q r ws)
  expr_later r [] = tt
  expr_later r (wait.Term v ∷ ws) = term_later r.known v ws
  expr_later r (w ∷ ws) = tt

  -- ---- signs

  closing_later : (p : PlacedNode) (ws : List Waits) → Later p.0 (closing q p ws).known
  closing_later p [] = itself p.0
  closing_later p (wait.Paren ∷ ws) = factor_later ws p
  closing_later p (wait.Bar ∷ ws) =
      both p.0 (one_operand Abs p).0 (factor_done q ws (one_operand Abs p)).known
      (put_later p.0 (Abs p.1)) (factor_later ws (one_operand Abs p))
  closing_later p (wait.Call r ∷ ws) =
      both p.0 (one_operand (Round r) p).0 (factor_done q ws (one_operand (Round r) p)).known
      (put_later p.0 (Round r p.1)) (factor_later ws (one_operand (Round r) p))
  closing_later p (wait.FmaWithTwo x y ∷ ws) =
      both p.0 (fused_sum q x y p).0 (factor_done q ws (fused_sum q x y p)).known
      (fused_later x y p) (factor_later ws (fused_sum q x y p))
  closing_later p (w ∷ ws) = itself p.0

  closed_later : (r : Reading) (o : Option Complete) → IsLater r.known o
      → Later r.known (closed q r o).known
  closed_later r None h = itself r.known
  closed_later r (Some c) h =
      both r.known c.0.0 (closing q c.0 c.1).known h (closing_later c.0 c.1)

  parting_later : (p : PlacedNode) (ws : List Waits) → Later p.0 (parting p ws).known
  parting_later p [] = itself p.0
  parting_later p (wait.Fma ∷ ws) = itself p.0
  parting_later p (wait.FmaWithOne x ∷ ws) = itself p.0
  parting_later p (w ∷ ws) = itself p.0

  parted_later : (r : Reading) (o : Option Complete) → IsLater r.known o
      → Later r.known (parted r o).known
  parted_later r None h = itself r.known
  parted_later r (Some c) h =
      both r.known c.0.0 (parting c.0 c.1).known h (parting_later c.0 c.1)

  then_later : (w : ExprId → Waits) (r : Reading) (o : Option Complete) → IsLater r.known o
      → Later r.known (then_operation w r o).known
  then_later w r None h = itself r.known
  then_later w r (Some c) h = h

  term_operation_later : (w : ExprId → Waits) (r : Reading) (ws : List Waits)
      → Later r.known (term_operation w r ws).known
  term_operation_later w r [] = itself r.known
  term_operation_later w r (wait.Term v ∷ ws) = itself r.known
  term_operation_later w r (v ∷ ws) = itself r.known

  sign_later : (r : Reading) (g : Symbol) → Later r.known (sign_operand g r).known
  sign_later r s.Minus = itself r.known
  sign_later r s.OpenParen = itself r.known
  sign_later r s.Bar = itself r.known
  sign_later r s.Fixed = itself r.known
  sign_later r s.Int = itself r.known
  sign_later r s.Fma = itself r.known
  sign_later r _ = itself r.known

  operand_later : (r : Reading) (w : Word) → Later r.known (operand q w r).known
  operand_later r (literal k text) =
      both r.known (put r.known (Lit (literal_of text))).0
      (factor_done q r.waits (put r.known (Lit (literal_of text)))).known
      (put_later r.known (Lit (literal_of text)))
      (factor_later r.waits (put r.known (Lit (literal_of text))))
  operand_later r (name k text) =
      both r.known (named r.known text).0 (factor_done q r.waits (named r.known text)).known
      (named_later r.known text) (factor_later r.waits (named r.known text))
  operand_later r (rounding k text) = itself r.known
  operand_later r (sign g) = sign_later r g

  operation_later : (r : Reading) (w : Word) → Later r.known (operation q w r).known
  operation_later r (sign s.Plus) =
      then_later wait.Sum r (expr_done q r r.waits) (expr_later r r.waits)
  operation_later r (sign s.Minus) =
      then_later wait.Difference r (expr_done q r r.waits) (expr_later r r.waits)
  operation_later r (sign s.Star) = term_operation_later wait.Product r r.waits
  operation_later r (sign s.Slash) = term_operation_later wait.Quotient r r.waits
  operation_later r _ = itself r.known

  pub read_later : (r : Reading) (role : Due) (w : Word) → Later r.known (read q role w r).known
  unfolding read
  read_later r d.Operand w = operand_later r w
  read_later r d.Tail w = operation_later r w
  read_later r d.CloseParen w = closed_later r (expr_done q r r.waits) (expr_later r r.waits)
  read_later r d.CloseBar w = closed_later r (expr_done q r r.waits) (expr_later r r.waits)
  read_later r d.Comma w = parted_later r (expr_done q r r.waits) (expr_later r r.waits)
  read_later r role w = itself r.known

-- ---- words of hints

ended_as_later : (r : Reading) (o : Option Complete) → IsLater None r.known o
    → Later r.known (ended_as r o).0.known
ended_as_later r None h = itself r.known
ended_as_later r (Some c) h = h

ended_later : (r : Reading) → Later r.known (ended r).0.known
ended_later r = ended_as_later r (expr_done None r r.waits) (expr_later None r r.waits)

variable_later : (r : HintReading) (w : Word)
    → Later r.reading.known (variable_word w r).reading.known
variable_later r (name k text) = named_later r.reading.known text
variable_later r (rounding k text) = named_later r.reading.known text
variable_later r (literal k text) = itself r.reading.known
variable_later r (sign g) = itself r.reading.known

pub hint_later : (r : HintReading) (role : Due) (w : Word)
    → Later r.reading.known (read_hint role w r).reading.known
unfolding read_hint
hint_later r d.HintRest w = ended_later r.reading
hint_later r d.GoalSplit w = ended_later r.reading
hint_later r d.Needs w = ended_later r.reading
hint_later r d.NeedRelation w = ended_later r.reading
hint_later r d.Semicolon w = ended_later r.reading
hint_later r d.Bound w = itself r.reading.known
hint_later r d.Magnitude w = itself r.reading.known
hint_later r d.Hints w = itself r.reading.known
hint_later r d.SplitName w = variable_later r w
hint_later r d.Cut w = itself r.reading.known
hint_later r role w = read_later None r.reading role w
