-- A reading with the nodes that what waits will add: no word adds more than the judge counts for
-- it.
use Rattle.std.proofs.Common.{◌≡◌, ℕ, ◌+◌, ◌≤◌, List, [], ◌∷◌, Option, Some, None, IfSome, Bool}
use Rattle.std.proofs.Common.{refl, ap, arith}
use Rattle.fx_model.specs.declared.Rounding.{Rounding}
use Rattle.fx_model.specs.declared.ExprId.{ExprId}
use Rattle.fx_model.specs.declared.Node.{Node}
use Rattle.fx_model.specs.declared.Node.TheVariants.{Lit, Neg, Add, Sub, Mul, Div, Abs, Round}
use Rattle.script_words.specs.declared.class.Symbol.{Symbol}
use Rattle.script_words.specs.declared.class.Symbol.TheVariants as s
use Rattle.script_words.specs.Words.{Word, name, rounding, literal, sign}
use Rattle.script_shape.specs.declared.due.Due.{Due}
use Rattle.script_shape.specs.declared.due.Due.TheVariants as d
use Rattle.script_judge.specs.Counts.{one_if, sign_nodes, operand_nodes, nodes_at}
use Rattle.script_judge.specs.Names.{plain_text, operand_name, is_some_apart, with_some}
use Rattle.script_nodes.specs.declared.waits.Waits.{Waits}
use Rattle.script_nodes.specs.declared.waits.Waits.TheVariants as wait
use Rattle.script_nodes.specs.Literals.{literal_of}
use Rattle.script_nodes.specs.Known.{Name, Known, PlacedNode, put, named}
use Rattle.script_nodes.specs.Values.{then_rounded, one_operand, fused_sum}
use Rattle.script_nodes.specs.OperatorWords.{with_lsb, operator_ended, whole_read, opposite_read}
use Rattle.script_nodes.specs.OperatorWords.{direction_read}
use Rattle.script_nodes.specs.Waits.{Reading, Complete, factor_done, term_done, expr_done, closing}
use Rattle.script_nodes.specs.Waits.{closed, parting, parted, then_operation, term_operation}
use Rattle.script_nodes.specs.Waits.{sign_operand, operand, operation, read}
use Rattle.script_grammar.proofs.Marks.{Free}
use Rattle.script_grammar.proofs.Sizes.{size, put_size, named_size}

-- the nodes of an operation's rounding
abbrev pub own : Option Rounding → ℕ
own None = 0
own (Some r) = 1

-- the nodes that what waits will add
abbrev pub weight : ℕ → Waits → ℕ
weight o (wait.Term x) = 0
weight o (wait.Sum x) = 1 + o
weight o (wait.Difference x) = 1 + o
weight o (wait.Product x) = 1 + o
weight o (wait.Quotient x) = 1 + o
weight o wait.Minus = 1
weight o wait.Paren = 0
weight o wait.Bar = 1
weight o (wait.Call r) = 1
weight o wait.Fma = 2 + o
weight o (wait.FmaWithOne x) = 2 + o
weight o (wait.FmaWithTwo x y) = 2 + o
weight o (wait.Operator r) = 1

abbrev pub weights : ℕ → List Waits → ℕ
weights o [] = 0
weights o (w ∷ ws) = weight o w + weights o ws

abbrev pub total : Option Rounding → List Name → List Name → Reading → ℕ
total q ops names r = size ops names r.known + weights (own q) r.waits

module _ (q : Option Rounding) (ops names : List Name) where
  abbrev load : List Waits → ℕ
  load ws = weights (own q) ws

  -- ---- operations

  rounded_size : (o : Option Rounding) (p : PlacedNode)
      → size ops names (then_rounded o p).0 ≤ own o + size ops names p.0
  rounded_size None p = omega arith
  rounded_size (Some r) p = put_size ops names p.0 (Round r p.1)

  two_size : (k : Known) (n : Node)
      → size ops names (then_rounded q (put k n)).0 ≤ 1 + own q + size ops names k
  two_size k n = let a = put_size ops names k n in let b = rounded_size q (put k n) in omega arith

  fused_size : (a b : ExprId) (p : PlacedNode)
      → size ops names (fused_sum q a b p).0 ≤ 2 + own q + size ops names p.0
  fused_size a b p =
      let c = put_size ops names p.0 (Mul a b) in
      let e = two_size (put p.0 (Mul a b)).0 (Add (put p.0 (Mul a b)).1 p.1) in
      omega arith

  -- ---- a factor is complete, a term, an expression

  factor_total : (ws : List Waits) (p : PlacedNode)
      → total q ops names (factor_done q ws p) ≤ size ops names p.0 + load ws
  factor_total [] p = omega arith
  factor_total (wait.Minus ∷ ws) p = let a = put_size ops names p.0 (Neg p.1) in
      let b = factor_total ws (one_operand Neg p) in omega arith
  factor_total (wait.Product u ∷ ws) p = let a = two_size p.0 (Mul u p.1) in omega arith
  factor_total (wait.Quotient u ∷ ws) p = let a = two_size p.0 (Div u p.1) in omega arith
  factor_total (w ∷ ws) p = omega arith

  -- what is left is no more than this
  abbrev pub IsLeft : Option Complete → ℕ → Type 0
  IsLeft o n = IfSome o (λ c. size ops names c.0.0 + load c.1 ≤ n)

  term_total : (k : Known) (v : ExprId) (ws : List Waits) → size ops names (term_done q k v ws).0.0
      + load (term_done q k v ws).1 ≤ size ops names k + load ws
  term_total k v [] = omega arith
  term_total k v (wait.Sum u ∷ ws) = let a = two_size k (Add u v) in omega arith
  term_total k v (wait.Difference u ∷ ws) = let a = two_size k (Sub u v) in omega arith
  term_total k v (w ∷ ws) = omega arith

  pub expr_total : (r : Reading) (ws : List Waits)
      → IsLeft (expr_done q r ws) (size ops names r.known + load ws)
  expr_total r [] = tt
  expr_total r (wait.Term v ∷ ws) = let a = term_total r.known v ws in omega arith
  expr_total r (w ∷ ws) = tt

  -- ---- signs

  closing_total : (p : PlacedNode) (ws : List Waits)
      → total q ops names (closing q p ws) ≤ size ops names p.0 + load ws
  closing_total p [] = omega arith
  closing_total p (wait.Paren ∷ ws) = let a = factor_total ws p in omega arith
  closing_total p (wait.Bar ∷ ws) = let a = put_size ops names p.0 (Abs p.1) in
      let b = factor_total ws (one_operand Abs p) in omega arith
  closing_total p (wait.Call r ∷ ws) = let a = put_size ops names p.0 (Round r p.1) in
      let b = factor_total ws (one_operand (Round r) p) in omega arith
  closing_total p (wait.FmaWithTwo x y ∷ ws) = let a = fused_size x y p in
      let b = factor_total ws (fused_sum q x y p) in omega arith
  closing_total p (w ∷ ws) = omega arith

  closed_total : (r : Reading) (o : Option Complete) → IsLeft o (total q ops names r)
      → total q ops names (closed q r o) ≤ total q ops names r
  closed_total r None h = omega arith
  closed_total r (Some c) h = let a = closing_total c.0 c.1 in omega arith

  parting_total : (p : PlacedNode) (ws : List Waits)
      → total q ops names (parting p ws) ≤ size ops names p.0 + load ws
  parting_total p [] = omega arith
  parting_total p (wait.Fma ∷ ws) = omega arith
  parting_total p (wait.FmaWithOne x ∷ ws) = omega arith
  parting_total p (w ∷ ws) = omega arith

  parted_total : (r : Reading) (o : Option Complete) → IsLeft o (total q ops names r)
      → total q ops names (parted r o) ≤ total q ops names r
  parted_total r None h = omega arith
  parted_total r (Some c) h = let a = parting_total c.0 c.1 in omega arith

  then_total : (w : ExprId → Waits) → ((x : ExprId) → weight (own q) (w x) ≡ 1 + own q)
      → (r : Reading) (o : Option Complete) → IsLeft o (total q ops names r)
      → total q ops names (then_operation w r o) ≤ total q ops names r + (1 + own q)
  then_total w e r None h = omega arith
  then_total w e r (Some c) h = omega (arith, e c.0.1)

  term_operation_total : (w : ExprId → Waits) → ((x : ExprId) → weight (own q) (w x) ≡ 1 + own q)
      → (r : Reading) (ws : List Waits) → r.waits ≡ ws
      → total q ops names (term_operation w r ws) ≤ total q ops names r + (1 + own q)
  term_operation_total w e r [] h = omega arith
  term_operation_total w e r (wait.Term v ∷ ws) h = omega (arith, e v, ap load h)
  term_operation_total w e r (v ∷ ws) h = omega arith

  lsb_load : (f : Rounding → Rounding) (ws : List Waits) → load (with_lsb f ws) ≡ load ws
  lsb_load f [] = refl
  lsb_load f (wait.Operator r ∷ ws) = refl
  lsb_load f (w ∷ ws) = refl

  whole_load : (w : Word) (ws : List Waits) → load (whole_read w ws) ≡ load ws
  whole_load (literal k text) ws = lsb_load _ ws
  whole_load (name k text) ws = refl
  whole_load (rounding k text) ws = refl
  whole_load (sign g) ws = refl

  opposite_load : (w : Word) (ws : List Waits) → load (opposite_read w ws) ≡ load ws
  opposite_load (literal k text) ws = lsb_load _ ws
  opposite_load (name k text) ws = refl
  opposite_load (rounding k text) ws = refl
  opposite_load (sign g) ws = refl

  direction_load : (w : Word) (ws : List Waits) → load (direction_read w ws) ≡ load ws
  direction_load (literal k text) ws = refl
  direction_load (name k text) ws = lsb_load _ ws
  direction_load (rounding k text) ws = lsb_load _ ws
  direction_load (sign g) ws = refl

  ended_load : (ws : List Waits) → load (operator_ended ws) ≡ load ws
  ended_load [] = refl
  ended_load (wait.Operator r ∷ ws) = refl
  ended_load (w ∷ ws) = refl

-- ---- words

-- the operations are rounded only where the judge says so
module _ (q : Option Rounding) (ops : List Name) (rounds : Bool)
    (same : own q ≤ one_if rounds) where
  sign_total : (names : List Name) (r : Reading) (g : Symbol)
      → total q ops names (sign_operand g r) ≤ total q ops names r + sign_nodes rounds g
  sign_total names r s.Minus = omega arith
  sign_total names r s.OpenParen = omega arith
  sign_total names r s.Bar = omega arith
  sign_total names r s.Fixed = omega arith
  sign_total names r s.Int = omega arith
  sign_total names r s.Fma = omega arith
  sign_total names r _ = omega arith

  operand_total : (names : List Name) (r : Reading) (w : Word)
      → Free ops w → total q ops (with_some (plain_text w) names) (operand q w r)
      ≤ total q ops names r + operand_nodes rounds (is_some_apart names (plain_text w)) w
  operand_total names r (literal k text) f =
      let a = put_size ops names r.known (Lit (literal_of text)) in
      let b = factor_total q ops names r.waits (put r.known (Lit (literal_of text))) in
      omega arith
  operand_total names r (name k text) f =
      let a = named_size ops names r.known text f in
      let b = factor_total q ops (text ∷ names) r.waits (named r.known text) in
      omega arith
  operand_total names r (rounding k text) f = omega arith
  operand_total names r (sign g) f = sign_total names r g

  operation_total : (names : List Name) (r : Reading) (w : Word)
      → total q ops names (operation q w r) ≤ total q ops names r + (1 + one_if rounds)
  operation_total names r (sign s.Plus) = let a = then_total q ops names wait.Sum (λ x. refl) r
      (expr_done q r r.waits) (expr_total q ops names r r.waits) in omega arith
  operation_total names r (sign s.Minus) = let a = then_total q ops names wait.Difference
      (λ x. refl) r (expr_done q r r.waits) (expr_total q ops names r r.waits) in omega arith
  operation_total names r (sign s.Star) = let a =
      term_operation_total q ops names wait.Product (λ x. refl) r r.waits refl in omega arith
  operation_total names r (sign s.Slash) = let a =
      term_operation_total q ops names wait.Quotient (λ x. refl) r r.waits refl in omega arith
  operation_total names r _ = omega arith

  pub read_total : (names : List Name) (r : Reading) (role : Due) (w : Word) → Free ops w
      → total q ops (with_some (operand_name role w) names) (read q role w r)
      ≤ total q ops names r + nodes_at rounds (is_some_apart names (operand_name role w)) role w
  unfolding read
  read_total names r d.Operand w f = operand_total names r w f
  read_total names r d.Tail w f = operation_total names r w
  read_total names r d.CloseParen w f = let a = closed_total q ops names r (expr_done q r r.waits)
      (expr_total q ops names r r.waits) in omega arith
  read_total names r d.CloseBar w f = let a = closed_total q ops names r (expr_done q r r.waits)
      (expr_total q ops names r r.waits) in omega arith
  read_total names r d.Comma w f = let a = parted_total q ops names r (expr_done q r r.waits)
      (expr_total q ops names r r.waits) in omega arith
  read_total names r d.Whole w f = omega (arith, whole_load q ops names w r.waits)
  read_total names r d.WholeDigits w f = omega (arith, opposite_load q ops names w r.waits)
  read_total names r d.Direction w f = omega (arith, direction_load q ops names w r.waits)
  read_total names r d.Greater w f = omega (arith, ended_load q ops names r.waits)
  read_total names r role w f = omega arith
