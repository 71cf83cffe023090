-- The nodes of an expression, by recursion on its tree: operands from the left, then the operation,
-- then its rounding.
use Rattle.std.specs.Prelude.{Option, Some, None}
use Rattle.fx_model.specs.declared.Rounding.{Rounding}
use Rattle.fx_model.specs.declared.ExprId.{ExprId}
use Rattle.fx_model.specs.declared.Node.{Node}
use Rattle.fx_model.specs.declared.Node.TheVariants.{Lit, Neg, Add, Sub, Mul, Div, Abs, Round}
use Rattle.script_shape.specs.Expressions.{Expr, term, sum, difference, Term, factor, product}
use Rattle.script_shape.specs.Expressions.{quotient, Factor, negation, atom, Atom, number, variable}
use Rattle.script_shape.specs.Expressions.{parenthesized, absolute, called, rounded, fused}
use Rattle.script_nodes.specs.Literals.{literal_of}
use Rattle.script_nodes.specs.Operators.{rounding_of}
use Rattle.script_nodes.specs.Known.{Known, PlacedNode, put, named, operator_named}

-- an operation, rounded where the definition's operations are
abbrev pub then_rounded : Option Rounding → PlacedNode → PlacedNode
then_rounded None p = p
then_rounded (Some r) p = put p.0 (Round r p.1)

-- the operation's node behind those of its operand
abbrev pub one_operand : (ExprId → Node) → PlacedNode → PlacedNode
one_operand op a = put a.0 (op a.1)

-- the node of the operation behind those of its operands, and its rounding
abbrev pub two_operands : Option Rounding → (ExprId → ExprId → Node) → ExprId
    → PlacedNode → PlacedNode
two_operands q op a b = then_rounded q (put b.0 (op a b.1))

-- the sum of a product and a number, of which the sum alone is rounded
abbrev pub product_sum : Option Rounding → PlacedNode → ExprId → PlacedNode
product_sum q p c = then_rounded q (put p.0 (Add p.1 c))

-- the node of the product a * b behind those of c, the node of its sum with c, and its rounding
abbrev pub fused_sum : Option Rounding → ExprId → ExprId → PlacedNode → PlacedNode
fused_sum q a b c = product_sum q (put c.0 (Mul a b)) c.1

-- the last operand's nodes behind those of the first two, and then the product and the sum
abbrev pub fused_last : Option Rounding → ExprId → PlacedNode → (Known → PlacedNode) → PlacedNode
fused_last q x y c = fused_sum q x y.1 (c y.0)

-- the operands of an `fma` from the left
abbrev pub fused_operands : Option Rounding → PlacedNode → (Known → PlacedNode)
    → (Known → PlacedNode) → PlacedNode
fused_operands q x b c = fused_last q x.1 (b x.0) c

-- Under `name op= expr` each sum, difference, product and quotient is rounded by op, and each `fma`
-- once. Literals, names, minus, bars and the operators that are written aren't.
module _ (q : Option Rounding) where
  abbrev mutual
    pub expr_value : Expr → Known → PlacedNode
    expr_value (term t) k = term_value t k
    expr_value (sum e t) k = two_operands q Add (expr_value e k).1 (term_value t (expr_value e k).0)
    expr_value (difference e t) k =
        two_operands q Sub (expr_value e k).1 (term_value t (expr_value e k).0)

    pub term_value : Term → Known → PlacedNode
    term_value (factor f) k = factor_value f k
    term_value (product t f) k =
        two_operands q Mul (term_value t k).1 (factor_value f (term_value t k).0)
    term_value (quotient t f) k =
        two_operands q Div (term_value t k).1 (factor_value f (term_value t k).0)

    pub factor_value : Factor → Known → PlacedNode
    factor_value (negation f) k = one_operand Neg (factor_value f k)
    factor_value (atom a) k = atom_value a k

    pub atom_value : Atom → Known → PlacedNode
    atom_value (number kind text) k = put k (Lit (literal_of text))
    atom_value (variable kind text) k = named k text
    atom_value (parenthesized e) k = expr_value e k
    atom_value (absolute e) k = one_operand Abs (expr_value e k)
    atom_value (called kind text e) k = one_operand (Round (operator_named k text)) (expr_value e k)
    atom_value (rounded o e) k = one_operand (Round (rounding_of o)) (expr_value e k)
    atom_value (fused a b c) k = fused_operands q (expr_value a k) (expr_value b) (expr_value c)
