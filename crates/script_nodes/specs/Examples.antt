-- Nodes of small scripts, worked out by hand.
use Rattle.std.specs.Prelude.{◌≡◌, ℕ, pos, negsuc, codes, List, [], ◌∷◌, Option, Some, None, refl}
use Rattle.fx_model.specs.declared.Direction.TheVariants.{Dn}
use Rattle.fx_model.specs.declared.Rounding.{Rounding}
use Rattle.fx_model.specs.declared.ExprId.{ExprId}
use Rattle.fx_model.specs.declared.Node.{Node}
use Rattle.fx_model.specs.declared.Node.TheVariants.{Var, Lit, Neg, Add, Sub, Mul, Div, Abs, Round}
use Rattle.script_words.specs.declared.class.Spelled.TheVariants.{Plain}
use Rattle.script_words.specs.declared.class.Number.TheVariants.{Digits, Other}
use Rattle.script_shape.specs.Expressions.{Expr, term, sum, difference, Term, factor, product}
use Rattle.script_shape.specs.Expressions.{quotient, negation, atom, Atom, number, variable}
use Rattle.script_shape.specs.Expressions.{absolute, rounded, fused, free, digits, opposite, fixed}
use Rattle.script_shape.specs.Expressions.{int, plain}
use Rattle.script_shape.specs.Tree.{exactly, rounded_joined, names_value}
use Rattle.script_nodes.specs.Literals.{parts_of, tens_out, twos_out, literal_of}
use Rattle.script_nodes.specs.Operators.{direction_of, number_of}
use Rattle.script_nodes.specs.Known.{nothing_known, put, variable_put, named}
use Rattle.script_nodes.specs.Values.{expr_value}
use Rattle.script_nodes.specs.Definitions.{definition_value}

abbrev id : ℕ → ExprId
id n = record { 0 = n }

abbrev x_atom : Atom
x_atom = variable Plain (codes "x")

abbrev y_atom : Atom
y_atom = variable Plain (codes "y")

abbrev lone : Atom → Term
lone a = factor (atom a)

abbrev times : Atom → Atom → Term
times a b = product (lone a) (atom b)

abbrev nodes_of : Option Rounding → Expr → List Node
nodes_of q e = (expr_value q e nothing_known).0.nodes

-- `x*y - x*x`
order : nodes_of None (difference (term (times x_atom y_atom)) (times x_atom x_atom))
    ≡ Var 0 ∷ Var 1 ∷ Mul (id 0) (id 1) ∷ Mul (id 0) (id 0) ∷ Sub (id 2) (id 3) ∷ []
unfolding put variable_put named
order = refl

-- `0.5 + 0.50 * 1b-1`: two spellings of one normal form, and a number that is another literal
shared : nodes_of None (sum (term (lone (number Other (codes "0.5"))))
    (times (number Other (codes "0.50")) (number Other (codes "1b-1"))))
    ≡ Lit (record { num = 5; two = pos 0; ten = negsuc 0 }) ∷ Lit
    (record { num = 1; two = negsuc 0; ten = pos 0 }) ∷ Mul (id 0) (id 1) ∷ Add (id 0) (id 2) ∷ []
unfolding put parts_of tens_out twos_out literal_of
shared = refl

-- `-|x|`
bars : nodes_of None (term (factor (negation (atom (absolute (term (lone x_atom)))))))
    ≡ Var 0 ∷ Abs (id 0) ∷ Neg (id 1) ∷ []
unfolding put variable_put named
bars = refl

abbrev r : Rounding
r = record { lsb = negsuc 3; dir = Dn }

-- `z fixed<-4,dn>= x*x + 1/3;`
rounds : (definition_value (names_value (plain Plain (codes "z"))
    (rounded_joined (fixed (opposite (digits (codes "4"))) (free (codes "dn"))))
    (sum (term (times x_atom x_atom)) (quotient (lone (number Digits (codes "1")))
    (atom (number Digits (codes "3")))))) nothing_known).nodes
    ≡ Var 0 ∷ Mul (id 0) (id 0) ∷ Round r (id 1)
    ∷ Lit (record { num = 1; two = pos 0; ten = pos 0 })
    ∷ Lit (record { num = 3; two = pos 0; ten = pos 0 }) ∷ Div (id 3) (id 4) ∷ Round r (id 5)
    ∷ Add (id 2) (id 6) ∷ Round r (id 7) ∷ []
unfolding put variable_put named parts_of tens_out literal_of direction_of number_of
rounds = refl

-- `fma(x, y, int<dn>(x))` under a rounding: the sum is rounded once, and the written operator isn't
fma_rounds : nodes_of (Some r) (term (lone (fused (term (lone x_atom)) (term (lone y_atom))
    (term (lone (rounded (int (free (codes "dn"))) (term (lone x_atom))))))))
    ≡ Var 0 ∷ Var 1 ∷ Round (record { lsb = pos 0; dir = Dn }) (id 0) ∷ Mul (id 0) (id 1)
    ∷ Add (id 3) (id 2) ∷ Round r (id 4) ∷ []
unfolding put variable_put named direction_of
fma_rounds = refl

-- `y = x;` and then `y + z`: an alias is the node of what it stands for, and no variable
alias : (expr_value None (sum (term (lone y_atom)) (lone (variable Plain (codes "z"))))
    (definition_value (names_value (plain Plain (codes "y")) exactly (term (lone x_atom)))
    nothing_known)).0.nodes ≡ Var 0 ∷ Var 1 ∷ Add (id 0) (id 1) ∷ []
unfolding put variable_put named
alias = refl
