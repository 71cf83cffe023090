-- An expression as a quotient of two polynomials, with their weights and degrees.
use borrow.Author.Differences.{up, down}
use Rattle.std.specs.Prelude.{ℕ, ℤ, pos, ◌+◌, ◌*◌, ◌/◌, ◌%◌, ◌^◌, max, unsigned_abs, suc, zero}
use Rattle.std.specs.Prelude.{◌==◌, ◌&&◌, if◌then◌else◌, List, [], ◌∷◌, ◌++◌, slice_index_or}
use Rattle.std.specs.Prelude.{length}
use Rattle.fx_model.specs.declared.Literal.{Literal}
use Rattle.fx_model.specs.declared.ExprId.{ExprId}
use Rattle.fx_model.specs.declared.Node.{Node}
use Rattle.fx_model.specs.declared.Node.TheVariants.{Var, Lit, Neg, Add, Sub, Mul, Div, Abs, Round}
use Rattle.poly_normal.specs.Polynomial as polynomial
use Rattle.poly_normal.specs.Polynomial.{Polynomial}

-- A polynomial, its weight and its degree. Weight and degree are those of the way in which it was
-- made: they stay where terms cancel.
pub record Side : Type 0 where
  pub polynomial : Polynomial
  pub weight : ℕ
  pub degree : ℕ

-- A literal weighs its size, and has degree 0.
abbrev pub constant : ℤ → Side
constant z = record { polynomial = polynomial.constant z; weight = unsigned_abs z; degree = 0 }

-- An atom weighs 1, and has degree 1.
abbrev pub atom : ℕ → Side
atom i = record { polynomial = polynomial.atom i; weight = 1; degree = 1 }

-- The sum of two sides: weights add up, and the degree is the greater of the two.
abbrev pub sum : Side → Side → Side
sum p q = record {
  polynomial = polynomial.sum p.polynomial q.polynomial;
  weight = p.weight + q.weight;
  degree = max p.degree q.degree;
}

-- The side with its sign turned; weight and degree stay.
abbrev pub negation : Side → Side
negation p =
    record { polynomial = polynomial.negation p.polynomial; weight = p.weight; degree = p.degree }

-- a difference weighs what the sum weighs
abbrev pub difference : Side → Side → Side
difference p q = sum p (negation q)

-- The product of two sides: weights are multiplied, and degrees add up.
abbrev pub product : Side → Side → Side
product p q = record {
  polynomial = polynomial.product p.polynomial q.polynomial;
  weight = p.weight * q.weight;
  degree = p.degree + q.degree;
}

-- Numerator and denominator.
pub record Form : Type 0 where
  pub top : Side
  pub bottom : Side

-- the greatest number from 1 to n that divides both a and b
unfoldable pub common_divisor_to : ℕ → ℕ → ℕ → ℕ
common_divisor_to zero a b = 1
common_divisor_to (suc n) a b =
    if (a % suc n == 0) && (b % suc n == 0) then suc n else common_divisor_to n a b

-- num * 2^two * 10^ten = literal_top / literal_bottom, not reduced
abbrev pub literal_top : Literal → ℕ
literal_top l = (l.num * 2 ^ up l.two) * 10 ^ up l.ten

-- The denominator of a literal before it is reduced: its powers of two and ten with negative
-- exponents.
abbrev pub literal_bottom : Literal → ℕ
literal_bottom l = 2 ^ down l.two * 10 ^ down l.ten

-- the greatest common divisor of the two
abbrev pub literal_divisor : Literal → ℕ
literal_divisor l = common_divisor_to (literal_bottom l) (literal_top l) (literal_bottom l)

-- A literal is the reduced fraction.
abbrev pub literal_form : Literal → Form
literal_form l = record {
  top = constant (pos (literal_top l / literal_divisor l));
  bottom = constant (pos (literal_bottom l / literal_divisor l));
}

-- Atom `i`, over 1.
abbrev pub atom_form : ℕ → Form
atom_form i = record { top = atom i; bottom = constant (pos 1) }

-- The quotient with its sign turned: the numerator is negated, and the denominator stays.
abbrev pub negation_form : Form → Form
negation_form f = record { top = negation f.top; bottom = f.bottom }

-- The sum of two quotients, over the product of their denominators and not reduced.
abbrev pub sum_form : Form → Form → Form
sum_form f g = record {
  top = sum (product f.top g.bottom) (product g.top f.bottom);
  bottom = product f.bottom g.bottom;
}

-- The difference of two quotients, over the product of their denominators and not reduced.
abbrev pub difference_form : Form → Form → Form
difference_form f g = record {
  top = difference (product f.top g.bottom) (product g.top f.bottom);
  bottom = product f.bottom g.bottom;
}

-- The product of two quotients, numerator by numerator and denominator by denominator, not reduced.
abbrev pub product_form : Form → Form → Form
product_form f g = record { top = product f.top g.top; bottom = product f.bottom g.bottom }

-- The first quotient times the second turned upside down, not reduced; a divisor that is zero isn't
-- told apart.
abbrev pub quotient_form : Form → Form → Form
quotient_form f g = record { top = product f.top g.bottom; bottom = product f.bottom g.top }

-- The form of node i, from the forms of the nodes before it. Variables, absolute values and
-- roundings are atoms: what is inside isn't looked at.
abbrev pub node_form : ℕ → (ExprId → Form) → Node → Form
node_form i f (Var n) = atom_form i
node_form i f (Lit l) = literal_form l
node_form i f (Neg x) = negation_form (f x)
node_form i f (Add x y) = sum_form (f x) (f y)
node_form i f (Sub x y) = difference_form (f x) (f y)
node_form i f (Mul x y) = product_form (f x) (f y)
node_form i f (Div x y) = quotient_form (f x) (f y)
node_form i f (Abs x) = atom_form i
node_form i f (Round r x) = atom_form i

-- The forms of a list of nodes, one after another, with those of `done` before them.
unfoldable pub forms_after : List Form → List Node → List Form
forms_after done [] = done
forms_after done (n ∷ ns) = forms_after
    (done ++ (node_form (length done) (λ x. slice_index_or done x.0 (atom_form x.0)) n ∷ [])) ns

-- The form of expression x of a list of nodes. A number outside the list is an atom.
abbrev pub form : List Node → ExprId → Form
form nodes x = slice_index_or (forms_after [] nodes) x.0 (atom_form x.0)
