-- When two expressions are the same rational function.
use Rattle.std.specs.Prelude.{◌≡◌, ◌⊎◌, ◌<◌, ◌≤◌, ◌^◌, List, slice_index_or, length, Some}
use Rattle.fx_model.specs.Fraction.{Fraction}
use Rattle.fx_model.specs.Expression.{Assignment, value, IsOrdered}
use Rattle.fx_model.specs.declared.ExprId.{ExprId}
use Rattle.fx_model.specs.declared.Node.{Node}
use Rattle.fx_model.specs.declared.Node.TheVariants.{Var, Lit, Neg, Add, Sub, Mul, Div, Abs, Round}
use Rattle.poly_normal.specs.Polynomial.{IsEqual, term_count}
use Rattle.poly_normal.specs.Form.{Side, Form, form, product}
use Rattle.poly_normal.specs.declared.sameness.Sameness.{Sameness}
use Rattle.poly_normal.specs.declared.sameness.Sameness.TheVariants.{Same, Differs, TooLarge}

-- what a node is made of; an atom of nothing
abbrev pub IsOperand : Node → ExprId → Type 0
IsOperand (Var n) z = ⊥
IsOperand (Lit l) z = ⊥
IsOperand (Neg x) z = z ≡ x
IsOperand (Add x y) z = (z ≡ x) ⊎ (z ≡ y)
IsOperand (Sub x y) z = (z ≡ x) ⊎ (z ≡ y)
IsOperand (Mul x y) z = (z ≡ x) ⊎ (z ≡ y)
IsOperand (Div x y) z = (z ≡ x) ⊎ (z ≡ y)
IsOperand (Abs x) z = ⊥
IsOperand (Round r x) z = ⊥

-- The subexpressions of x, itself among them: the least set with x and the operands of its members.
pub data IsPart (nodes : List Node) (x : ExprId) : ExprId → Type 0 where
  itself : IsPart nodes x x
  operand : (y z : ExprId) (d : Node) → IsPart nodes x y
      → IsOperand (slice_index_or nodes y.0 d) z → IsPart nodes x z

-- The limits of one polynomial: weight below 2^127, degree at most 4,096, at most 256 terms.
abbrev pub IsTooLarge : Side → Type 0
IsTooLarge p = (2 ^ 127 ≤ p.weight) ⊎ (4096 < p.degree) ⊎ (256 < term_count p.polynomial)

-- The numerator or the denominator passes a limit.
abbrev pub HasTooLarge : Form → Type 0
HasTooLarge f = IsTooLarge f.top ⊎ IsTooLarge f.bottom

-- The cross products, which are equal where the two quotients are.
abbrev pub left_product : List Node → ExprId → ExprId → Side
left_product nodes a b = product (form nodes a).top (form nodes b).bottom

-- The numerator of `b` times the denominator of `a`.
abbrev pub right_product : List Node → ExprId → ExprId → Side
right_product nodes a b = product (form nodes b).top (form nodes a).bottom

-- A limit is passed in a subexpression of either side, or in a cross product.
abbrev pub PassesLimit : List Node → ExprId → ExprId → Type 0
PassesLimit nodes a b =
    ((x : ExprId) × (IsPart nodes a x ⊎ IsPart nodes b x) × HasTooLarge (form nodes x))
    ⊎ IsTooLarge (left_product nodes a b) ⊎ IsTooLarge (right_product nodes a b)

-- The cross products are equal polynomials.
abbrev pub AreEqual : List Node → ExprId → ExprId → Type 0
AreEqual nodes a b =
    IsEqual (left_product nodes a b).polynomial (right_product nodes a b).polynomial

-- When each answer comes.
abbrev pub Answers : List Node → ExprId → ExprId → Sameness → Type 0
Answers nodes a b Same = (¬ PassesLimit nodes a b) × AreEqual nodes a b
Answers nodes a b Differs = (¬ PassesLimit nodes a b) × (¬ AreEqual nodes a b)
Answers nodes a b TooLarge = PassesLimit nodes a b

-- Wherever both sides have a value, the two values are equal. No divisor that occurs is zero there,
-- and atoms have whatever value they have.
abbrev pub HaveEqualValues : List Node → ExprId → ExprId → Type 0
HaveEqualValues nodes a b = (v : Assignment) (r s : Fraction) → value nodes v a ≡ Some r
    → value nodes v b ≡ Some s → r ≡ s

-- Expressions of which the cross products are equal have equal values wherever both have one.
abbrev pub EqualFormsHaveEqualValues : Type 0
EqualFormsHaveEqualValues = (nodes : List Node) (a b : ExprId) → IsOrdered nodes
    → a.0 < length nodes → b.0 < length nodes → AreEqual nodes a b → HaveEqualValues nodes a b
