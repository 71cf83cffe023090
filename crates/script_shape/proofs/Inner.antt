-- The roles of the words of expressions and of what else stands inside a proposition, a definition
-- or a hint.
use Rattle.std.specs.Prelude.{List, [], ◌∷◌, ◌++◌}
use Rattle.script_words.specs.declared.class.Spelled.{Spelled}
use Rattle.script_words.specs.declared.class.Spelled.TheVariants as spelled
use Rattle.script_words.specs.declared.class.Symbol.TheVariants as s
use Rattle.script_words.specs.Words.{sign}
use Rattle.script_shape.specs.declared.due.Due.{Due}
use Rattle.script_shape.specs.declared.due.Due.TheVariants as d
use Rattle.script_shape.specs.Expressions.{AnyName, plain, operator, Special, free, defined, Digits}
use Rattle.script_shape.specs.Expressions.{zero_alone, digits, Whole, natural, opposite, Bound}
use Rattle.script_shape.specs.Expressions.{unsigned, positive, negative, Operator, fixed, int, Expr}
use Rattle.script_shape.specs.Expressions.{term, sum, difference, Term, factor, product, quotient}
use Rattle.script_shape.specs.Expressions.{Factor, negation, atom, Atom, number, variable}
use Rattle.script_shape.specs.Expressions.{parenthesized, absolute, called, rounded, fused}
use Rattle.script_shape.specs.Roles.{Leaf, at, name_leaves, special_leaves, digits_leaves}
use Rattle.script_shape.specs.Roles.{whole_leaves, bound_leaves, operator_leaves, expr_leaves}
use Rattle.script_shape.specs.Roles.{term_leaves, factor_leaves, atom_leaves}

-- each word has a role of this sort
abbrev pub EachRole : (Due → Type 0) → List Leaf → Type 0
EachRole P [] = Unit {0}
EachRole P (l ∷ ls) = P l.role × EachRole P ls

pub each_of_both : (P : Due → Type 0) (a b : List Leaf) → EachRole P a
    → EachRole P b → EachRole P (a ++ b)
each_of_both P [] b p q = q
each_of_both P (l ∷ a) b p q = (p.0, each_of_both P a b p.1 q)

pub each_as : (P Q : Due → Type 0) → ((r : Due) → P r → Q r) → (ls : List Leaf)
    → EachRole P ls → EachRole Q ls
each_as P Q f [] p = tt
each_as P Q f (l ∷ ls) p = (f l.role p.0, each_as P Q f ls p.1)

-- what may be due in an expression
abbrev pub IsInner : Due → Type 0
IsInner d.Operand = Unit {0}
IsInner d.Tail = Unit {0}
IsInner d.OpenParen = Unit {0}
IsInner d.CloseParen = Unit {0}
IsInner d.CloseBar = Unit {0}
IsInner d.Comma = Unit {0}
IsInner d.Less = Unit {0}
IsInner d.Whole = Unit {0}
IsInner d.WholeDigits = Unit {0}
IsInner d.Direction = Unit {0}
IsInner d.Greater = Unit {0}
IsInner r = ⊥

pub name_roles : (P : Due → Type 0) (r : Due) (n : AnyName) → P r → EachRole P (name_leaves r n)
name_roles P r (plain k t) p = (p, tt)
name_roles P r (operator k t) p = (p, tt)

pub special_roles : (P : Due → Type 0) (r : Due) (k : Spelled) (x : Special) → P r
    → EachRole P (special_leaves r k x)
special_roles P r k (free t) p = (p, tt)
special_roles P r k (defined t) p = (p, tt)

pub digits_roles : (P : Due → Type 0) (r : Due) (n : Digits) → P r → EachRole P (digits_leaves r n)
digits_roles P r (zero_alone t) p = (p, tt)
digits_roles P r (digits t) p = (p, tt)

pub bound_roles : (P : Due → Type 0) (b : Bound) → P d.Bound → P d.Magnitude
    → EachRole P (bound_leaves b)
bound_roles P (unsigned k t) p q = (p, tt)
bound_roles P (positive k t) p q = (p, (q, tt))
bound_roles P (negative k t) p q = (p, (q, tt))

pub whole_inner : (l : Whole) → EachRole IsInner (whole_leaves l)
whole_inner (natural n) = digits_roles IsInner d.Whole n tt
whole_inner (opposite n) = (tt, digits_roles IsInner d.WholeDigits n tt)

-- an operator behind its first word
abbrev pub operator_rest : Operator → List Leaf
operator_rest (fixed l x) = at d.Less (sign s.Less) ∷ (whole_leaves l
    ++ (at d.Comma (sign s.Comma) ∷ special_leaves d.Direction spelled.Direction x))
operator_rest (int x) = at d.Less (sign s.Less) ∷ special_leaves d.Direction spelled.Direction x

pub operator_inner : (o : Operator) → EachRole IsInner (operator_rest o)
operator_inner (fixed l x) = (
  tt,
  each_of_both IsInner (whole_leaves l) _ (whole_inner l)
      (tt, special_roles IsInner d.Direction spelled.Direction x tt),
)
operator_inner (int x) = (tt, special_roles IsInner d.Direction spelled.Direction x tt)

-- all of an operator, whose first word has a role of its own
pub operator_roles : (P : Due → Type 0) (r : Due) (o : Operator) → P r
    → ((x : Due) → IsInner x → P x) → EachRole P (operator_leaves r o)
operator_roles P r (fixed l x) p f =
    (p, each_as IsInner P f (operator_rest (fixed l x)) (operator_inner (fixed l x)))
operator_roles P r (int x) p f =
    (p, each_as IsInner P f (operator_rest (int x)) (operator_inner (int x)))

-- an expression, and a sign that closes it
closed_by : (e : Expr) (l : Leaf) → IsInner l.role → EachRole IsInner (expr_leaves e)
    → EachRole IsInner (expr_leaves e ++ (l ∷ []))
closed_by e l p q = each_of_both IsInner (expr_leaves e) (l ∷ []) q (p, tt)

mutual
  pub expr_inner : (e : Expr) → EachRole IsInner (expr_leaves e)
  expr_inner (term t) = term_inner t
  expr_inner (sum e t) = each_of_both IsInner (expr_leaves e) _ (expr_inner e) (tt, term_inner t)
  expr_inner (difference e t) =
      each_of_both IsInner (expr_leaves e) _ (expr_inner e) (tt, term_inner t)

  term_inner : (t : Term) → EachRole IsInner (term_leaves t)
  term_inner (factor f) = factor_inner f
  term_inner (product t f) =
      each_of_both IsInner (term_leaves t) _ (term_inner t) (tt, factor_inner f)
  term_inner (quotient t f) =
      each_of_both IsInner (term_leaves t) _ (term_inner t) (tt, factor_inner f)

  factor_inner : (f : Factor) → EachRole IsInner (factor_leaves f)
  factor_inner (negation f) = (tt, factor_inner f)
  factor_inner (atom a) = atom_inner a

  atom_inner : (a : Atom) → EachRole IsInner (atom_leaves a)
  atom_inner (number k t) = (tt, tt)
  atom_inner (variable k t) = (tt, tt)
  atom_inner (parenthesized e) = (tt, closed_by e _ tt (expr_inner e))
  atom_inner (absolute e) = (tt, closed_by e _ tt (expr_inner e))
  atom_inner (called k t e) = (tt, (tt, closed_by e _ tt (expr_inner e)))
  atom_inner (rounded o e) = each_of_both IsInner (operator_leaves d.Operand o) _
      (operator_roles IsInner d.Operand o tt (λ r p. p)) (tt, (tt, closed_by e _ tt (expr_inner e)))
  atom_inner (fused a b c) = (
    tt,
    (
      tt,
      each_of_both IsInner (expr_leaves a) _ (expr_inner a) (
        tt,
        each_of_both IsInner (expr_leaves b) _ (expr_inner b) (tt, closed_by c _ tt (expr_inner c)),
      ),
    ),
  )
