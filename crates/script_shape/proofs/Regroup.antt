-- An operation written before an expression, grouped to the left.
use Rattle.std.proofs.Common.{◌≡◌, List, ◌∷◌, ◌++◌, refl, ap, ◌∙◌, append_assoc}
use Rattle.script_words.specs.Words.{Word, sign}
use Rattle.script_words.specs.declared.class.Symbol.TheVariants as s
use Rattle.script_shape.specs.Expressions.{Expr, term, sum, difference, Term, factor, product}
use Rattle.script_shape.specs.Expressions.{quotient, Factor, negation, expr_words, term_words}
use Rattle.script_shape.specs.Expressions.{factor_words}

abbrev pub lead_sum : Term → Expr → Expr
lead_sum t (term u) = sum (term t) u
lead_sum t (sum e u) = sum (lead_sum t e) u
lead_sum t (difference e u) = difference (lead_sum t e) u

abbrev pub lead_difference : Term → Expr → Expr
lead_difference t (term u) = difference (term t) u
lead_difference t (sum e u) = sum (lead_difference t e) u
lead_difference t (difference e u) = difference (lead_difference t e) u

abbrev pub lead_product_in : Factor → Term → Term
lead_product_in f (factor g) = product (factor f) g
lead_product_in f (product t g) = product (lead_product_in f t) g
lead_product_in f (quotient t g) = quotient (lead_product_in f t) g

abbrev pub lead_quotient_in : Factor → Term → Term
lead_quotient_in f (factor g) = quotient (factor f) g
lead_quotient_in f (product t g) = product (lead_quotient_in f t) g
lead_quotient_in f (quotient t g) = quotient (lead_quotient_in f t) g

abbrev pub negated_in : Term → Term
negated_in (factor g) = factor (negation g)
negated_in (product t g) = product (negated_in t) g
negated_in (quotient t g) = quotient (negated_in t) g

-- a change of the first term
abbrev pub at_first : (Term → Term) → Expr → Expr
at_first change (term u) = term (change u)
at_first change (sum e u) = sum (at_first change e) u
at_first change (difference e u) = difference (at_first change e) u

-- ---- what they spell

behind : {a : List Word} (t b : List Word) (g : Word) (x : List Word) → a ≡ t ++ (g ∷ b)
    → a ++ x ≡ t ++ (g ∷ (b ++ x))
behind t b g x e = ap (λ l. l ++ x) e ∙ append_assoc t (g ∷ b) x

pub lead_sum_words : (t : Term) (e : Expr)
    → expr_words (lead_sum t e) ≡ term_words t ++ (sign s.Plus ∷ expr_words e)
lead_sum_words t (term u) = refl
lead_sum_words t (sum e u) = behind (term_words t) (expr_words e) (sign s.Plus)
    (sign s.Plus ∷ term_words u) (lead_sum_words t e)
lead_sum_words t (difference e u) = behind (term_words t) (expr_words e) (sign s.Plus)
    (sign s.Minus ∷ term_words u) (lead_sum_words t e)

pub lead_difference_words : (t : Term) (e : Expr)
    → expr_words (lead_difference t e) ≡ term_words t ++ (sign s.Minus ∷ expr_words e)
lead_difference_words t (term u) = refl
lead_difference_words t (sum e u) = behind (term_words t) (expr_words e) (sign s.Minus)
    (sign s.Plus ∷ term_words u) (lead_difference_words t e)
lead_difference_words t (difference e u) = behind (term_words t) (expr_words e) (sign s.Minus)
    (sign s.Minus ∷ term_words u) (lead_difference_words t e)

pub lead_product_in_words : (f : Factor) (t : Term)
    → term_words (lead_product_in f t) ≡ factor_words f ++ (sign s.Star ∷ term_words t)
lead_product_in_words f (factor g) = refl
lead_product_in_words f (product t g) = behind (factor_words f) (term_words t) (sign s.Star)
    (sign s.Star ∷ factor_words g) (lead_product_in_words f t)
lead_product_in_words f (quotient t g) = behind (factor_words f) (term_words t) (sign s.Star)
    (sign s.Slash ∷ factor_words g) (lead_product_in_words f t)

pub lead_quotient_in_words : (f : Factor) (t : Term)
    → term_words (lead_quotient_in f t) ≡ factor_words f ++ (sign s.Slash ∷ term_words t)
lead_quotient_in_words f (factor g) = refl
lead_quotient_in_words f (product t g) = behind (factor_words f) (term_words t) (sign s.Slash)
    (sign s.Star ∷ factor_words g) (lead_quotient_in_words f t)
lead_quotient_in_words f (quotient t g) = behind (factor_words f) (term_words t) (sign s.Slash)
    (sign s.Slash ∷ factor_words g) (lead_quotient_in_words f t)

pub negated_in_words : (t : Term) → term_words (negated_in t) ≡ sign s.Minus ∷ term_words t
negated_in_words (factor g) = refl
negated_in_words (product t g) = ap (λ l. l ++ (sign s.Star ∷ factor_words g)) (negated_in_words t)
negated_in_words (quotient t g) =
    ap (λ l. l ++ (sign s.Slash ∷ factor_words g)) (negated_in_words t)

pub at_first_words : (change : Term → Term) (front : List Word) (g : Word)
    → ((t : Term) → term_words (change t) ≡ front ++ (g ∷ term_words t)) → (e : Expr)
    → expr_words (at_first change e) ≡ front ++ (g ∷ expr_words e)
at_first_words change front g h (term u) = h u
at_first_words change front g h (sum e u) =
    behind front (expr_words e) g (sign s.Plus ∷ term_words u) (at_first_words change front g h e)
at_first_words change front g h (difference e u) =
    behind front (expr_words e) g (sign s.Minus ∷ term_words u) (at_first_words change front g h e)
