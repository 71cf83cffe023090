-- Claims of small formulas, worked out by hand.
use Rattle.std.specs.Prelude.{◌≡◌, ℕ, pos, negsuc, codes, List, [], ◌∷◌, Some, None, true, false}
use Rattle.std.specs.Prelude.{refl}
use Rattle.fx_model.specs.declared.ExprId.{ExprId}
use Rattle.literal_order.specs.declared.written.Written.{Written}
use Rattle.script_words.specs.declared.class.Spelled.TheVariants.{Plain}
use Rattle.script_words.specs.declared.class.Number.TheVariants.{Digits, Other}
use Rattle.script_shape.specs.Expressions.{free, digits, opposite, unsigned, positive, negative}
use Rattle.script_shape.specs.Expressions.{Expr, term, factor, product, atom, Atom, variable}
use Rattle.script_shape.specs.Propositions.{asked, between, lies_in, relative_in, at_most, at_least}
use Rattle.script_shape.specs.Propositions.{multiple, affirmed, denied, Formula, single, and, or}
use Rattle.script_shape.specs.Propositions.{implies}
use Rattle.script_cases.specs.Cases.{cases}
use Rattle.script_nodes.specs.Literals.{parts_of, tens_out, twos_out, literal_of}
use Rattle.script_nodes.specs.Known.{nothing_known, put, variable_put, named}
use Rattle.script_claims.specs.declared.claim.Claim.TheVariants.{Bounded, Asked, Relative}
use Rattle.script_claims.specs.declared.claim.Claim.TheVariants.{RelativeAsked, Above, Below}
use Rattle.script_claims.specs.declared.claim.Claim.TheVariants.{Multiple}
use Rattle.script_claims.specs.declared.claim.Claim.{Claim}
use Rattle.script_claims.specs.Claims.{exponent_size, formula_claims}

abbrev id : ℕ → ExprId
id n = record { 0 = n }

abbrev x_atom : Atom
x_atom = variable Plain (codes "x")

abbrev y_atom : Atom
y_atom = variable Plain (codes "y")

abbrev x : Expr
x = term (factor (atom x_atom))

abbrev y : Expr
y = term (factor (atom y_atom))

abbrev tenths : ℕ → Written
tenths n = record { literal = record { num = n; two = pos 0; ten = negsuc 0 }; negative = false }

abbrev ones : ℕ → Written
ones n = record { literal = record { num = n; two = pos 0; ten = pos 0 }; negative = false }

-- the claims on both sides of the last arrow
record Both : Type 0 where
  hypotheses : List Claim
  goals : List Claim

abbrev sides_of : Formula → Both
sides_of f = record {
  hypotheses = (formula_claims f nothing_known).sides.hypotheses;
  goals = (formula_claims f nothing_known).sides.goals;
}

-- those of the parts before it
abbrev parts_of_formula : Formula → List (List (List Claim))
parts_of_formula f = (formula_claims f nothing_known).sides.parts.before

-- `x in [1,2] /\ y <= 3 -> x * y in ? /\ x >= 0.1`
one_arrow : sides_of (and (implies (and (single
    (affirmed (lies_in x (between (unsigned Digits (codes "1")) (unsigned Digits (codes "2"))))))
    (affirmed (at_most y (unsigned Digits (codes "3")))))
    (affirmed (lies_in (term (product (factor (atom x_atom)) (atom y_atom))) asked)))
    (affirmed (at_least x (unsigned Other (codes "0.1")))))
    ≡ record {
      hypotheses =
          Bounded (id 0) (Some (ones 1)) (Some (ones 2)) ∷ Bounded (id 1) None (Some (ones 3)) ∷ [];
      goals = Asked (id 2) ∷ Bounded (id 0) (Some (tenths 1)) None ∷ [];
    }
unfolding put variable_put named parts_of tens_out twos_out literal_of
one_arrow = refl

-- `y >= -1b-1 -> @FIX(x, -4) -> x -/ y in [-0.1, +0.1]`: only what stands behind the last arrow is
-- a goal
two_arrows : sides_of (implies
    (implies (single (affirmed (at_least y (negative Other (codes "1b-1")))))
    (affirmed (multiple (free (codes "FIX")) x (opposite (digits (codes "4")))))) (affirmed
    (relative_in x y (between (negative Other (codes "0.1")) (positive Other (codes "0.1"))))))
    ≡ record {
      hypotheses = Bounded (id 0) (Some
          (record { literal = record { num = 1; two = negsuc 0; ten = pos 0 }; negative = true }))
          None ∷ Multiple (id 1) (negsuc 3) ∷ [];
      goals = Relative (id 1) (id 0)
          (record { literal = record { num = 1; two = pos 0; ten = negsuc 0 }; negative = true })
          (tenths 1) ∷ [];
    }
unfolding put variable_put named parts_of tens_out twos_out literal_of exponent_size
two_arrows = refl

-- `x -/ y in ?`: with no arrow it is a goal
no_arrow : sides_of (single (affirmed (relative_in x y asked))) ≡ record {
  hypotheses = [];
  goals = RelativeAsked (id 0) (id 1) ∷ [];
}
unfolding put variable_put named
no_arrow = refl

-- `x in [1,2] /\ not x >= 2 \/ not y <= 3 -> y >= 3 -> x in ?`: two cases, in each of which `y >=
-- 3` is assumed
abbrev two_cases : Formula
two_cases =
    implies (implies (or (and (single (affirmed (lies_in x (between (unsigned Digits (codes "1"))
    (unsigned Digits (codes "2")))))) (denied (at_least x (unsigned Digits (codes "2")))))
    (denied (at_most y (unsigned Digits (codes "3")))))
    (affirmed (at_least y (unsigned Digits (codes "3"))))) (affirmed (lies_in x asked))

two_parts : parts_of_formula two_cases
    ≡ ((Bounded (id 0) (Some (ones 1)) (Some (ones 2)) ∷ Below (id 0) (ones 2) ∷ []) ∷
    (Above (id 1) (ones 3) ∷ []) ∷ []) ∷ ((Bounded (id 1) (Some (ones 3)) None ∷ []) ∷ []) ∷ []
unfolding put variable_put named parts_of tens_out twos_out literal_of
two_parts = refl

both_cases : cases (parts_of_formula two_cases)
    ≡ (Bounded (id 0) (Some (ones 1)) (Some (ones 2))
    ∷ Below (id 0) (ones 2) ∷ Bounded (id 1) (Some (ones 3)) None ∷ [])
    ∷ (Above (id 1) (ones 3) ∷ Bounded (id 1) (Some (ones 3)) None ∷ []) ∷ []
unfolding put variable_put named parts_of tens_out twos_out literal_of
both_cases = refl

all_hypotheses : sides_of two_cases
    ≡ record {
      hypotheses = Bounded (id 0) (Some (ones 1)) (Some (ones 2)) ∷ Below (id 0) (ones 2)
          ∷ Above (id 1) (ones 3) ∷ Bounded (id 1) (Some (ones 3)) None ∷ [];
      goals = Asked (id 0) ∷ [];
    }
unfolding put variable_put named parts_of tens_out twos_out literal_of
all_hypotheses = refl

-- the digits of an exponent have any length
long_exponent : exponent_size (codes "000000000000000000000000000000000000000512") ≡ 512
unfolding exponent_size
long_exponent = refl

great_exponent : exponent_size (codes "99999999999999999999999999999999999999999") ≡ 1025
unfolding exponent_size
great_exponent = refl
