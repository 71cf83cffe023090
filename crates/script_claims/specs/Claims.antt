-- What a formula claims, by recursion on its tree.
use Rattle.std.specs.Prelude.{◌≡◌, ℕ, ℤ, pos, neg_ℤ, List, [], ◌∷◌, ◌++◌, Some, None, Bool, true}
use Rattle.std.specs.Prelude.{false, nat_lt, if◌then◌else◌}
use Rattle.std.specs.Str.Parse.{digits_value}
use Rattle.fx_model.specs.declared.ExprId.{ExprId}
use Rattle.script_shape.specs.Expressions.{Whole, natural, opposite}
use Rattle.script_shape.specs.Propositions.{Range, asked, between, Prop, lies_in, relative_in}
use Rattle.script_shape.specs.Propositions.{at_most, at_least, multiple, Stated, affirmed, denied}
use Rattle.script_shape.specs.Propositions.{Formula, single, and, or, implies}
use Rattle.script_cases.specs.Cases.{all_items}
use Rattle.script_cases.specs.Parts.{Parts, nothing, with_item, behind_or}
use Rattle.script_cases.specs.Parts.{behind_arrow as parts_behind_arrow}
use Rattle.script_nodes.specs.Written.{bound_written}
use Rattle.script_nodes.specs.Operators.{digits_text}
use Rattle.script_nodes.specs.Known.{Known, PlacedNode}
use Rattle.script_nodes.specs.Values.{expr_value}
use Rattle.script_claims.specs.declared.claim.Claim.{Claim}
use Rattle.script_claims.specs.declared.claim.Claim.TheVariants.{Bounded, Asked, Relative}
use Rattle.script_claims.specs.declared.claim.Claim.TheVariants.{RelativeAsked, Above, Below}
use Rattle.script_claims.specs.declared.claim.Claim.TheVariants.{Multiple}

-- ---- numbers

-- no more than 1025, which is past each exponent of a multiple, and its negative too
abbrev pub at_most_1025 : ℕ → ℕ
at_most_1025 n = if nat_lt n 1025 then n else 1025

-- The number that digits write, and 1025 where they write more: digits may be of any length.
unfoldable pub exponent_size : List ℕ → ℕ
exponent_size text = at_most_1025 (digits_value 10 text)

-- The exponent that a multiple claim writes, with its sign; one of a size past 1025 counts as 1025
-- or -1025.
abbrev pub exponent_of : Whole → ℤ
exponent_of (natural d) = pos (exponent_size (digits_text d))
exponent_of (opposite d) = neg_ℤ (pos (exponent_size (digits_text d)))

-- ---- propositions

-- The claim that an expression lies in the range, or the question for its range where `?` stands
-- there.
abbrev pub ranged : Range → ExprId → Claim
ranged asked x = Asked x
ranged (between a b) x = Bounded x (Some (bound_written a)) (Some (bound_written b))

-- The claim that an expression's relative error against another lies in the range, or the question
-- for it where `?` stands there.
abbrev pub relative : Range → ExprId → ExprId → Claim
relative asked x y = RelativeAsked x y
relative (between a b) x y = Relative x y (bound_written a) (bound_written b)

-- The claim about an expression that has been placed among the nodes, with what is known behind it.
abbrev pub of_value : (ExprId → Claim) → PlacedNode → Known × Claim
of_value claim p = (p.0, claim p.1)

-- its claim, and what is known behind it
abbrev pub prop_claim : Prop → Known → Known × Claim
prop_claim (lies_in e r) k = of_value (ranged r) (expr_value None e k)
prop_claim (relative_in a b r) k =
    of_value (relative r (expr_value None a k).1) (expr_value None b (expr_value None a k).0)
prop_claim (at_most e b) k =
    of_value (λ x. Bounded x None (Some (bound_written b))) (expr_value None e k)
prop_claim (at_least e b) k =
    of_value (λ x. Bounded x (Some (bound_written b)) None) (expr_value None e k)
prop_claim (multiple f e w) k = of_value (λ x. Multiple x (exponent_of w)) (expr_value None e k)

-- `not` before a bound. Before other propositions it is refused.
abbrev pub denial : Claim → Claim
denial (Bounded x None (Some n)) = Above x n
denial (Bounded x (Some n) None) = Below x n
denial c = c

-- the claim with a `not` before it, or without
abbrev pub stated : Bool → Claim → Claim
stated true c = denial c
stated false c = c

-- the denial of a claim, with the same names
abbrev pub denied_claim : Known × Claim → Known × Claim
denied_claim p = (p.0, denial p.1)

-- the claim of a proposition, denied or not
abbrev pub stated_claim : Stated → Known → Known × Claim
stated_claim (affirmed p) k = prop_claim p k
stated_claim (denied p) k = denied_claim (prop_claim p k)

-- ---- formulas

-- the claims of some propositions, in the order of writing, and all of them by parts and
-- conjunctions
pub record Sides : Type 0 where
  pub hypotheses : List Claim
  pub goals : List Claim
  pub parts : Parts Claim

-- The claims before the first proposition: none, in no part.
abbrev pub no_sides : Sides
no_sides = record { hypotheses = []; goals = []; parts = nothing }

-- The sides with one claim more, which is a goal until an arrow follows, and which joins the
-- conjunction in hand.
abbrev pub with_goal : Sides → Claim → Sides
with_goal s c = record {
  hypotheses = s.hypotheses;
  goals = s.goals ++ (c ∷ []);
  parts = with_item s.parts c;
}

-- a conjunction ends at `\/`
abbrev pub behind_or_sign : Sides → Sides
behind_or_sign s = record { hypotheses = s.hypotheses; goals = s.goals; parts = behind_or s.parts }

-- an arrow makes hypotheses of the goals before it
abbrev pub behind_arrow : Sides → Sides
behind_arrow s = record {
  hypotheses = s.hypotheses ++ s.goals;
  goals = [];
  parts = parts_behind_arrow s.parts;
}

-- what is known behind some propositions, and their claims
pub record Claims : Type 0 where
  pub known : Known
  pub sides : Sides

-- What is known behind a proposition, and the claims with that of the proposition as the last goal.
abbrev pub then_goal : Sides → Known × Claim → Claims
then_goal s p = record { known = p.0; sides = with_goal s p.1 }

-- one claim more
abbrev pub then_claimed : Stated → Claims → Claims
then_claimed p cs = then_goal cs.sides (stated_claim p cs.known)

-- behind the sign of a disjunction
abbrev pub then_or : Claims → Claims
then_or cs = record { known = cs.known; sides = behind_or_sign cs.sides }

-- The claims behind the arrow of a formula: nothing new is known, and the goals before it have
-- become hypotheses.
abbrev pub then_arrow : Claims → Claims
then_arrow cs = record { known = cs.known; sides = behind_arrow cs.sides }

-- The claims before a formula's first proposition, where this much is known already.
abbrev pub no_claims : Known → Claims
no_claims k = record { known = k; sides = no_sides }

-- The last part has the goals, and the parts before it have the hypotheses. With no arrow all are
-- goals.
abbrev pub formula_claims : Formula → Known → Claims
formula_claims (single p) k = then_claimed p (no_claims k)
formula_claims (and f p) k = then_claimed p (formula_claims f k)
formula_claims (or f p) k = then_claimed p (then_or (formula_claims f k))
formula_claims (implies f p) k = then_claimed p (then_arrow (formula_claims f k))

-- The hypotheses are the claims of the parts that have ended, in their order.
abbrev pub PartsHaveHypotheses : Type 0
PartsHaveHypotheses = (f : Formula) (k : Known)
    → (formula_claims f k).sides.hypotheses ≡ all_items (formula_claims f k).sides.parts.before
