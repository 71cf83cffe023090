-- What is judged names expressions of a list of nodes.
use Rattle.std.specs.Prelude.{ℕ, ◌<◌, List}
use Rattle.std.specs.List.{AllByRecursion}
use Rattle.fx_model.specs.declared.ExprId.{ExprId}
use Rattle.script_claims.specs.declared.claim.Claim.{Claim}
use Rattle.script_claims.specs.declared.claim.Claim.TheVariants as claim
use Rattle.script_hints.specs.declared.hint.Constraint.{Constraint}
use Rattle.script_hints.specs.declared.hint.Constraint.TheVariants as constraint
use Rattle.script_hints.specs.declared.hint.Hint.{Hint}

-- the number of one of n nodes
abbrev pub IsWithin : ℕ → ExprId → Type 0
IsWithin n x = x.0 < n

-- Each expression that the claim names is one of the first n nodes.
abbrev pub ClaimIsWithin : ℕ → Claim → Type 0
ClaimIsWithin n (claim.Bounded x lower upper) = IsWithin n x
ClaimIsWithin n (claim.Asked x) = IsWithin n x
ClaimIsWithin n (claim.Relative x y lower upper) = IsWithin n x × IsWithin n y
ClaimIsWithin n (claim.RelativeAsked x y) = IsWithin n x × IsWithin n y
ClaimIsWithin n (claim.Above x w) = IsWithin n x
ClaimIsWithin n (claim.Below x w) = IsWithin n x
ClaimIsWithin n (claim.Multiple x k) = IsWithin n x

-- The expression that the constraint names is one of the first n nodes.
abbrev pub ConstraintIsWithin : ℕ → Constraint → Type 0
ConstraintIsWithin n (constraint.NotZero x) = IsWithin n x
ConstraintIsWithin n (constraint.Below x w strict) = IsWithin n x
ConstraintIsWithin n (constraint.Above x w strict) = IsWithin n x

-- Both sides of the hint, and the expressions that its constraints name, are among the first n
-- nodes.
pub record HintIsWithin (n : ℕ) (h : Hint) : Type 0 where
  pub left : IsWithin n h.left
  pub right : IsWithin n h.right
  pub constraints : AllByRecursion (ConstraintIsWithin n) h.constraints

-- All hypotheses, goals and hints do.
pub record AreWithin (n : ℕ) (cs gs : List Claim) (hs : List Hint) : Type 0 where
  pub hypotheses : AllByRecursion (ClaimIsWithin n) cs
  pub goals : AllByRecursion (ClaimIsWithin n) gs
  pub hints : AllByRecursion (HintIsWithin n) hs
