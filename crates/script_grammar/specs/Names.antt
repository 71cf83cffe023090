-- The expressions that a script names are among its nodes.
use Rattle.std.specs.Prelude.{ℕ, ◌<◌, List, length}
use Rattle.std.specs.List.{AllByRecursion}
use Rattle.fx_model.specs.declared.ExprId.{ExprId}
use Rattle.script_claims.specs.declared.claim.Claim.{Claim}
use Rattle.script_claims.specs.declared.claim.Claim.TheVariants.{Bounded, Asked, Relative}
use Rattle.script_claims.specs.declared.claim.Claim.TheVariants.{RelativeAsked, Above, Below}
use Rattle.script_claims.specs.declared.claim.Claim.TheVariants.{Multiple}
use Rattle.script_hints.specs.declared.hint.Constraint.{Constraint}
use Rattle.script_hints.specs.declared.hint.Constraint.TheVariants as need
use Rattle.script_hints.specs.declared.hint.Hint.{Hint}
use Rattle.script_hints.specs.declared.hint.HintList.{HintList}
use Rattle.script_grammar.specs.Spells.{View, Spells}

-- the number of one of n nodes
abbrev pub IsNode : ℕ → ExprId → Type 0
IsNode n x = x.0 < n

-- Both are numbers of n nodes.
abbrev pub AreNodes : ℕ → ExprId × ExprId → Type 0
AreNodes n p = IsNode n p.0 × IsNode n p.1

-- a claim's expressions
abbrev pub ClaimIsOf : ℕ → Claim → Type 0
ClaimIsOf n (Bounded x lower upper) = IsNode n x
ClaimIsOf n (Asked x) = IsNode n x
ClaimIsOf n (Relative x y lower upper) = AreNodes n (x, y)
ClaimIsOf n (RelativeAsked x y) = AreNodes n (x, y)
ClaimIsOf n (Above x w) = IsNode n x
ClaimIsOf n (Below x w) = IsNode n x
ClaimIsOf n (Multiple x k) = IsNode n x

-- a constraint's expression
abbrev pub ConstraintIsOf : ℕ → Constraint → Type 0
ConstraintIsOf n (need.NotZero x) = IsNode n x
ConstraintIsOf n (need.Below x w strict) = IsNode n x
ConstraintIsOf n (need.Above x w strict) = IsNode n x

-- both sides of a rewriting, and what it needs
pub record HintIsOf (n : ℕ) (h : Hint) : Type 0 where
  pub sides : AreNodes n (h.left, h.right)
  pub constraints : AllByRecursion (ConstraintIsOf n) h.constraints

-- Each expression that hints name is one of n nodes: of rewritings, near pairs, cuts, halves and
-- their order.
pub record HintsAreOf (n : ℕ) (l : HintList) : Type 0 where
  pub rewrites : AllByRecursion (HintIsOf n) l.rewrites
  pub likes : AllByRecursion (AreNodes n) l.likes
  pub cuts : AllByRecursion (λ c. IsNode n c.var) l.cuts
  pub halves : AllByRecursion (IsNode n) l.halves
  pub order : AllByRecursion (IsNode n) l.order

-- Each expression of the claims and the hints is one of the nodes.
pub record NamesNodes (s : View) : Type 0 where
  pub hypotheses : AllByRecursion (ClaimIsOf (length s.nodes)) s.hypotheses
  pub goals : AllByRecursion (ClaimIsOf (length s.nodes)) s.goals
  pub hints : HintsAreOf (length s.nodes) s.hints

-- What a script names are its nodes.
abbrev pub SpelledNamesNodes : Type 0
SpelledNamesNodes = (text : List ℕ) (s : View) → Spells text s → NamesNodes s
