-- The expressions of claims are nodes.
use Rattle.std.specs.Prelude.{ℕ, ◌≤◌, List, Some, None}
use Rattle.std.specs.List.{AllByRecursion}
use Rattle.std.proofs.Common.{arith}
use Rattle.fx_model.specs.declared.ExprId.{ExprId}
use Rattle.facts.proofs.CommonParts.{all_as}
use Rattle.script_shape.specs.Propositions.{Range, asked, between, Prop, lies_in, relative_in}
use Rattle.script_shape.specs.Propositions.{at_most, at_least, multiple, Stated, affirmed, denied}
use Rattle.script_shape.specs.Propositions.{Formula, single, and, or, implies}
use Rattle.script_cases.proofs.Lists.{all_joined}
use Rattle.script_nodes.specs.Known.{Known, PlacedNode}
use Rattle.script_nodes.specs.Values.{expr_value}
use Rattle.script_nodes.specs.Growth.{node_count}
use Rattle.script_nodes.specs.Written.{bound_written}
use Rattle.script_claims.specs.declared.claim.Claim.{Claim}
use Rattle.script_claims.specs.declared.claim.Claim.TheVariants.{Bounded, Asked, Relative}
use Rattle.script_claims.specs.declared.claim.Claim.TheVariants.{RelativeAsked, Above, Below}
use Rattle.script_claims.specs.declared.claim.Claim.TheVariants.{Multiple}
use Rattle.script_claims.specs.Claims.{Claims, exponent_of, ranged, relative, of_value, prop_claim}
use Rattle.script_claims.specs.Claims.{denial, stated_claim, then_claimed, then_or, then_arrow}
use Rattle.script_claims.specs.Claims.{no_claims, formula_claims}
use Rattle.script_grammar.specs.Names.{IsNode, ClaimIsOf}
use Rattle.script_grammar.proofs.ExpressionNames.{Fits, Grows, grows_both, Sits, expr_sits}

claim_more : (n m : ℕ) → n ≤ m → (c : Claim) → ClaimIsOf n c → ClaimIsOf m c
claim_more n m h (Bounded x lower upper) f = omega arith
claim_more n m h (Asked x) f = omega arith
claim_more n m h (Relative x y lower upper) f =
    (let a = f.0 in omega arith, let b = f.1 in omega arith)
claim_more n m h (RelativeAsked x y) f = (let a = f.0 in omega arith, let b = f.1 in omega arith)
claim_more n m h (Above x w) f = omega arith
claim_more n m h (Below x w) f = omega arith
claim_more n m h (Multiple x k) f = omega arith

-- ---- one proposition

record IsClaimed (k : Known) (p : Known × Claim) : Type 0 where
  grows : Grows k p.0
  claim : ClaimIsOf (node_count p.0) p.1

value_claimed : (f : ExprId → Claim) (k : Known) (p : PlacedNode) → ((n : ℕ) (x : ExprId)
    → IsNode n x → ClaimIsOf n (f x)) → Sits k p → IsClaimed k (of_value f p)
value_claimed f k p h s = record { grows = s.grows; claim = h (node_count p.0) p.1 s.below }

ranged_of : (r : Range) (n : ℕ) (x : ExprId) → IsNode n x → ClaimIsOf n (ranged r x)
ranged_of asked n x h = h
ranged_of (between a b) n x h = h

relative_of : (r : Range) (n : ℕ) (x y : ExprId) → IsNode n x → IsNode n y
    → ClaimIsOf n (relative r x y)
relative_of asked n x y h i = (h, i)
relative_of (between a b) n x y h i = (h, i)

prop_claimed : (p : Prop) (k : Known) → Fits k → IsClaimed k (prop_claim p k)
prop_claimed (lies_in e r) k f =
    value_claimed (ranged r) k (expr_value None e k) (ranged_of r) (expr_sits None e k f)
prop_claimed (relative_in a b r) k f =
    let x = expr_value None a k in
    let y = expr_value None b x.0 in
    let s = expr_sits None a k f in
    let t = expr_sits None b x.0 s.grows.fits in
    let m = t.grows.more in
    let i = s.below in
    record {
      grows = grows_both s.grows t.grows;
      claim = relative_of r (node_count y.0) x.1 y.1 (omega arith) t.below;
    }
prop_claimed (at_most e b) k f = value_claimed (λ x. Bounded x None (Some (bound_written b))) k
    (expr_value None e k) (λ n x h. h) (expr_sits None e k f)
prop_claimed (at_least e b) k f = value_claimed (λ x. Bounded x (Some (bound_written b)) None) k
    (expr_value None e k) (λ n x h. h) (expr_sits None e k f)
prop_claimed (multiple g e w) k f = value_claimed (λ x. Multiple x (exponent_of w)) k
    (expr_value None e k) (λ n x h. h) (expr_sits None e k f)

-- a claim and its denial have the same expressions
denial_of : (n : ℕ) (c : Claim) → ClaimIsOf n c → ClaimIsOf n (denial c)
denial_of n (Bounded x None (Some w)) h = h
denial_of n (Bounded x (Some w) None) h = h
denial_of n (Bounded x None None) h = h
denial_of n (Bounded x (Some v) (Some w)) h = h
denial_of n (Asked x) h = h
denial_of n (Relative x y lower upper) h = h
denial_of n (RelativeAsked x y) h = h
denial_of n (Above x w) h = h
denial_of n (Below x w) h = h
denial_of n (Multiple x k) h = h

stated_claimed : (p : Stated) (k : Known) → Fits k → IsClaimed k (stated_claim p k)
stated_claimed (affirmed p) k f = prop_claimed p k f
stated_claimed (denied p) k f = let c = prop_claimed p k f in record {
  grows = c.grows;
  claim = denial_of (node_count (prop_claim p k).0) (prop_claim p k).1 c.claim;
}

-- ---- formulas

pub record AreClaimed (k : Known) (cs : Claims) : Type 0 where
  pub grows : Grows k cs.known
  pub hypotheses : AllByRecursion (ClaimIsOf (node_count cs.known)) cs.sides.hypotheses
  pub goals : AllByRecursion (ClaimIsOf (node_count cs.known)) cs.sides.goals

pub claims_more : (n m : ℕ) → n ≤ m → (cs : List Claim) → AllByRecursion (ClaimIsOf n) cs
    → AllByRecursion (ClaimIsOf m) cs
claims_more n m h cs = all_as (ClaimIsOf n) (ClaimIsOf m) (claim_more n m h) cs

then_all_claimed : (p : Stated) (k : Known) (cs : Claims) → AreClaimed k cs
    → AreClaimed k (then_claimed p cs)
then_all_claimed p k cs a =
    let c = stated_claimed p cs.known a.grows.fits in
    let n = node_count cs.known in
    let m = node_count (stated_claim p cs.known).0 in
    record {
      grows = grows_both a.grows c.grows;
      hypotheses = claims_more n m c.grows.more cs.sides.hypotheses a.hypotheses;
      goals = all_joined (ClaimIsOf m) cs.sides.goals _
          (claims_more n m c.grows.more cs.sides.goals a.goals) (c.claim, tt);
    }

then_all_assumed : (k : Known) (cs : Claims) → AreClaimed k cs → AreClaimed k (then_arrow cs)
then_all_assumed k cs a = record {
  grows = a.grows;
  hypotheses = all_joined (ClaimIsOf (node_count cs.known)) cs.sides.hypotheses
      cs.sides.goals a.hypotheses a.goals;
  goals = tt;
}

then_all_parted : (k : Known) (cs : Claims) → AreClaimed k cs → AreClaimed k (then_or cs)
then_all_parted k cs a = record { grows = a.grows; hypotheses = a.hypotheses; goals = a.goals }

none_claimed : (k : Known) → Fits k → AreClaimed k (no_claims k)
none_claimed k f =
    record { grows = record { more = omega arith; fits = f }; hypotheses = tt; goals = tt }

pub formula_claimed : (x : Formula) (k : Known) → Fits k → AreClaimed k (formula_claims x k)
formula_claimed (single p) k f = then_all_claimed p k (no_claims k) (none_claimed k f)
formula_claimed (and x p) k f = then_all_claimed p k (formula_claims x k) (formula_claimed x k f)
formula_claimed (or x p) k f = then_all_claimed p k (then_or (formula_claims x k))
    (then_all_parted k (formula_claims x k) (formula_claimed x k f))
formula_claimed (implies x p) k f = then_all_claimed p k (then_arrow (formula_claims x k))
    (then_all_assumed k (formula_claims x k) (formula_claimed x k f))
