-- A script's plan cuts along expressions of its universe.
use Rattle.std.specs.Prelude.{◌≡◌, ◌<◌, ℕ, zero, suc, List, [], ◌∷◌, length, Option, Some, None}
use Rattle.std.specs.Prelude.{slice_get}
use Rattle.std.specs.Option.{IsSomeAnd}
use Rattle.std.proofs.Common.{◌∙◌, ap}
use Rattle.fx_model.specs.declared.ExprId.{ExprId}
use Rattle.facts.specs.declared.fact.Fact.{Fact}
use Rattle.facts.specs.declared.fact.Fact.TheVariants as fact
use Rattle.script_claims.specs.declared.claim.Claim.{Claim}
use Rattle.script_claims.specs.Facts.{hypothesis_fact, with_fact, facts_of}
use Rattle.derivation.specs.Known.{Piece}
use Rattle.rule_universe.specs.Worlds.{World, IsWhole}
use Rattle.box_tree.specs.Root.{IsBounded}

-- what a claim gives is among what all give
among : (claims : List Claim) (k : ℕ) (c : Claim) (f : Fact) → slice_get claims k ≡ Some c
    → hypothesis_fact c ≡ Some f → (j : ℕ) × (slice_get (facts_of claims) j ≡ Some f)
among [] k c f e g = cc
among (d ∷ claims) zero c f e g =
    let h : hypothesis_fact d ≡ Some f = ap hypothesis_fact (let s : d ≡ c = cc in s) ∙ g in
    (zero, ap (λ o. slice_get (with_fact o (facts_of claims)) zero) h)
among (d ∷ claims) (suc k) c f e g = later (hypothesis_fact d) (among claims k c f e g)
  where
    later : (o : Option Fact) → (j : ℕ) × (slice_get (facts_of claims) j ≡ Some f)
        → (j : ℕ) × (slice_get (with_fact o (facts_of claims)) j ≡ Some f)
    later None w = w
    later (Some x) w = (suc w.0, w.1)

-- an expression that a claim bounds is one of the universe
pub bounded_is : (u : World) (claims : List Claim) → IsWhole u → u.hypotheses ≡ facts_of claims
    → (x : ExprId) → IsBounded claims x → x.0 < length u.nodes
bounded_is u claims w e x b =
    let j = among claims b.0 b.1 (fact.Bnd x b.3) b.2 b.4 in
    w.hypotheses j.0 (fact.Bnd x b.3) (ap (λ l. slice_get l j.0) e ∙ j.1)

pub pieces_are : (u : World) (claims : List Claim) → IsWhole u
    → u.hypotheses ≡ facts_of claims → (o : Option Piece) → IsSomeAnd o (λ p. IsBounded claims p.0)
    → IsSomeAnd o (λ p. (p.0).0 < length u.nodes)
pieces_are u claims w e (Some p) b = bounded_is u claims w e p.0 b
pieces_are u claims w e None b = absurd b
