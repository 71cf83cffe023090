-- Laws of what specs/Facts defines.
use Rattle.std.specs.Prelude.{◌≡◌, List, [], ◌∷◌, Option, Some, None, refl}
use Rattle.std.specs.List.{AllByRecursion}
use Rattle.facts.specs.declared.fact.Fact.{Fact}
use Rattle.script_claims.specs.declared.claim.Claim.{Claim}
use Rattle.script_claims.specs.Facts.{hypothesis_fact, with_fact, facts_of}

-- ---- what the claims of a list give
-- Where each claim is Q, and the facts of those that are Q are P, all facts that they give are P.
module _ (P : Fact → Type 0) (Q : Claim → Type 0)
    (gives : (c : Claim) (f : Fact) → hypothesis_fact c ≡ Some f → Q c → P f) where
  with_one : (c : Claim) → Q c → (fs : List Fact) → AllByRecursion P fs → (o : Option Fact)
      → hypothesis_fact c ≡ o → AllByRecursion P (with_fact o fs)
  with_one c q fs all None e = all
  with_one c q fs all (Some f) e = (gives c f e q, all)

  pub facts_all : (cs : List Claim) → AllByRecursion Q cs → AllByRecursion P (facts_of cs)
  facts_all [] all = tt
  facts_all (c ∷ cs) all =
      with_one c all.0 (facts_of cs) (facts_all cs all.1) (hypothesis_fact c) refl
