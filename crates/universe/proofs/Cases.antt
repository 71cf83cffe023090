-- Laws of what specs/Cases defines.
use Rattle.std.specs.Prelude.{◌≡◌, ℕ, zero, suc, List, [], ◌∷◌, Some, slice_get, refl}
use Rattle.std.specs.List.{AllByRecursion}
use Rattle.std.proofs.Common.{subst}
use Rattle.pair_closure.specs.Reached.{Has}
use Rattle.pair_closure.proofs.Members.{has_all}
use Rattle.script_cases.proofs.Counted.{all_of_cases}
use Rattle.script_claims.specs.declared.claim.Claim.{Claim}
use Rattle.script_grammar.specs.Spells.{View}
use Rattle.script_grammar.specs.Cases.{cases_of}
use Rattle.script_grammar.specs.Ranges.{HasFewCases}
use Rattle.universe.specs.Cases.{AreHypotheses}

-- what all hypotheses have, each of these has
pub each_has : (P : Claim → Type 0) (s : View) → AllByRecursion P s.hypotheses
    → (claims : List Claim) → AreHypotheses s claims → AllByRecursion P claims
each_has P s h [] are = tt
each_has P s h (c ∷ claims) are = (has_all P s.hypotheses h c are.0, each_has P s h claims are.1)

all_later : (c : Claim) (all some : List Claim)
    → AllByRecursion (Has all) some → AllByRecursion (Has (c ∷ all)) some
all_later c all [] h = tt
all_later c all (d ∷ some) h = ((suc h.0.0, h.0.1), all_later c all some h.1)

-- Each claim of a list is one of it.
pub all_are : (claims : List Claim) → AllByRecursion (Has claims) claims
all_are [] = tt
all_are (c ∷ claims) = ((zero, refl), all_later c claims claims (all_are claims))

-- Each case has hypotheses of the script alone.
pub cases_have_hypotheses : (s : View)
    → HasFewCases s → AllByRecursion (AreHypotheses s) (cases_of s)
cases_have_hypotheses s few = all_of_cases (Has s.hypotheses) s.parts
    (subst (AllByRecursion (Has s.hypotheses)) few.hypotheses (all_are s.hypotheses))

-- ---- the case in a place
pub case_has_hypotheses : (s : View) (cases : List (List Claim))
    → AllByRecursion (AreHypotheses s) cases
    → (k : ℕ) (claims : List Claim) → slice_get cases k ≡ Some claims → AreHypotheses s claims
case_has_hypotheses s [] h k claims e = cc
case_has_hypotheses s (c ∷ cases) h zero claims e = let same : c ≡ claims = cc in
    subst (AreHypotheses s) same h.0
case_has_hypotheses s (c ∷ cases) h (suc k) claims e = case_has_hypotheses s cases h.1 k claims e
