-- The cases of a script: their claims name its nodes, and what meets the script meets one of them.
use Rattle.std.proofs.Common.{◌<◌, ℕ, zero, suc, List, [], ◌∷◌, length, map, subst, arith, ⊎_elim}
use Rattle.std.specs.Prelude.{slice_index_or}
use Rattle.std.specs.List.{AllByRecursion}
use Rattle.fx_model.specs.Expression.{Assignment}
use Rattle.fx_model.specs.declared.Node.{Node}
use Rattle.facts.specs.declared.fact.Fact.{Fact}
use Rattle.facts.specs.Holds.{Holds}
use Rattle.facts.specs.Order.{slot_of}
use Rattle.script_cases.proofs.Counted.{all_of_cases}
use Rattle.script_cases.specs.Met.{SomeOf}
use Rattle.script_cases.proofs.MetLaws.{met_in_some_case}
use Rattle.script_claims.specs.declared.claim.Claim.{Claim}
use Rattle.script_claims.specs.Meets.{IsTrueAt}
use Rattle.script_claims.specs.Facts.{facts_of}
use Rattle.script_grammar.specs.Spells.{View}
use Rattle.script_grammar.specs.Cases.{cases_of}
use Rattle.script_grammar.specs.Ranges.{HasFewCases}
use Rattle.script_grammar.specs.Names.{ClaimIsOf, NamesNodes}
use Rattle.script_meets.specs.Meets.{Meets}
use Rattle.cert_checker.specs.Met.{SlotIsAmong}
use Rattle.cert_checker.specs.Steps.{case_facts}
use Rattle.script_checker.proofs.Named.{facts_named}

-- The claims of the case with this number are true of the assignment.
pub record IsMetIn (nodes : List Node) (a : Assignment) (cases : List (List Claim)) : Type 0 where
  pub number : ℕ
  pub within : number < length cases
  pub claims : AllByRecursion (IsTrueAt nodes a) (slice_index_or cases number [])

-- ---- the script's cases

met_at : (nodes : List Node) (a : Assignment) (cases : List (List Claim))
    → SomeOf (AllByRecursion (IsTrueAt nodes a)) cases → IsMetIn nodes a cases
met_at nodes a [] h = absurd h
met_at nodes a (claims ∷ cases) h =
    ⊎_elim (λ p. record { number = 0; within = omega arith; claims = p })
    (λ q. let r = met_at nodes a cases q in record {
      number = suc r.number;
      within = let l = r.within in omega (arith, l);
      claims = r.claims;
    }) h

-- an assignment that meets the script meets one of its cases
pub some_case_met : (s : View) (a : Assignment) → Meets a s → IsMetIn s.nodes a (cases_of s)
some_case_met s a meets = met_at s.nodes a (cases_of s)
    ((met_in_some_case (IsTrueAt s.nodes a) s.parts).0 meets.hypotheses)

-- the claims of each case name its nodes
pub cases_named : (s : View) → HasFewCases s → NamesNodes s
    → AllByRecursion (AllByRecursion (ClaimIsOf (length s.nodes))) (cases_of s)
cases_named s few names = all_of_cases (ClaimIsOf (length s.nodes)) s.parts
    (subst (AllByRecursion (ClaimIsOf (length s.nodes))) few.hypotheses names.hypotheses)

-- ---- the facts of cases

-- they name nodes as the claims do
pub case_facts_named : (n : ℕ) (cases : List (List Claim))
    → AllByRecursion (AllByRecursion (ClaimIsOf n)) cases
    → AllByRecursion (AllByRecursion (λ (f : Fact). SlotIsAmong n (slot_of f))) (map facts_of cases)
case_facts_named n [] h = tt
case_facts_named n (claims ∷ cases) h = (facts_named n claims h.0, case_facts_named n cases h.1)

-- and hold where the claims are true
pub case_facts_held : (nodes : List Node) (a : Assignment) (held : (claims : List Claim)
    → AllByRecursion (IsTrueAt nodes a) claims → AllByRecursion (Holds nodes a) (facts_of claims))
    (cases : List (List Claim)) (k : ℕ)
    → AllByRecursion (IsTrueAt nodes a) (slice_index_or cases k [])
    → AllByRecursion (Holds nodes a) (case_facts (map facts_of cases) k)
case_facts_held nodes a held [] k t = tt
case_facts_held nodes a held (claims ∷ cases) zero t = held claims t
case_facts_held nodes a held (claims ∷ cases) (suc k) t = case_facts_held nodes a held cases k t
