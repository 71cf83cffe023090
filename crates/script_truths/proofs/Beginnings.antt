-- What an assignment that meets a script has over the universe.
use Rattle.std.specs.Prelude.{◌≡◌, ℕ, zero, suc, List, [], ◌∷◌, Some, length, slice_get, refl}
use Rattle.std.specs.List.{AllByRecursion}
use Rattle.std.proofs.Common.{sym, subst, ⊎_elim}
use Rattle.fx_model.specs.declared.Node.{Node}
use Rattle.fx_model.specs.Expression.{Assignment}
use Rattle.pair_closure.proofs.Members.{has_all}
use Rattle.facts.specs.declared.fact.Fact.{Fact}
use Rattle.facts.specs.Holds.{Holds}
use Rattle.script_cases.specs.Met.{SomeOf}
use Rattle.script_cases.proofs.MetLaws.{met_in_some_case}
use Rattle.script_claims.specs.declared.claim.Claim.{Claim}
use Rattle.script_claims.specs.Facts.{hypothesis_fact}
use Rattle.script_claims.proofs.Facts.{facts_all}
use Rattle.script_claims.specs.Meets.{IsTrueAt}
use Rattle.script_grammar.specs.Spells.{View}
use Rattle.script_grammar.specs.Names.{ClaimIsOf, HintIsOf}
use Rattle.script_grammar.specs.Cases.{cases_of}
use Rattle.rule_universe.specs.Worlds.{World}
use Rattle.rule_universe.proofs.Wholes.{all_contained}
use Rattle.universe.proofs.Cases.{each_has}
use Rattle.script_truths.specs.Kept.{OfExtended, ClaimsAreKept, RowsAreKept}
use Rattle.script_truths.specs.Truths.{AreTrue, SomeCaseIsMet, MetRowsAreTrue, HasUniverse}
use Rattle.script_truths.specs.Truths.{UniversesExtend, WhereMet, HypothesesHold, HintsAreTrue}
use Rattle.script_truths.proofs.Rows.{hint_at, row_known}

all_kept : (P Q K : Claim → Type 0) → ((c : Claim) → K c → P c → Q c) → (cs : List Claim)
    → AllByRecursion K cs → AllByRecursion P cs → AllByRecursion Q cs
all_kept P Q K f [] k t = tt
all_kept P Q K f (c ∷ cs) k t = (f c k.0 t.0, all_kept P Q K f cs k.1 t.1)

-- what some member has, that in some place has
some_place : {X : Type 0} (P : X → Type 0) (xs : List X) → SomeOf P xs
    → (k : ℕ) × (x : X) × (slice_get xs k ≡ Some x) × P x
some_place P [] h = absurd h
some_place P (x ∷ xs) h =
    ⊎_elim (λ p. (zero, x, refl, p)) (λ q. let r = some_place P xs q in (suc r.0, r.1, r.2, r.3)) h

-- some case is met
pub case_is_met : SomeCaseIsMet
case_is_met s a meets = some_place (AllByRecursion (IsTrueAt s.nodes a)) (cases_of s)
    ((met_in_some_case (IsTrueAt s.nodes a) s.parts).0 meets.hypotheses)

module _ (extend : UniversesExtend) (kept : OfExtended ClaimsAreKept) where
  -- the claims are true over the universe
  pub claims_true : (s : View) (claims : List Claim) (u : World) (a : Assignment)
      → HasUniverse s claims u → AreTrue s a claims → AllByRecursion (IsTrueAt u.nodes a) claims
  claims_true s claims u a is truth =
      all_kept (IsTrueAt s.nodes a) (IsTrueAt u.nodes a) (ClaimIsOf (length s.nodes))
      (λ c k t. (kept s.nodes u.nodes a (extend s claims u is) c k).1 t) claims
      (each_has (ClaimIsOf (length s.nodes)) s is.names.hypotheses claims
      is.universe.claims_are) truth

  pub hypotheses_held : ((nodes : List Node) (a : Assignment) (c : Claim) (f : Fact)
      → hypothesis_fact c ≡ Some f → IsTrueAt nodes a c → Holds nodes a f) → WhereMet HypothesesHold
  hypotheses_held holds s claims u a is meets truth f m =
      let all = facts_all (Holds u.nodes a) (IsTrueAt u.nodes a) (holds u.nodes a) claims
      (claims_true s claims u a is truth) in
      all_contained (Holds u.nodes a) u.hypotheses
      (subst (AllByRecursion (Holds u.nodes a)) (sym is.universe.hypotheses) all) f m

-- and so are the rows
pub hints_true : UniversesExtend → OfExtended RowsAreKept → MetRowsAreTrue → WhereMet HintsAreTrue
hints_true extend kept met s claims u a is meets truth k row e =
    let h = hint_at s.nodes s.hints.rewrites u.hints is.universe.hints k row e in
    let named =
    has_all (HintIsOf (length s.nodes)) s.hints.rewrites is.names.hints.rewrites h.0 h.1 in
    (kept s.nodes u.nodes a (extend s claims u is) row (row_known s.nodes is.ordered h.0 row named
    h.2)).1 (met s a is.ordered is.names meets u.hints is.universe.hints k row e)
