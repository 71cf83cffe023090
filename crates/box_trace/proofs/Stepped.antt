-- What the code of one step comes to.
use Rattle.std.specs.Prelude.{◌≡◌, ◌<◌, ◌+◌, ℕ, List, [], ◌∷◌, ◌++◌, length, Option, Some, None}
use Rattle.std.specs.Prelude.{slice_set, false, refl}
use Rattle.std.proofs.Common.{sym, ◌∙◌, ap, subst, inl, inr, arith, length-set}
use Rattle.pair_closure.specs.Reached.{IsEachOnce}
use Rattle.facts.specs.declared.fact.Fact.{Fact}
use Rattle.facts.specs.Order.{slot_of, IsStronger, meet_of}
use Rattle.facts.proofs.Laws.{IsStronger-slot}
use Rattle.facts.proofs.Meets.{meet-exchanged, meet-stronger}
use Rattle.facts.proofs.CommonParts.{void_is}
use Rattle.derivation.proofs.Steps.{improved_stronger}
use Rattle.derivation.specs.Exists.{joined, or_else, with_fact}
use Rattle.derivation.proofs.Exists.{with_fact-improves}
use Rattle.rule_universe.specs.Worlds.{World, HasSlot}
use Rattle.rule_universe.specs.Places.{IsPlace}
use Rattle.rule_universe.proofs.OnePlace.{place_slot, place_within}
use Rattle.tree_certificates.proofs.Coming.{with_by-some}
use Rattle.tree_certificates.specs.Coming.{with_by}
use Rattle.box_trace.specs.declared.known.Cited.{Cited}
use Rattle.box_trace.specs.declared.log.Log.{Log}
use Rattle.box_trace.specs.Tables.{row_in, fact_of, number_of, number_or, cited_at, known_at}
use Rattle.box_trace.specs.Tables.{place_in, HasRows}
use Rattle.box_trace.specs.Logs.{kept_in, IsMet, IsMetBy, Comes}
use Rattle.box_trace.proofs.Rows.{read_at, put_here, put_there}

-- ---- what is kept
pub met_joined : (g c k : Fact) → meet_of g c ≡ Some k → k ≡ joined (Some g) c
met_joined g c k e = sym (ap (λ o. or_else o g) e)

-- what is as strong as what stood there is kept as it is
alone_joined : (g c : Fact) → IsStronger c g → joined (Some g) c ≡ c
alone_joined g c w = ap (λ o. or_else o g) (sym (meet-exchanged c g) ∙ meet-stronger c g w)

-- Where what is known isn't as strong as c, c isn't VOID.
pub met_with_step : (g c : Fact) (n : ℕ) → slot_of g ≡ slot_of c → ¬ IsStronger g c
    → Some n ≡ with_by (Some g) n c
met_with_step g c n s weak = sym (with_by-some g n c
    (λ v. weak (subst (λ f. IsStronger f c) (sym (void_is g (s ∙ ap slot_of v))) tt)))

module _ (u : World) (once : IsEachOnce u.pairs) (old : Log) (c : Fact) (place : ℕ)
    (p : IsPlace (length u.nodes) u.pairs (slot_of c) place) (r : HasRows u old.known)
    (found : Option Cited) (f : found ≡ row_in old.known.rows.items (Some place)) where
  found_at : found ≡ cited_at u old.known (slot_of c)
  found_at = f ∙ read_at u once old.known (slot_of c) place p

  -- what stands in the row is on the slot
  pub found_slot : (row : Cited) → found ≡ Some row → slot_of row.fact ≡ slot_of c
  found_slot row e = r.proper (slot_of c) row.fact (ap fact_of (sym found_at ∙ e))

  -- Nothing changes.
  pub stays_done : (rule arg : ℕ) (premises : List ℕ) → (row : Cited) × (found ≡ Some row)
      × IsStronger row.fact c → Comes u old rule arg premises c old
  stays_done rule arg premises w = inl ((w.0).fact, ap fact_of (sym found_at ∙ w.1), w.2, refl)

  module _ (k : Fact) (e : k ≡ joined (fact_of found) c) where
    kept_is : k ≡ kept_in u old c
    kept_is = e ∙ ap (λ o. joined (fact_of o) c) found_at

    -- what is kept stands on a slot of the universe
    pub kept_known : HasSlot u (slot_of k)
    kept_known =
        let at = known_at u old.known in
        let s : IsStronger (kept_in u old c) c = improved_stronger at (with_fact at c) c
        (kept_in u old c) (with_fact-improves at r.proper c) in
        subst (λ x. HasSlot u (slot_of x)) (sym kept_is)
        (elim (IsStronger-slot (kept_in u old c) c s) [
          | inl v ↦ subst (λ x. HasSlot u (slot_of x)) (sym v) tt
          | inr q ↦ subst (HasSlot u) (sym q)
              (place_slot (length u.nodes) u.pairs (slot_of c) place p)
        ])

    module _ (here : ℕ) (h : IsPlace (length u.nodes) u.pairs (slot_of k) here) where
      -- its place is one of the rows'
      pub kept_within : here < length old.known.rows.items
      kept_within = (let l = place_within (length u.nodes) u.pairs (slot_of k) here h in
          let n = r.count in omega (arith, l, n))

      -- One step more, which is met with this.
      step_as : (new : Log) (rule arg : ℕ) (premises : List ℕ) (with : Option ℕ) (number : ℕ)
          (met : Option Fact) → IsMet rule (known_at u old.known (slot_of c)) c met
          → k ≡ joined met c → with ≡ with_by met (place_in u old.known (slot_of c)) c
          → new.steps.items ≡ old.steps.items
          ++ record { rule = rule; arg = arg; fact = k; with = with; premises = premises } ∷ []
          → new.known.rows.items ≡ slice_set old.known.rows.items here
          (Some (record { fact = k; number = number }))
          → new.known.closed ≡ false → number ≡ old.first + length old.steps.items
          → new.first ≡ old.first → Comes u old rule arg premises c new
      step_as new rule arg premises with number met is f w steps rows unsaid n first =
          let row : Cited = record { fact = k; number = number } in
          inr (record {
            met = met;
            met_is = is;
            steps = steps ∙ (λ i. old.steps.items ++ record {
              rule = rule;
              arg = arg;
              fact = f i;
              with = w i;
              premises = premises;
            } ∷ []);
            here = ap (λ x. cited_at u new.known (slot_of x)) (sym kept_is)
                ∙ put_here u once old.known new.known (slot_of k) here row h rows kept_within
                ∙ (λ i. Some (record { fact = kept_is i; number = n i }));
            others = λ s d. put_there u once old.known new.known (slot_of k) here row h rows s
                (λ q. d (q ∙ ap slot_of kept_is));
            count = ap length rows ∙ length-set old.known.rows.items here (Some row);
            unsaid = unsaid;
            first = first;
          })

      -- One step more.
      pub step_done : (new : Log) (rule arg : ℕ) (premises : List ℕ) (with : Option ℕ) (number : ℕ)
          → number_of found ≡ with_by (fact_of found) (number_or found) c
          → IsMetBy rule found c with → new.steps.items ≡ old.steps.items
          ++ record { rule = rule; arg = arg; fact = k; with = with; premises = premises } ∷ []
          → new.known.rows.items ≡ slice_set old.known.rows.items here
          (Some (record { fact = k; number = number }))
          → new.known.closed ≡ false → number ≡ old.first + length old.steps.items
          → new.first ≡ old.first → Comes u old rule arg premises c new
      step_done new rule arg premises with number all by steps rows unsaid n first =
          elim by [
            | inl y ↦ step_as new rule arg premises with number (known_at u old.known (slot_of c))
                (inl refl) kept_is
                (y ∙ all ∙ ap (λ o. with_by (fact_of o) (number_or o) c) found_at)
                steps rows unsaid n first
            | inr y ↦
                (let stood : known_at u old.known (slot_of c) ≡ Some (y.2.0).fact =
                ap fact_of (sym found_at ∙ y.2.1) in
                let same : kept_in u old c ≡ c = ap (λ o. joined o c) stood
                ∙ alone_joined (y.2.0).fact c y.2.2 in
                step_as new rule arg premises with number None (inr (y.0, refl, same))
                (kept_is ∙ same) y.1 steps rows unsaid n first)
          ]
