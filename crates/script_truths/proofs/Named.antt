-- What a script gives is about its nodes.
use Rattle.std.specs.Prelude.{◌≡◌, ℕ, List, [], ◌∷◌, Option, Some, None, map, length}
use Rattle.std.specs.List.{AllByRecursion}
use Rattle.std.proofs.Common.{subst}
use Rattle.fx_model.specs.declared.ExprId.{ExprId}
use Rattle.interval.specs.declared.interval.Interval.{Interval}
use Rattle.pair_closure.proofs.Members.{some-inj, has_all}
use Rattle.facts.specs.declared.fact.Fact.{Fact}
use Rattle.facts.specs.declared.fact.Fact.TheVariants as fact
use Rattle.facts.specs.declared.place.FixPlace.{FixPlace}
use Rattle.facts.specs.RelativeConclusions.{rel_of}
use Rattle.facts.specs.declared.relative.RelativeError.{RelativeError}
use Rattle.facts.specs.Order as order
use Rattle.facts.specs.Parts.{error_of_part}
use Rattle.facts.specs.Places.{place_from}
use Rattle.facts.specs.Conclusions.{bnd_of, fix_of}
use Rattle.goals.specs.declared.goal.Goal.{Goal}
use Rattle.script_bounds.specs.Bounds.{written_range, outward_of}
use Rattle.script_claims.specs.declared.claim.Claim.{Claim}
use Rattle.script_claims.specs.declared.claim.Claim.TheVariants.{Bounded, Asked, Relative}
use Rattle.script_claims.specs.declared.claim.Claim.TheVariants.{RelativeAsked, Multiple, Above}
use Rattle.script_claims.specs.declared.claim.Claim.TheVariants.{Below}
use Rattle.script_claims.specs.Facts.{hypothesis_fact, goal_of}
use Rattle.script_claims.proofs.Facts.{facts_all}
use Rattle.script_grammar.specs.Names.{IsNode, AreNodes, ClaimIsOf, HintIsOf}
use Rattle.rule_universe.specs.Licensed.{RowIsKnown}
use Rattle.script_truths.specs.Kept.{SlotIsOf}
use Rattle.script_truths.specs.Named.{FactsAreNamed, GoalsAreNamed, RowsAreNamed}
use Rattle.script_truths.proofs.Rows.{all_from, hint_at, row_known}
use Rattle.script_truths.proofs.Settled.{slot_of_nodes}

module _ (n : ℕ) where
  abbrev IsNamed : Fact → Type 0
  IsNamed f = SlotIsOf n (order.slot_of f)

  from_bnd : (x : ExprId) → IsNode n x → (o : Option Interval) (f : Fact)
      → bnd_of x o ≡ Some f → IsNamed f
  from_bnd x l None f e = cc
  from_bnd x l (Some i) f e = subst IsNamed (some-inj (fact.Bnd x i) f e) l

  from_rel : (x y : ExprId) → AreNodes n (x, y) → (o : Option RelativeError) (f : Fact)
      → rel_of x y o ≡ Some f → IsNamed f
  from_rel x y l None f e = cc
  from_rel x y l (Some d) f e = subst IsNamed (some-inj (fact.Rel x y (Some d)) f e) l

  from_fix : (x : ExprId) → IsNode n x → (o : Option FixPlace) (f : Fact)
      → fix_of x o ≡ Some f → IsNamed f
  from_fix x l None f e = cc
  from_fix x l (Some k) f e = subst IsNamed (some-inj (fact.Fix x k) f e) l

  fact_named : (c : Claim) → ClaimIsOf n c → (f : Fact) → hypothesis_fact c ≡ Some f → IsNamed f
  fact_named (Bounded x lower upper) l f e =
      from_bnd x l (outward_of (written_range lower upper)) f e
  fact_named (Asked x) l f e = cc
  fact_named (Relative x y lower upper) l f e =
      from_rel x y l (error_of_part (outward_of (written_range (Some lower) (Some upper)))) f e
  fact_named (RelativeAsked x y) l f e = cc
  fact_named (Multiple x k) l f e = from_fix x l (place_from k) f e
  fact_named (Above x w) l f e = from_bnd x l (outward_of (written_range (Some w) None)) f e
  fact_named (Below x w) l f e = from_bnd x l (outward_of (written_range None (Some w))) f e

  goals_named_in : (cs : List Claim) → AllByRecursion (ClaimIsOf n) cs
      → AllByRecursion (λ (g : Goal). SlotIsOf n g.of) (map goal_of cs)
  goals_named_in [] l = tt
  goals_named_in (c ∷ cs) l = (slot_of_nodes n c l.0, goals_named_in cs l.1)

pub facts_named : FactsAreNamed
facts_named s names = facts_all (IsNamed (length s.nodes)) (ClaimIsOf (length s.nodes))
    (λ c f e l. fact_named (length s.nodes) c l f e) s.hypotheses names.hypotheses

pub goals_named : GoalsAreNamed
goals_named s names = goals_named_in (length s.nodes) s.goals names.goals

pub rows_named : RowsAreNamed
rows_named s ordered names rows are = all_from (RowIsKnown (length s.nodes)) rows (λ row m.
    let h = hint_at s.nodes s.hints.rewrites rows are m.0 row m.1 in
    row_known s.nodes ordered h.0 row
    (has_all (HintIsOf (length s.nodes)) s.hints.rewrites names.hints.rewrites h.0 h.1) h.2)
