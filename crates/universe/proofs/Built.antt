-- The lists that a script gives are those of a universe.
use Rattle.std.specs.Prelude.{◌≡◌, ◌≤◌, ◌++◌, ℕ, List, [], Some, length, map, slice_get}
use Rattle.std.proofs.Common.{inr, subst, ap, ◌∙◌}
use Rattle.fx_model.specs.declared.Node.{Node}
use Rattle.fx_model.specs.Expression.{IsOrdered}
use Rattle.pair_closure.specs.Reached.{Has, IsListOf}
use Rattle.pair_closure.specs.Reached.IsReached.{begin}
use Rattle.pair_closure.specs.Closure.{Pair, AreKnown, IsClosure}
use Rattle.pair_closure.proofs.Members.{has_left, has_right}
use Rattle.facts.specs.declared.fact.Fact.{Fact}
use Rattle.facts.specs.declared.hint.HintRow.{HintRow}
use Rattle.facts.specs.Order.{slot_of}
use Rattle.script_claims.specs.declared.claim.Claim.{Claim}
use Rattle.script_claims.specs.Facts.{goal_of, facts_of}
use Rattle.script_hints.specs.declared.hint.Hint.{Hint}
use Rattle.script_grammar.specs.Spells.{View}
use Rattle.script_grammar.specs.Names.{ClaimIsOf, NamesNodes}
use Rattle.rule_instances.specs.Instances.{IsInstance}
use Rattle.rule_instances.specs.InOrder.{instance_list}
use Rattle.rule_universe.specs.Worlds.{World, HasSlot, IsWhole}
use Rattle.rule_universe.proofs.Wholes.{IsLicensed, licensed_whole}
use Rattle.rewrite_hints.specs.Marks.{AreRows}
use Rattle.universe.specs.Starts.{claims_pairs, hints_pairs, starting_pairs}
use Rattle.universe.specs.Cases.{AreHypotheses}
use Rattle.universe.proofs.Cases.{each_has}
use Rattle.universe.specs.Universes.{IsUniverse}
use Rattle.universe.proofs.Named.{facts_slots, pairs_of_some, longer_by, rows_known}

-- the pairs of hypotheses are among those to begin with
hypothesis_pairs : (s : View) (p : Pair) → Has (claims_pairs s.nodes s.hypotheses) p
    → Has (starting_pairs s) p
hypothesis_pairs s p h =
    has_right s.hints.likes (claims_pairs s.nodes s.hypotheses
    ++ (claims_pairs s.nodes s.goals ++ hints_pairs s.nodes s.hints.rewrites)) p
    (has_left (claims_pairs s.nodes s.hypotheses)
    (claims_pairs s.nodes s.goals ++ hints_pairs s.nodes s.hints.rewrites) p h)

-- the facts of claims that are hypotheses are about slots of the universe
pub hypotheses_slots : (s : View) (u : World) → NamesNodes s → (claims : List Claim)
    → AreHypotheses s claims → IsClosure s.nodes (starting_pairs s) u.nodes u.pairs
    → (k : ℕ) (f : Fact) → slice_get (facts_of claims) k ≡ Some f → HasSlot u (slot_of f)
hypotheses_slots s u named claims are closure =
    facts_slots s.nodes (length s.nodes)
    (length u.nodes) u.pairs (longer_by s.nodes u.nodes closure.begins) claims
    (each_has (ClaimIsOf (length s.nodes)) s named.hypotheses claims are)
    (λ p w. closure.pairs.each p
    (begin p (inr (hypothesis_pairs s p (pairs_of_some s.nodes s.hypotheses claims are p w)))))

module _ (s : View) (u : World) (named : NamesNodes s) (ordered : IsOrdered u.nodes)
    (known : AreKnown u.nodes u.pairs) (few : length u.pairs ≤ 1024) (claims : List Claim)
    (is : IsUniverse s claims u) where
  licensed : IsLicensed u
  licensed = record {
    ordered = ordered;
    known = known;
    once = is.closure.pairs.once;
    few = few;
    rows = rows_known s.nodes u.nodes u.pairs is.closure.begins ordered known s.hints.rewrites
        u.hints is.hints named.hints.rewrites;
    only = is.instances.only;
    each = is.instances.each;
    hypotheses = λ k f e.
        hypotheses_slots s u named claims is.claims_are is.closure k f
        (subst (λ l. slice_get l k ≡ Some f) is.hypotheses e);
  }

  pub built : IsWhole u
  built = licensed_whole u licensed

-- The universe, from what the calls that make its lists answer.
pub universe_of : (s : View) (u : World) (ns ms : List Node) (ss : List Pair)
    (hs : List Hint) (seen : List HintRow) (gs : List Claim) → ns ≡ s.nodes → ss ≡ starting_pairs s
    → IsClosure ns ss u.nodes u.pairs
    → ms ≡ s.nodes → hs ≡ s.hints.rewrites → AreRows ms hs u.hints
    → seen ≡ u.hints → IsListOf (IsInstance u.nodes (Has u.pairs) seen) u.instances
    → u.instances ≡ instance_list u.nodes u.pairs seen
    → gs ≡ s.goals → u.goals ≡ map goal_of gs → u.hypotheses ≡ [] → IsUniverse s [] u
universe_of s u ns ms ss hs seen gs en es closed em eh rows er exactly order eg goals nothing =
    record {
      claims_are = tt;
      closure = subst (λ n. IsClosure n (starting_pairs s) u.nodes u.pairs) en
          (subst (λ l. IsClosure ns l u.nodes u.pairs) es closed);
      goals = goals ∙ ap (map goal_of) eg;
      hypotheses = nothing;
      hints = subst (λ n. AreRows n s.hints.rewrites u.hints) em
          (subst (λ l. AreRows ms l u.hints) eh rows);
      instances = subst (λ l. IsListOf (IsInstance u.nodes (Has u.pairs) l) u.instances) er exactly;
      order = order ∙ ap (instance_list u.nodes u.pairs) er;
    }
