-- The hypotheses of a formula are the claims of its parts.
use Rattle.std.specs.Prelude.{◌≡◌, List, [], ◌∷◌, ◌++◌, refl}
use Rattle.std.specs.List.{flat_map}
use Rattle.std.proofs.Common.{ap, sym, ◌∙◌, append_assoc, append-nil}
use Rattle.std.proofs.lemmas.Grind.{flat_map-append}
use Rattle.script_shape.specs.Propositions.{Formula, single, and, or, implies}
use Rattle.script_cases.specs.Cases.{all_items}
use Rattle.script_cases.specs.Parts.{part_of}
use Rattle.script_nodes.specs.Known.{Known}
use Rattle.script_claims.specs.declared.claim.Claim.{Claim}
use Rattle.script_claims.specs.Claims.{Sides, no_sides, with_goal, behind_or_sign, behind_arrow}
use Rattle.script_claims.specs.Claims.{stated_claim, then_or, then_arrow, formula_claims}
use Rattle.script_claims.specs.Claims.{PartsHaveHypotheses}

items_joined : (a b : List (List (List Claim))) → all_items (a ++ b) ≡ all_items a ++ all_items b
items_joined [] b = refl
items_joined (p ∷ a) b = ap (λ l. flat_map (λ c. c) p ++ l) (items_joined a b)
    ∙ sym (append_assoc (flat_map (λ c. c) p) (all_items a) (all_items b))

one_last : (a : List (List Claim)) (c : List Claim)
    → flat_map (λ x. x) (a ++ (c ∷ [])) ≡ flat_map (λ x. x) a ++ c
one_last a c =
    flat_map-append (λ x. x) a (c ∷ []) ∙ ap (λ l. flat_map (λ x. x) a ++ l) (append-nil c)

-- the hypotheses are the claims of the parts that have ended, and the goals those of the part in
-- hand
record AreSorted (s : Sides) : Type 0 where
  hypotheses : s.hypotheses ≡ all_items s.parts.before
  goals : s.goals ≡ flat_map (λ c. c) s.parts.ended ++ s.parts.last

goal_sorted : (s : Sides) (c : Claim) → AreSorted s → AreSorted (with_goal s c)
goal_sorted s c h = record {
  hypotheses = h.hypotheses;
  goals = ap (λ l. l ++ (c ∷ [])) h.goals
      ∙ append_assoc (flat_map (λ x. x) s.parts.ended) s.parts.last (c ∷ []);
}

or_sorted : (s : Sides) → AreSorted s → AreSorted (behind_or_sign s)
or_sorted s h = record {
  hypotheses = h.hypotheses;
  goals = h.goals ∙ sym (one_last s.parts.ended s.parts.last)
      ∙ sym (append-nil (flat_map (λ x. x) (part_of s.parts)));
}

arrow_sorted : (s : Sides) → AreSorted s → AreSorted (behind_arrow s)
arrow_sorted s h = record {
  hypotheses =
      (λ i. h.hypotheses i ++ (h.goals ∙ sym (one_last s.parts.ended s.parts.last)
      ∙ sym (append-nil (flat_map (λ x. x) (part_of s.parts)))) i)
      ∙ sym (items_joined s.parts.before (part_of s.parts ∷ []));
  goals = refl;
}

sorted : (f : Formula) (k : Known) → AreSorted (formula_claims f k).sides
sorted (single p) k =
    goal_sorted no_sides (stated_claim p k).1 (record { hypotheses = refl; goals = refl })
sorted (and f p) k = goal_sorted (formula_claims f k).sides _ (sorted f k)
sorted (or f p) k = goal_sorted (then_or (formula_claims f k)).sides _
    (or_sorted (formula_claims f k).sides (sorted f k))
sorted (implies f p) k = goal_sorted (then_arrow (formula_claims f k)).sides _
    (arrow_sorted (formula_claims f k).sides (sorted f k))

pub parts_hold_hypotheses : PartsHaveHypotheses
parts_hold_hypotheses f k = (sorted f k).hypotheses
