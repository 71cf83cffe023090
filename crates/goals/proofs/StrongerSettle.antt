-- A stronger fact settles what a fact settles.
use Rattle.std.specs.Prelude.{◌≡◌, ◌⊎◌, Some, None}
use Rattle.std.proofs.Common.{refl, subst, ap, ◌∙◌, inl, inr, ⊎_elim}
use Rattle.fx_model.specs.Fraction.{Fraction}
use Rattle.fx_model.specs.Grid.{Bound, Below, At, Above}
use Rattle.fx_model.specs.Enclosure.{BoundLe, IsFinite, IsOrdered}
use Rattle.interval.specs.declared.interval.Interval.{Interval}
use Rattle.interval.specs.Intervals.{range_of}
use Rattle.facts.specs.declared.fact.Fact.{Fact}
use Rattle.facts.specs.declared.fact.Fact.TheVariants as fact
use Rattle.facts.specs.declared.fact.Slot.TheVariants as slot
use Rattle.facts.specs.Order.{slot_of, IsWithin, IsStronger}
use Rattle.facts.proofs.Laws.{IsWithin-trans}
use Rattle.goals.specs.declared.goal.Want.{Want}
use Rattle.goals.specs.declared.goal.Want.TheVariants.{Ask, Inside}
use Rattle.goals.specs.declared.goal.Goal.{Goal}
use Rattle.goals.specs.Settles.{IsWanted, HasWanted, Settles}
use Rattle.goals.specs.Holds.{IsOfGoal}

pub of_goal : (want : Want) (f : Fact) → HasWanted want f → IsOfGoal f
of_goal want (fact.Bnd x i) a = tt
of_goal want (fact.Rel x y e) a = tt
of_goal want _ a = absurd a

-- ---- intervals
finite_between : (low high : Bound) (g h : Fraction) → IsOrdered low high → BoundLe (At g) low
    → BoundLe high (At h) → (p : Fraction) × (q : Fraction) × (low ≡ At p) × (high ≡ At q)
finite_between (At p) (At q) g h o l m = (p, q, refl, refl)
finite_between Below high g h o l m = absurd l
finite_between Above high g h o l m = absurd o
finite_between (At p) Below g h o l m = absurd o
finite_between (At p) Above g h o l m = absurd m

finite_within : (i j : Interval) → IsWithin j i → IsFinite (range_of i) → IsFinite (range_of j)
finite_within i j w f =
    finite_between (range_of j).low (range_of j).high f.0 f.1 j.ordered
    (subst (λ b. BoundLe b (range_of j).low) f.2 w.0)
    (subst (λ b. BoundLe (range_of j).high b) f.3 w.1)

wanted_within : (want : Want) (i j : Interval) → IsWithin j i → IsWanted want i → IsWanted want j
wanted_within Ask i j w m = finite_within i j w m
wanted_within (Inside (Some bounds)) i j w m = IsWithin-trans j i bounds w m
wanted_within (Inside None) i j w m = absurd m

-- ---- facts
-- on one slot, and answering
abbrev AlsoHasWanted : Want → Fact → Fact → Type 0
AlsoHasWanted want f g = (g ≡ fact.Void) ⊎ ((slot_of g ≡ slot_of f) × HasWanted want g)

has_wanted_stronger : (want : Want) (f g : Fact) → HasWanted want f
    → IsStronger g f → AlsoHasWanted want f g
has_wanted_stronger want f fact.Void a s = inl refl
has_wanted_stronger want (fact.Bnd x i) (fact.Bnd y j) a s =
    inr (ap slot.Bnd s.0, wanted_within want i j s.1 a)
has_wanted_stronger want (fact.Rel x y d) (fact.Rel z w None) a s =
    inr (λ k. slot.Rel (s.0 k) (s.1 k), tt)
has_wanted_stronger want (fact.Rel x y (Some d)) (fact.Rel z w (Some e)) a s =
    inr (λ k. slot.Rel (s.0 k) (s.1 k), wanted_within want d.interval e.interval s.2 a)
has_wanted_stronger want (fact.Rel x y None) (fact.Rel z w (Some e)) a s = absurd s.2
has_wanted_stronger want (fact.Abs x i) g a s = absurd a
has_wanted_stronger want (fact.Fix x k) g a s = absurd a
has_wanted_stronger want (fact.Nzr x) g a s = absurd a
has_wanted_stronger want fact.Void g a s = absurd a
has_wanted_stronger want _ _ a s = absurd s

pub settles_stronger : (goal : Goal) (f g : Fact) → Settles goal f → IsStronger g f
    → (g ≡ fact.Void) ⊎ Settles goal g
settles_stronger goal f g h s =
    ⊎_elim (λ v. inl v) (λ (p : (slot_of g ≡ slot_of f) × HasWanted goal.want g). inr
    (p.0 ∙ h.0, p.1)) (has_wanted_stronger goal.want f g h.1 s)
