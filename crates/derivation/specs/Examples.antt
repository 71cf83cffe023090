-- Small boxes, worked out.
use Rattle.std.specs.Prelude.{◌≡◌, ℕ, true, false, List, [], ◌∷◌, Some, None, if◌then◌else◌, refl}
use Rattle.std.proofs.Common.{inl, inr, arith}
use Rattle.fx_model.specs.declared.ExprId.{ExprId}
use Rattle.fx_model.specs.declared.Node.TheVariants as node
use Rattle.interval.specs.declared.interval.Interval.{Interval}
use Rattle.interval.specs.Results.{whole_interval}
use Rattle.facts.specs.declared.size.Size.{Size}
use Rattle.facts.specs.declared.place.FixPlace.{FixPlace}
use Rattle.facts.specs.declared.fact.Fact.TheVariants as fact
use Rattle.facts.specs.declared.fact.Slot.TheVariants as slot
use Rattle.facts.specs.Order.{is_same}
use Rattle.facts.specs.declared.instance.Instance.{Instance}
use Rattle.goals.specs.declared.goal.Want.TheVariants.{Ask, Inside}
use Rattle.goals.specs.declared.goal.Goal.{Goal}
use Rattle.derivation.specs.Lists.{RuleList}
use Rattle.derivation.specs.Derivations.{Setting, At, given, drawn, none, next}
use Rattle.derivation.specs.Known.{Known}
use Rattle.derivation.specs.Settled.{settled, void, unsettled}
use Rattle.derivation.specs.Decided.{has_wanted, state_in}
use Rattle.derivation.specs.Counted.{is_touched}

abbrev numbered : ℕ → ExprId
numbered n = record { 0 = n }

-- ---- derivations
-- one rule, which carries an interval over to the target's expression
abbrev carry : RuleList
carry number arg (fact.Bnd x i ∷ []) (slot.Bnd y) = Some (fact.Bnd y i)
carry _ _ _ _ = None

abbrev from_to : ℕ → ℕ → Instance
from_to x y = record {
  rule = 1;
  arg = 0;
  target = slot.Bnd (numbered y);
  premises = slot.Bnd (numbered x) ∷ [];
}

-- the interval of 0 goes to 1, and from there to 2; the list has it the other way round; 3 is a
-- variable
abbrev carried : Interval → Setting
carried i = record {
  rules = carry;
  nodes = node.Neg (numbered 1) ∷ node.Neg (numbered 2) ∷ node.Neg (numbered 3) ∷ node.Var 0 ∷ [];
  hypotheses = fact.Bnd (numbered 0) i ∷ [];
  instances = from_to 1 2 ∷ from_to 0 1 ∷ [];
}

-- with no round a hypothesis is known, and that a variable has a value
hypothesis_known : (i : Interval) → Known (carried i) 0 [] (fact.Bnd (numbered 0) i)
hypothesis_known i = given (inl (0, omega arith, refl))

variable_known : (i : Interval) → Known (carried i) 0 [] (fact.Bnd (numbered 3) whole_interval)
variable_known i = given (inr (numbered 3, 0, refl, refl))

-- each rule is a round
one_step : (i : Interval) → Known (carried i) 1 [] (fact.Bnd (numbered 1) i)
one_step i = drawn 1 (from_to 0 1) refl (next (slot.Bnd (numbered 0))
    (fact.Bnd (numbered 0) i) refl (given (inl (0, omega arith, refl))) none) refl

two_steps : (i : Interval) → Known (carried i) 2 [] (fact.Bnd (numbered 2) i)
two_steps i =
    let first = drawn 1 (from_to 0 1) refl (next (slot.Bnd (numbered 0))
    (fact.Bnd (numbered 0) i) refl (given (inl (0, omega arith, refl))) none) refl in
    drawn 0 (from_to 1 2) refl
    (next (slot.Bnd (numbered 1)) (fact.Bnd (numbered 1) i) refl first none) refl

-- A child has its piece with no round, and goes on from what is known at its parent.
piece_known : (i j : Interval)
    → Known (carried i) 0 ((numbered 3, j) ∷ []) (fact.Bnd (numbered 3) j)
piece_known i j = given (inr (inl refl))

child_goes_on : (i j : Interval)
    → Known (carried i) 1 ((numbered 3, j) ∷ []) (fact.Bnd (numbered 2) i)
child_goes_on i j = drawn 0 (from_to 1 2) refl (next (slot.Bnd (numbered 1))
    (fact.Bnd (numbered 1) i) refl (given (inr (inr (one_step i)))) none) refl

-- ---- what settles a goal
line_is_no_answer : (x : ExprId) → has_wanted Ask (Some (fact.Bnd x whole_interval)) ≡ false
line_is_no_answer x = refl

line_is_inside_the_line : (x : ExprId)
    → has_wanted (Inside (Some whole_interval)) (Some (fact.Bnd x whole_interval)) ≡ true
line_is_inside_the_line x = refl

crossing_bounds_hold_nothing : (x : ExprId) (i : Interval)
    → has_wanted (Inside None) (Some (fact.Bnd x i)) ≡ false
crossing_bounds_hold_nothing x i = refl

zeros_settle_all : (x y : ExprId) → has_wanted (Inside None) (Some (fact.Rel x y None)) ≡ true
zeros_settle_all x y = refl

sizes_settle_nothing : (x : ExprId) (s : Size) → has_wanted Ask (Some (fact.Abs x s)) ≡ false
sizes_settle_nothing x s = refl

multiples_settle_nothing : (x : ExprId) (k : FixPlace)
    → has_wanted Ask (Some (fact.Fix x k)) ≡ false
multiples_settle_nothing x k = refl

-- ---- what a box comes to
abbrev of_pair : ℕ → Goal
of_pair x = record { of = slot.Rel (numbered x) (numbered x); want = Ask }

-- a table in which both sides of one pair are 0
abbrev zeros : At
zeros (slot.Rel x y) = if is_same x (numbered 1) then Some (fact.Rel x y None) else None
zeros _ = None

no_goals : state_in zeros [] ≡ settled
no_goals = refl

one_goal : state_in zeros (of_pair 1 ∷ []) ≡ settled
one_goal = refl

least_goal : state_in zeros (of_pair 1 ∷ of_pair 2 ∷ of_pair 3 ∷ []) ≡ unsettled 1
least_goal = refl

void_goes_first : (goals : List Goal) → state_in (λ s. Some fact.Void) goals ≡ void
void_goes_first goals = refl

-- ---- which instances are touched
abbrev blank : At
blank s = None

one_premise_is_enough : is_touched blank zeros
    (slot.Void ∷ slot.Rel (numbered 1) (numbered 2) ∷ []) ≡ true
one_premise_is_enough = refl

others_are_not : is_touched blank zeros
    (slot.Void ∷ slot.Rel (numbered 2) (numbered 1) ∷ []) ≡ false
others_are_not = refl

no_premises_are_not : is_touched blank zeros [] ≡ false
no_premises_are_not = refl
