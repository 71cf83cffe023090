-- Each box comes to one thing, which its best table decides.
use Rattle.std.specs.Prelude.{◌≡◌, ◌↔◌, ◌<◌, ℕ, zero, suc, Bool, true, false, List, [], ◌∷◌, Option}
use Rattle.std.specs.Prelude.{Some, None, slice_get, IsTrue, if◌then◌else◌, refl}
use Rattle.std.proofs.Common.{sym, ◌∙◌, ap, subst, inl, inr, arith}
use Rattle.std.proofs.lemmas.Bool.{cases_lt, and_parts, and_from}
use Rattle.fx_model.specs.Fraction.{Fraction}
use Rattle.fx_model.specs.Grid.{Bound, Below, At, Above, le_bound}
use Rattle.dyadic.specs.Compared.{BoundLe_in, BoundLe_out}
use Rattle.interval.specs.declared.interval.Interval.{Interval}
use Rattle.interval.specs.Intervals.{range_of}
use Rattle.facts.specs.declared.fact.Fact.{Fact}
use Rattle.facts.specs.declared.fact.Slot.{Slot}
use Rattle.facts.specs.declared.fact.Fact.TheVariants as fact
use Rattle.facts.specs.declared.fact.Slot.TheVariants as slot
use Rattle.facts.specs.Order.{slot_of, IsStronger}
use Rattle.facts.proofs.Meets.{IsStronger-antisymm}
use Rattle.facts.proofs.CommonParts.{at_option, void_is}
use Rattle.goals.specs.Settles.{IsWanted, HasWanted, Settles}
use Rattle.goals.specs.Stronger.{StrongerSettles}
use Rattle.goals.specs.declared.goal.Want.{Want}
use Rattle.goals.specs.declared.goal.Want.TheVariants.{Ask, Inside}
use Rattle.goals.specs.declared.goal.Goal.{Goal}
use Rattle.derivation.specs.Derivations.{Setting, IsBest}
use Rattle.derivation.specs.Known.{Piece, GivenAt, Known, IsTableAt}
use Rattle.derivation.specs.Settled.{IsSettled, State, settled, void, unsettled, IsFirstOpen}
use Rattle.derivation.specs.Settled.{IsState}
use Rattle.derivation.specs.Decided.{is_number, is_wanted, has_wanted, is_settled, one_later}
use Rattle.derivation.specs.Decided.{first_open, state_by, state_in}
use Rattle.derivation.specs.Rounds.{IsSame}
use Rattle.derivation.proofs.Parts.{none_some, some_same, not_void}
use Rattle.derivation.proofs.Best.{best_proper}

-- ---- best tables agree
best_below : (u : Setting) (G : Fact → Type 0) (h : ℕ) (at new : Slot → Option Fact)
    → IsBest u G h at → IsBest u G h new → new slot.Void ≡ None
    → (s : Slot) (f : Fact) → at s ≡ Some f
    → (g : Fact) × (new s ≡ Some g) × IsStronger g f
best_below u G h at new b c v s f e =
    let r = b.reached s f e in
    let y = c.least v f r.1 in
    (y.0, ap new (sym r.0) ∙ y.1, y.2)

-- VOID is in both of two best tables, or in none
void_agrees : (u : Setting) (G : Fact → Type 0) (h : ℕ) (at new : Slot → Option Fact)
    → IsBest u G h at → IsBest u G h new → at slot.Void ≡ None → new slot.Void ≡ None
void_agrees u G h at new b c v =
    at_option (new slot.Void) (λ o. new slot.Void ≡ o → new slot.Void ≡ None) (λ n q. q)
    (λ f n q. let y = best_below u G h new at c b v slot.Void f q in
    absurd (none_some y.0 (at slot.Void) v y.1)) refl

-- Where VOID isn't, two best tables have the same facts.
pub best_once : (u : Setting) (G : Fact → Type 0) (h : ℕ) (at new : Slot → Option Fact)
    → IsBest u G h at → IsBest u G h new → at slot.Void ≡ None → IsSame at new
best_once u G h at new b c v s =
    at_option (at s) (λ o. at s ≡ o → new s ≡ at s)
    (λ n q. at_option (new s) (λ o. new s ≡ o → new s ≡ at s) (λ m w. w ∙ sym q)
    (λ g m w. let y = best_below u G h new at c b v s g w in
    absurd (none_some y.0 (at s) q y.1)) refl)
    (λ f n q.
    let x = best_below u G h at new b c (void_agrees u G h at new b c v) s f q in
    let y = best_below u G h new at c b v s x.0 x.1 in
    let same : y.0 ≡ f = some_same y.0 f (at s) y.1 q in
    x.1 ∙ ap Some (IsStronger-antisymm x.0 f x.2 (subst (λ g. IsStronger g x.0) same y.2)) ∙ sym q)
    refl

-- ---- the tests
number_in : (b : Bound) → is_number b ≡ true → (g : Fraction) × (b ≡ At g)
number_in (At g) e = (g, refl)
number_in Below e = cc
number_in Above e = cc

is_wanted_in : (want : Want) (i : Interval) → is_wanted want i ≡ true → IsWanted want i
is_wanted_in Ask i e =
    let t = and_parts (is_number (range_of i).low) (is_number (range_of i).high) e in
    let l = number_in (range_of i).low t.0 in
    let h = number_in (range_of i).high t.1 in
    (l.0, h.0, l.1, h.1)
is_wanted_in (Inside (Some b)) i e =
    let t = and_parts (le_bound (range_of b).low (range_of i).low)
    (le_bound (range_of i).high (range_of b).high) e in (
      BoundLe_in (range_of b).low (range_of i).low t.0,
      BoundLe_in (range_of i).high (range_of b).high t.1,
    )
is_wanted_in (Inside None) i e = cc

is_wanted_out : (want : Want) (i : Interval) → IsWanted want i → is_wanted want i ≡ true
is_wanted_out Ask i m = and_from (is_number (range_of i).low) (is_number (range_of i).high)
    (ap is_number m.2) (ap is_number m.3)
is_wanted_out (Inside (Some b)) i m = and_from (le_bound (range_of b).low (range_of i).low)
    (le_bound (range_of i).high (range_of b).high)
    (BoundLe_out (range_of b).low (range_of i).low m.0)
    (BoundLe_out (range_of i).high (range_of b).high m.1)
is_wanted_out (Inside None) i m = absurd m

has_wanted_in : (want : Want) (o : Option Fact) → has_wanted want o ≡ true
    → (f : Fact) × (o ≡ Some f) × HasWanted want f
has_wanted_in want (Some (fact.Bnd x i)) e = (fact.Bnd x i, refl, is_wanted_in want i e)
has_wanted_in want (Some (fact.Rel x y (Some d))) e =
    (fact.Rel x y (Some d), refl, is_wanted_in want d.interval e)
has_wanted_in want (Some (fact.Rel x y None)) e = (fact.Rel x y None, refl, tt)
has_wanted_in want (Some (fact.Abs x i)) e = cc
has_wanted_in want (Some (fact.Fix x k)) e = cc
has_wanted_in want (Some (fact.Nzr x)) e = cc
has_wanted_in want (Some fact.Void) e = cc
has_wanted_in want None e = cc

has_wanted_out : (want : Want) (f : Fact) → HasWanted want f → has_wanted want (Some f) ≡ true
has_wanted_out want (fact.Bnd x i) a = is_wanted_out want i a
has_wanted_out want (fact.Rel x y (Some d)) a = is_wanted_out want d.interval a
has_wanted_out want (fact.Rel x y None) a = refl
has_wanted_out want (fact.Abs x i) a = absurd a
has_wanted_out want (fact.Fix x k) a = absurd a
has_wanted_out want (fact.Nzr x) a = absurd a
has_wanted_out want fact.Void a = absurd a

-- a test of what has the wanted
pub has_wanted_test : (want : Want) (f : Fact) (b : Bool) → (IsTrue b ↔ HasWanted want f)
    → b ≡ has_wanted want (Some f)
has_wanted_test want f true t = sym (has_wanted_out want f (t.0 refl))
has_wanted_test want f false t = at_test (has_wanted want (Some f)) refl
  where
    at_test : (d : Bool) → has_wanted want (Some f) ≡ d → false ≡ has_wanted want (Some f)
    at_test false e = sym e
    at_test true e =
        let w = has_wanted_in want (Some f) e in
        let same : w.0 ≡ f = some_same w.0 f (Some f) w.1 refl in
        let h : false ≡ true = t.1 (subst (HasWanted want) same w.2) in
        cc

-- ---- goals
module _ (stronger : StrongerSettles) (u : Setting) (height : ℕ) (pieces : List Piece)
    (at : Slot → Option Fact) (b : IsTableAt u height pieces at) where
  settled_in : (goal : Goal) → is_settled at goal ≡ true → IsSettled u height pieces goal
  settled_in goal e =
      let t = has_wanted_in goal.want (at goal.of) e in
      let r = b.reached goal.of t.0 t.1 in
      (t.0, r.1, (r.0, t.2))

  settled_out : at slot.Void ≡ None → (goal : Goal) → IsSettled u height pieces goal
      → is_settled at goal ≡ true
  settled_out v goal m =
      let y = b.least v m.0 m.1 in
      let n = not_void at (best_proper u (GivenAt u height pieces) height at b) v
      (slot_of m.0) y.0 y.1 in
      let s : Settles goal y.0 =
      elim (stronger goal m.0 y.0 m.2 y.2) [ inl e ↦ absurd (n e) | inr r ↦ r ] in
      ap (has_wanted goal.want) (ap at (sym m.2.0) ∙ y.1) ∙ has_wanted_out goal.want y.0 s.1

  void_out : Known u height pieces fact.Void → at slot.Void ≡ None → ⊥
  void_out k v = let y = b.least v fact.Void k in none_some y.0 (at slot.Void) v y.1

  -- what the search for the least goal finds
  abbrev Found : List Goal → Option ℕ → Type 0
  Found goals None = (k : ℕ) (goal : Goal) → slice_get goals k ≡ Some goal
      → IsSettled u height pieces goal
  Found goals (Some k) = IsFirstOpen u goals height pieces k

  all_later : (goal : Goal) (goals : List Goal) → IsSettled u height pieces goal → Found goals None
      → (k : ℕ) (g : Goal) → slice_get (goal ∷ goals) k ≡ Some g → IsSettled u height pieces g
  all_later goal goals m f zero g e =
      subst (IsSettled u height pieces) (let h : goal ≡ g = cc in h) m
  all_later goal goals m f (suc k) g e = f k g e

  found_later : (goal : Goal) (goals : List Goal) (o : Option ℕ) → IsSettled u height pieces goal
      → Found goals o → Found (goal ∷ goals) (one_later o)
  found_later goal goals None m f = all_later goal goals m f
  found_later goal goals (Some k) m f = record {
    goal = f.goal;
    there = f.there;
    still_open = f.still_open;
    before = earlier;
  }
    where
      earlier : (j : ℕ) (g : Goal) → j < suc k → slice_get (goal ∷ goals) j ≡ Some g
          → IsSettled u height pieces g
      earlier zero g l e = subst (IsSettled u height pieces) (let h : goal ≡ g = cc in h) m
      earlier (suc j) g l e = f.before j g (omega arith) e

  found : at slot.Void ≡ None → (goals : List Goal) → Found goals (first_open at goals)
  found v [] = λ k goal e. cc
  found v (goal ∷ goals) = at_test (is_settled at goal) refl (found v goals)
    where
      at_test : (t : Bool) → is_settled at goal ≡ t → Found goals (first_open at goals)
          → Found (goal ∷ goals) (if t then one_later (first_open at goals) else Some zero)
      at_test true e f = found_later goal goals (first_open at goals) (settled_in goal e) f
      at_test false e f = record {
        goal = goal;
        there = refl;
        still_open = λ m. (let h : true ≡ false = sym (settled_out v goal m) ∙ e in cc);
        before = λ j g l q. absurd (omega arith);
      }

  -- The best table decides what the box comes to.
  pub state_in-is : (goals : List Goal) → IsState u goals height pieces (state_in at goals)
  state_in-is goals =
      at_option (at slot.Void) (λ o. at slot.Void ≡ o
      → IsState u goals height pieces (state_by o (first_open at goals)))
      (λ n e. by_goals e (first_open at goals) (found e goals))
      (λ f n e. let r = b.reached slot.Void f e in
      subst (Known u height pieces) (void_is f r.0) r.1)
      refl
    where
      by_goals : at slot.Void ≡ None → (o : Option ℕ) → Found goals o
          → IsState u goals height pieces (state_by None o)
      by_goals e None f = (λ k. void_out k e, f)
      by_goals e (Some k) f = (λ w. void_out w e, f)

-- ---- one thing alone
open_once : (u : Setting) (goals : List Goal) (height : ℕ) (pieces : List Piece) (j k : ℕ)
    → IsFirstOpen u goals height pieces j → IsFirstOpen u goals height pieces k → ¬ (j < k)
open_once u goals height pieces j k f g l = f.still_open (g.before j f.goal l f.there)

-- A box comes to one thing alone.
pub state_once : (u : Setting) (goals : List Goal) (height : ℕ) (pieces : List Piece) (s t : State)
    → IsState u goals height pieces s → IsState u goals height pieces t → s ≡ t
state_once u goals height pieces void void p q = refl
state_once u goals height pieces settled settled p q = refl
state_once u goals height pieces (unsettled j) (unsettled k) p q =
    elim (cases_lt j k) [
      | inl l ↦ absurd (open_once u goals height pieces j k p.1 q.1 l)
      | inr l ↦ elim (cases_lt k j) [
        | inl m ↦ absurd (open_once u goals height pieces k j q.1 p.1 m)
        | inr m ↦ ap unsettled (let h : j ≡ k = omega arith in h)
      ]
    ]
state_once u goals height pieces void settled p q = absurd (q.0 p)
state_once u goals height pieces void (unsettled k) p q = absurd (q.0 p)
state_once u goals height pieces settled void p q = absurd (p.0 q)
state_once u goals height pieces (unsettled k) void p q = absurd (p.0 q)
state_once u goals height pieces settled (unsettled k) p q =
    absurd (q.1.still_open (p.1 k q.1.goal q.1.there))
state_once u goals height pieces (unsettled k) settled p q =
    absurd (p.1.still_open (q.1 k p.1.goal p.1.there))
