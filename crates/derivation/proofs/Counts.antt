-- Laws of what specs/Counts defines.
use Rattle.std.specs.Prelude.{◌≡◌, ◌≢◌, ◌<◌, ◌≤◌, ◌+◌, ◌-◌, ◌&&◌, ℕ, zero, suc, not, Bool, true}
use Rattle.std.specs.Prelude.{false, List, [], ◌∷◌, Option, Some, None, length, count_by, cond}
use Rattle.std.specs.Prelude.{slice_get, Contains, refl}
use Rattle.std.specs.Ordering.{int_eq}
use Rattle.std.proofs.Common.{sym, ap, subst, inl, inr, arith, get_or}
use Rattle.std.proofs.lemmas.Int.{ints}
use Rattle.std.proofs.lemmas.Bool.Decides.{Decides-int_eq}
use Rattle.std.proofs.lemmas.List.Recursion.{is_count_by}
use Rattle.std.proofs.lemmas.Bool.{and_parts, or_right, or_left}
use Rattle.fx_model.specs.declared.ExprId.{ExprId}
use Rattle.fx_model.specs.Grid.{le_bound}
use Rattle.dyadic.specs.Compared.{BoundLe_in}
use Rattle.interval.specs.declared.interval.Interval.{Interval}
use Rattle.interval.specs.Intervals.{range_of}
use Rattle.facts.specs.declared.relative.RelativeError.{RelativeError}
use Rattle.facts.specs.declared.place.FixPlace.{FixPlace}
use Rattle.facts.specs.declared.fact.Fact.{Fact}
use Rattle.facts.specs.declared.fact.Slot.{Slot}
use Rattle.facts.specs.declared.fact.Fact.TheVariants as fact
use Rattle.facts.specs.declared.fact.Slot.TheVariants as slot
use Rattle.facts.proofs.CommonParts.{expr_same}
use Rattle.facts.specs.Order.{is_same, IsWithin, IsWithinError, IsStronger}
use Rattle.facts.proofs.Laws.{IsStronger-refl, IsStronger-trans}
use Rattle.facts.proofs.Meets.{IsStronger-antisymm}
use Rattle.facts.specs.declared.instance.Instance.{Instance}
use Rattle.derivation.specs.Lists.{IsLawful}
use Rattle.derivation.specs.Derivations.{Setting, Derives, At, Beats, IsBest, IsClosed}
use Rattle.derivation.specs.Rounds.{IsProper, InTable}
use Rattle.derivation.specs.Known.{Piece, IsGiven, GivenAt, Known}
use Rattle.derivation.specs.Begun.{IsGathered, FirstLines}
use Rattle.derivation.proofs.Begun.{Also, given_lines, known_given}
use Rattle.derivation.proofs.Rebased.{rebase}
use Rattle.derivation.proofs.States.{best_once}
use Rattle.derivation.specs.Decided.{is_within}
use Rattle.derivation.specs.Changes.{AreUsers}
use Rattle.derivation.proofs.Parts.{some_same}
use Rattle.derivation.specs.Counted.{same_interval, same_error, same_fact, differ, is_touched}
use Rattle.derivation.specs.Counted.{touched, touched_by, AreHeights}
use Rattle.derivation.specs.Counts.{IsRisen, AreRisen}

-- ---- facts that pass the test are the same
within_in : (i j : Interval) → is_within i j ≡ true → IsWithin i j
within_in i j e =
    let t = and_parts (le_bound (range_of j).low (range_of i).low)
    (le_bound (range_of i).high (range_of j).high) e in (
      BoundLe_in (range_of j).low (range_of i).low t.0,
      BoundLe_in (range_of i).high (range_of j).high t.1,
    )

-- each is stronger than the other
abbrev AreEqual : Fact → Fact → Type 0
AreEqual f g = IsStronger f g × IsStronger g f

intervals_in : (i j : Interval) → same_interval i j ≡ true → IsWithin i j × IsWithin j i
intervals_in i j e = let t = and_parts (is_within i j) (is_within j i) e in
    (within_in i j t.0, within_in j i t.1)

errors_in : (d e : Option RelativeError) → same_error d e ≡ true
    → IsWithinError d e × IsWithinError e d
errors_in None None t = (tt, tt)
errors_in (Some d) (Some e) t = intervals_in d.interval e.interval t
errors_in None (Some e) t = cc
errors_in (Some d) None t = cc

places_in : (x y : ExprId) (k n : FixPlace) → x ≡ y → int_eq k.exponent n.exponent ≡ true
    → AreEqual (fact.Fix x k) (fact.Fix y n)
places_in x y k n p e =
    let q : k.exponent ≡ n.exponent = (Decides-int_eq k.exponent n.exponent).0 e in
    ((p, omega (arith, ints)), (sym p, omega (arith, ints)))

facts_in : (f g : Fact) → same_fact f g ≡ true → AreEqual f g
facts_in (fact.Bnd x i) (fact.Bnd y j) e =
    let t = and_parts (is_same x y) (same_interval i j) e in
    let p = expr_same x y t.0 in
    let w = intervals_in i j t.1 in
    ((p, w.0), (sym p, w.1))
facts_in (fact.Abs x i) (fact.Abs y j) e =
    let t = and_parts (is_same x y) (same_interval i.interval j.interval) e in
    let p = expr_same x y t.0 in
    let w = intervals_in i.interval j.interval t.1 in
    ((p, w.0), (sym p, w.1))
facts_in (fact.Rel x z c) (fact.Rel y u d) e =
    let t = and_parts (is_same x y && is_same z u) (same_error c d) e in
    let v = and_parts (is_same x y) (is_same z u) t.0 in
    let p = expr_same x y v.0 in
    let q = expr_same z u v.1 in
    let w = errors_in c d t.1 in
    ((p, q, w.0), (sym p, sym q, w.1))
facts_in (fact.Fix x k) (fact.Fix y n) e =
    let t = and_parts (is_same x y) (int_eq k.exponent n.exponent) e in
    places_in x y k n (expr_same x y t.0) t.1
facts_in (fact.Nzr x) (fact.Nzr y) e = (expr_same x y e, sym (expr_same x y e))
facts_in fact.Void fact.Void e = (tt, tt)
facts_in _ _ e = cc

same_in : (f g : Fact) → same_fact f g ≡ true → f ≡ g
same_in f g e = let w = facts_in f g e in IsStronger-antisymm f g w.0 w.1

-- facts that aren't the same differ
pub differ_in : (a b : Option Fact) → a ≢ b → differ a b ≡ true
differ_in None None n = absurd (n refl)
differ_in None (Some g) n = refl
differ_in (Some f) None n = refl
differ_in (Some f) (Some g) n = at_test (same_fact f g) refl
  where
    at_test : (t : Bool) → same_fact f g ≡ t → not t ≡ true
    at_test true e = absurd (n (ap Some (same_in f g e)))
    at_test false e = refl

pub touched_in : (at new : At) (ss : List Slot) (s : Slot) → Contains ss s → at s ≢ new s
    → is_touched at new ss ≡ true
touched_in at new [] s w n = absurd (omega (arith, w.1))
touched_in at new (t ∷ ss) s w n = by_place w.0 w.1 w.2 (touched_in at new ss s)
  where
    by_place : (i : ℕ) → i < length (t ∷ ss) → get_or (t ∷ ss) i s ≡ s → (Contains ss s
        → at s ≢ new s → is_touched at new ss ≡ true) → is_touched at new (t ∷ ss) ≡ true
    by_place zero l e more = or_left (differ (at t) (new t)) (is_touched at new ss)
        (differ_in (at t) (new t) (λ q. n (subst (λ r. at r ≡ new r) e q)))
    by_place (suc i) l e more =
        or_right (differ (at t) (new t)) (is_touched at new ss) (more (i, omega (arith, l), e) n)

-- ---- slots that rose
pub risen_differs : (a b : Option Fact) → IsRisen a b → a ≢ b
risen_differs None (Some g) r e = cc
risen_differs (Some f) (Some g) r e =
    r.1 (let h : f ≡ g = cc in subst (IsStronger f) h (IsStronger-refl f))
risen_differs None None r e = absurd r
risen_differs (Some f) None r e = absurd r

pub risen_after : (a m b : Option Fact) → ((f : Fact) → a ≡ Some f
    → (g : Fact) × (m ≡ Some g) × IsStronger g f) → IsRisen m b → IsRisen a b
risen_after None None None grows r = absurd r
risen_after None (Some g) None grows r = absurd r
risen_after None m (Some k) grows r = tt
risen_after (Some f) m b grows r =
    let w = grows f refl in
    from_some w.0 w.2 b (subst (λ o. IsRisen o b) w.1 r)
  where
    from_some : (g : Fact) → IsStronger g f → (b : Option Fact)
        → IsRisen (Some g) b → IsRisen (Some f) b
    from_some g s None r = absurd r
    from_some g s (Some k) r = (IsStronger-trans k g f r.0 s, λ t. r.1 (IsStronger-trans g f k s t))

-- ---- instances that are due
-- a count by recursion
abbrev pub tally : {X : Type 0} → (X → Bool) → List X → ℕ
tally p [] = 0
tally p (x ∷ xs) = cond (p x) (1 + tally p xs) (tally p xs)

pub tally-is : {X : Type 0} (p : X → Bool) (xs : List X) → tally p xs ≡ count_by p xs
tally-is p xs = is_count_by (tally p) p refl (λ x ys. refl) xs

-- no more are due than instances of which a test is true
tally_within : (due : List Bool) (instances : List Instance) (p : Instance → Bool)
    → length due ≡ length instances
    → ((k : ℕ) (i : Instance) → slice_get instances k ≡ Some i → slice_get due k ≡ Some true
    → p i ≡ true) → tally (λ b. b) due ≤ tally p instances
tally_within [] [] p e h = omega arith
tally_within [] (i ∷ is) p e h = absurd (omega (arith, e))
tally_within (d ∷ due) [] p e h = absurd (omega (arith, e))
tally_within (true ∷ due) (i ∷ is) p e h =
    let more : tally (λ b. b) due ≤ tally p is =
    tally_within due is p (omega (arith, e)) (λ k j. h (suc k) j) in
    rw (h zero i refl refl) (omega arith)
tally_within (false ∷ due) (i ∷ is) p e h =
    by_test (p i) (tally_within due is p (omega (arith, e)) (λ k j. h (suc k) j))
  where
    by_test : (t : Bool) → tally (λ b. b) due ≤ tally p is
        → tally (λ b. b) due ≤ cond t (1 + tally p is) (tally p is)
    by_test true m = omega arith
    by_test false m = m

due_within : (due : List Bool) (instances : List Instance) (p : Instance → Bool)
    → length due ≡ length instances
    → ((k : ℕ) (i : Instance) → slice_get instances k ≡ Some i → slice_get due k ≡ Some true
    → p i ≡ true) → count_by (λ b. b) due ≤ count_by p instances
due_within due instances p e h = subst (λ n. n ≤ count_by p instances) (tally-is (λ b. b) due)
    (subst (λ n. tally (λ b. b) due ≤ n) (tally-is p instances) (tally_within due instances p e h))

-- Only users of slots that rose are due: no more than the instances that are touched.
pub due_touched : (instances : List Instance) (changed : List Slot) (due : List Bool) (at new : At)
    → length due ≡ length instances
    → AreUsers instances changed due → AreRisen changed at new →
    count_by (λ b. b) due ≤ touched instances at new
due_touched instances changed due at new e only risen =
    due_within due instances (λ (i : Instance). is_touched at new i.premises) e
    (λ k i f d.
    let w = only k d in
    let u = w.2 in
    let same : u.0 ≡ i = some_same u.0 i (slice_get instances k) u.1 f in
    touched_in at new i.premises w.0 (subst (λ (j : Instance). Contains j.premises w.0) same u.2)
    (risen_differs (at w.0) (new w.0) (risen w.0 w.1)))

-- ---- rounds and heights
-- the steps that so many rounds may take
abbrev pub spent : List Instance → (ℕ → At) → ℕ → ℕ
spent instances best zero = 0
spent instances best (suc r) = length instances + touched_by instances best r

-- the steps of the round after so many
abbrev pub round_cost : List Instance → (ℕ → At) → ℕ → ℕ
round_cost instances best zero = length instances
round_cost instances best (suc r) = touched instances (best r) (best (suc r))

pub spent_more : (instances : List Instance) (best : ℕ → At) (r : ℕ)
    → spent instances best r + round_cost instances best r ≡ spent instances best (suc r)
spent_more instances best zero = omega arith
spent_more instances best (suc r) = omega arith

touched_by-mono : (instances : List Instance) (best : ℕ → At) (n r : ℕ)
    → touched_by instances best r ≤ touched_by instances best (n + r)
touched_by-mono instances best zero r = subst (λ m. touched_by instances best r
    ≤ touched_by instances best m) (let e : r ≡ 0 + r = omega arith in e) (omega arith)
touched_by-mono instances best (suc n) r =
    let h : touched_by instances best r ≤ touched_by instances best (n + r) =
    touched_by-mono instances best n r in
    subst (λ m. touched_by instances best r ≤ touched_by instances best m)
    (let e : suc (n + r) ≡ suc n + r = omega arith in e) (omega arith)

-- No more rounds take more steps.
pub spent_within : (instances : List Instance) (best : ℕ → At) (r height : ℕ) → r ≤ height
    → spent instances best r ≤ length instances + touched_by instances best (height - 1)
spent_within instances best zero height l = omega arith
spent_within instances best (suc r) height l =
    let h = touched_by-mono instances best ((height - 1) - r) r in
    let e : ((height - 1) - r) + r ≡ height - 1 = omega arith in
    let m : touched_by instances best r ≤ touched_by instances best (height - 1) =
    subst (λ n. touched_by instances best r ≤ touched_by instances best n) e h in
    omega arith

-- Best tables over what is given are those over the table with which the rounds begin.
pub heights_agree : (u : Setting) → IsLawful u.rules → IsClosed u.instances → (G : Fact → Type 0)
    (start : At) → IsProper start → (start slot.Void ≡ None → (x : Fact) → G x → Beats start x)
    → ((x : Fact) → InTable start x → (m : ℕ) → Derives u G m x) → (height : ℕ) (best : ℕ → At)
    → ((r : ℕ) → r < height → IsBest u G r (best r)) → AreHeights u start height best
heights_agree u lawful closed G start proper up down height best b r at l from v =
    best_once u G r at (best r) (rebase u lawful closed G start proper up down r at from) (b r l) v

pub root_heights : (u : Setting) → IsLawful u.rules → IsClosed u.instances → (height : ℕ)
    (start : At) → IsGathered u (IsGiven u) (FirstLines u.nodes u.hypotheses (length u.nodes)) start
    → (best : ℕ → At) → ((r : ℕ) → r < height → IsBest u (GivenAt u height []) r (best r))
    → AreHeights u start height best
root_heights u lawful closed height start g best b =
    heights_agree u lawful closed (GivenAt u height []) start g.proper
    (λ v x w. g.up v x (given_lines u (length u.nodes) (omega arith) x w)) g.down height best b

pub child_heights : (u : Setting) → IsLawful u.rules → IsClosed u.instances
    → (height : ℕ) (above : List Piece) (piece : Piece) (start : At)
    → IsGathered u (GivenAt u height (piece ∷ above))
    (Also (Known u height above) (fact.Bnd piece.0 piece.1)) start
    → (best : ℕ → At) → ((r : ℕ) → r < height
    → IsBest u (GivenAt u height (piece ∷ above)) r (best r)) → AreHeights u start height best
child_heights u lawful closed height above piece start g best b =
    heights_agree u lawful closed (GivenAt u height (piece ∷ above)) start g.proper
    (λ v x w. elim w [
      | inl y ↦ g.up v x (inl (known_given u height above x y))
      | inr y ↦ elim y [ inl e ↦ g.up v x (inr e) | inr d ↦ g.up v x (inl d) ]
    ]) g.down height best b
