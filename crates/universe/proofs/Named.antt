-- What a script names is of its universe.
use Rattle.std.specs.Prelude.{◌≡◌, ◌<◌, ◌≤◌, ℕ, zero, suc, List, [], ◌∷◌, ◌++◌, Option, Some, None}
use Rattle.std.specs.Prelude.{length, map, slice_get, refl}
use Rattle.std.specs.List.{AllByRecursion}
use Rattle.std.proofs.Common.{arith, sym, subst, ap, inl, inr}
use Rattle.std.proofs.lemmas.Option.{slice_get_within, get_or_from_slice_get}
use Rattle.fx_model.specs.declared.ExprId.{ExprId}
use Rattle.fx_model.specs.declared.Node.{Node}
use Rattle.fx_model.specs.declared.Node.TheVariants as node
use Rattle.fx_model.specs.Expression.{IsOrdered, ChildrenBelow}
use Rattle.interval.specs.declared.interval.Interval.{Interval}
use Rattle.expr_dag.specs.Nodes.{IsAt}
use Rattle.pair_closure.specs.Reached.{Has}
use Rattle.pair_closure.specs.Closure.{Pair, AreKnown, IsKnownPair}
use Rattle.pair_closure.proofs.Members.{none_at, some-inj, no_member, has_cases, has_all, has_left}
use Rattle.pair_closure.proofs.Members.{has_right, has_either}
use Rattle.facts.specs.declared.fact.Fact.{Fact}
use Rattle.facts.specs.declared.fact.Slot.TheVariants as slot
use Rattle.facts.specs.declared.place.FixPlace.{FixPlace}
use Rattle.facts.specs.RelativeConclusions.{rel_of}
use Rattle.facts.specs.declared.relative.RelativeError.{RelativeError}
use Rattle.facts.specs.declared.hint.HintRow.{HintRow}
use Rattle.facts.specs.Order.{slot_of}
use Rattle.facts.specs.Parts.{error_of_part}
use Rattle.facts.specs.Conclusions.{bnd_of, fix_of}
use Rattle.facts.specs.Places.{place_from}
use Rattle.facts.proofs.CommonParts.{stands, all_from}
use Rattle.script_bounds.specs.Bounds.{written_range, outward_of}
use Rattle.script_claims.specs.declared.claim.Claim.{Claim}
use Rattle.script_claims.specs.declared.claim.Claim.TheVariants.{Bounded, Asked, Relative}
use Rattle.script_claims.specs.declared.claim.Claim.TheVariants.{RelativeAsked, Multiple, Above}
use Rattle.script_claims.specs.declared.claim.Claim.TheVariants.{Below}
use Rattle.script_claims.specs.Facts.{hypothesis_fact, with_fact, facts_of}
use Rattle.script_hints.specs.declared.hint.Hint.{Hint}
use Rattle.script_hints.specs.declared.hint.Constraint.{Constraint}
use Rattle.script_hints.specs.declared.hint.Constraint.TheVariants as constraint
use Rattle.script_hints.specs.Needs.{need_of}
use Rattle.script_grammar.specs.Spells.{View}
use Rattle.script_grammar.specs.Names.{AreNodes, ClaimIsOf, ConstraintIsOf, HintIsOf, NamesNodes}
use Rattle.rule_universe.specs.Worlds.{IsSlot}
use Rattle.rule_universe.specs.Licensed.{NeedIsKnown, RowIsKnown}
use Rattle.rule_universe.proofs.Licensed.{kid}
use Rattle.rewrite_hints.specs.Marks.{AreRows, AreKnownSides}
use Rattle.universe.specs.Starts.{sides_of, whole_difference, claim_pairs, claims_pairs, hint_pairs}
use Rattle.universe.specs.Starts.{hints_pairs, starting_pairs}

-- ---- facts of hypotheses
bnd_slot : (x : ExprId) (o : Option Interval) (f : Fact) → bnd_of x o ≡ Some f
    → slot_of f ≡ slot.Bnd x
bnd_slot x None f e = absurd (none_at f e)
bnd_slot x (Some i) f e = ap slot_of (sym (some-inj _ f e))

rel_slot : (x y : ExprId) (o : Option RelativeError) (f : Fact) → rel_of x y o ≡ Some f
    → slot_of f ≡ slot.Rel x y
rel_slot x y None f e = absurd (none_at f e)
rel_slot x y (Some i) f e = ap slot_of (sym (some-inj _ f e))

fix_slot : (x : ExprId) (o : Option FixPlace) (f : Fact) → fix_of x o ≡ Some f
    → slot_of f ≡ slot.Fix x
fix_slot x None f e = absurd (none_at f e)
fix_slot x (Some i) f e = ap slot_of (sym (some-inj _ f e))

module _ (nodes : List Node) (n m : ℕ) (pairs : List Pair) (longer : n ≤ m) where
  claim_gives : (c : Claim) → ClaimIsOf n c → ((p : Pair) → Has (claim_pairs nodes c) p
      → Has pairs p) → (f : Fact) → hypothesis_fact c ≡ Some f → IsSlot m pairs (slot_of f)
  claim_gives (Bounded x lower upper) k e f h =
      subst (IsSlot m pairs) (sym (bnd_slot x (outward_of (written_range lower upper)) f h))
      (let l : x.0 < n = k in omega arith)
  claim_gives (Asked x) k e f h = absurd (none_at f h)
  claim_gives (Relative x y lower upper) k e f h =
      subst (IsSlot m pairs) (sym (rel_slot x y (error_of_part
      (outward_of (written_range (Some lower) (Some upper)))) f h)) (e (x, y) (0, refl))
  claim_gives (RelativeAsked x y) k e f h = absurd (none_at f h)
  claim_gives (Multiple x j) k e f h = subst (IsSlot m pairs) (sym (fix_slot x (place_from j) f h))
      (let l : x.0 < n = k in omega arith)
  claim_gives (Above x w) k e f h =
      subst (IsSlot m pairs) (sym (bnd_slot x (outward_of (written_range (Some w) None)) f h))
      (let l : x.0 < n = k in omega arith)
  claim_gives (Below x w) k e f h =
      subst (IsSlot m pairs) (sym (bnd_slot x (outward_of (written_range None (Some w))) f h))
      (let l : x.0 < n = k in omega arith)

  with_slots : (o : Option Fact) (fs : List Fact)
      → ((f : Fact) → o ≡ Some f → IsSlot m pairs (slot_of f))
      → ((k : ℕ) (f : Fact) → slice_get fs k ≡ Some f → IsSlot m pairs (slot_of f))
      → (k : ℕ) (f : Fact) → slice_get (with_fact o fs) k ≡ Some f → IsSlot m pairs (slot_of f)
  with_slots None fs here rest k f e = rest k f e
  with_slots (Some g) fs here rest zero f e = here f e
  with_slots (Some g) fs here rest (suc k) f e = rest k f e

  pub facts_slots : (cs : List Claim) → AllByRecursion (ClaimIsOf n) cs
      → ((p : Pair) → Has (claims_pairs nodes cs) p → Has pairs p) → (k : ℕ) (f : Fact)
      → slice_get (facts_of cs) k ≡ Some f → IsSlot m pairs (slot_of f)
  facts_slots [] h e k f q = absurd (none_at f q)
  facts_slots (c ∷ cs) h e k f q =
      with_slots (hypothesis_fact c) (facts_of cs)
      (claim_gives c h.0 (λ p w. e p (has_left (claim_pairs nodes c) (claims_pairs nodes cs) p w)))
      (facts_slots cs h.1 (λ p w.
      e p (has_right (claim_pairs nodes c) (claims_pairs nodes cs) p w))) k f q

-- ---- claims that are among others
pairs_of_one : (nodes : List Node) (all : List Claim) (k : ℕ) (c : Claim) → slice_get all k ≡ Some c
    → (p : Pair) → Has (claim_pairs nodes c) p → Has (claims_pairs nodes all) p
pairs_of_one nodes [] k c e p h = absurd (none_at c e)
pairs_of_one nodes (d ∷ all) zero c e p h = has_left (claim_pairs nodes d)
    (claims_pairs nodes all) p (subst (λ x. Has (claim_pairs nodes x) p) (sym (some-inj d c e)) h)
pairs_of_one nodes (d ∷ all) (suc k) c e p h =
    has_right (claim_pairs nodes d) (claims_pairs nodes all) p (pairs_of_one nodes all k c e p h)

-- their pairs are among the pairs of those
pub pairs_of_some : (nodes : List Node) (all some : List Claim) → AllByRecursion (Has all) some
    → (p : Pair) → Has (claims_pairs nodes some) p → Has (claims_pairs nodes all) p
pairs_of_some nodes all [] are p h = absurd (no_member p h)
pairs_of_some nodes all (c ∷ some) are p h =
    elim (has_either (claim_pairs nodes c) (claims_pairs nodes some) p h) [
      | inl a ↦ pairs_of_one nodes all are.0.0 c are.0.1 p a
      | inr b ↦ pairs_of_some nodes all some are.1 p b
    ]

-- ---- rows of hints
need_known : (n m : ℕ) → n ≤ m → (c : Constraint) → ConstraintIsOf n c → NeedIsKnown m (need_of c)
need_known n m l (constraint.NotZero x) h = let b : x.0 < n = h in omega arith
need_known n m l (constraint.Below x w strict) h = let b : x.0 < n = h in omega arith
need_known n m l (constraint.Above x w strict) h = let b : x.0 < n = h in omega arith

needs_known : (n m : ℕ) → n ≤ m → (cs : List Constraint) → AllByRecursion (ConstraintIsOf n) cs
    → AllByRecursion (NeedIsKnown m) (map need_of cs)
needs_known n m l [] h = tt
needs_known n m l (c ∷ cs) h = (need_known n m l c h.0, needs_known n m l cs h.1)

-- a list of nodes that begins with another is as long
pub as_long : (script nodes : List Node) → ((x : ExprId) (n : Node) → IsAt script x n
    → IsAt nodes x n) → (k : ℕ) → k < length script → k < length nodes
as_long script nodes begins k l = let s = stands script k l in
    slice_get_within nodes k s.0 (begins (record { 0 = k }) s.0 s.1)

pub longer_by : (script nodes : List Node)
    → ((x : ExprId) (n : Node) → IsAt script x n → IsAt nodes x n) → length script ≤ length nodes
longer_by script nodes begins = by_count (length script) refl
  where
    by_count : (k : ℕ) → k ≡ length script → k ≤ length nodes
    by_count zero e = omega arith
    by_count (suc k) e = let l = as_long script nodes begins k (omega arith) in omega (arith, l)

module _ (script nodes : List Node) (pairs : List Pair) (begins : (x : ExprId) (n : Node)
    → IsAt script x n → IsAt nodes x n) (ordered : IsOrdered nodes)
    (known : AreKnown nodes pairs) where
  pub rows_known : (hints : List Hint) (rows : List HintRow) → AreRows script hints rows
      → AllByRecursion (HintIsOf (length script)) hints
      → (k : ℕ) (row : HintRow) → slice_get rows k ≡ Some row → RowIsKnown (length nodes) row
  rows_known hints rows are all k row e =
      let within = slice_get_within rows k row e in
      let s = stands hints k (omega (arith, are.count, within)) in
      let h = s.0 in
      let is = are.each k h row s.1 e in
      let longer = longer_by script nodes begins in
      let named = has_all (HintIsOf (length script)) hints all h (k, s.1) in
      record {
        left = subst (λ (x : ExprId). x.0 < length nodes) (sym is.left)
            (as_long script nodes begins h.left.0 (named.sides).0);
        right = subst (λ (x : ExprId). x.0 < length nodes) (sym is.right)
            (as_long script nodes begins h.right.0 (named.sides).1);
        divisors = all_from (λ (d : ExprId). d.0 < length nodes) row.divisors (λ j d q.
            let w = (is.divisors.exactly d).0 (j, q) in
            (kid nodes pairs ordered known w.0 (node.Div w.1 d)
            (begins w.0 (node.Div w.1 d) w.3)).1);
        needs = subst (AllByRecursion (NeedIsKnown (length nodes))) (sym is.needs)
            (needs_known (length script) (length nodes) longer h.constraints named.constraints);
      }

-- ---- pairs to begin with
module _ (nodes : List Node) (ordered : IsOrdered nodes) where
  below : (x : ExprId) (n : Node) → IsAt nodes x n → ChildrenBelow x.0 n
  below x n e = subst (ChildrenBelow x.0) (get_or_from_slice_get nodes x.0 n n e)
      (ordered x.0 n (slice_get_within nodes x.0 n e))

  whole_by : (x : ExprId) (o : Option Node) → slice_get nodes x.0 ≡ o → (p : Pair)
      → Has (sides_of o) p → IsKnownPair nodes p
  whole_by x (Some (node.Sub a b)) e p h =
      let w = slice_get_within nodes x.0 (node.Sub a b) e in
      let k = below x (node.Sub a b) e in
      let first : a.0 < x.0 = k.0 in
      let second : b.0 < x.0 = k.1 in
      elim (has_cases (a, b) [] p h) [
        | inl s ↦ subst (IsKnownPair nodes) (sym s) (omega arith, omega arith)
        | inr n ↦ absurd (no_member p n)
      ]
  whole_by x o e p h = absurd (no_member p h)

  whole_known : (x : ExprId) (p : Pair) → Has (whole_difference nodes x) p → IsKnownPair nodes p
  whole_known x p h = whole_by x (slice_get nodes x.0) refl p h

  sides_known : (x y : ExprId) → AreNodes (length nodes) (x, y) → (p : Pair)
      → Has ((x, y) ∷ []) p → IsKnownPair nodes p
  sides_known x y k p h = elim (has_cases (x, y) [] p h)
      [ inl s ↦ subst (IsKnownPair nodes) (sym s) k | inr n ↦ absurd (no_member p n) ]

  claim_known : (c : Claim) → ClaimIsOf (length nodes) c → (p : Pair)
      → Has (claim_pairs nodes c) p → IsKnownPair nodes p
  claim_known (Bounded x lower upper) k p h = whole_known x p h
  claim_known (Asked x) k p h = whole_known x p h
  claim_known (Relative x y lower upper) k p h = sides_known x y k p h
  claim_known (RelativeAsked x y) k p h = sides_known x y k p h
  claim_known (Multiple x j) k p h = whole_known x p h
  claim_known (Above x w) k p h = whole_known x p h
  claim_known (Below x w) k p h = whole_known x p h

  claims_known : (cs : List Claim) → AllByRecursion (ClaimIsOf (length nodes)) cs → (p : Pair)
      → Has (claims_pairs nodes cs) p → IsKnownPair nodes p
  claims_known [] k p h = absurd (no_member p h)
  claims_known (c ∷ cs) k p h = elim (has_either (claim_pairs nodes c) (claims_pairs nodes cs) p h)
      [ inl a ↦ claim_known c k.0 p a | inr b ↦ claims_known cs k.1 p b ]

  hints_known : (hs : List Hint) (p : Pair) → Has (hints_pairs nodes hs) p → IsKnownPair nodes p
  hints_known [] p h = absurd (no_member p h)
  hints_known (g ∷ gs) p h = elim (has_either (hint_pairs nodes g) (hints_pairs nodes gs) p h) [
    | inl a ↦ elim (has_either (whole_difference nodes g.left) (whole_difference nodes g.right) p a)
        [ inl l ↦ whole_known g.left p l | inr r ↦ whole_known g.right p r ]
    | inr b ↦ hints_known gs p b
  ]

pub starts_known : (s : View) → IsOrdered s.nodes → NamesNodes s
    → AreKnown s.nodes (starting_pairs s)
starts_known s o named p h = elim (has_either s.hints.likes (claims_pairs s.nodes s.hypotheses
    ++ (claims_pairs s.nodes s.goals ++ hints_pairs s.nodes s.hints.rewrites)) p h) [
      | inl a ↦ has_all (AreNodes (length s.nodes)) s.hints.likes named.hints.likes p a
      | inr r ↦ elim (has_either (claims_pairs s.nodes s.hypotheses)
          (claims_pairs s.nodes s.goals ++ hints_pairs s.nodes s.hints.rewrites) p r) [
            | inl a ↦ claims_known s.nodes o s.hypotheses named.hypotheses p a
            | inr q ↦ elim (has_either (claims_pairs s.nodes s.goals)
                (hints_pairs s.nodes s.hints.rewrites) p q) [
                  | inl a ↦ claims_known s.nodes o s.goals named.goals p a
                  | inr b ↦ hints_known s.nodes o s.hints.rewrites p b
                ]
          ]
    ]

pub sides_named : (s : View) → NamesNodes s → AreKnownSides s.nodes s.hints.rewrites
sides_named s named k h e =
    (has_all (HintIsOf (length s.nodes)) s.hints.rewrites named.hints.rewrites h (k, e)).sides
