-- What a script's subject names are its nodes.
use Rattle.std.proofs.Common.{◌≡◌, ◌<◌, ℕ, List, [], ◌∷◌, Option, Some, None, length, map, sym}
use Rattle.std.proofs.Common.{subst, arith}
use Rattle.std.specs.Prelude.{slice_get}
use Rattle.std.specs.List.{AllByRecursion}
use Rattle.std.proofs.lemmas.Option.{slice_get_within, get_or_from_slice_get}
use Rattle.fx_model.specs.Expression.{IsOrdered, ChildrenBelow}
use Rattle.fx_model.specs.declared.ExprId.{ExprId}
use Rattle.fx_model.specs.declared.Node.{Node}
use Rattle.fx_model.specs.declared.Node.TheVariants.{Div}
use Rattle.interval.specs.declared.interval.Interval.{Interval}
use Rattle.expr_dag.specs.Nodes.{IsAt}
use Rattle.facts.specs.declared.relative.RelativeError.{RelativeError}
use Rattle.facts.specs.declared.place.FixPlace.{FixPlace}
use Rattle.facts.specs.declared.fact.Fact.{Fact}
use Rattle.facts.specs.RelativeConclusions.{rel_of}
use Rattle.facts.specs.declared.hint.HintRow.{HintRow}
use Rattle.facts.specs.Order.{slot_of}
use Rattle.facts.specs.Parts.{error_of_part}
use Rattle.facts.specs.Conclusions.{bnd_of, fix_of}
use Rattle.facts.specs.Places.{place_from}
use Rattle.facts.proofs.CommonParts.{stands, all_from, all_at}
use Rattle.goals.specs.declared.goal.Goal.{Goal}
use Rattle.script_bounds.specs.Bounds.{written_range, outward_of}
use Rattle.script_claims.specs.declared.claim.Claim.{Claim}
use Rattle.script_claims.specs.declared.claim.Claim.TheVariants.{Bounded, Asked, Relative}
use Rattle.script_claims.specs.declared.claim.Claim.TheVariants.{RelativeAsked, Multiple, Above}
use Rattle.script_claims.specs.declared.claim.Claim.TheVariants.{Below}
use Rattle.script_claims.specs.Facts.{hypothesis_fact, goal_of, facts_of}
use Rattle.script_claims.proofs.Facts.{facts_all}
use Rattle.script_hints.specs.declared.hint.Constraint.{Constraint}
use Rattle.script_hints.specs.declared.hint.Constraint.TheVariants as constraint
use Rattle.script_hints.specs.declared.hint.Hint.{Hint}
use Rattle.script_hints.specs.Needs.{need_of}
use Rattle.script_grammar.specs.Names.{ClaimIsOf, ConstraintIsOf, HintIsOf}
use Rattle.rewrite_hints.specs.Rows.{IsRowOf}
use Rattle.rewrite_hints.specs.Marks.{AreRows, AreKnownSides}
use Rattle.cert_checker.specs.Met.{SlotIsAmong, NeedIsAmong, RowIsAmong}

-- ---- facts and goals
abbrev IsNamed : ℕ → Fact → Type 0
IsNamed n f = SlotIsAmong n (slot_of f)

abbrev IfNamed : ℕ → Option Fact → Type 0
IfNamed n None = Unit {0}
IfNamed n (Some f) = IsNamed n f

bnd_named : (n : ℕ) (x : ExprId) (o : Option Interval) → x.0 < n → IfNamed n (bnd_of x o)
bnd_named n x None l = tt
bnd_named n x (Some i) l = l

rel_named : (n : ℕ) (x y : ExprId) (o : Option RelativeError) → (x.0 < n) × (y.0 < n)
    → IfNamed n (rel_of x y o)
rel_named n x y None l = tt
rel_named n x y (Some e) l = (l.0, l.1)

fix_named : (n : ℕ) (x : ExprId) (o : Option FixPlace) → x.0 < n → IfNamed n (fix_of x o)
fix_named n x None l = tt
fix_named n x (Some k) l = l

fact_named : (n : ℕ) (c : Claim) → ClaimIsOf n c → IfNamed n (hypothesis_fact c)
fact_named n (Bounded x lower upper) h = bnd_named n x (outward_of (written_range lower upper)) h
fact_named n (Asked x) h = tt
fact_named n (Relative x y lower upper) h =
    rel_named n x y (error_of_part (outward_of (written_range (Some lower) (Some upper)))) h
fact_named n (RelativeAsked x y) h = tt
fact_named n (Multiple x k) h = fix_named n x (place_from k) h
fact_named n (Above x w) h = bnd_named n x (outward_of (written_range (Some w) None)) h
fact_named n (Below x w) h = bnd_named n x (outward_of (written_range None (Some w))) h

pub facts_named : (n : ℕ) (cs : List Claim) → AllByRecursion (ClaimIsOf n) cs
    → AllByRecursion (λ (f : Fact). SlotIsAmong n (slot_of f)) (facts_of cs)
facts_named n = facts_all (IsNamed n) (ClaimIsOf n)
    (λ c f e h. subst (IfNamed n) e (fact_named n c h))

goal_named : (n : ℕ) (c : Claim) → ClaimIsOf n c → SlotIsAmong n (goal_of c).of
goal_named n (Bounded x lower upper) h = h
goal_named n (Asked x) h = h
goal_named n (Relative x y lower upper) h = (h.0, h.1)
goal_named n (RelativeAsked x y) h = (h.0, h.1)
goal_named n (Multiple x k) h = h
goal_named n (Above x w) h = h
goal_named n (Below x w) h = h

pub goals_named : (n : ℕ) (cs : List Claim) → AllByRecursion (ClaimIsOf n) cs
    → AllByRecursion (λ (g : Goal). SlotIsAmong n g.of) (map goal_of cs)
goals_named n [] h = tt
goals_named n (c ∷ cs) h = (goal_named n c h.0, goals_named n cs h.1)

-- ---- rows of hints
need_named : (n : ℕ) (c : Constraint) → ConstraintIsOf n c → NeedIsAmong n (need_of c)
need_named n (constraint.NotZero x) h = h
need_named n (constraint.Below x w strict) h = h
need_named n (constraint.Above x w strict) h = h

needs_named : (n : ℕ) (cs : List Constraint) → AllByRecursion (ConstraintIsOf n) cs
    → AllByRecursion (NeedIsAmong n) (map need_of cs)
needs_named n [] h = tt
needs_named n (c ∷ cs) h = (need_named n c h.0, needs_named n cs h.1)

module _ (nodes : List Node) (ordered : IsOrdered nodes) where
  -- a divisor is a node
  divisor_named : (y a d : ExprId) → IsAt nodes y (Div a d) → d.0 < length nodes
  divisor_named y a d e =
      let here = slice_get_within nodes y.0 (Div a d) e in
      let below : ChildrenBelow y.0 (Div a d) = subst (ChildrenBelow y.0)
      (get_or_from_slice_get nodes y.0 (Div a d) (Div a d) e) (ordered y.0 (Div a d) here) in
      let l = below.1 in omega (arith, here, l)

  row_named : (h : Hint) (row : HintRow) → HintIsOf (length nodes) h → IsRowOf nodes h row
      → RowIsAmong (length nodes) row
  row_named h row of is = record {
    left = subst (λ (x : ExprId). x.0 < length nodes) (sym is.left) of.sides.0;
    right = subst (λ (x : ExprId). x.0 < length nodes) (sym is.right) of.sides.1;
    divisors = all_from (λ (d : ExprId). d.0 < length nodes) row.divisors
        (λ k d e. let w = (is.divisors.exactly d).0 (k, e) in divisor_named w.0 w.1 d w.3);
    needs = subst (AllByRecursion (NeedIsAmong (length nodes))) (sym is.needs)
        (needs_named (length nodes) h.constraints of.constraints);
  }

  -- the hint of a row
  pub hint_of : (hints : List Hint) (rows : List HintRow)
      → AreRows nodes hints rows → (k : ℕ) (row : HintRow) → slice_get rows k ≡ Some row
      → (h : Hint) × (slice_get hints k ≡ Some h) × IsRowOf nodes h row
  hint_of hints rows are k row e =
      let within = slice_get_within rows k row e in
      let same = are.count in
      let s = stands hints k (omega (arith, within, same)) in
      (s.0, s.1, are.each k s.0 row s.1 e)

  pub rows_named : (hints : List Hint) (rows : List HintRow)
      → AllByRecursion (HintIsOf (length nodes)) hints → AreRows nodes hints rows
      → AllByRecursion (RowIsAmong (length nodes)) rows
  rows_named hints rows of are = all_from (RowIsAmong (length nodes)) rows (λ k row e.
      let h = hint_of hints rows are k row e in
      row_named h.0 row (all_at (HintIsOf (length nodes)) hints k h.0 of h.1) h.2)

-- the sides of rewritings are nodes
pub sides_named : (nodes : List Node) (hints : List Hint)
    → AllByRecursion (HintIsOf (length nodes)) hints → AreKnownSides nodes hints
sides_named nodes hints of k h e = (all_at (HintIsOf (length nodes)) hints k h of e).sides
