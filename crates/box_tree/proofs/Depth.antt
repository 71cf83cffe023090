-- No box is cut that lies 36 cuts below the root.
use Rattle.std.specs.Prelude.{◌≡◌, ℕ, ◌<◌, ◌≤◌, ◌+◌, nat_lt, List, [], ◌∷◌, length, drop, Option}
use Rattle.std.specs.Prelude.{Some, None, if◌then◌else◌, refl, ◌⊎◌}
use Rattle.std.proofs.Common.{sym, ap, ◌∙◌, subst, arith, inl, inr, length-drop}
use Rattle.std.proofs.lemmas.Bool.{ltb-true}
use Rattle.fx_model.specs.declared.ExprId.{ExprId}
use Rattle.dyadic.specs.declared.number.Dyadic.{Dyadic}
use Rattle.facts.proofs.CommonParts.{at_option}
use Rattle.script_hints.specs.declared.hint.Split.{Split}
use Rattle.box_tree.specs.declared.next.Next.{Next}
use Rattle.box_tree.specs.declared.next.Next.TheVariants as next
use Rattle.script_claims.specs.declared.range.SplitRange.{SplitRange}
use Rattle.box_tree.specs.Ranges.{range_in}
use Rattle.box_tree.specs.Pieces.{piece_count}
use Rattle.box_tree.specs.Regions.{PlanParts, Region, root, points_in, next_forced, half_in}
use Rattle.box_tree.specs.Regions.{halved_or, next_half, turned, half_of, else_next, next_of}
use Rattle.box_tree.specs.Regions.{piece_by, piece, region_below, region_at}
use Rattle.box_tree.specs.Plans.{cut_by, cut_at}
use Rattle.box_tree.proofs.Within.{forced_step}
use Rattle.box_tree.proofs.InRanges.{at_bool}

-- how a cut goes on: a forced one leaves more cuts behind, a half one more halving
data Goes (plan : PlanParts) (g : Region) : Next → Type 0 where
  forced : (x : ExprId) (points : List Dyadic) (done : ℕ) → g.done < done → done ≤ length plan.cuts
      → Goes plan g (next.Force x points done)
  halved : (x : ExprId) (m : Dyadic) → g.halvings < plan.depth → Goes plan g (next.Halve x m)
  rests : Goes plan g next.Rest

forced_done : (ranges : List SplitRange) (done : ℕ) (cuts : List Split) (n : Next)
    → next_forced ranges done cuts ≡ Some n
    → (x : ExprId) × (points : List Dyadic) × (d : ℕ) × (n ≡ next.Force x points d) × (done < d)
    × (d ≤ done + length cuts)
forced_done ranges done [] n e = cc
forced_done ranges done (s ∷ ss) n e =
    elim (forced_step s.var (points_in (range_in s.var ranges) s.cut) (done + 1)
    (next_forced ranges (done + 1) ss) n e) [
      | inl l ↦ (let h = forced_done ranges (done + 1) ss n l in let a = h.4 in let b = h.5 in
          (h.0, h.1, h.2, h.3, omega (arith, a), omega (arith, b)))
      | inr q ↦ (
        s.var,
        points_in (range_in s.var ranges) s.cut,
        done + 1,
        q,
        omega arith,
        omega arith,
      )
    ]

or_goes : (plan : PlanParts) (g : Region) (x : ExprId) (o : Option Dyadic) (later : Next)
    → g.halvings < plan.depth → Goes plan g later → Goes plan g (halved_or x o later)
or_goes plan g x None later l h = h
or_goes plan g x (Some m) later l h = halved x m l

halves_go : (plan : PlanParts) (g : Region) → g.halvings < plan.depth
    → (ranges : List SplitRange) (xs : List ExprId) → Goes plan g (next_half ranges xs)
halves_go plan g l ranges [] = rests
halves_go plan g l ranges (x ∷ xs) = or_goes plan g x (half_in (range_in x ranges))
    (next_half ranges xs) l (halves_go plan g l ranges xs)

half_goes : (plan : PlanParts) (g : Region) → Goes plan g (half_of plan g)
half_goes plan g = at_bool (nat_lt g.halvings plan.depth)
    (λ b. Goes plan g (if b then next_half g.ranges (turned g.halvings plan.halves) else next.Rest))
    (λ t. halves_go plan g (ltb-true g.halvings plan.depth t) g.ranges
    (turned g.halvings plan.halves)) (λ f. rests)

goes : (plan : PlanParts) (g : Region) → g.done ≤ length plan.cuts → Goes plan g (next_of plan g)
goes plan g l = at_option (next_forced g.ranges g.done (drop g.done plan.cuts))
    (λ o. Goes plan g (else_next o (half_of plan g)))
    (λ _. half_goes plan g)
    (λ n e. let h = forced_done g.ranges g.done (drop g.done plan.cuts) n e in
    let a = h.4 in let b = h.5 in let k = length-drop g.done plan.cuts in
    subst (Goes plan g) (sym h.3) (forced h.0 h.1 h.2 (omega (arith, a)) (omega (arith, b, k, l))))

-- ---- along a path
record Counted (plan : PlanParts) (g : Region) : Type 0 where
  cuts : g.done ≤ length plan.cuts
  halvings : g.halvings ≤ plan.depth

abbrev level : Region → ℕ
level g = g.done + g.halvings

rest_stays : (plan : PlanParts) (g : Region) (path : List ℕ) → next_of plan g ≡ next.Rest
    → region_below plan g path ≡ g
unfolding region_below
rest_stays plan g [] e = refl
rest_stays plan g (i ∷ path) e = ap (λ (n : Next). region_below plan (piece_by plan n g i) path) e
    ∙ rest_stays plan g path e

abbrev Deep : PlanParts → Region → List ℕ → Type 0
Deep plan g path = (next_of plan (region_below plan g path) ≡ next.Rest)
    ⊎ ((length path + level g ≤ level (region_below plan g path))
    × Counted plan (region_below plan g path))

-- one cut more
deeper : (plan : PlanParts) (g h : Region) (i : ℕ) (path : List ℕ) → level g < level h
    → Deep plan h path → piece plan g i ≡ h → Deep plan g (i ∷ path)
unfolding region_below
deeper plan g h i path l d e =
    let P : Region → Type 0 = λ k. (next_of plan (region_below plan k path) ≡ next.Rest)
    ⊎ ((length (i ∷ path) + level g ≤ level (region_below plan k path))
    × Counted plan (region_below plan k path)) in
    subst P (sym e)
    (elim d [ inl r ↦ inl r | inr q ↦ inr (let a = q.0 in omega (arith, a, l), q.1) ])

deep_by : (plan : PlanParts) (g : Region) → Counted plan g → (i : ℕ) (path : List ℕ)
    → ((h : Region) → Counted plan h → Deep plan h path) → (n : Next) → Goes plan g n
    → next_of plan g ≡ n → Deep plan g (i ∷ path)
deep_by plan g c i path further n (forced x points done a b) e =
    let h : Region = piece_by plan (next.Force x points done) g i in
    deeper plan g h i path (omega (arith, a)) (further h
    (record { cuts = b; halvings = c.halvings })) (ap (λ (k : Next). piece_by plan k g i) e)
deep_by plan g c i path further n (halved x m a) e =
    let h : Region = piece_by plan (next.Halve x m) g i in
    let k = c.cuts in
    deeper plan g h i path (omega (arith, k))
    (further h (record { cuts = omega arith; halvings = omega (arith, a) }))
    (ap (λ (k : Next). piece_by plan k g i) e)
deep_by plan g c i path further n rests e =
    inl (let s = rest_stays plan g (i ∷ path) e in
    subst (λ (k : Region). next_of plan k ≡ next.Rest) (sym s) e)

deep : (plan : PlanParts) (g : Region) → Counted plan g → (path : List ℕ) → Deep plan g path
unfolding region_below
deep plan g c [] = inr (omega arith, c)
deep plan g c (i ∷ path) =
    deep_by plan g c i path (λ h d. deep plan h d path) (next_of plan g) (goes plan g c.cuts) refl

few_left : (plan : PlanParts) (g : Region) (n : Next) → Goes plan g n → Counted plan g
    → length plan.cuts ≤ 4 → plan.depth ≤ 32 → 36 ≤ level g → piece_count (cut_by n) ≡ 0
few_left plan g n (forced x points done a b) c l m h = let k = c.halvings in
    absurd (omega (arith, a, b, k, l, m, h))
few_left plan g n (halved x p a) c l m h = let k = c.cuts in absurd (omega (arith, a, k, l, m, h))
few_left plan g n rests c l m h = refl

pub bottom : (plan : PlanParts) → length plan.cuts ≤ 4 → plan.depth ≤ 32 → (path : List ℕ)
    → 36 ≤ length path → piece_count (cut_at plan path) ≡ 0
unfolding cut_at
bottom plan l m path h =
    elim (deep plan (root plan) (record { cuts = omega arith; halvings = omega arith }) path) [
      | inl e ↦ ap (λ (n : Next). piece_count (cut_by n)) e
      | inr q ↦ few_left plan (region_at plan path) (next_of plan (region_at plan path))
          (goes plan (region_at plan path) q.1.cuts) q.1 l m (let a = q.0 in omega (arith, a, h))
    ]
