-- A slot of a universe has its row, and a row has one slot.
use Rattle.std.specs.Prelude.{◌≡◌, ◌≢◌, ◌<◌, ◌&&◌, ◌+◌, ◌*◌, ◌==◌, ℕ, zero, suc, Bool, true, false}
use Rattle.std.specs.Prelude.{List, [], ◌∷◌, length, Option, Some, None, slice_get, slice_set}
use Rattle.std.specs.Prelude.{if◌then◌else◌, nat_lt, refl}
use Rattle.std.proofs.Common.{arith, sym, ap, ◌∙◌, subst, rules}
use Rattle.std.proofs.lemmas.Bool.{and_parts}
use Rattle.fx_model.specs.declared.ExprId.{ExprId}
use Rattle.pair_closure.specs.Closure.{Pair}
use Rattle.pair_closure.specs.Reached.{IsEachOnce}
use Rattle.facts.specs.declared.fact.Fact.{Fact}
use Rattle.facts.specs.declared.fact.Slot.{Slot}
use Rattle.facts.specs.declared.fact.Slot.TheVariants as slot
use Rattle.facts.specs.Order.{is_same}
use Rattle.facts.proofs.CommonParts.{expr_same, at_option}
use Rattle.derivation.specs.Rounds.{IsProper}
use Rattle.rule_universe.specs.Worlds.{World}
use Rattle.rule_universe.specs.Places.{IsPlace, block_place}
use Rattle.rule_universe.proofs.OnePlace.{slot_once}
use Rattle.saturate.proofs.Lists.{get_set_here, get_set_there}
use Rattle.box_trace.specs.declared.known.Cited.{Cited}
use Rattle.box_trace.specs.declared.known.Known.{Known}
use Rattle.box_trace.specs.Tables.{one_later, pair_number, behind_blocks, row_of, flat, row_in}
use Rattle.box_trace.specs.Tables.{fact_of, number_or, cited_at, known_at, place_in, HasRows}
use Rattle.box_trace.specs.Tables.{IsMarked}

-- ---- blocks
below_true : (a n : ℕ) → a < n → nat_lt a n ≡ true
below_true a n h = grind (arith, h)

block_here : (n block : ℕ) (x : ExprId) → x.0 < n → block_place n block x ≡ Some (block * n + x.0)
block_here n block x h = let t : nat_lt x.0 n ≡ true = below_true x.0 n h in rw t refl

block_there : (n block : ℕ) (x : ExprId) (p : ℕ) → block_place n block x ≡ Some p
    → (x.0 < n) × (p ≡ block * n + x.0)
block_there n block x p e = by_test (nat_lt x.0 n) refl e
  where
    by_test : (b : Bool) → nat_lt x.0 n ≡ b → (if b then Some (block * n + x.0) else None) ≡ Some p
        → (x.0 < n) × (p ≡ block * n + x.0)
    by_test true t q = (grind (arith, t), let h : block * n + x.0 ≡ p = cc in sym h)
    by_test false t q = cc

-- ---- pairs
self_id : (n : ℕ) → (n == n) ≡ true
self_id n = search rules

pair_there : (x y : ExprId) (ps : List Pair) (k : ℕ) → pair_number x y ps ≡ Some k
    → slice_get ps k ≡ Some (x, y)
pair_there x y [] k e = cc
pair_there x y (p ∷ ps) k e = by_test (is_same p.0 x && is_same p.1 y) refl e (pair_there x y ps)
  where
    later : (o : Option ℕ) (k : ℕ) → one_later o ≡ Some k
        → ((j : ℕ) → o ≡ Some j → slice_get ps j ≡ Some (x, y)) → slice_get (p ∷ ps) k ≡ Some (x, y)
    later None k q h = cc
    later (Some j) k q h = let d : j + 1 ≡ k = cc in let s : k ≡ suc j = omega arith in
        ap (slice_get (p ∷ ps)) s ∙ h j refl

    by_test : (b : Bool) → (is_same p.0 x && is_same p.1 y) ≡ b
        → (if b then Some 0 else one_later (pair_number x y ps)) ≡ Some k
        → ((j : ℕ) → pair_number x y ps ≡ Some j → slice_get ps j ≡ Some (x, y))
        → slice_get (p ∷ ps) k ≡ Some (x, y)
    by_test true t q h =
        let d : 0 ≡ k = cc in
        let a = and_parts (is_same p.0 x) (is_same p.1 y) t in
        let f = expr_same p.0 x a.0 in
        let g = expr_same p.1 y a.1 in
        subst (λ j. slice_get (p ∷ ps) j ≡ Some (x, y)) d (λ i. Some (f i, g i))
    by_test false t q h = later (pair_number x y ps) k q h

pair_here : (x y : ExprId) (ps : List Pair) (k : ℕ) → slice_get ps k ≡ Some (x, y)
    → (j : ℕ) × (pair_number x y ps ≡ Some j)
pair_here x y [] k e = cc
pair_here x y (p ∷ ps) zero e =
    let s : p ≡ (x, y) = cc in
    let t : (is_same x x && is_same y y) ≡ true = (λ i. self_id x.0 i && self_id y.0 i) in
    let u : (is_same p.0 x && is_same p.1 y) ≡ true =
    ap (λ (q : Pair). is_same q.0 x && is_same q.1 y) s ∙ t in
    (0, ap (λ b. if b then Some 0 else one_later (pair_number x y ps)) u)
pair_here x y (p ∷ ps) (suc k) e = by_test (is_same p.0 x && is_same p.1 y) (pair_here x y ps k e)
  where
    by_test : (b : Bool) → (j : ℕ) × (pair_number x y ps ≡ Some j)
        → (j : ℕ) × ((if b then Some 0 else one_later (pair_number x y ps)) ≡ Some j)
    by_test true w = (0, refl)
    by_test false w = (w.0 + 1, ap one_later w.1)

-- ---- rows
module _ (n : ℕ) (pairs : List Pair) where
  -- the place is the row's number
  pub place_row : IsEachOnce pairs → (s : Slot) (p : ℕ) → IsPlace n pairs s p
      → row_of n pairs s ≡ Some p
  place_row once (slot.Bnd x) p h = block_here n 0 x h.0 ∙ ap Some (let e = h.1 in omega arith)
  place_row once (slot.Abs x) p h = block_here n 1 x h.0 ∙ ap Some (let e = h.1 in omega arith)
  place_row once (slot.Fix x) p h = block_here n 2 x h.0 ∙ ap Some (let e = h.1 in omega arith)
  place_row once (slot.Nzr x) p h = block_here n 3 x h.0 ∙ ap Some (let e = h.1 in omega arith)
  place_row once (slot.Rel x y) p h =
      let w = pair_here x y pairs h.0 h.1 in
      let same : w.0 ≡ h.0 = once w.0 h.0 (x, y) (pair_there x y pairs w.0 w.1) h.1 in
      ap (behind_blocks n) w.1 ∙ ap Some (let e = h.2 in omega (arith, same))
  place_row once slot.Void p h = ap Some (sym h)

  -- and the row's number the place
  pub row_place : (s : Slot) (p : ℕ) → row_of n pairs s ≡ Some p → IsPlace n pairs s p
  row_place (slot.Bnd x) p e = let h = block_there n 0 x p e in (h.0, let d = h.1 in omega arith)
  row_place (slot.Abs x) p e = let h = block_there n 1 x p e in (h.0, let d = h.1 in omega arith)
  row_place (slot.Fix x) p e = block_there n 2 x p e
  row_place (slot.Nzr x) p e = block_there n 3 x p e
  row_place (slot.Rel x y) p e = by_number (pair_number x y pairs) refl e
    where
      by_number : (o : Option ℕ) → pair_number x y pairs ≡ o → behind_blocks n o ≡ Some p
          → IsPlace n pairs (slot.Rel x y) p
      by_number None q d = cc
      by_number (Some k) q d = (k, pair_there x y pairs k q, let h : 4 * n + k ≡ p = cc in sym h)
  row_place slot.Void p e = let h : 4 * n + length pairs ≡ p = cc in sym h

module _ (u : World) (once : IsEachOnce u.pairs) where
  -- what is read at a slot's place
  pub read_at : (k : Known) (s : Slot) (p : ℕ) → IsPlace (length u.nodes) u.pairs s p
      → row_in k.rows.items (Some p) ≡ cited_at u k s
  read_at k s p h = ap (row_in k.rows.items) (sym (place_row (length u.nodes) u.pairs once s p h))

  -- what a row that was put leaves on each slot
  module _ (k new : Known)
      (s : Slot) (p : ℕ) (row : Cited) (h : IsPlace (length u.nodes) u.pairs s p)
      (e : new.rows.items ≡ slice_set k.rows.items p (Some row)) where
    pub put_here : p < length k.rows.items → cited_at u new s ≡ Some row
    put_here l = ap (row_in new.rows.items) (place_row (length u.nodes) u.pairs once s p h)
        ∙ ap flat (ap (λ rows. slice_get rows p) e ∙ get_set_here k.rows.items p (Some row) l)

    pub put_there : (t : Slot) → t ≢ s → cited_at u new t ≡ cited_at u k t
    put_there t d =
        at_option (row_of (length u.nodes) u.pairs t) (λ o. row_of (length u.nodes) u.pairs t ≡ o
        → row_in new.rows.items o ≡ row_in k.rows.items o)
        (λ q z. refl)
        (λ r q z.
        let apart : p ≢ r = (λ same. d (slot_once (length u.nodes) u.pairs t s p (subst (IsPlace
        (length u.nodes) u.pairs t) (sym same) (row_place (length u.nodes) u.pairs t r z)) h)) in
        ap flat (ap (λ rows. slice_get rows r) e ∙ get_set_there k.rows.items p r (Some row) apart))
        refl

-- ---- copies
-- what rows that are the same say
pub same_known : (u : World) (k new : Known) → new.rows.items ≡ k.rows.items
    → known_at u new ≡ known_at u k
same_known u k new e = ap {B = Slot → Option Fact} (λ (rows : List (Option Cited)) (s : Slot).
    fact_of (row_in rows (row_of (length u.nodes) u.pairs s))) e

pub same_places : (u : World) (k new : Known) → new.rows.items ≡ k.rows.items
    → place_in u new ≡ place_in u k
same_places u k new e = ap {B = Slot → ℕ} (λ (rows : List (Option Cited)) (s : Slot).
    number_or (row_in rows (row_of (length u.nodes) u.pairs s))) e

-- what nobody says to be closed
pub open_marked : (u : World) (k : Known) → k.closed ≡ false → IsMarked u k
open_marked u k e said v = (let z : false ≡ true = sym e ∙ said in cc)

pub same_rows : (u : World) (k new : Known) → new.rows.items ≡ k.rows.items → new.closed ≡ false
    → HasRows u k → HasRows u new
same_rows u k new e unsaid r = record {
  count = ap length e ∙ r.count;
  proper = subst IsProper (sym (same_known u k new e)) r.proper;
  marked = open_marked u new unsaid;
}
