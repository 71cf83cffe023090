-- A table with room for a universe has a place for each of its slots, and finds it by its place.
use Rattle.std.specs.Prelude.{◌≡◌, ◌<◌, ◌==◌, ◌&&◌, ◌+◌, ◌*◌, ℕ, zero, suc, Bool, true, false, List}
use Rattle.std.specs.Prelude.{[], ◌∷◌, Some, length, slice_get, if◌then◌else◌, refl}
use Rattle.std.proofs.Common.{arith, sym, ap, ◌∙◌, subst, true≢false}
use Rattle.std.proofs.Math.ListN.{get_or-map}
use Rattle.std.specs.List.{Contains}
use Rattle.std.proofs.lemmas.List.{length-map}
use Rattle.std.proofs.lemmas.Bool.{and_parts}
use Rattle.fx_model.specs.declared.ExprId.{ExprId}
use Rattle.pair_closure.specs.Closure.{Pair}
use Rattle.pair_closure.specs.Reached.{IsEachOnce}
use Rattle.facts.specs.declared.fact.Slot.{Slot}
use Rattle.facts.specs.declared.fact.Slot.TheVariants as slot
use Rattle.facts.specs.Order.{is_same}
use Rattle.facts.proofs.CommonParts.{expr_same}
use Rattle.rule_universe.specs.declared.placed.Placed.{Placed}
use Rattle.rule_universe.specs.Worlds.{IsSlot}
use Rattle.rule_universe.specs.Places.{IsPlace}
use Rattle.rule_universe.specs.Placed.{slots_of}
use Rattle.saturate.specs.declared.kept.Table.{Table}
use Rattle.saturate.specs.Tables.{place_of, HasRoom, HasPlace, IsFoundAt, IsShaped, IsCopy}

self_id : (n : ℕ) → (n == n) ≡ true
self_id n = search (Rattle.std.proofs.Common.rules)

first_by : (b : Bool) (r l : ℕ) → b ≡ true → (if b then 0 else 1 + r) < suc l
first_by true r l e = omega arith
first_by false r l e = absurd (true≢false (sym e))

later_by : (b : Bool) (r l : ℕ) → r < l → (if b then 0 else 1 + r) < suc l
later_by true r l h = omega arith
later_by false r l h = omega arith

pub place_within : (x y : ExprId) (ps : List Pair) (k : ℕ) → slice_get ps k ≡ Some (x, y)
    → place_of x y ps < length ps
place_within x y [] k e = cc
place_within x y (p ∷ ps) zero e =
    let s : p ≡ (x, y) = cc in
    let t : (is_same x x && is_same y y) ≡ true = (λ i. self_id x.0 i && self_id y.0 i) in
    first_by (is_same p.0 x && is_same p.1 y) (place_of x y ps) (length ps)
    (ap (λ (q : Pair). is_same q.0 x && is_same q.1 y) s ∙ t)
place_within x y (p ∷ ps) (suc k) e = later_by (is_same p.0 x && is_same p.1 y) (place_of x y ps)
    (length ps) (place_within x y ps k e)

-- ---- tables with room
pub room_place : (n : ℕ) (ps : List Pair) (t : Table) → HasRoom n ps t → (s : Slot)
    → IsSlot n ps s → HasPlace t s
room_place n ps t r = elim [
  | slot.Bnd x ↦ λ h. let e = r.bnd in omega (arith, e, h)
  | slot.Abs x ↦ λ h. let e = r.abs in omega (arith, e, h)
  | slot.Rel x y ↦ λ h. (
    let l : place_of x y t.pairs.items < length ps =
        subst (λ l. place_of x y l < length ps) (sym r.pairs) (place_within x y ps h.0 h.1) in
        let e = r.rel in omega (arith, e, l),
    r.rel ∙ ap length (sym r.pairs),
  )
  | slot.Fix x ↦ λ h. let e = r.fix in omega (arith, e, h)
  | slot.Nzr x ↦ λ h. let e = r.nzr in omega (arith, e, h)
  | slot.Void ↦ λ h. tt
]

pub shaped_room : (n : ℕ) (ps : List Pair) (t c : Table) → IsShaped t c
    → HasRoom n ps t → HasRoom n ps c
shaped_room n ps t c s r = record {
  bnd = s.bnd ∙ r.bnd;
  abs = s.abs ∙ r.abs;
  pairs = s.pairs ∙ r.pairs;
  rel = s.rel ∙ r.rel;
  fix = s.fix ∙ r.fix;
  nzr = s.nzr ∙ r.nzr;
}

pub copy_room : (n : ℕ) (ps : List Pair) (t c : Table) → IsCopy t c
    → HasRoom n ps t → HasRoom n ps c
copy_room n ps t c s r = record {
  bnd = ap length s.bnd ∙ r.bnd;
  abs = ap length s.abs ∙ r.abs;
  pairs = s.pairs ∙ r.pairs;
  rel = ap length s.rel ∙ r.rel;
  fix = ap length s.fix ∙ r.fix;
  nzr = ap length s.nzr ∙ r.nzr;
}

pub shaped_none : (t : Table) → IsShaped t t
shaped_none t = record { bnd = refl; abs = refl; pairs = refl; rel = refl; fix = refl; nzr = refl }

pub shaped_both : (t m c : Table) → IsShaped t m → IsShaped m c → IsShaped t c
shaped_both t m c f s = record {
  bnd = s.bnd ∙ f.bnd;
  abs = s.abs ∙ f.abs;
  pairs = s.pairs ∙ f.pairs;
  rel = s.rel ∙ f.rel;
  fix = s.fix ∙ f.fix;
  nzr = s.nzr ∙ f.nzr;
}

pub shaped_place : (t c : Table) → IsShaped t c → (s : Slot) → HasPlace t s → HasPlace c s
shaped_place t c e = elim [
  | slot.Bnd x ↦ λ h. let q = e.bnd in omega (arith, q, h)
  | slot.Abs x ↦ λ h. let q = e.abs in omega (arith, q, h)
  | slot.Rel x y ↦ λ h. (
    let l : place_of x y c.pairs.items < length t.rel.items =
        subst (λ l. place_of x y l < length t.rel.items) (sym e.pairs) h.0 in
        let q = e.rel in omega (arith, q, l),
    e.rel ∙ h.1 ∙ ap length (sym e.pairs),
  )
  | slot.Fix x ↦ λ h. let q = e.fix in omega (arith, q, h)
  | slot.Nzr x ↦ λ h. let q = e.nzr in omega (arith, q, h)
  | slot.Void ↦ λ h. tt
]

pub shaped_found : (t c : Table) → IsShaped t c → (s : Slot) (p : ℕ)
    → IsFoundAt t s p → IsFoundAt c s p
shaped_found t c e (slot.Bnd x) p h = tt
shaped_found t c e (slot.Abs x) p h = tt
shaped_found t c e (slot.Rel x y) p h = h ∙ ap (λ k. 4 * k + place_of x y t.pairs.items) (sym e.bnd)
    ∙ ap (λ l. 4 * length c.bnd.items + place_of x y l) (sym e.pairs)
shaped_found t c e (slot.Fix x) p h = tt
shaped_found t c e (slot.Nzr x) p h = tt
shaped_found t c e slot.Void p h = tt

-- ---- places of pairs
by_test : (x y : ExprId) (p : Pair) (ps : List Pair) (b : Bool)
    → (is_same p.0 x && is_same p.1 y) ≡ b
    → (b ≡ false → slice_get ps (place_of x y ps) ≡ Some (x, y))
    → slice_get (p ∷ ps) (if b then 0 else 1 + place_of x y ps) ≡ Some (x, y)
by_test x y p ps true e later =
    let a = and_parts (is_same p.0 x) (is_same p.1 y) e in
    let f = expr_same p.0 x a.0 in
    let g = expr_same p.1 y a.1 in
    (λ i. Some (f i, g i))
by_test x y p ps false e later =
    let n : 1 + place_of x y ps ≡ suc (place_of x y ps) = omega arith in
    ap (slice_get (p ∷ ps)) n ∙ later refl

place_there : (x y : ExprId) (ps : List Pair) (k : ℕ) → slice_get ps k ≡ Some (x, y)
    → slice_get ps (place_of x y ps) ≡ Some (x, y)
place_there x y [] k e = cc
place_there x y (p ∷ ps) zero e =
    let s : p ≡ (x, y) = cc in
    let t : (is_same x x && is_same y y) ≡ true = (λ i. self_id x.0 i && self_id y.0 i) in
    by_test x y p ps (is_same p.0 x && is_same p.1 y) refl
    (λ f. absurd (true≢false (sym (ap (λ (q : Pair). is_same q.0 x && is_same q.1 y) s ∙ t) ∙ f)))
place_there x y (p ∷ ps) (suc k) e =
    by_test x y p ps (is_same p.0 x && is_same p.1 y) refl (λ f. place_there x y ps k e)

pub room_found : (n : ℕ) (ps : List Pair) (t : Table) → IsEachOnce ps → HasRoom n ps t
    → (s : Slot) (p : ℕ) → IsPlace n ps s p → IsFoundAt t s p
room_found n ps t once r (slot.Bnd x) p h = tt
room_found n ps t once r (slot.Abs x) p h = tt
room_found n ps t once r (slot.Rel x y) p h =
    let k : h.0 ≡ place_of x y ps =
    once h.0 (place_of x y ps) (x, y) h.1 (place_there x y ps h.0 h.1) in
    let e : place_of x y ps ≡ place_of x y t.pairs.items = ap (place_of x y) (sym r.pairs) in
    let b = r.bnd in
    omega (arith, h.2, k, e, b)
room_found n ps t once r (slot.Fix x) p h = tt
room_found n ps t once r (slot.Nzr x) p h = tt
room_found n ps t once r slot.Void p h = tt

pub placed_slot : (n : ℕ) (ps : List Pair) (s : Slot) (p : ℕ) → IsPlace n ps s p → IsSlot n ps s
placed_slot n ps (slot.Bnd x) p h = h.0
placed_slot n ps (slot.Abs x) p h = h.0
placed_slot n ps (slot.Fix x) p h = h.0
placed_slot n ps (slot.Nzr x) p h = h.0
placed_slot n ps (slot.Rel x y) p h = (h.0, h.1)
placed_slot n ps slot.Void p h = tt

-- ---- slots of a list with places
pub contains_slot : (xs : List Placed) (p : Placed) → Contains xs p → Contains (slots_of xs) p.slot
contains_slot xs p w =
    let f = λ (q : Placed). q.slot in
    let l = length-map xs f in
    (w.0, omega (arith, l, w.1), get_or-map f xs w.0 p ∙ ap f w.2)
