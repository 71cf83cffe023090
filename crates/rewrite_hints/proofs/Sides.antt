-- The sides of hints as one list.
use Rattle.std.specs.Prelude.{◌≡◌, ◌⊎◌, ◌+◌, ◌<◌, ℕ, List, [], ◌∷◌, ◌++◌, Some, slice_get, length}
use Rattle.std.proofs.Common.{inl, inr, arith, ap, sym, ◌∙◌, subst}
use Rattle.std.proofs.lemmas.Option.{slice_get_within, none-some}
use Rattle.std.proofs.lemmas.Bool.{cases_lt}
use Rattle.fx_model.specs.declared.ExprId.{ExprId}
use Rattle.fx_model.specs.declared.Node.{Node}
use Rattle.poly_normal.specs.Parts.{IsSide}
use Rattle.script_hints.specs.declared.hint.Hint.{Hint}
use Rattle.rewrite_hints.specs.Marks.{AreSidesOf, AreKnownSides}
use Rattle.rewrite_hints.proofs.Flags.{before_last, last_at, ends_with}

some_hint : (x y : Hint) → Some x ≡ Some y → x ≡ y
some_hint x y e = cc

pub sides_start : (hints : List Hint) (sides : List ExprId) → sides ≡ []
    → AreSidesOf hints 0 sides
sides_start hints sides e = record {
  both = λ k h l at. absurd (let b : k < 0 = l in omega arith);
  only = λ x w. absurd (none-some x (ap (λ (s : List ExprId). slice_get s w.0) (sym e) ∙ w.1));
}

wider : (sides : List ExprId) (y x : ExprId) → IsSide sides x → IsSide (sides ++ y ∷ []) x
wider sides y x w = (w.0, before_last sides y w.0 x w.1)

narrower : (sides : List ExprId) (y x : ExprId) → IsSide (sides ++ y ∷ []) x
    → IsSide sides x ⊎ (x ≡ y)
narrower sides y x w = elim (ends_with sides y w.0 x w.1) [ inl a ↦ inl (w.0, a) | inr b ↦ inr b.1 ]

abbrev with_sides : List ExprId → Hint → List ExprId
with_sides sides h = (sides ++ h.left ∷ []) ++ h.right ∷ []

pub sides_more : (hints : List Hint) (n : ℕ) (h : Hint) (sides first second : List ExprId)
    → slice_get hints n ≡ Some h → AreSidesOf hints n sides → first ≡ sides ++ h.left ∷ []
    → second ≡ first ++ h.right ∷ [] → AreSidesOf hints (n + 1) second
sides_more hints n h sides first second at a e f = subst (AreSidesOf hints (n + 1))
    (sym (f ∙ ap (λ (s : List ExprId). s ++ h.right ∷ []) e)) (record { both = both; only = only })
  where
    old : (x : ExprId) → IsSide sides x → IsSide (with_sides sides h) x
    old x w = wider (sides ++ h.left ∷ []) h.right x (wider sides h.left x w)

    left : IsSide (with_sides sides h) h.left
    left = wider (sides ++ h.left ∷ []) h.right h.left (length sides, last_at sides h.left)

    right : IsSide (with_sides sides h) h.right
    right = (length (sides ++ h.left ∷ []), last_at (sides ++ h.left ∷ []) h.right)

    both : (k : ℕ) (g : Hint) → k < n + 1 → slice_get hints k ≡ Some g
        → IsSide (with_sides sides h) g.left × IsSide (with_sides sides h) g.right
    both k g l there = elim (cases_lt k n) [
      | inl b ↦ (let w = a.both k g b there in (old g.left w.0, old g.right w.1))
      | inr b ↦ (let s : k ≡ n = omega arith in
          let same : h ≡ g = some_hint h g (sym at ∙ ap (slice_get hints) (sym s) ∙ there) in
          subst (λ (u : Hint). IsSide (with_sides sides h) u.left
          × IsSide (with_sides sides h) u.right) same (left, right))
    ]

    only : (x : ExprId) → IsSide (with_sides sides h) x → (k : ℕ) × (g : Hint)
        × (slice_get hints k ≡ Some g) × ((x ≡ g.left) ⊎ (x ≡ g.right))
    only x w = elim (narrower (sides ++ h.left ∷ []) h.right x w) [
      | inl u ↦ elim (narrower sides h.left x u) [
        | inl v ↦ a.only x v
        | inr q ↦ (n, h, at, inl q)
      ]
      | inr q ↦ (n, h, at, inr q)
    ]

pub sides_end : (hints : List Hint) (n : ℕ) (sides : List ExprId) → n ≡ length hints
    → AreSidesOf hints n sides → AreSidesOf hints (length hints) sides
sides_end hints n sides e a = subst (λ k. AreSidesOf hints k sides) e a

-- all sides are nodes
pub sides_inside : (nodes : List Node) (hints : List Hint) (sides read : List ExprId)
    → AreKnownSides nodes hints → AreSidesOf hints (length hints) sides → read ≡ sides
    → (x : ExprId) → IsSide read x → x.0 < length nodes
sides_inside nodes hints sides read known a e x w =
    let v = a.only x (subst (λ (s : List ExprId). IsSide s x) e w) in
    let k = known v.0 v.1 v.2 in elim v.3 [
      | inl q ↦ subst (λ (u : ExprId). u.0 < length nodes) (sym q) k.0
      | inr q ↦ subst (λ (u : ExprId). u.0 < length nodes) (sym q) k.1
    ]

-- both sides of a hint are there
pub sides_there : (hints : List Hint) (sides read : List ExprId)
    → AreSidesOf hints (length hints) sides → read ≡ sides → (k : ℕ) (h : Hint)
    → slice_get hints k ≡ Some h → IsSide read h.left × IsSide read h.right
sides_there hints sides read a e k h at = subst (λ (s : List ExprId). IsSide s h.left
    × IsSide s h.right) (sym e) (a.both k h (slice_get_within hints k h at) at)
