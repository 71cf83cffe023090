-- New numbers keep the order of used steps, so that a step is found by its new number where it was
-- by the old one.
use Rattle.std.proofs.Common.{◌≡◌, ◌≤◌, ◌<◌, ◌+◌, ℕ, zero, suc, Bool, true, false, refl, ap, subst}
use Rattle.std.proofs.Common.{◌∙◌, arith, ⊎_elim}
use Rattle.std.specs.Prelude.{if◌then◌else◌}
use Rattle.std.proofs.lemmas.Bool.{cases_lt}
use Rattle.cert_trim.specs.Trimmed.{new_number}

at_most_next : (b : Bool) (n m : ℕ) → n ≤ m → n ≤ (if b then suc m else m)
at_most_next true n m h = omega (arith, h)
at_most_next false n m h = h

rises : (used : ℕ → Bool) (a b : ℕ) → a ≤ b → new_number used a ≤ new_number used b
unfolding new_number
rises used a zero h = let e : a ≡ 0 = omega (arith, h) in rw e (omega arith)
rises used a (suc b) h = ⊎_elim (λ l. at_most_next (used b) _ _ (rises used a b (omega (arith, l))))
    (λ g. let e : a ≡ suc b = omega (arith, g, h) in
    subst (λ n. new_number used a ≤ new_number used n) e (omega arith)) (cases_lt a (suc b))

pub next_suc : (used : ℕ → Bool) (a : ℕ)
    → used a ≡ true → new_number used (suc a) ≡ suc (new_number used a)
unfolding new_number
next_suc used a u = rw u refl

pub next_of_used : (used : ℕ → Bool) (a : ℕ)
    → used a ≡ true → new_number used (a + 1) ≡ new_number used a + 1
next_of_used used a u = let e : a + 1 ≡ suc a = omega arith in
    let n = next_suc used a u in rw e (omega (arith, n))

-- a used step has a lower new number than those behind it
pub lower : (used : ℕ → Bool) (a b : ℕ)
    → used a ≡ true → a < b → new_number used a < new_number used b
lower used a b u h = let n = next_suc used a u in
    let r = rises used (suc a) b (omega (arith, h)) in omega (arith, n, r)

pub on_both : {X Y Z : Type 0} (f : X → Y → Z) {a b : X} {c d : Y} → a ≡ b → c ≡ d → f a c ≡ f b d
on_both f {a} {b} {c} {d} p q = ap (λ x. f x c) p ∙ ap (f b) q

pub next_of_unused : (used : ℕ → Bool) (a : ℕ)
    → used a ≡ false → new_number used (a + 1) ≡ new_number used a
unfolding new_number
next_of_unused used a u = let e : a + 1 ≡ suc a = omega arith in rw e (rw u refl)
