-- Numbers in canonical form.
use lib.IntN.{neg_ℤ}
use Rattle.std.proofs.Common.{◌≡◌, ℕ, ℤ, pos, negsuc, ◌+ℤ◌, ◌≤ℤ◌, ◌<◌, ◌*◌, ◌+◌, ◌%◌, ◌^◌, arith}
use Rattle.std.proofs.Common.{ap, sym, subst, ◌∙◌, Bool, true, false, inl, inr, ⊎_elim}
use Rattle.std.specs.Int.RustNames.{unsigned_abs}
use Rattle.std.proofs.lemmas.Int.{ints}
use Rattle.fx_model.specs.Fraction.{Fraction, neg_ℚ, neg-neg, le_refl}
use Rattle.fx_model.specs.Powers.{scaled, scaled-shift, scaled-zero}
use Rattle.fx_model.specs.Grid.{IsOnGrid, scaled-neg, Below, At, Above, IsDown, IsUp, IsDown-neg}
use Rattle.fx_model.specs.Grid.{IsUp-neg, signed}
use Rattle.fx_model.proofs.Grid.{signed-signed}
use Rattle.fx_model.specs.Cut.{Cuts, Full, down_is, up_is, up_is_exact}
use Rattle.dyadic.specs.Canonical.{IsCanonical}

pub value_neg : (m e m' e' : ℤ) → m' ≡ neg_ℤ m → e' ≡ e → scaled m' e' ≡ neg_ℚ (scaled m e)
value_neg m e m' e' p q = ap (λ m. scaled m e') p ∙ ap (scaled (neg_ℤ m)) q ∙ scaled-neg m e

pub IsCanonical-neg : (m e m' e' : ℤ) → m' ≡ neg_ℤ m → e' ≡ e → IsCanonical m e → IsCanonical m' e'
IsCanonical-neg m e m' e' p q c = let s = c.size in let l = c.lowest in
    let h = c.highest in record {
      form =
          ⊎_elim (λ z. let a = z.0 in let b = z.1 in inl (omega (arith, ints), omega (arith, ints)))
          (λ o. inr (let r : unsigned_abs m' ≡ unsigned_abs m = omega (arith, ints) in
          ap (λ n. n % 2) r ∙ o)) c.form;
      size = omega (arith, ints);
      lowest = omega (arith, ints);
      highest = omega (arith, ints);
      room = λ k h. let r : unsigned_abs m' ≡ unsigned_abs m = omega (arith, ints) in
          subst (λ n. n * 2 ^ k < 1152921504606846976) (sym r) (c.room k (sym q ∙ h));
    }

pub strip_value : (odd shift digits : ℕ) (two m e : ℤ) → odd * 2 ^ shift ≡ digits → m ≡ pos odd
    → e ≡ two +ℤ pos shift → scaled m e ≡ scaled (pos digits) two
strip_value odd shift digits two m e f g h = ap (λ m. scaled m e) g ∙ ap (scaled (pos odd)) h
    ∙ scaled-shift (pos odd) two shift ∙ ap (λ n. scaled (pos n) two) f

pub zero_value : (digits : ℕ) (two : ℤ) → digits ≡ 0
    → scaled (pos 0) (pos 0) ≡ scaled (pos digits) two
zero_value digits two z =
    scaled-zero (pos 0) ∙ sym (scaled-zero two) ∙ ap (λ n. scaled (pos n) two) (sym z)

-- ---- a cut that is rounded, at the number that is made of it
pub down_at : (x : Fraction) (q : ℕ) (e : ℤ) (i : Bool) → Cuts x q e i
    → Full q e → q < 1152921504606846976 → negsuc 511 ≤ℤ e → e ≤ℤ pos 512 → (y : Fraction) (f : ℤ)
    → y ≡ scaled (pos q) f → f ≡ e → IsDown x (At y)
down_at x q e i c full h l k y f p r =
    subst (λ y. IsDown x (At y)) (sym (p ∙ ap (scaled (pos q)) r)) (down_is x q e i c full h l k)

pub up_exact_at : (x : Fraction) (q : ℕ) (e : ℤ) → Cuts x q e false
    → q < 1152921504606846976 → negsuc 511 ≤ℤ e → e ≤ℤ pos 512 → (y : Fraction) (f : ℤ)
    → y ≡ scaled (pos q) f → f ≡ e → IsUp x (At y)
up_exact_at x q e c h l k y f p r =
    subst (λ y. IsUp x (At y)) (sym (p ∙ ap (scaled (pos q)) r)) (up_is_exact x q e c h l k)

pub up_next_at : (x : Fraction) (q : ℕ) (e : ℤ) → Cuts x q e true
    → Full q e → (f : ℤ) → f ≡ e → IsOnGrid (scaled (pos (q + 1)) f) → (y : Fraction)
    → y ≡ scaled (pos (q + 1)) f → IsUp x (At y)
up_next_at x q e c full f r g y p =
    subst (λ y. IsUp x (At y)) (sym (p ∙ ap (scaled (pos (q + 1))) r))
    (up_is x q e c full (subst (λ e. IsOnGrid (scaled (pos (q + 1)) e)) r g))

-- ---- a sign
pub down_signed : (n : Bool) (x g y : Fraction) → n ≡ true → IsUp (signed n x) (At g)
    → y ≡ neg_ℚ g → IsDown x (At y)
down_signed n x g y e u p =
    subst (λ y. IsDown x (At y)) (sym p) (subst (λ z. IsDown z (At (neg_ℚ g))) (neg-neg x)
    (IsDown-neg (neg_ℚ x) (At g) (subst (λ n. IsUp (signed n x) (At g)) e u)))

pub down_low : (n : Bool) (x : Fraction) → n ≡ true → IsUp (signed n x) Above → IsDown x Below
down_low n x e u = subst (λ z. IsDown z Below) (neg-neg x)
    (IsDown-neg (neg_ℚ x) Above (subst (λ n. IsUp (signed n x) Above) e u))

pub down_plain : (n : Bool) (x g : Fraction) → n ≡ false
    → IsDown (signed n x) (At g) → IsDown x (At g)
down_plain n x g e u = subst (λ n. IsDown (signed n x) (At g)) e u

pub up_signed : (n : Bool) (x g y : Fraction) → n ≡ true → IsDown (signed n x) (At g)
    → y ≡ neg_ℚ g → IsUp x (At y)
up_signed n x g y e u p = subst (λ y. IsUp x (At y)) (sym p) (subst (λ z. IsUp z (At (neg_ℚ g)))
    (neg-neg x) (IsUp-neg (neg_ℚ x) (At g) (subst (λ n. IsDown (signed n x) (At g)) e u)))

pub up_plain : (n : Bool) (x g : Fraction) → n ≡ false → IsUp (signed n x) (At g) → IsUp x (At g)
up_plain n x g e u = subst (λ n. IsUp (signed n x) (At g)) e u

pub up_high : (n : Bool) (x : Fraction) → n ≡ false → IsUp (signed n x) Above → IsUp x Above
up_high n x e u = subst (λ n. IsUp (signed n x) Above) e u

pub known_cut : (x : Fraction) (q : ℕ) (e : ℤ) (i j : Bool) → Cuts x q e i → i ≡ j → Cuts x q e j
known_cut x q e i j c p = subst (λ i. Cuts x q e i) p c

pub same_cut : (x : Fraction) (q : ℕ) (e : ℤ) (i : Bool) (q' : ℕ) (e' : ℤ) (i' : Bool)
    → Cuts x q e i → q' ≡ q → e' ≡ e → i' ≡ i → Cuts x q' e' i'
same_cut x q e i q' e' i' c f g h = subst (λ q. Cuts x q e' i') (sym f)
    (subst (λ e. Cuts x q e i') (sym g) (subst (λ i. Cuts x q e i) (sym h) c))

-- ---- a number that needs no rounding
pub sign_exact : (n : Bool) (x g y : Fraction) → signed n x ≡ g → y ≡ signed n g → y ≡ x
sign_exact n x g y e p = p ∙ ap (signed n) (sym e) ∙ signed-signed n x

pub exact_down : (x y : Fraction) → IsOnGrid y → y ≡ x → IsDown x (At y)
exact_down x y g e = subst (λ x. IsDown x (At y)) e (g, le_refl y, λ h o t. t)

pub exact_up : (x y : Fraction) → IsOnGrid y → y ≡ x → IsUp x (At y)
exact_up x y g e = subst (λ x. IsUp x (At y)) e (g, le_refl y, λ h o t. t)
