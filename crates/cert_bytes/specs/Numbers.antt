-- Numbers that fields may have.
use Rattle.std.specs.Prelude.{◌≡◌, ◌+◌, ◌-◌, ◌*◌, ◌%◌, ◌^◌, ◌<◌, ◌≤◌, ◌==◌, ◌&&◌, ◌||◌, not, ℕ, ℤ}
use Rattle.std.specs.Prelude.{pos, negsuc, ◌≤ℤ◌, Bool, true, false, Option, Some, None, nat_lt}
use Rattle.std.specs.Prelude.{refl}
use Rattle.std.specs.Int.RustNames.{int_lt, unsigned_abs}
use Rattle.std.specs.Ordering.{int_eq}
use Rattle.std.proofs.Common.{sym, ap, subst, ◌∙◌, arith, inl, inr, ⊎_elim, eqb-true}
use Rattle.std.proofs.lemmas.Int.{ints}
use Rattle.std.proofs.lemmas.Bool.{cases_lt, ltb-true, lt-ltb, and_parts, and_from, or_right}
use Rattle.std.proofs.lemmas.Bool.{or_left, or_cases}
use Rattle.std.proofs.lemmas.Bool.Decides.{Decides-int_eq}
use Rattle.std.proofs.lemmas.Nat.{pow_pos}
use Rattle.std.proofs.Math.Nat.{mul-le-mul_left}
use Rattle.fx_model.specs.declared.Literal.{Literal}
use Rattle.dyadic.specs.declared.number.Dyadic.{Dyadic}
use Rattle.dyadic.specs.Canonical.{IsCanonical, IsCanonical-prop, IsReduced}
use Rattle.interval.specs.Decided.{made, made-some, made-none, made_out}

-- ---- tests

pub same_int : (a b : ℤ) → int_eq a b ≡ true → a ≡ b
same_int a b e = (Decides-int_eq a b).0 e

pub is_int : (a b : ℤ) → a ≡ b → int_eq a b ≡ true
is_int a b e = (Decides-int_eq a b).1 e

pub at_least : (a b : ℤ) → not (int_lt a b) ≡ true → b ≤ℤ a
at_least a b e = grind (arith, ints)

pub at_least_of : (a b : ℤ) → b ≤ℤ a → not (int_lt a b) ≡ true
at_least_of a b l = let q : int_lt a b ≡ false = grind (arith, ints) in rw q refl

-- how far an exponent is above n
abbrev pub over : ℕ → ℤ → ℕ
over n (pos e) = e - n
over n (negsuc e) = 0

abbrev is_reduced : ℤ → ℤ → Bool
is_reduced m e = (int_eq m (pos 0) && int_eq e (pos 0)) || (unsigned_abs m % 2 == 1)

abbrev is_small : ℤ → ℤ → Bool
is_small m e = nat_lt (unsigned_abs m * 2 ^ over 512 e) 1152921504606846976

abbrev is_placed : ℤ → Bool
is_placed e = not (int_lt e (negsuc 511)) && not (int_lt (pos 571) e)

is_canonical : ℤ × ℤ → Bool
is_canonical p = is_reduced p.0 p.1 && (is_small p.0 p.1 && is_placed p.1)

reduced_in : (m e : ℤ) → is_reduced m e ≡ true → IsReduced m e
reduced_in m e h = ⊎_elim (λ z. let b = and_parts (int_eq m (pos 0)) (int_eq e (pos 0)) z in inl
    (same_int m (pos 0) b.0, same_int e (pos 0) b.1)) (λ o. inr (eqb-true (unsigned_abs m % 2) 1 o))
    (or_cases (int_eq m (pos 0) && int_eq e (pos 0)) (unsigned_abs m % 2 == 1) h)

reduced_out : (m e : ℤ) → IsReduced m e → is_reduced m e ≡ true
reduced_out m e (inl z) = or_left (int_eq m (pos 0) && int_eq e (pos 0)) (unsigned_abs m % 2 == 1)
    (and_from (int_eq m (pos 0)) (int_eq e (pos 0)) (is_int m (pos 0) z.0) (is_int e (pos 0) z.1))
reduced_out m e (inr o) =
    or_right (int_eq m (pos 0) && int_eq e (pos 0)) (unsigned_abs m % 2 == 1) (rw o refl)

canonical_in : (p : ℤ × ℤ) → is_canonical p ≡ true → IsCanonical p.0 p.1
unfolding is_canonical
canonical_in (m, e) h =
    let b = and_parts (is_reduced m e) (is_small m e && is_placed e) h in
    let c = and_parts (is_small m e) (is_placed e) b.1 in
    let d = and_parts (not (int_lt e (negsuc 511))) (not (int_lt (pos 571) e)) c.1 in
    let s : unsigned_abs m * 2 ^ over 512 e < 1152921504606846976 =
    ltb-true (unsigned_abs m * 2 ^ over 512 e) 1152921504606846976 c.0 in
    let one : unsigned_abs m * 1 ≤ unsigned_abs m * 2 ^ over 512 e =
    mul-le-mul_left (unsigned_abs m) (pow_pos (over 512 e)) in
    record {
      form = reduced_in m e b.0;
      size = omega (arith, s, one);
      lowest = at_least e (negsuc 511) d.0;
      highest = at_least (pos 571) e d.1;
      room = λ k q. room_of e k q s;
    }
  where
    room_of : (e : ℤ) (k : ℕ)
        → e ≡ pos (512 + k) → unsigned_abs m * 2 ^ over 512 e < 1152921504606846976
        → unsigned_abs m * 2 ^ k < 1152921504606846976
    room_of e k q s = let t : over 512 e ≡ k = ap (over 512) q ∙ omega arith in
        let P : ℕ → Type 0 = λ j. unsigned_abs m * 2 ^ j < 1152921504606846976 in subst P t s

small_out : (m e : ℤ) → IsCanonical m e → unsigned_abs m * 2 ^ over 512 e < 1152921504606846976
small_out m (negsuc n) c = let s = c.size in omega (arith, s)
small_out m (pos n) c = ⊎_elim
    (λ l. let z : over 512 (pos n) ≡ 0 = omega arith in
    let P : ℕ → Type 0 = λ j. unsigned_abs m * 2 ^ j < 1152921504606846976 in
    subst P (sym z) (let s = c.size in omega (arith, s)))
    (λ g. let q : pos n ≡ pos (512 + (n - 512)) = ap pos (omega arith) in c.room (n - 512) q)
    (cases_lt n 512)

canonical_out : (p : ℤ × ℤ) → IsCanonical p.0 p.1 → is_canonical p ≡ true
unfolding is_canonical
canonical_out (m, e) c =
    and_from (is_reduced m e) (is_small m e && is_placed e) (reduced_out m e c.form)
    (and_from (is_small m e) (is_placed e)
    (lt-ltb (unsigned_abs m * 2 ^ over 512 e) 1152921504606846976 (small_out m e c))
    (and_from (not (int_lt e (negsuc 511))) (not (int_lt (pos 571) e))
    (at_least_of e (negsuc 511) c.lowest) (at_least_of (pos 571) e c.highest)))

abbrev number : (p : ℤ × ℤ) → IsCanonical p.0 p.1 → Dyadic
number p c = record { mantissa = p.0; exponent = p.1; canonical = c }

-- the number of the grid with this mantissa and exponent; none where it isn't kept in this form
pub number_from : ℤ → ℤ → Option Dyadic
number_from m e = made (λ p. IsCanonical p.0 p.1)
    (λ p. IsCanonical-prop p.0 p.1) is_canonical canonical_in canonical_out number (m, e)

pub number_from-some : (m e : ℤ) (c : IsCanonical m e)
    → number_from m e ≡ Some (record { mantissa = m; exponent = e; canonical = c })
unfolding number_from
number_from-some m e c = made-some (λ p. IsCanonical p.0 p.1)
    (λ p. IsCanonical-prop p.0 p.1) is_canonical canonical_in canonical_out number (m, e) c

pub number_from-none : (m e : ℤ) → ¬ IsCanonical m e → number_from m e ≡ None
unfolding number_from
number_from-none m e n = made-none (λ p. IsCanonical p.0 p.1)
    (λ p. IsCanonical-prop p.0 p.1) is_canonical canonical_in canonical_out number (m, e) n

pub number_from_out : (m e : ℤ) (d : Dyadic) → number_from m e ≡ Some d
    → (d.mantissa ≡ m) × (d.exponent ≡ e)
unfolding number_from
number_from_out m e d q =
    let r = made_out (λ p. IsCanonical p.0 p.1)
    (λ p. IsCanonical-prop p.0 p.1) is_canonical canonical_in canonical_out number (m, e) d q in
    (sym (ap (λ (x : Dyadic). x.mantissa) r.1), sym (ap (λ (x : Dyadic). x.exponent) r.1))

-- The number and its exponent are those of a normal form: the exponent's excess over `high`, as
-- tens or twos, has room in so many digits.
abbrev pub has_room : ℕ → ℕ → ℤ → ℕ → ℕ → ℤ → Bool
has_room base digits low high num e = not (int_lt e low)
    && (nat_lt (over high e) (digits + 1) && nat_lt num (base ^ (digits - over high e)))

-- whether the literal is 0, with no exponent
abbrev pub is_zero : Literal → Bool
is_zero l = l.num == 0 && (int_eq l.two (pos 0) && int_eq l.ten (pos 0))

-- whether it is a decimal number in normal form: no power of two, a last digit other than 0, and an
-- exponent within the limits
abbrev pub is_decimal : Literal → Bool
is_decimal l =
    int_eq l.two (pos 0) && (not (l.num % 10 == 0) && has_room 10 30 (negsuc 29) 8 l.num l.ten)

-- whether it is a binary or hexadecimal number in normal form: no power of ten, an odd number, and
-- an exponent within the limits
abbrev pub is_binary : Literal → Bool
is_binary l =
    int_eq l.ten (pos 0) && (not (l.num % 2 == 0) && has_room 2 100 (negsuc 511) 512 l.num l.two)

-- zero, or in the normal form of a decimal, or of a binary or hexadecimal number within the limits
unfoldable pub is_normal : Literal → Bool
is_normal l = is_zero l || (is_decimal l || is_binary l)
