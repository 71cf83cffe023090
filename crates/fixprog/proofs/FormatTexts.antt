-- Formats by their texts.
use Rattle.std.proofs.Common.{◌≡◌, ℕ, ◌+◌, ◌<◌, ◌&&◌, nat_lt, nat_eq, Bool, true, false, List, []}
use Rattle.std.proofs.Common.{◌∷◌, length, take, drop, Some, None, refl, sym, ap, ◌∙◌, subst, arith}
use Rattle.std.proofs.Common.{if◌then◌else◌}
use Rattle.std.specs.Str.Parse.{digits_value}
use Rattle.fixprog.specs.Lex.{digits_len}
use Rattle.fixprog.specs.declared.format.Format.{Format}
use Rattle.fixprog.specs.Formats.{format_of, is_format, within_limits}

too_wide : (w p : ℕ) → (w < 61 → ⊥) → (nat_lt 0 w && nat_lt w 61 && nat_lt p 61) ≡ false
too_wide w p h = let e : nat_lt w 61 ≡ false = grind arith in
    rw e (never (nat_lt 0 w) (nat_lt p 61))
  where
    never : (a b : Bool) → (a && false && b) ≡ false
    never true b = refl
    never false b = refl

too_long : (w p : ℕ) → (p < 61 → ⊥) → (nat_lt 0 w && nat_lt w 61 && nat_lt p 61) ≡ false
too_long w p h = let e : nat_lt p 61 ≡ false = grind arith in
    rw e (never (nat_lt 0 w && nat_lt w 61))
  where
    never : (a : Bool) → (a && false) ≡ false
    never true = refl
    never false = refl

not_empty : (w p : ℕ) → w ≡ 0 → (nat_lt 0 w && nat_lt w 61 && nat_lt p 61) ≡ false
not_empty w p h = let e : nat_lt 0 w ≡ false = grind arith in rw e refl

in_limits : (w p : ℕ) → (w ≡ 0 → ⊥) → w < 61 → p < 61 → (nat_lt 0 w && nat_lt w 61 && nat_lt p 61)
    ≡ true
in_limits w p h k l =
    let a : nat_lt 0 w ≡ true = grind arith in
    let b : nat_lt w 61 ≡ true = grind arith in
    let d : nat_lt p 61 ≡ true = grind arith in
    rw (a, b, d) refl

none_if : (f : Format) → is_format f ≡ false → within_limits f ≡ None
none_if f e = ap (λ b. if b then Some f else None) e

-- the numbers of a letter and what stands behind it, as they are read
module _ (letter : ℕ) (text front behind : List ℕ) (n : ℕ) (e : n ≡ digits_len text) (f : front
    ≡ take n text) (g : behind ≡ drop (n + 1) text) where
  width_is : (format_of (letter ∷ text)).width ≡ digits_value 10 front
  unfolding format_of
  width_is = ap (λ k. digits_value 10 (take k text)) (sym e) ∙ ap (digits_value 10) (sym f)

  places_are : (format_of (letter ∷ text)).places ≡ digits_value 10 behind
  unfolding format_of
  places_are = ap (λ k. digits_value 10 (drop (k + 1) text)) (sym e) ∙ ap (digits_value 10) (sym g)

  pub wide : (digits_value 10 front < 61 → ⊥) → within_limits (format_of (letter ∷ text)) ≡ None
  wide h = let f = format_of (letter ∷ text) in
      none_if f (too_wide f.width f.places (λ l. h (subst (λ n. n < 61) width_is l)))

  pub long : (digits_value 10 behind < 61 → ⊥) → within_limits (format_of (letter ∷ text)) ≡ None
  long h = let f = format_of (letter ∷ text) in
      none_if f (too_long f.width f.places (λ l. h (subst (λ n. n < 61) places_are l)))

  pub empty : digits_value 10 front ≡ 0 → within_limits (format_of (letter ∷ text)) ≡ None
  empty h = none_if (format_of (letter ∷ text)) (not_empty _ _ (width_is ∙ h))

  pub within : (w p : ℕ) → w ≡ digits_value 10 front → p ≡ digits_value 10 behind → (w ≡ 0 → ⊥)
      → digits_value 10 front < 61 → digits_value 10 behind < 61
      → within_limits (format_of (letter ∷ text))
      ≡ Some (record { signed = nat_eq letter 115; width = w; places = p })
  unfolding format_of
  within w p a b h k l =
      ap (λ x. within_limits (record {
        signed = nat_eq letter 115;
        width = x;
        places =
            digits_value 10 (drop (digits_len text + 1) text);
      })) (width_is ∙ sym a)
      ∙ ap (λ x. within_limits (record { signed = nat_eq letter 115; width = w; places = x }))
      (places_are ∙ sym b)
      ∙ ap (λ x. if x then Some (record { signed = nat_eq letter 115; width = w; places = p })
      else None) (in_limits w p h (subst (λ n. n < 61) (sym a) k)
      (subst (λ n. n < 61) (sym b) l))

pub no_text : (text : List ℕ) → length text ≡ 0 → within_limits (format_of text) ≡ None
unfolding format_of
no_text [] h = refl
no_text (x ∷ xs) h = absurd (omega arith)
