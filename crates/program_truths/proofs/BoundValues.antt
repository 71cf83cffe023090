-- The values of the bounds that formats have in a script.
use Rattle.std.proofs.Common.{◌≡◌, ⊎_elim, ◌<◌, ◌≤◌, ◌^◌, ◌-◌, ℕ, ℤ, pos, negsuc, zero, suc, Bool}
use Rattle.std.proofs.Common.{true, false, codes, arith, List, [], ◌++◌, Some, refl, sym, ap, ◌∙◌}
use Rattle.std.proofs.Common.{subst, if◌then◌else◌}
use Rattle.std.specs.Prelude.{neg_ℤ}
use Rattle.std.specs.Fmt.{decimal, signed_decimal}
use Rattle.std.specs.Str.Parse.{digits_value}
use Rattle.std.proofs.lemmas.Fmt.{decimal_is_IsNumeral_wide, length-decimal-le_wide}
use Rattle.std.proofs.lemmas.Int.{ints}
use Rattle.fx_model.specs.Fraction.{neg_ℚ, ◌*ℚ◌}
use Rattle.fx_model.proofs.Fraction.{mul-one}
use Rattle.fx_model.specs.Powers.{scaled, one-whole}
use Rattle.fx_model.specs.Grid.{scaled-neg}
use Rattle.fx_model.specs.Expression.{literal_value}
use Rattle.literal.specs.declared.scan.Form.TheVariants.{Binary}
use Rattle.literal.specs.declared.scan.Mark.{Mark}
use Rattle.literal.specs.declared.scan.Mark.TheVariants.{Unmarked, Minus}
use Rattle.literal.specs.Spelling.{Spelling, Spells, IsWithin, IsBetween, written, signed_value}
use Rattle.literal.specs.Normal.{IsReading, IsPastLimits}
use Rattle.literal_order.specs.Values.{written_value}
use Rattle.script_nodes.specs.Literals.{literal_of, LiteralsAreTold, SpelledOnce}
use Rattle.script_nodes.specs.Written.{bound_written}
use Rattle.fixprog.specs.declared.format.Format.{Format}
use Rattle.fixprog.specs.Formats.{least, greatest, word_value}
use Rattle.fixprog.proofs.Narrow.{power_below}
use Rattle.program_truths.proofs.Trees.{word_bound}

-- ---- the spelling of `wbL`

abbrev place_mark : ℕ → Mark
place_mark zero = Unmarked
place_mark (suc k) = Minus

abbrev word_spelling : ℕ → ℕ → Spelling
word_spelling n m = record {
  form = Binary;
  whole = decimal n;
  fraction = [];
  exponent = Some (record { mark = place_mark m; digits = decimal m });
}

abbrev pub text_with : ℕ → ℕ → List ℕ
text_with n m = decimal n ++ (codes "b" ++ signed_decimal (neg_ℤ (pos m)))

wide : (n : ℕ) → n < 2 ^ 61 → n < 10 ^ 64
wide n h = omega arith

spells_word : (n m : ℕ) → n < 2 ^ 61 → m < 64 → Spells (text_with n m) (word_spelling n m)
spells_word n zero h l = record {
  bytes = refl;
  parts = record {
    whole = (decimal_is_IsNumeral_wide n (wide n h)).0;
    fraction = refl;
    exponent = (decimal_is_IsNumeral_wide 0 (omega arith)).0;
  };
}
spells_word n (suc k) h l = record {
  bytes = refl;
  parts = record {
    whole = (decimal_is_IsNumeral_wide n (wide n h)).0;
    fraction = refl;
    exponent = (decimal_is_IsNumeral_wide (suc k) (omega arith)).0;
  };
}

marked_value : (m : ℕ) → signed_value (place_mark m) m ≡ neg_ℤ (pos m)
marked_value zero = refl
marked_value (suc k) = refl

exponent_is : (m : ℕ) → m < 64
    → signed_value (place_mark m) (digits_value 10 (decimal m)) ≡ neg_ℤ (pos m)
exponent_is m l = ap (signed_value (place_mark m))
    (decimal_is_IsNumeral_wide m (omega arith)).1 ∙ marked_value m

between : (m : ℕ) → m < 64 → IsBetween (negsuc 511) (pos 512) (neg_ℤ (pos m))
between m l = (omega (arith, ints), omega (arith, ints))

within_word : (n m : ℕ) → n < 2 ^ 61 → m < 64 → IsWithin (word_spelling n m)
within_word n m h l = (
  length-decimal-le_wide 30 n (omega arith) (omega arith) (wide n h),
  subst (IsBetween (negsuc 511) (pos 512)) (sym (exponent_is m l)) (between m l),
)

plain : (n : ℕ) (t : ℤ) → literal_value (record { num = n; two = t; ten = pos 0 })
    ≡ scaled (pos n) t
plain n t = ap (λ x. scaled (pos n) t *ℚ x) (sym one-whole) ∙ mul-one (scaled (pos n) t)

written_is : (n m : ℕ) → n < 2 ^ 61 → m < 64
    → literal_value (written (word_spelling n m)) ≡ scaled (pos n) (neg_ℤ (pos m))
written_is n m h l =
    plain (digits_value 10 (decimal n)) (signed_value (place_mark m) (digits_value 10 (decimal m)))
    ∙ ap (λ k. scaled (pos k) (signed_value (place_mark m) (digits_value 10 (decimal m))))
    (decimal_is_IsNumeral_wide n (wide n h)).1
    ∙ ap (scaled (pos n)) (exponent_is m l)

module _ (told : LiteralsAreTold) (once : SpelledOnce) where
  by_told : (n m : ℕ) (h : n < 2 ^ 61) (l : m < 64)
      → IsReading (text_with n m) (literal_of (text_with n m))
      → literal_value (literal_of (text_with n m)) ≡ scaled (pos n) (neg_ℤ (pos m))
  by_told n m h l r =
      r.normal.value
      ∙ ap (λ x. literal_value (written x))
      (once (text_with n m) r.spelling (word_spelling n m) r.spells (spells_word n m h l))
      ∙ written_is n m h l

  not_past : (n m : ℕ) → n < 2 ^ 61 → m < 64 → IsPastLimits (text_with n m) → ⊥
  not_past n m h l p = p.beyond (subst IsWithin
      (once (text_with n m) (word_spelling n m) p.spelling (spells_word n m h l) p.spells)
      (within_word n m h l))

  pub word_reading : (n m : ℕ) → n < 2 ^ 61 → m < 64
      → IsReading (text_with n m) (literal_of (text_with n m))
  word_reading n m h l = ⊎_elim (λ r. r)
      (λ o. ⊎_elim (λ p. absurd (not_past n m h l p))
      (λ q. absurd (q (word_spelling n m, spells_word n m h l))) o)
      (told (text_with n m))

  word_is : (n m : ℕ) → n < 2 ^ 61 → m < 64
      → literal_value (literal_of (text_with n m)) ≡ scaled (pos n) (neg_ℤ (pos m))
  word_is n m h l = by_told n m h l (word_reading n m h l)

  pub opposite_is : (f : Format) (m : ℕ) → m < 2 ^ 61 → f.places < 64
      → written_value (bound_written (word_bound (neg_ℤ (pos m)) f))
      ≡ word_value f (neg_ℤ (pos m))
  opposite_is f zero h l = word_is 0 f.places h l
  opposite_is f (suc k) h l = ap neg_ℚ (word_is (suc k) f.places h l)
      ∙ sym (scaled-neg (pos (suc k)) (neg_ℤ (pos f.places)))

  pub least_is : (f : Format) → f.width ≤ 60 → f.places < 64
      → written_value (bound_written (word_bound (least f) f)) ≡ word_value f (least f)
  least_is f w l = by_sign f.signed
    where
      by_sign : (b : Bool) → written_value (bound_written (word_bound (if b
          then neg_ℤ (pos (2 ^ (f.width - 1))) else pos 0) f))
          ≡ word_value f (if b then neg_ℤ (pos (2 ^ (f.width - 1))) else pos 0)
      by_sign true = opposite_is f (2 ^ (f.width - 1)) (power_below (f.width - 1) (omega arith)) l
      by_sign false = word_is 0 f.places (omega arith) l

  pub greatest_is : (f : Format) → f.width ≤ 60 → f.places < 64
      → written_value (bound_written (word_bound (greatest f) f)) ≡ word_value f (greatest f)
  greatest_is f w l = by_sign f.signed
    where
      by_sign : (b : Bool) → written_value (bound_written (word_bound (if b
          then pos (2 ^ (f.width - 1) - 1) else pos (2 ^ f.width - 1)) f))
          ≡ word_value f (if b then pos (2 ^ (f.width - 1) - 1) else pos (2 ^ f.width - 1))
      by_sign true = word_is (2 ^ (f.width - 1) - 1) f.places
          (let p = power_below (f.width - 1) (omega arith) in omega arith) l
      by_sign false = word_is (2 ^ f.width - 1) f.places
          (let p = power_below f.width w in omega arith) l
