-- Entries of points.
use Rattle.std.specs.Prelude.{◌≡◌, ◌≢◌, ℕ, ℤ, pos, ◌≤◌, ◌*◌, ◌^◌, List, map, length, slice_index_or}
use Rattle.std.specs.Prelude.{Some, None, refl}
use Rattle.std.specs.Int.RustNames.{unsigned_abs}
use Rattle.std.proofs.Common.{arith, sym, ap, ◌∙◌, subst, zero, suc}
use Rattle.std.proofs.lemmas.Int.{ints, by_lt_z}
use Rattle.std.proofs.lemmas.List.{get_or_past, length-map}
use Rattle.std.proofs.Math.Nat.{one-le-pow}
use Rattle.fx_model.specs.Fraction.{Fraction, ◌*ℚ◌, zero_ℚ, mul_comm, zero-mul, inverse_ℚ}
use Rattle.fx_model.specs.Powers.{whole, scaled, scaled-zero, scaled-same, zero-whole}
use Rattle.fx_model.specs.Expression.{literal_value}
use Rattle.fx_model.specs.declared.Literal.{Literal}
use Rattle.interval.proofs.Written.{value_down, value_up}
use Rattle.exact_fractions.specs.declared.exact.Exact.{Exact}
use Rattle.exact_fractions.specs.Exact.{value_of}
use Rattle.exact_fractions.specs.Reduced.{over}
use Rattle.point_values.specs.Rows.{Row, IsRow}

-- a variable past the entries is 0
pub past_end : (xs : List Exact) (n : ℕ) (x : Fraction) → length xs ≤ n → x ≡ zero_ℚ
    → x ≡ slice_index_or (map value_of xs) n zero_ℚ
past_end xs n x h e = e
    ∙ sym (get_or_past (map value_of xs) n zero_ℚ (subst (λ k. k ≤ n) (sym (length-map xs value_of))
    h))

none_of : (n : ℕ) (k : ℤ) (d v : Fraction) → d *ℚ v ≡ scaled (pos n) k → v ≡ zero_ℚ → n ≡ 0
none_of n k d v e z = let s = scaled-same (pos n) (pos 0) k (sym e ∙ ap (λ v. d *ℚ v) z
    ∙ mul_comm d zero_ℚ ∙ zero-mul d ∙ sym (scaled-zero k)) in omega (arith, ints)

literal_nonzero : (l : Literal) → l.num ≢ 0 → literal_value l ≡ zero_ℚ → ⊥
literal_nonzero l n z = by_lt_z l.ten (pos 0)
    (λ h. n (none_of l.num l.two (whole (pos (10 ^ unsigned_abs l.ten))) (literal_value l)
    (value_down l (10 ^ unsigned_abs l.ten) h refl) z))
    (λ h. n (some l.num (10 ^ unsigned_abs l.ten) (one-le-pow (unsigned_abs l.ten) 10 (omega arith))
    (none_of (l.num * 10 ^ unsigned_abs l.ten) l.two (whole (pos 1)) (literal_value l)
    (value_up l (10 ^ unsigned_abs l.ten) h refl) z)))
  where
    some : (a b : ℕ) → 1 ≤ b → a * b ≡ 0 → a ≡ 0
    some zero b h e = refl
    some (suc a) b h e = absurd (omega arith)

zero_over : (x : Exact) → x.num ≡ pos 0 → value_of x ≡ zero_ℚ
zero_over x e = ap (λ n. over n x.den) e
    ∙ ap (λ y. y *ℚ inverse_ℚ (whole (pos x.den))) (sym zero-whole)
    ∙ zero-mul (inverse_ℚ (whole (pos x.den)))

pub divisor_nonzero : (x : Exact) (l : Literal) → value_of x ≡ literal_value l → l.num ≢ 0
    → x.num ≢ pos 0
divisor_nonzero x l e n z = literal_nonzero l n (sym e ∙ zero_over x z)

pub row_divisor : (row : Row) (l : Literal) → row.1 ≡ Some l → IsRow row → l.num ≢ 0
row_divisor (w, None) l e h = absurd (cc)
row_divisor (w, Some m) l e h = subst (λ (k : Literal). k.num ≢ 0) (same m l e) h.2
  where
    same : (m l : Literal) → Some m ≡ Some l → m ≡ l
    same m l e = cc
