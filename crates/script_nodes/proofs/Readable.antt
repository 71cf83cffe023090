-- Which texts are read as literals.
use Rattle.std.proofs.Common.{ℕ, ℤ, pos, negsuc, ◌^◌, ◌≤◌, ◌≤ℤ◌, ◌&&◌, not, int_lt, nat_lt, List}
use Rattle.std.proofs.Common.{[], ◌∷◌, length, Option, Some, None, Bool, true, false, refl, sym}
use Rattle.std.proofs.Common.{arith, true≢false}
use Rattle.std.specs.Bool.{Decides}
use Rattle.std.specs.Char.{digit_value}
use Rattle.std.specs.Str.{bytes_eq}
use Rattle.std.specs.Str.Parse.{AllDigits, IsNumeral}
use Rattle.std.proofs.lemmas.Bool.Decides.{Decides-ltb}
use Rattle.std.proofs.lemmas.Slice.Eq.{bytes_eq-Decides}
use Rattle.std.proofs.lemmas.Int.{ints}
use Rattle.fx_model.specs.declared.Literal.{Literal}
use Rattle.literal.specs.declared.scan.Form.{Form}
use Rattle.literal.specs.declared.scan.Form.TheVariants.{Decimal, Binary, Hexadecimal}
use Rattle.literal.specs.Spelling.{Exponent, Spelling, base, is_hexadecimal, spelling_bytes}
use Rattle.literal.specs.Spelling.{written, IsFraction, IsExponent, Spells, IsBetween, IsWithinAs}
use Rattle.literal.specs.Spelling.{IsWithin}
use Rattle.script_nodes.specs.Literals.{all_digits, is_numeral, is_fraction, is_exponent}
use Rattle.script_nodes.specs.Literals.{is_between, is_within, is_read_as}

both : {P Q : Type 0} (a b : Bool) → Decides a P → Decides b Q → Decides (a && b) (P × Q)
both true b p q = (λ h. (p.0 refl, q.0 h), λ h. q.1 h.1)
both false b p q = (λ h. absurd (true≢false (sym h)), λ h. absurd (true≢false (sym (p.1 h.0))))

digits_test : (radix : ℕ) (ds : List ℕ) → Decides (all_digits radix ds) (AllDigits radix ds)
digits_test radix [] = (λ h. tt, λ h. refl)
digits_test radix (c ∷ cs) = both (nat_lt (digit_value c) radix) (all_digits radix cs)
    (Decides-ltb (digit_value c) radix) (digits_test radix cs)

numeral_test : (radix : ℕ) (ds : List ℕ) → Decides (is_numeral radix ds) (IsNumeral radix ds)
numeral_test radix ds = both (nat_lt 0 (length ds)) (all_digits radix ds)
    (Decides-ltb 0 (length ds)) (digits_test radix ds)

fraction_test : (f : Form) (ds : List ℕ) → Decides (is_fraction f ds) (IsFraction f ds)
fraction_test Binary [] = (λ h. refl, λ h. refl)
fraction_test Binary (d ∷ ds) = (λ h. absurd (true≢false (sym h)), λ h. cc)
fraction_test Decimal ds = digits_test 10 ds
fraction_test Hexadecimal ds = digits_test 16 ds

exponent_test : (e : Option Exponent) (f : Form) → Decides (is_exponent e f) (IsExponent e f)
exponent_test None Binary = (λ h. absurd (true≢false (sym h)), λ h. absurd h)
exponent_test None Decimal = (λ h. tt, λ h. refl)
exponent_test None Hexadecimal = (λ h. tt, λ h. refl)
exponent_test (Some e) f = numeral_test 10 e.digits

not_less : (a b : ℤ) → Decides (not (int_lt a b)) (b ≤ℤ a)
not_less a b = (λ h. grind (arith, ints), λ h. grind (arith, ints))

between_test : (low high z : ℤ) → Decides (is_between low high z) (IsBetween low high z)
between_test low high z =
    both (not (int_lt z low)) (not (int_lt high z)) (not_less z low) (not_less high z)

few_test : (n : ℕ) → Decides (nat_lt n 31) (n ≤ 30)
few_test n =
    (λ h. let k = (Decides-ltb n 31).0 h in omega arith, λ h. (Decides-ltb n 31).1 (omega arith))

pub within_test : (f : Form) (w : List ℕ) (l : Literal)
    → Decides (is_within f w l) (IsWithinAs f w l)
within_test Decimal w l =
    both _ _ (Decides-ltb l.num (10 ^ 30)) (between_test (negsuc 29) (pos 8) l.ten)
within_test Binary w l = both _ _ (few_test (length w)) (between_test (negsuc 511) (pos 512) l.two)
within_test Hexadecimal w l =
    both _ _ (Decides-ltb l.num (16 ^ 25)) (between_test (negsuc 511) (pos 512) l.two)

-- a literal with these parts, within its limits or not
pub spelled_test : (text : List ℕ) (x : Spelling)
    → Decides (bytes_eq (spelling_bytes x) text && (is_numeral (base (is_hexadecimal x.form))
    x.whole && (is_fraction x.form x.fraction && is_exponent x.exponent x.form))) (Spells text x)
spelled_test text x =
    let t = both _ _ (bytes_eq-Decides (spelling_bytes x) text)
    (both _ _ (numeral_test (base (is_hexadecimal x.form)) x.whole)
    (both _ _ (fraction_test x.form x.fraction) (exponent_test x.exponent x.form))) in (
      λ h. let p = t.0 h in record {
        bytes = p.0;
        parts = record { whole = p.1.0; fraction = p.1.1.0; exponent = p.1.1.1 };
      },
      λ h. t.1 (h.bytes, (h.parts.whole, (h.parts.fraction, h.parts.exponent))),
    )

-- The test is true exactly where the text is a literal with these parts, within its limits.
pub read_test : (text : List ℕ) (x : Spelling)
    → Decides (is_read_as text x) (Spells text x × IsWithin x)
read_test text x =
    let t = both _ _ (bytes_eq-Decides (spelling_bytes x) text) (both _ _ (numeral_test
    (base (is_hexadecimal x.form)) x.whole) (both _ _ (fraction_test x.form x.fraction)
    (both _ _ (exponent_test x.exponent x.form) (within_test x.form x.whole (written x))))) in (
      λ h. let p = t.0 h in (
        record {
          bytes = p.0;
          parts = record { whole = p.1.0; fraction = p.1.1.0; exponent = p.1.1.1.0 };
        },
        p.1.1.1.1,
      ),
      λ h. t.1 (h.0.bytes, (h.0.parts.whole, (h.0.parts.fraction, (h.0.parts.exponent, h.1)))),
    )
