-- What is left once every factor is taken out is the normal form.
use Rattle.std.proofs.Common.{◌≡◌, ℕ, ◌*◌, ◌^◌, ◌<◌, ℤ, pos, negsuc, ◌+ℤ◌, ◌-ℤ◌, refl, sym, subst}
use Rattle.std.proofs.Common.{◌∙◌, arith, inl, inr}
use Rattle.std.proofs.lemmas.Int.{ints}
use Rattle.fx_model.specs.Expression.{literal_value}
use Rattle.fx_model.specs.declared.Literal.{Literal}
use Rattle.literal.specs.declared.scan.Form.{Form}
use Rattle.literal.specs.declared.scan.Form.TheVariants.{Decimal, Binary, Hexadecimal}
use Rattle.literal.specs.Spelling.{IsBetween}
use Rattle.literal.specs.Normal.{nought, IsNormalOf, IsNormal, TakesTensOut, TakesTwosOut, IsSmall}
use Rattle.literal.proofs.Tens.{tens_moved, twos_moved, zero_value}

same_literal : (l : Literal) (n : ℕ) (two ten : ℤ) → l.num ≡ n → l.two ≡ two → l.ten ≡ ten
    → literal_value l ≡ literal_value (record { num = n; two = two; ten = ten })
same_literal l n two ten a b c =
    subst (λ (z : ℤ). literal_value l ≡ literal_value (record { num = n; two = two; ten = z })) c
    (subst (λ (z : ℤ). literal_value l ≡ literal_value (record { num = n; two = z; ten = l.ten })) b
    (subst (λ (m : ℕ). literal_value l
    ≡ literal_value (record { num = m; two = l.two; ten = l.ten })) a refl))

back : (a e : ℤ) (k : ℕ) → a ≡ e +ℤ pos k → (a -ℤ pos k) ≡ e
back a e k h = omega (arith, ints)

pub tens_out : (number l : Literal) → IsSmall Decimal number → TakesTensOut number.num number.ten l
    → literal_value l ≡ literal_value number
tens_out number l s t =
    same_literal l l.num (pos 0) (number.ten +ℤ pos t.lost) refl t.two t.ten
    ∙ sym (same_literal number (l.num * 10 ^ t.lost) (pos 0) number.ten t.num s.2 refl
    ∙ tens_moved t.lost l.num number.ten)

pub normal_decimal : (number l : Literal) → IsSmall Decimal number
    → TakesTensOut number.num number.ten l → IsNormal l
normal_decimal number l s t = inr (inl (record {
  two = t.two;
  reduced = t.reduced;
  lost = t.lost;
  digits = subst (λ n. n < 10 ^ 30) t.num s.0;
  exponent = subst (IsBetween (negsuc 29) (pos 8)) (sym (back l.ten number.ten t.lost t.ten)) s.1;
}))

abbrev pub IsSmallBinary : Literal → Type 0
IsSmallBinary number =
    (number.num < 16 ^ 25) × IsBetween (negsuc 511) (pos 512) number.two × (number.ten ≡ pos 0)

pub twos_out : (number l : Literal) → IsSmallBinary number → TakesTwosOut number.num number.two l
    → literal_value l ≡ literal_value number
twos_out number l s t =
    same_literal l l.num (number.two +ℤ pos t.lost) (pos 0) refl t.two t.ten
    ∙ sym (same_literal number (l.num * 2 ^ t.lost) number.two (pos 0) t.num refl s.2
    ∙ twos_moved t.lost l.num number.two)

pub normal_binary : (number l : Literal) → IsSmallBinary number
    → TakesTwosOut number.num number.two l → IsNormal l
normal_binary number l s t = inr (inr (record {
  ten = t.ten;
  reduced = t.reduced;
  lost = t.lost;
  digits = subst (λ n. n < 16 ^ 25) t.num s.0;
  exponent =
      subst (IsBetween (negsuc 511) (pos 512)) (sym (back l.two number.two t.lost t.two)) s.1;
}))

-- ---- by form
pub normal_zero : (form : Form) (number : Literal) → number.num ≡ 0 → IsNormalOf form number nought
normal_zero form number h =
    record { value = zero_value nought refl ∙ sym (zero_value number h); reduced = inl refl }

pub by_tens : (form : Form) (number l : Literal) → form ≡ Decimal → IsSmall form number
    → TakesTensOut number.num number.ten l → IsNormalOf form number l
by_tens Decimal number l e s t =
    record { value = tens_out number l s t; reduced = inr (t.reduced, t.two) }
by_tens Binary number l e s t = cc
by_tens Hexadecimal number l e s t = cc

pub by_twos : (form : Form) (number l : Literal) → (form ≡ Decimal → ⊥) → IsSmall form number
    → TakesTwosOut number.num number.two l → IsNormalOf form number l
by_twos Decimal number l n s t = absurd (n refl)
by_twos Binary number l n s t =
    record { value = twos_out number l s t; reduced = inr (t.reduced, t.ten) }
by_twos Hexadecimal number l n s t =
    record { value = twos_out number l s t; reduced = inr (t.reduced, t.ten) }

pub is_normal_by_tens : (form : Form) (number l : Literal) → form ≡ Decimal → IsSmall form number
    → TakesTensOut number.num number.ten l → IsNormal l
is_normal_by_tens Decimal number l e s t = normal_decimal number l s t
is_normal_by_tens Binary number l e s t = cc
is_normal_by_tens Hexadecimal number l e s t = cc

pub is_normal_by_twos : (form : Form) (number l : Literal) → (form ≡ Decimal → ⊥)
    → IsSmall form number → TakesTwosOut number.num number.two l → IsNormal l
is_normal_by_twos Decimal number l n s t = absurd (n refl)
is_normal_by_twos Binary number l n s t = normal_binary number l s t
is_normal_by_twos Hexadecimal number l n s t = normal_binary number l s t
