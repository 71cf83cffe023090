-- Normal forms of literals, and the powers of two that divide them.
use Rattle.std.specs.Prelude.{◌≡◌, ◌≢◌, ℕ, ◌*◌, ◌%◌, ◌^◌, ◌<◌, ◌⊎◌, List, ℤ, pos, negsuc, ◌≤ℤ◌}
use Rattle.std.specs.Prelude.{◌<ℤ◌, ◌+ℤ◌}
use Rattle.std.specs.Int.RustNames.{unsigned_abs}
use Rattle.std.proofs.Common.{◌-ℤ◌}
use Rattle.fx_model.specs.Powers.{IsMultiple}
use Rattle.fx_model.specs.Expression.{literal_value}
use Rattle.fx_model.specs.declared.Literal.{Literal}
use Rattle.literal.specs.declared.scan.Form.{Form}
use Rattle.literal.specs.declared.scan.Form.TheVariants.{Decimal, Binary, Hexadecimal}
use Rattle.literal.specs.Spelling.{Spelling, Spells, written, IsWithin, IsBetween}

-- the literal 0
abbrev pub nought : Literal
nought = record { num = 0; two = pos 0; ten = pos 0 }

-- No factor is left in the whole number that its exponent could take: ten in a decimal, two in the
-- others.
abbrev pub IsReduced : Form → Literal → Type 0
IsReduced Decimal l = (l.num % 10 ≢ 0) × (l.two ≡ pos 0)
IsReduced Binary l = (l.num % 2 ≢ 0) × (l.ten ≡ pos 0)
IsReduced Hexadecimal l = (l.num % 2 ≢ 0) × (l.ten ≡ pos 0)

-- The normal form of a number of some form: the same value, reduced, and zero as (0, 0, 0).
pub record IsNormalOf (form : Form) (number l : Literal) : Type 0 where
  pub value : literal_value l ≡ literal_value number
  pub reduced : (l ≡ nought) ⊎ IsReduced form l

-- What is left of a number once every factor of ten, or of two, is taken out.
pub record TakesTensOut (n : ℕ) (e : ℤ) (l : Literal) : Type 0 where
  pub lost : ℕ
  pub num : n ≡ l.num * 10 ^ lost
  pub ten : l.ten ≡ e +ℤ pos lost
  pub two : l.two ≡ pos 0
  pub reduced : l.num % 10 ≢ 0

-- The literal is n * 2^e, with an odd number.
pub record TakesTwosOut (n : ℕ) (e : ℤ) (l : Literal) : Type 0 where
  pub lost : ℕ
  pub num : n ≡ l.num * 2 ^ lost
  pub two : l.two ≡ e +ℤ pos lost
  pub ten : l.ten ≡ pos 0
  pub reduced : l.num % 2 ≢ 0

-- A number within the limits of its form.
abbrev pub IsSmall : Form → Literal → Type 0
IsSmall Decimal l = (l.num < 10 ^ 30) × IsBetween (negsuc 29) (pos 8) l.ten × (l.two ≡ pos 0)
IsSmall Binary l = (l.num < 16 ^ 25) × IsBetween (negsuc 511) (pos 512) l.two × (l.ten ≡ pos 0)
IsSmall Hexadecimal l = (l.num < 16 ^ 25) × IsBetween (negsuc 511) (pos 512) l.two × (l.ten ≡ pos 0)

-- What the text stands for, in its normal form.
pub record IsReading (text : List ℕ) (l : Literal) : Type 0 where
  pub spelling : Spelling
  pub spells : Spells text spelling
  pub within : IsWithin spelling
  pub normal : IsNormalOf spelling.form (written spelling) l

-- the text spells a number that isn't within the limits
pub record IsPastLimits (text : List ℕ) : Type 0 where
  pub spelling : Spelling
  pub spells : Spells text spelling
  pub beyond : ¬ IsWithin spelling

-- ---- the normal form of some literal within the limits, judged by its numbers alone:
-- what was taken out into the exponent fits back into 30 digits, or 25 hexadecimal ones

-- A decimal number in normal form: no power of two, no last digit 0, and within the limits with
-- some number of zeros behind its digits.
pub record IsNormalDecimal (l : Literal) : Type 0 where
  pub two : l.two ≡ pos 0
  pub reduced : l.num % 10 ≢ 0
  pub lost : ℕ
  pub digits : l.num * 10 ^ lost < 10 ^ 30
  pub exponent : IsBetween (negsuc 29) (pos 8) (l.ten -ℤ pos lost)

-- A binary or hexadecimal number in normal form: no power of ten, an odd number, and within the
-- limits with some factors of two in the number.
pub record IsNormalBinary (l : Literal) : Type 0 where
  pub ten : l.ten ≡ pos 0
  pub reduced : l.num % 2 ≢ 0
  pub lost : ℕ
  pub digits : l.num * 2 ^ lost < 16 ^ 25
  pub exponent : IsBetween (negsuc 511) (pos 512) (l.two -ℤ pos lost)

-- 0, or the normal form of a decimal, or of a binary or hexadecimal number
abbrev pub IsNormal : Literal → Type 0
IsNormal l = (l ≡ nought) ⊎ (IsNormalDecimal l ⊎ IsNormalBinary l)

-- ---- the greatest k, up to 512 and from -1024 on, of which the value is a whole multiple of 2^k

-- the value is a multiple of 2^k, and k is the greatest such exponent up to 512
pub record IsFix (l : Literal) (k : ℤ) : Type 0 where
  pub within : IsBetween (negsuc 1023) (pos 512) k
  pub multiple : IsMultiple k (literal_value l)
  pub greatest : (j : ℤ) → j ≤ℤ pos 512 → IsMultiple j (literal_value l) → j ≤ℤ k

-- the value is no multiple of 2^k for any k from -1024 on
abbrev pub HasNoFix : Literal → Type 0
HasNoFix l = (k : ℤ) → negsuc 1023 ≤ℤ k → ¬ IsMultiple k (literal_value l)

-- Where ten divides, its fives are in the whole number.
abbrev pub HasFives : ℕ → ℤ → Type 0
HasFives num ten = ten <ℤ pos 0 → num % 5 ^ unsigned_abs ten ≡ 0

-- r is the lesser of k and 512.
abbrev pub IsCapped : ℤ → ℤ → Type 0
IsCapped k r = ((r ≡ k) × (k ≤ℤ pos 512)) ⊎ ((r ≡ pos 512) × (pos 512 ≤ℤ k))
