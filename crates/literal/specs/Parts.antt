-- How the parts of a literal are found in a text.
use denote.Ref.{Bor}
use Rattle.std.specs.Prelude.{◌≡◌, ◌≢◌, ℕ, ◌≤◌, List, [], ◌∷◌, ◌++◌, Option, Some, None, Bool}
use Rattle.std.specs.Prelude.{MatchOption, ℤ, pos, negsuc, ◌≤ℤ◌, ◌<ℤ◌, ◌⊎◌, ⊤}
use Rattle.std.specs.Char.{digit_value}
use Rattle.std.specs.Str.Parse.{AllDigits, IsNumeral}
use Rattle.fx_model.specs.declared.Literal.{Literal}
use Rattle.literal.specs.declared.scan.Form.{Form}
use Rattle.literal.specs.declared.scan.Mark.{Mark}
use Rattle.literal.specs.declared.scan.Mark.TheVariants.{Unmarked, Plus, Minus}
use Rattle.literal.specs.declared.scan.Power.{Power}
use Rattle.literal.specs.declared.scan.End.{End}
use Rattle.literal.specs.declared.scan.LiteralParts.{LiteralParts}
use Rattle.literal.specs.Spelling.{Exponent, Spelling, exponent_bytes, mark_bytes, letter}
use Rattle.literal.specs.Spelling.{scale_bytes, body_bytes, is_hexadecimal, IsExponent, IsSpelling}
use Rattle.literal.specs.Spelling.{Spells, written_as, IsWithinAs}

-- ---- the code's parts, read as lists

-- the exponent that the code keeps: its sign, and its digits
abbrev pub exponent_of : Power → Exponent
exponent_of p = record { mark = p.mark; digits = p.digits.now }

-- the same, where there is one
abbrev pub power_of : Option Power → Option Exponent
power_of None = None
power_of (Some p) = Some (exponent_of p)

-- the parts that the code keeps, as a spelling
abbrev pub spelling_of : LiteralParts → Spelling
spelling_of p = record {
  form = p.form;
  whole = p.whole.now;
  fraction = p.fraction.now;
  exponent = power_of p.power;
}

-- The answer is the one b of which P holds, as `view` reads it; none where P holds of none.
abbrev pub FindsOne : {A B : Type 0} → (A → B) → (B → Type 0) → Option A → Type 0
FindsOne {A} {B} view P None = (b : B) → ¬ P b
FindsOne {A} {B} view P (Some a) = P (view a) × ((b : B) → P b → b ≡ view a)

-- The rest of a text behind its first byte b, or behind `0x`; none where it begins with something
-- else.
abbrev pub BeginsWithNo : ℕ → List ℕ → Type 0
BeginsWithNo b text = (rest : List ℕ) → text ≢ b ∷ rest

-- the rest behind the byte b at the front; none exactly where the text doesn't begin with it
abbrev pub StandsBehind : ℕ → List ℕ → Option (Bor (List ℕ)) → Type 0
StandsBehind b text r = MatchOption r (BeginsWithNo b text) (λ rest. text ≡ b ∷ rest.now)

-- the rest behind `0x` at the front; none exactly where the text doesn't begin with it
abbrev pub StandsBehindOpening : List ℕ → Option (Bor (List ℕ)) → Type 0
StandsBehindOpening text r = MatchOption r ((rest : List ℕ) → text ≢ 48 ∷ (120 ∷ rest))
    (λ rest. text ≡ 48 ∷ (120 ∷ rest.now))

-- ---- digits at the front

-- the text doesn't begin with a digit
abbrev pub IsNoDigitFirst : ℕ → List ℕ → Type 0
IsNoDigitFirst radix [] = ⊤
IsNoDigitFirst radix (b ∷ bs) = radix ≤ digit_value b

-- the digits at the front, as many as there are, and the rest
pub record IsFrontDigits (radix : ℕ) (text digits rest : List ℕ) : Type 0 where
  pub joins : text ≡ digits ++ rest
  pub all : AllDigits radix digits
  pub ends : IsNoDigitFirst radix rest

-- ---- exponents

-- With no sign none is there to be taken.
abbrev pub IsUnmarked : Mark → List ℕ → Type 0
IsUnmarked Unmarked [] = ⊤
IsUnmarked Unmarked (b ∷ bs) = (b ≢ 43) × (b ≢ 45)
IsUnmarked Plus bs = ⊤
IsUnmarked Minus bs = ⊤

-- the sign at the front, where there is one, and the rest
pub record SplitsMark (text : List ℕ) (mark : Mark) (rest : List ℕ) : Type 0 where
  pub joins : text ≡ mark_bytes mark ++ rest
  pub unmarked : IsUnmarked mark rest

-- the text is a sign, where there is one, and the decimal digits of this exponent
pub record IsExponentText (text : List ℕ) (e : Exponent) : Type 0 where
  pub bytes : exponent_bytes e ≡ text
  pub digits : IsNumeral 10 e.digits

-- the one exponent that the text spells; none exactly where it spells none
abbrev pub FindsPower : List ℕ → Option Power → Type 0
FindsPower text r = FindsOne exponent_of (IsExponentText text) r

-- ---- a letter and an exponent, or the end

-- the form with this letter, hexadecimal or not
abbrev pub IsFormOf : Bool → ℕ → Form → Type 0
IsFormOf h b f = (is_hexadecimal f ≡ h) × (letter f ≡ b)

-- the one form with this letter; none exactly where there is none
abbrev pub FindsForm : Bool → ℕ → Option Form → Type 0
FindsForm h b r = FindsOne (λ f. f) (IsFormOf h b) r

-- a form, and the exponent where one is written
pub record Scale : Type 0 where
  pub form : Form
  pub exponent : Option Exponent

-- the text is the letter and the exponent, or empty where the form may do without
pub record IsScale (h : Bool) (text : List ℕ) (s : Scale) : Type 0 where
  pub form : is_hexadecimal s.form ≡ h
  pub bytes : scale_bytes s.form s.exponent ≡ text
  pub fits : IsExponent s.exponent s.form

-- what the code keeps of a literal's end, as a form with its exponent
abbrev pub scale_of : End → Scale
scale_of r = record { form = r.form; exponent = power_of r.power }

-- the one form with its exponent that the text spells; none exactly where it spells none
abbrev pub FindsScale : Bool → List ℕ → Option End → Type 0
FindsScale h text r = FindsOne scale_of (IsScale h text) r

-- ---- the whole

-- what follows the opening spells the digits, the fraction and the exponent of x
pub record IsBody (h : Bool) (text : List ℕ) (x : Spelling) : Type 0 where
  pub form : is_hexadecimal x.form ≡ h
  pub bytes : body_bytes x ≡ text
  pub parts : IsSpelling x

-- the one spelling whose digits, fraction and exponent the text is; none exactly where there is
-- none
abbrev pub FindsBody : Bool → List ℕ → Option LiteralParts → Type 0
FindsBody h text r = FindsOne spelling_of (IsBody h text) r

-- the one spelling of the text; none exactly where it is no literal
abbrev pub FindsParts : List ℕ → Option LiteralParts → Type 0
FindsParts text r = FindsOne spelling_of (Spells text) r

-- ---- numbers

-- the number with the point removed, where it is within the limits
abbrev pub GivesAs : Form → List ℕ → List ℕ → Option Exponent → Option Literal → Type 0
GivesAs f w p e r = MatchOption r (¬ IsWithinAs f w (written_as f w p e))
    (λ l. IsWithinAs f w (written_as f w p e) × (l ≡ written_as f w p e))

-- the literal of the spelling; none exactly where it is past the limits
abbrev pub GivesWritten : Spelling → Option Literal → Type 0
GivesWritten x r = GivesAs x.form x.whole x.fraction x.exponent r

-- an exponent below 10^20 either way
abbrev pub IsSizeOf : ℤ → Option ℤ → Type 0
IsSizeOf z None = (pos 100000000000000000000 ≤ℤ z) ⊎ (z ≤ℤ negsuc 99999999999999999999)
IsSizeOf z (Some y) = (y ≡ z) × (negsuc 99999999999999999999 <ℤ y)
    × (y <ℤ pos 100000000000000000000)
