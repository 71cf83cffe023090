-- Exponents are found at one place alone.
use Rattle.std.proofs.Common.{◌≡◌, ℕ, ◌<◌, ◌≤◌, List, [], ◌∷◌, ◌++◌, Option, Some, None, Bool, true}
use Rattle.std.proofs.Common.{false, refl, sym, ap, ap₂, subst, ◌∙◌, arith, lit<, lit≤, append-nil}
use Rattle.std.specs.Char.{digit_value}
use Rattle.std.specs.Str.Parse.{IsNumeral}
use Rattle.literal.specs.declared.scan.Form.{Form}
use Rattle.literal.specs.declared.scan.Form.TheVariants.{Decimal, Binary, Hexadecimal}
use Rattle.literal.specs.declared.scan.Mark.{Mark}
use Rattle.literal.specs.declared.scan.Mark.TheVariants.{Unmarked, Plus, Minus}
use Rattle.literal.specs.declared.scan.Power.{Power}
use Rattle.literal.specs.Spelling.{Exponent, mark_bytes, exponent_bytes, letter, scale_bytes}
use Rattle.literal.specs.Spelling.{is_hexadecimal, IsExponent}
use Rattle.literal.specs.Parts.{IsUnmarked, SplitsMark, IsExponentText, FindsPower, FindsForm}
use Rattle.literal.specs.Parts.{FindsScale, Scale, IsScale, IsFormOf, IsFrontDigits}
use Rattle.literal.proofs.Front.{clash, same_front}

no_digit : (b c : ℕ) → b ≡ c → 10 ≤ digit_value c → digit_value b < 10 → ⊥
no_digit b c e h k = let m : digit_value b ≡ digit_value c = ap digit_value e in
    apart (digit_value b) (digit_value c) m h k
  where
    apart : (x y : ℕ) → x ≡ y → 10 ≤ y → x < 10 → ⊥
    apart x y e h k = omega arith

numeral_unmarked : (m : Mark) (ds : List ℕ) → IsNumeral 10 ds → IsUnmarked m ds
numeral_unmarked Unmarked [] k = tt
numeral_unmarked Unmarked (b ∷ bs) k =
    (λ e. no_digit b 43 e (omega arith) k.1.0, λ e. no_digit b 45 e (omega arith) k.1.0)
numeral_unmarked Plus ds k = tt
numeral_unmarked Minus ds k = tt

mark_unique : (m n : Mark) (a b : List ℕ) → IsUnmarked m a → IsUnmarked n b
    → mark_bytes m ++ a ≡ mark_bytes n ++ b → (m ≡ n) × (a ≡ b)
mark_unique Unmarked Unmarked a b p q e = (refl, e)
mark_unique Unmarked Plus [] b p q e = cc
mark_unique Unmarked Plus (x ∷ a) b p q e = absurd (p.0 (cc))
mark_unique Unmarked Minus [] b p q e = cc
mark_unique Unmarked Minus (x ∷ a) b p q e = absurd (p.1 (cc))
mark_unique Plus Unmarked a [] p q e = cc
mark_unique Plus Unmarked a (x ∷ b) p q e = absurd (q.0 (cc))
mark_unique Plus Plus a b p q e = (refl, cc)
mark_unique Plus Minus a b p q e = let h : 43 ≡ 45 = cc in
    absurd (clash 44 45 43 (sym h) (lit≤ tt) (lit< tt))
mark_unique Minus Unmarked a [] p q e = cc
mark_unique Minus Unmarked a (x ∷ b) p q e = absurd (q.1 (cc))
mark_unique Minus Plus a b p q e = let h : 45 ≡ 43 = cc in
    absurd (clash 44 45 43 h (lit≤ tt) (lit< tt))
mark_unique Minus Minus a b p q e = (refl, cc)

abbrev exponent : Mark → List ℕ → Exponent
exponent m ds = record { mark = m; digits = ds }

-- a text has one mark in front, so it is one exponent's
pub exponent_unique : (text rest : List ℕ) (m : Mark) → SplitsMark text m rest → (e : Exponent)
    → IsExponentText text e → e ≡ exponent m rest
exponent_unique text rest m s e t =
    let h = mark_unique e.mark m e.digits rest
    (numeral_unmarked e.mark e.digits t.digits) s.unmarked (t.bytes ∙ s.joins) in
    ap₂ exponent h.0 h.1

pub finds_exponent : (text : List ℕ) (p : Power) → SplitsMark text p.mark p.digits.now
    → IsNumeral 10 p.digits.now → FindsPower text (Some p)
finds_exponent text p s n =
    (record { bytes = sym s.joins; digits = n }, exponent_unique text p.digits.now p.mark s)

pub finds_no_exponent : (text rest : List ℕ) (m : Mark) → SplitsMark text m rest
    → ¬ IsNumeral 10 rest → FindsPower text None
finds_no_exponent text rest m s n e t = n (subst (IsNumeral 10)
    (ap (λ (x : Exponent). x.digits) (exponent_unique text rest m s e t)) t.digits)

-- text that goes on behind its digits is no numeral
pub not_numeral : (text ds rest : List ℕ) → IsFrontDigits 10 text ds rest
    → (rest ≡ [] → ⊥) → IsNumeral 10 text → ⊥
not_numeral text ds rest f n k =
    n (sym (same_front 10 text [] ds rest k.1 tt f.all f.ends (append-nil text ∙ f.joins)).1)

-- ---- the end of a literal, or a letter and an exponent
abbrev scale : Form → Option Exponent → Scale
scale f e = record { form = f; exponent = e }

end_unique : (h : Bool) (f g : Form) (e : Option Exponent)
    → is_hexadecimal f ≡ h → is_hexadecimal g ≡ h → IsExponent None g → scale_bytes f e ≡ []
    → IsExponent e f → (f ≡ g) × (e ≡ None)
end_unique h f g (Some e) k l x b n = cc
end_unique h Decimal Decimal None k l x b n = (refl, refl)
end_unique h Decimal Binary None k l x b n = absurd x
end_unique h Decimal Hexadecimal None k l x b n = let m : false ≡ true = cc in cc
end_unique h Binary g None k l x b n = absurd n
end_unique h Hexadecimal Decimal None k l x b n = let m : false ≡ true = cc in cc
end_unique h Hexadecimal Binary None k l x b n = absurd x
end_unique h Hexadecimal Hexadecimal None k l x b n = (refl, refl)

pub finds_end : (h : Bool) (text : List ℕ) (g : Form) → text ≡ [] → is_hexadecimal g ≡ h
    → IsExponent None g → FindsScale h text (Some (record { form = g; power = None }))
finds_end h text g t l x = (
  record { form = l; bytes = sym t; fits = x },
  λ s i. let u = end_unique h s.form g s.exponent i.form l x (i.bytes ∙ t) i.fits in
      ap₂ scale u.0 u.1,
)

-- a scale that begins with some letter has an exponent behind it
pub record Behind (h : Bool) (b : ℕ) (rest : List ℕ) (s : Scale) : Type 0 where
  pub exponent : Exponent
  pub is : s.exponent ≡ Some exponent
  pub form : IsFormOf h b s.form
  pub text : IsExponentText rest exponent

behind_at : (h : Bool) (b : ℕ) (rest : List ℕ) (f : Form) (e : Option Exponent)
    → is_hexadecimal f ≡ h → scale_bytes f e ≡ b ∷ rest → IsExponent e f
    → Behind h b rest (scale f e)
behind_at h b rest f None k t n = cc
behind_at h b rest f (Some e) k t n = let l : letter f ≡ b = cc in
    let r : exponent_bytes e ≡ rest = cc in
    record { exponent = e; is = refl; form = (k, l); text = record { bytes = r; digits = n } }

pub behind : (h : Bool) (text : List ℕ) (b : ℕ) (rest : List ℕ) → text ≡ b ∷ rest → (s : Scale)
    → IsScale h text s → Behind h b rest s
behind h text b rest t s i = behind_at h b rest s.form s.exponent i.form (i.bytes ∙ t) i.fits

pub finds_scale : (h : Bool) (text : List ℕ) (b : ℕ) (rest : List ℕ) (g : Form) (p : Power)
    → text ≡ b ∷ rest → FindsForm h b (Some g) → FindsPower rest (Some p)
    → FindsScale h text (Some (record { form = g; power = Some p }))
finds_scale h text b rest g p t f q = (
  record {
    form = f.0.0;
    bytes = ap₂ (λ (x : ℕ) (y : List ℕ). x ∷ y) f.0.1 q.0.bytes ∙ sym t;
    fits = q.0.digits;
  },
  λ s i. let w = behind h text b rest t s i in
      ap₂ scale (f.1 s.form w.form) (w.is ∙ ap (λ (e : Exponent). Some e) (q.1 w.exponent w.text)),
)
