-- Where the digits at the front of a text end.
use Rattle.std.proofs.Common.{◌≡◌, ℕ, ◌<◌, ◌≤◌, List, [], ◌∷◌, ◌++◌, Option, Some, None, refl, sym}
use Rattle.std.proofs.Common.{ap, arith, lit<, lit≤}
use Rattle.std.specs.Char.{digit_value}
use Rattle.std.specs.Str.Parse.{AllDigits}
use Rattle.literal.specs.declared.scan.Form.{Form}
use Rattle.literal.specs.declared.scan.Form.TheVariants.{Decimal, Binary, Hexadecimal}
use Rattle.literal.specs.Spelling.{Exponent, point_bytes, scale_bytes}
use Rattle.literal.specs.Parts.{IsNoDigitFirst}

pub clash : (radix a b : ℕ) → a ≡ b → radix ≤ a → b < radix → ⊥
clash radix a b e h k = omega arith

-- a text begins with one run of digits
pub same_front : (radix : ℕ) (a r b s : List ℕ) → AllDigits radix a → IsNoDigitFirst radix r
    → AllDigits radix b → IsNoDigitFirst radix s → a ++ r ≡ b ++ s → (a ≡ b) × (r ≡ s)
same_front radix [] r [] s p q u v e = (refl, e)
same_front radix [] [] (x ∷ b) s p q u v e = cc
same_front radix [] (y ∷ r) (x ∷ b) s p q u v e = let h : y ≡ x = cc in
    absurd (clash radix (digit_value y) (digit_value x) (ap digit_value h) q u.0)
same_front radix (x ∷ a) [] [] [] p q u v e = cc
same_front radix (x ∷ a) (y ∷ r) [] [] p q u v e = cc
same_front radix (x ∷ a) r [] (y ∷ s) p q u v e = let h : y ≡ x = cc in
    absurd (clash radix (digit_value y) (digit_value x) (ap digit_value h) v p.0)
same_front radix (x ∷ a) r (y ∷ b) s p q u v e =
    let h : x ≡ y = cc in
    let t : a ++ r ≡ b ++ s = cc in
    let i = same_front radix a r b s p.1 q u.1 v t in
    let k : a ≡ b = i.0 in (cc, i.1)

-- no letter is a point, or the `x` of `0x`
pub scale_no_point : (f : Form) (e : Option Exponent) (t : List ℕ) → scale_bytes f e ≡ 46 ∷ t → ⊥
scale_no_point f None t k = cc
scale_no_point Decimal (Some e) t k = clash 47 101 46 (cc) (lit≤ tt) (lit< tt)
scale_no_point Binary (Some e) t k = clash 47 98 46 (cc) (lit≤ tt) (lit< tt)
scale_no_point Hexadecimal (Some e) t k = clash 47 112 46 (cc) (lit≤ tt) (lit< tt)

pub tail_no_x : (f : Form) (p : List ℕ) (e : Option Exponent) (t : List ℕ)
    → point_bytes p ++ scale_bytes f e ≡ 120 ∷ t → ⊥
tail_no_x f (d ∷ p) e t k = let h : 46 ≡ 120 = cc in clash 47 120 46 (sym h) (lit≤ tt) (lit< tt)
tail_no_x f [] None t k = cc
tail_no_x Decimal [] (Some e) t k = let h : 101 ≡ 120 = cc in
    clash 119 120 101 (sym h) (lit≤ tt) (lit< tt)
tail_no_x Binary [] (Some e) t k = let h : 98 ≡ 120 = cc in
    clash 119 120 98 (sym h) (lit≤ tt) (lit< tt)
tail_no_x Hexadecimal [] (Some e) t k = let h : 112 ≡ 120 = cc in
    clash 119 120 112 (sym h) (lit≤ tt) (lit< tt)
