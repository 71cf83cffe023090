-- The parts of a literal are those that it is written with.
use Rattle.std.proofs.Common.{◌≡◌, ℕ, ◌<◌, ◌≤◌, ◌==◌, List, [], ◌∷◌, ◌++◌, Option, Some, None, Bool}
use Rattle.std.proofs.Common.{true, false, refl, ap, ◌∙◌, arith, lt-ltb, le-ltb, if◌then◌else◌}
use Rattle.std.proofs.Common.{eqb-true}
use Rattle.std.specs.Char.{digit_value}
use Rattle.std.specs.Str.Parse.{AllDigits, IsNumeral}
use Rattle.literal.specs.declared.scan.Form.{Form}
use Rattle.literal.specs.declared.scan.Form.TheVariants.{Decimal, Binary, Hexadecimal}
use Rattle.literal.specs.declared.scan.Mark.{Mark}
use Rattle.literal.specs.declared.scan.Mark.TheVariants.{Unmarked, Plus, Minus}
use Rattle.literal.specs.Spelling.{Exponent, Spelling, base, is_hexadecimal, mark_bytes}
use Rattle.literal.specs.Spelling.{point_bytes, scale_bytes, body_bytes, spelling_bytes, IsFraction}
use Rattle.literal.specs.Spelling.{IsExponent, IsSpelling}
use Rattle.literal.specs.Parts.{IsNoDigitFirst}
use Rattle.literal.proofs.Tails.{tail_ends, scale_ends}
use Rattle.script_nodes.specs.Literals.{front, behind, fraction_at, behind_fraction, exponent_at}
use Rattle.script_nodes.specs.Literals.{scale_at, form_at, opens_hexadecimal, without_opening}
use Rattle.script_nodes.specs.Literals.{parts_as, parts_of}

-- ---- digits

front_is : (radix : ℕ) (ds r : List ℕ) → AllDigits radix ds → IsNoDigitFirst radix r
    → front radix (ds ++ r) ≡ ds
front_is radix [] [] p q = refl
front_is radix [] (b ∷ r) p q =
    ap (λ t. if t then b ∷ front radix r else []) (le-ltb (digit_value b) radix q)
front_is radix (d ∷ ds) r p q = ap (λ t. if t then d ∷ front radix (ds ++ r)
    else []) (lt-ltb (digit_value d) radix p.0) ∙ ap (λ l. d ∷ l) (front_is radix ds r p.1 q)

behind_is : (radix : ℕ) (ds r : List ℕ) → AllDigits radix ds → IsNoDigitFirst radix r
    → behind radix (ds ++ r) ≡ r
behind_is radix [] [] p q = refl
behind_is radix [] (b ∷ r) p q =
    ap (λ t. if t then behind radix r else b ∷ r) (le-ltb (digit_value b) radix q)
behind_is radix (d ∷ ds) r p q = ap (λ t. if t then behind radix (ds ++ r)
    else d ∷ (ds ++ r)) (lt-ltb (digit_value d) radix p.0) ∙ behind_is radix ds r p.1 q

no_digit : (b c : ℕ) → 10 ≤ digit_value c → digit_value b < 10 → (b == c) ≡ false
no_digit b c h k = by_test (b == c) refl
  where
    apart : (x y : ℕ) → x ≡ y → 10 ≤ y → x < 10 → ⊥
    apart x y e h k = omega arith

    same : b ≡ c → ⊥
    same e = apart (digit_value b) (digit_value c) (ap digit_value e) h k

    by_test : (t : Bool) → (b == c) ≡ t → t ≡ false
    by_test false e = refl
    by_test true e = absurd (same (eqb-true b c e))

-- ---- behind the digits

some_digits : (f : Form) (d : ℕ) (p : List ℕ) → IsFraction f (d ∷ p)
    → AllDigits (base (is_hexadecimal f)) (d ∷ p)
some_digits Decimal d p i = i
some_digits Binary d p i = cc
some_digits Hexadecimal d p i = i

fraction_is : (f : Form) (p : List ℕ) (e : Option Exponent) → IsFraction f p
    → fraction_at (base (is_hexadecimal f)) (point_bytes p ++ scale_bytes f e) ≡ p
fraction_is f (d ∷ p) e i = front_is (base (is_hexadecimal f)) (d ∷ p) (scale_bytes f e)
    (some_digits f d p i) (scale_ends (is_hexadecimal f) f e refl)
fraction_is f [] None i = refl
fraction_is Decimal [] (Some e) i = refl
fraction_is Binary [] (Some e) i = refl
fraction_is Hexadecimal [] (Some e) i = refl

end_is : (f : Form) (p : List ℕ) (e : Option Exponent) → IsFraction f p
    → behind_fraction (base (is_hexadecimal f)) (point_bytes p ++ scale_bytes f e) ≡ scale_bytes f e
end_is f (d ∷ p) e i = behind_is (base (is_hexadecimal f)) (d ∷ p) (scale_bytes f e)
    (some_digits f d p i) (scale_ends (is_hexadecimal f) f e refl)
end_is f [] None i = refl
end_is Decimal [] (Some e) i = refl
end_is Binary [] (Some e) i = refl
end_is Hexadecimal [] (Some e) i = refl

-- ---- exponents and forms

exponent_is : (m : Mark) (ds : List ℕ) → AllDigits 10 ds
    → exponent_at (mark_bytes m ++ ds) ≡ record { mark = m; digits = ds }
exponent_is Plus ds p = refl
exponent_is Minus ds p = refl
exponent_is Unmarked [] p = refl
exponent_is Unmarked (b ∷ bs) p =
    let unmarked : Exponent = record { mark = Unmarked; digits = b ∷ bs } in
    let minus : Exponent = record { mark = Minus; digits = bs } in
    let plus : Exponent = record { mark = Plus; digits = bs } in
    ap (λ t. if t then plus else (if b == 45 then minus else unmarked))
    (no_digit b 43 (omega arith) p.0)
    ∙ ap (λ t. if t then minus else unmarked) (no_digit b 45 (omega arith) p.0)

scale_is : (f : Form) (e : Option Exponent) → IsExponent e f → scale_at (scale_bytes f e) ≡ e
scale_is f None i = refl
scale_is f (Some e) i = ap Some (exponent_is e.mark e.digits i.1)

form_is : (f : Form) (e : Option Exponent) → IsExponent e f
    → form_at (is_hexadecimal f) (scale_bytes f e) ≡ f
form_is Decimal None i = refl
form_is Decimal (Some e) i = refl
form_is Binary None i = absurd i
form_is Binary (Some e) i = refl
form_is Hexadecimal e i = refl

-- ---- the opening

no_x : (f : Form) (a : ℕ) (p : List ℕ) (e : Option Exponent)
    → opens_hexadecimal (a ∷ (point_bytes p ++ scale_bytes f e)) ≡ false
no_x f a (d ∷ p) e = refl
no_x f a [] None = refl
no_x Decimal a [] (Some e) = refl
no_x Binary a [] (Some e) = refl
no_x Hexadecimal a [] (Some e) = refl

not_opened : (f : Form) (w p : List ℕ) (e : Option Exponent) → IsNumeral 10 w
    → opens_hexadecimal (w ++ (point_bytes p ++ scale_bytes f e)) ≡ false
not_opened f [] p e n = absurd (omega (arith, n.0))
not_opened f (a ∷ []) p e n = no_x f a p e
not_opened f (a ∷ (b ∷ w)) p e n =
    ap (λ t. if t then a == 48 else false) (no_digit b 120 (omega arith) n.1.1.0)

-- ---- the whole

abbrev spelling : Form → List ℕ → List ℕ → Option Exponent → Spelling
spelling f w p e = record { form = f; whole = w; fraction = p; exponent = e }

body_is : (x : Spelling) → IsSpelling x → parts_as (is_hexadecimal x.form) (body_bytes x) ≡ x
body_is x i =
    let h = is_hexadecimal x.form in
    let rest = point_bytes x.fraction ++ scale_bytes x.form x.exponent in
    let ends = tail_ends h x.form x.fraction x.exponent refl in
    let whole : front (base h) (x.whole ++ rest) ≡ x.whole =
    front_is (base h) x.whole rest i.whole.1 ends in
    let left : behind (base h) (x.whole ++ rest) ≡ rest =
    behind_is (base h) x.whole rest i.whole.1 ends in
    let fraction : fraction_at (base h) (behind (base h) (x.whole ++ rest)) ≡ x.fraction =
    ap (fraction_at (base h)) left ∙ fraction_is x.form x.fraction x.exponent i.fraction in
    let end : behind_fraction (base h) (behind (base h) (x.whole ++ rest))
    ≡ scale_bytes x.form x.exponent =
    ap (behind_fraction (base h)) left ∙ end_is x.form x.fraction x.exponent i.fraction in
    let form : form_at h (behind_fraction (base h) (behind (base h) (x.whole ++ rest))) ≡ x.form =
    ap (form_at h) end ∙ form_is x.form x.exponent i.exponent in
    let exponent : scale_at (behind_fraction (base h) (behind (base h) (x.whole ++ rest)))
    ≡ x.exponent = ap scale_at end ∙ scale_is x.form x.exponent i.exponent in
    λ j. record { form = form j; whole = whole j; fraction = fraction j; exponent = exponent j }

opened_as : (h : Bool) (text : List ℕ) → opens_hexadecimal text ≡ h
    → parts_of text ≡ parts_as h (without_opening h text)
unfolding parts_of
opened_as h text e = ap (λ t. parts_as t (without_opening t text)) e

spelled_as : (f : Form) (w p : List ℕ) (e : Option Exponent) → IsSpelling (spelling f w p e)
    → parts_of (spelling_bytes (spelling f w p e)) ≡ spelling f w p e
spelled_as Decimal w p e i =
    opened_as false _ (not_opened Decimal w p e i.whole) ∙ body_is (spelling Decimal w p e) i
spelled_as Binary w p e i =
    opened_as false _ (not_opened Binary w p e i.whole) ∙ body_is (spelling Binary w p e) i
spelled_as Hexadecimal w p e i = opened_as true _ refl ∙ body_is (spelling Hexadecimal w p e) i

pub spelled : (x : Spelling) → IsSpelling x → parts_of (spelling_bytes x) ≡ x
spelled x i = spelled_as x.form x.whole x.fraction x.exponent i
