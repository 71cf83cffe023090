-- The parts of a literal are found in one way alone.
use denote.Ref.{Bor}
use borrow.Author.Tests.{eqb-true, eqb-false}
use Rattle.std.proofs.Common.{◌≡◌, ◌≢◌, ℕ, ◌<◌, List, [], ◌∷◌, ◌++◌, length, eqb, Option, Some}
use Rattle.std.proofs.Common.{None, Bool, true, false, refl, sym, ap, ap₂, subst, ◌∙◌, arith, lit<}
use Rattle.std.proofs.Common.{lit≤}
use Rattle.std.specs.Str.Parse.{AllDigits}
use Rattle.literal.specs.declared.scan.Form.{Form}
use Rattle.literal.specs.declared.scan.Form.TheVariants.{Decimal, Binary, Hexadecimal}
use Rattle.literal.specs.declared.scan.LiteralParts.{LiteralParts}
use Rattle.literal.specs.Spelling.{Exponent, Spelling, opening, point_bytes, scale_bytes}
use Rattle.literal.specs.Spelling.{body_bytes, is_hexadecimal, base, IsFraction, Spells}
use Rattle.literal.specs.Parts.{FindsOne, BeginsWithNo, StandsBehind, StandsBehindOpening}
use Rattle.literal.specs.Parts.{IsFrontDigits, Scale, IsScale, IsBody, FindsBody, FindsParts}
use Rattle.literal.specs.Parts.{spelling_of}
use Rattle.literal.proofs.Front.{same_front, scale_no_point, tail_no_x}
use Rattle.literal.proofs.Tails.{tail_ends, scale_ends}

abbrev pub spelling : Form → List ℕ → List ℕ → Option Exponent → Spelling
spelling f w p e = record { form = f; whole = w; fraction = p; exponent = e }

abbrev pub scale : Form → Option Exponent → Scale
scale f e = record { form = f; exponent = e }

pub no_digits : (w v : List ℕ) → w ≡ v → 0 < length w → length v ≡ 0 → ⊥
no_digits w v e h k = let m : length w ≡ length v = ap length e in omega arith

-- ---- the digits in front
pub body_split : (h : Bool) (text whole rest : List ℕ)
    → IsFrontDigits (base h) text whole rest → (x : Spelling) → IsBody h text x
    → (x.whole ≡ whole) × (point_bytes x.fraction ++ scale_bytes x.form x.exponent ≡ rest)
body_split h text whole rest f x i =
    let d : AllDigits (base h) x.whole =
    subst (λ b. AllDigits (base b) x.whole) i.form i.parts.whole.1 in
    same_front (base h) x.whole (point_bytes x.fraction ++ scale_bytes x.form x.exponent) whole rest
    d (tail_ends h x.form x.fraction x.exponent i.form) f.all f.ends (i.bytes ∙ f.joins)

pub no_whole : (h : Bool) (text whole rest : List ℕ) → IsFrontDigits (base h) text whole rest
    → length whole ≡ 0 → (x : Spelling) → ¬ IsBody h text x
no_whole h text whole rest f k x i =
    no_digits x.whole whole (body_split h text whole rest f x i).0 i.parts.whole.0 k

-- ---- with no point
unpointed_at : (p t rest : List ℕ) → point_bytes p ++ t ≡ rest
    → ((u : List ℕ) → rest ≢ 46 ∷ u) → (p ≡ []) × (t ≡ rest)
unpointed_at [] t rest e n = (refl, e)
unpointed_at (d ∷ p) t rest e n = absurd (n ((d ∷ p) ++ t) (sym e))

pub unpointed_back : (h : Bool) (text whole rest : List ℕ) → IsFrontDigits (base h) text whole rest
    → ((u : List ℕ) → rest ≢ 46 ∷ u) → (x : Spelling) → IsBody h text x
    → (x.whole ≡ whole) × (x.fraction ≡ []) × IsScale h rest (scale x.form x.exponent)
unpointed_back h text whole rest f n x i =
    let s = body_split h text whole rest f x i in
    let u = unpointed_at x.fraction (scale_bytes x.form x.exponent) rest s.1 n in
    (s.0, u.0, record { form = i.form; bytes = u.1; fits = i.parts.exponent })

no_fraction : (f : Form) → IsFraction f []
no_fraction Decimal = tt
no_fraction Binary = refl
no_fraction Hexadecimal = tt

pub unpointed : (h : Bool) (text whole rest : List ℕ)
    → IsFrontDigits (base h) text whole rest → 0 < length whole → (s : Scale) → IsScale h rest s
    → IsBody h text (spelling s.form whole [] s.exponent)
unpointed h text whole rest f k s i = record {
  form = i.form;
  bytes = ap (λ t. whole ++ t) i.bytes ∙ sym f.joins;
  parts = record {
    whole = (k, subst (λ b. AllDigits (base b) whole) (sym i.form) f.all);
    fraction = no_fraction s.form;
    exponent = i.fits;
  };
}

-- ---- with a point
fraction_digits : (h : Bool) (f : Form) (d : ℕ) (p : List ℕ) → is_hexadecimal f ≡ h
    → IsFraction f (d ∷ p) → AllDigits (base h) (d ∷ p) × (f ≡ Binary → ⊥)
fraction_digits false Decimal d p k i = (i, λ e. cc)
fraction_digits true Decimal d p k i = let m : false ≡ true = k in cc
fraction_digits h Binary d p k i = cc
fraction_digits true Hexadecimal d p k i = (i, λ e. cc)
fraction_digits false Hexadecimal d p k i = let m : true ≡ false = k in cc

pointed_at : (h : Bool) (f : Form) (p fraction rest tail : List ℕ) (e : Option Exponent)
    → is_hexadecimal f ≡ h → IsFraction f p → IsFrontDigits (base h) tail fraction rest
    → point_bytes p ++ scale_bytes f e ≡ 46 ∷ tail
    → (p ≡ fraction) × (0 < length p) × (f ≡ Binary → ⊥) × (scale_bytes f e ≡ rest)
pointed_at h f [] fraction rest tail e k i s t = absurd (scale_no_point f e tail t)
pointed_at h f (d ∷ p) fraction rest tail e k i s t =
    let c = fraction_digits h f d p k i in
    let t' : (d ∷ p) ++ scale_bytes f e ≡ tail = cc in
    let u = same_front (base h) (d ∷ p)
    (scale_bytes f e) fraction rest c.0 (scale_ends h f e k) s.all s.ends (t' ∙ s.joins) in
    (u.0, omega arith, c.1, u.1)

pub record Pointed (h : Bool) (whole fraction rest : List ℕ) (x : Spelling) : Type 0 where
  pub is_whole : x.whole ≡ whole
  pub is_fraction : x.fraction ≡ fraction
  pub some : 0 < length x.fraction
  pub apart : x.form ≡ Binary → ⊥
  pub end : IsScale h rest (scale x.form x.exponent)

pub pointed_back : (h : Bool) (text whole rest tail fraction rest2 : List ℕ)
    → IsFrontDigits (base h) text whole rest → rest ≡ 46 ∷ tail
    → IsFrontDigits (base h) tail fraction rest2 → (x : Spelling) → IsBody h text x
    → Pointed h whole fraction rest2 x
pointed_back h text whole rest tail fraction rest2 f e g x i =
    let s = body_split h text whole rest f x i in
    let u = pointed_at h x.form x.fraction fraction rest2 tail x.exponent i.form
    i.parts.fraction g (s.1 ∙ e) in
    record {
      is_whole = s.0;
      is_fraction = u.0;
      some = u.1;
      apart = u.2;
      end = record { form = i.form; bytes = u.3; fits = i.parts.exponent };
    }

pub no_fraction_digits : (h : Bool) (text whole rest tail fraction rest2 : List ℕ)
    → IsFrontDigits (base h) text whole rest
    → rest ≡ 46 ∷ tail → IsFrontDigits (base h) tail fraction rest2 → length fraction ≡ 0
    → (x : Spelling) → ¬ IsBody h text x
no_fraction_digits h text whole rest tail fraction rest2 f e g k x i =
    let p = pointed_back h text whole rest tail fraction rest2 f e g x i in
    no_digits x.fraction fraction p.is_fraction p.some k

is_fraction_of : (f : Form) (p : List ℕ) → (f ≡ Binary → ⊥)
    → AllDigits (base (is_hexadecimal f)) p → IsFraction f p
is_fraction_of Decimal p n d = d
is_fraction_of Binary p n d = absurd (n refl)
is_fraction_of Hexadecimal p n d = d

point_is : (p : List ℕ) → 0 < length p → point_bytes p ≡ 46 ∷ p
point_is [] k = absurd (omega arith)
point_is (d ∷ p) k = refl

pub pointed : (h : Bool) (text whole rest tail fraction rest2 : List ℕ)
    → IsFrontDigits (base h) text whole rest
    → rest ≡ 46 ∷ tail → IsFrontDigits (base h) tail fraction rest2 → 0 < length whole
    → 0 < length fraction → (s : Scale) → IsScale h rest2 s → (s.form ≡ Binary → ⊥)
    → IsBody h text (spelling s.form whole fraction s.exponent)
pointed h text whole rest tail fraction rest2 f e g k l s i n = record {
  form = i.form;
  bytes = ap₂ (λ (p t : List ℕ). whole ++ (p ++ t)) (point_is fraction l) i.bytes
      ∙ ap (λ (t : List ℕ). whole ++ t) (ap (λ (t : List ℕ). 46 ∷ t) (sym g.joins) ∙ sym e)
      ∙ sym f.joins;
  parts = record {
    whole = (k, subst (λ b. AllDigits (base b) whole) (sym i.form) f.all);
    fraction = is_fraction_of s.form fraction n
        (subst (λ b. AllDigits (base b) fraction) (sym i.form) g.all);
    exponent = i.fits;
  };
}

-- two spellings with the same parts
pub same_parts : (x y : Spelling) → x.form ≡ y.form → x.whole ≡ y.whole → x.fraction ≡ y.fraction
    → x.exponent ≡ y.exponent → x ≡ y
same_parts x y f w p e = subst (λ (a : Form). x ≡ spelling a y.whole y.fraction y.exponent) f
    (subst (λ (a : List ℕ). x ≡ spelling x.form a y.fraction y.exponent) w
    (subst (λ (a : List ℕ). x ≡ spelling x.form x.whole a y.exponent) p
    (subst (λ (a : Option Exponent). x ≡ spelling x.form x.whole x.fraction a) e refl)))

-- ---- what opens a literal
pub find_same : {A B : Type 0} (view : A → B) (P Q : B → Type 0) (r : Option A)
    → ((b : B) → P b → Q b) → ((b : B) → Q b → P b) → FindsOne view P r → FindsOne view Q r
find_same view P Q None f g h = λ b q. h b (g b q)
find_same view P Q (Some a) f g h = (f (view a) h.0, λ b q. h.1 b (g b q))

opened_at : (f : Form) (w p : List ℕ) (e : Option Exponent) (text rest : List ℕ)
    → text ≡ 48 ∷ (120 ∷ rest) → opening f ++ (w ++ (point_bytes p ++ scale_bytes f e)) ≡ text
    → AllDigits (base (is_hexadecimal f)) w
    → (is_hexadecimal f ≡ true) × (w ++ (point_bytes p ++ scale_bytes f e) ≡ rest)
opened_at Hexadecimal w p e text rest t b d = (refl, cc)
opened_at Decimal w p e text rest t b d =
    absurd (tail_no_x Decimal p e rest (same_front 10 w (point_bytes p ++ scale_bytes Decimal e)
    (48 ∷ []) (120 ∷ rest) d (tail_ends false Decimal p e refl) (lit< tt, tt) (lit≤ tt) (b ∙ t)).1)
opened_at Binary w p e text rest t b d =
    absurd (tail_no_x Binary p e rest (same_front 10 w (point_bytes p ++ scale_bytes Binary e)
    (48 ∷ []) (120 ∷ rest) d (tail_ends false Binary p e refl) (lit< tt, tt) (lit≤ tt) (b ∙ t)).1)

plain_at : (f : Form) (body text : List ℕ) → ((u : List ℕ) → text ≢ 48 ∷ (120 ∷ u))
    → opening f ++ body ≡ text → (is_hexadecimal f ≡ false) × (body ≡ text)
plain_at Decimal body text n b = (refl, b)
plain_at Binary body text n b = (refl, b)
plain_at Hexadecimal body text n b = absurd (n body (sym b))

opening_is : (f : Form) (body : List ℕ) → is_hexadecimal f ≡ true
    → opening f ++ body ≡ 48 ∷ (120 ∷ body)
opening_is Decimal body k = let m : false ≡ true = k in cc
opening_is Binary body k = let m : false ≡ true = k in cc
opening_is Hexadecimal body k = refl

no_opening : (f : Form) (body : List ℕ) → is_hexadecimal f ≡ false → opening f ++ body ≡ body
no_opening Decimal body k = refl
no_opening Binary body k = refl
no_opening Hexadecimal body k = let m : true ≡ false = k in cc

pub finds_hexadecimal : (text rest : List ℕ) (r : Option LiteralParts) → text ≡ 48 ∷ (120 ∷ rest)
    → FindsBody true rest r → FindsParts text r
finds_hexadecimal text rest r t f = find_same spelling_of (IsBody true rest) (Spells text) r
    (λ x i. record {
      bytes = opening_is x.form (body_bytes x) i.form
          ∙ ap (λ (l : List ℕ). 48 ∷ (120 ∷ l)) i.bytes ∙ sym t;
      parts = i.parts;
    })
    (λ x s. let o =
    opened_at x.form x.whole x.fraction x.exponent text rest t s.bytes s.parts.whole.1 in record {
      form = o.0;
      bytes = o.1;
      parts = s.parts;
    }) f

pub finds_plain : (text : List ℕ) (r : Option LiteralParts) → ((u : List ℕ) → text ≢ 48 ∷ (120 ∷ u))
    → FindsBody false text r → FindsParts text r
finds_plain text r n f = find_same spelling_of (IsBody false text) (Spells text) r
    (λ x i. record { bytes = no_opening x.form (body_bytes x) i.form ∙ i.bytes; parts = i.parts })
    (λ x s. let o = plain_at x.form (body_bytes x) text n s.bytes in
    record { form = o.0; bytes = o.1; parts = s.parts }) f

pub one_spelling : (text : List ℕ) (r : Option LiteralParts) → FindsParts text r → (x y : Spelling)
    → Spells text x → Spells text y → x ≡ y
one_spelling text None f x y s t = absurd (f x s)
one_spelling text (Some p) f x y s t = f.1 x s ∙ sym (f.1 y t)

-- no `0`, or no `x` behind it
pub no_zero : (text : List ℕ) → BeginsWithNo 48 text → (u : List ℕ) → text ≢ 48 ∷ (120 ∷ u)
no_zero text n u e = n (120 ∷ u) e

no_x : (text digits : List ℕ) → text ≡ 48 ∷ digits → BeginsWithNo 120 digits
    → (u : List ℕ) → text ≢ 48 ∷ (120 ∷ u)
no_x text digits t n u e = let h : digits ≡ 120 ∷ u = cc in n u h

pub behind_two : (text digits : List ℕ) → text ≡ 48 ∷ digits → (r : Option (Bor (List ℕ)))
    → StandsBehind 120 digits r → StandsBehindOpening text r
behind_two text digits t None n = no_x text digits t n
behind_two text digits t (Some rest) e = t ∙ ap (λ (l : List ℕ). 48 ∷ l) e

-- a point is no digit
pub point_front : (h : Bool) (whole tail : List ℕ) → AllDigits (base h) whole
    → IsFrontDigits (base h) (whole ++ (46 ∷ tail)) whole (46 ∷ tail)
point_front true whole tail d = record { joins = refl; all = d; ends = lit≤ tt }
point_front false whole tail d = record { joins = refl; all = d; ends = lit≤ tt }

-- what `is_empty` tells
pub empty_length : (w : List ℕ) (r : Bool) → r ≡ eqb (length w) 0 → r ≡ true → length w ≡ 0
empty_length w r e t = eqb-true (length w) 0 (sym e ∙ t)

pub some_length : (w : List ℕ) (r : Bool) → r ≡ eqb (length w) 0 → r ≡ false → 0 < length w
some_length w r e t = let n : length w ≢ 0 = eqb-false (length w) 0 (sym e ∙ t) in omega arith

-- ---- the answers of `body`
module _ (h : Bool) (text whole rest : List ℕ) (f : IsFrontDigits (base h) text whole rest) where
  pub none_unpointed : ((u : List ℕ) → rest ≢ 46 ∷ u) → ((s : Scale) → ¬ IsScale h rest s)
      → (x : Spelling) → ¬ IsBody h text x
  none_unpointed n g x i = g (scale x.form x.exponent) (unpointed_back h text whole rest f n x i).2

  pub one_unpointed : (s : Scale) → 0 < length whole → ((u : List ℕ) → rest ≢ 46 ∷ u)
      → IsScale h rest s → ((t : Scale) → IsScale h rest t → t ≡ s)
      → IsBody h text (spelling s.form whole [] s.exponent)
      × ((x : Spelling) → IsBody h text x → x ≡ spelling s.form whole [] s.exponent)
  one_unpointed s k n i u = (
    unpointed h text whole rest f k s i,
    λ x b. let p = unpointed_back h text whole rest f n x b in
        let e = u (scale x.form x.exponent) p.2 in
        same_parts x (spelling s.form whole [] s.exponent)
        (ap (λ (t : Scale). t.form) e) p.0 p.1 (ap (λ (t : Scale). t.exponent) e),
  )

  module _ (tail fraction end : List ℕ) (e : rest ≡ 46 ∷ tail)
      (g : IsFrontDigits (base h) tail fraction end) where
    pub none_pointed : ((s : Scale) → ¬ IsScale h end s) → (x : Spelling) → ¬ IsBody h text x
    none_pointed n x i =
        n (scale x.form x.exponent) (pointed_back h text whole rest tail fraction end f e g x i).end

    pub none_binary : (s : Scale) → s.form ≡ Binary → ((t : Scale) → IsScale h end t → t ≡ s)
        → (x : Spelling) → ¬ IsBody h text x
    none_binary s b u x i =
        let p = pointed_back h text whole rest tail fraction end f e g x i in
        p.apart (ap (λ (t : Scale). t.form) (u (scale x.form x.exponent) p.end) ∙ b)

    pub one_pointed : (s : Scale) → 0 < length whole → 0 < length fraction → (s.form ≡ Binary → ⊥)
        → IsScale h end s → ((t : Scale) → IsScale h end t → t ≡ s)
        → IsBody h text (spelling s.form whole fraction s.exponent)
        × ((x : Spelling) → IsBody h text x → x ≡ spelling s.form whole fraction s.exponent)
    one_pointed s k l n i u = (
      pointed h text whole rest tail fraction end f e g k l s i n,
      λ x b. let p = pointed_back h text whole rest tail fraction end f e g x b in
          let q = u (scale x.form x.exponent) p.end in
          same_parts x (spelling s.form whole fraction s.exponent) (ap (λ (t : Scale). t.form) q)
          p.is_whole p.is_fraction (ap (λ (t : Scale). t.exponent) q),
    )
