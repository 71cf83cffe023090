-- The literals among the words of a text are spelled as literals are.
use Rattle.std.specs.Prelude.{⊤, option_to_list}
use Rattle.std.proofs.Common.{◌≡◌, ◌⊎◌, ℕ, zero, suc, ◌+◌, ◌-◌, ◌<◌, ◌≤◌, ◌==◌, ◌&&◌, ◌||◌, nat_lt}
use Rattle.std.proofs.Common.{nat_le, List, [], ◌∷◌, ◌++◌, length, take, drop, Option, Some, None}
use Rattle.std.proofs.Common.{Bool, true, false, inl, inr, refl, sym, ap, ◌∙◌, subst, arith}
use Rattle.std.proofs.Common.{append_assoc, drop-drop, eqb-true, if◌then◌else◌}
use Rattle.std.specs.List.{AllByRecursion, list_any, slice_range, prefix_len}
use Rattle.std.specs.Char.{digit_value}
use Rattle.std.specs.Int.{is_in_range, IsInRange}
use Rattle.std.specs.Str.{bytes_eq}
use Rattle.std.specs.Str.Parse.{AllDigits, IsNumeral}
use Rattle.std.proofs.lemmas.Bool.{ltb-true, leb-true, le-ltb, lt-ltb}
use Rattle.std.proofs.lemmas.Str.{digit_value_digit}
use Rattle.std.proofs.Math.Seq.{take-add}
use Rattle.literal.specs.declared.scan.Form.{Form}
use Rattle.literal.specs.declared.scan.Form.TheVariants.{Decimal, Binary, Hexadecimal}
use Rattle.literal.specs.declared.scan.Mark.TheVariants.{Unmarked, Plus, Minus}
use Rattle.literal.specs.Spelling.{Exponent, exponent_bytes, letter, point_bytes, scale_bytes}
use Rattle.literal.specs.Spelling.{IsLiteral}
use Rattle.script_words.specs.declared.class.Symbol.{Symbol}
use Rattle.script_words.specs.declared.lex.Run.{Run}
use Rattle.script_words.specs.declared.lex.Run.TheVariants as run
use Rattle.script_words.specs.declared.lex.Token.{Token}
use Rattle.script_words.specs.declared.lex.TokenKind.{TokenKind}
use Rattle.script_words.specs.declared.lex.TokenKind.TheVariants as kind
use Rattle.script_words.specs.Literals.{is_in, run_len, part_len, signed_len, exponent_len}
use Rattle.script_words.specs.Literals.{scaled_len, is_hex, literal_len}
use Rattle.script_words.specs.Signs.{sign_at, reserved_word}
use Rattle.script_words.specs.Lex.{blank_len, word_kind, sign_token, front, Lexes, ends, bad, token}
use Rattle.script_words.specs.Words.{Word, name, rounding, literal}
use Rattle.script_words.specs.Named.{Naming, naming_after, defined_by, spelled_of, kind_word}
use Rattle.script_words.specs.Named.{token_word, words_from}
use Rattle.script_words.proofs.Fronts.{len_in}

-- ---- digits

no_less : 0 < 0 → ⊥
no_less h = absurd (omega arith)

in_range : (lo hi b : ℕ) → is_in_range lo hi b ≡ true → IsInRange lo hi b
in_range lo hi b = by_tests (nat_le lo b) (nat_le b hi) refl refl
  where
    by_tests : (x y : Bool) → nat_le lo b ≡ x → nat_le b hi ≡ y
        → (x && y) ≡ true → IsInRange lo hi b
    by_tests true true f g e = (leb-true lo b f, leb-true b hi g)
    by_tests true false f g e = absurd (cc e)
    by_tests false y f g e = absurd (cc e)

decimal_digit : (b : ℕ) → is_in run.Digit b ≡ true → digit_value b < 10
decimal_digit b e =
    let r = in_range 48 57 b e in
    let high : b ≤ 57 = r.1 in
    let v : digit_value b + 48 ≡ b = digit_value_digit b r in omega arith

large_letter : (b : ℕ) → 65 ≤ b → b ≤ 70 → digit_value b < 16
large_letter b l h =
    let v : digit_value b ≡ b - 55 =
    (λ i. if le-ltb b 48 (omega arith) i then 36 else if le-ltb b 58 (omega arith) i
    then b - 48 else if le-ltb b 65 l i then 36 else if lt-ltb b 91 (omega arith) i then b - 55
    else if nat_lt b 97 then 36 else if nat_lt b 123 then b - 87 else 36) in omega arith

small_letter : (b : ℕ) → 97 ≤ b → b ≤ 102 → digit_value b < 16
small_letter b l h =
    let v : digit_value b ≡ b - 87 = (λ i. if le-ltb b 48 (omega arith) i
    then 36 else if le-ltb b 58 (omega arith) i then b - 48 else if le-ltb b 65 (omega arith) i
    then 36 else if le-ltb b 91 (omega arith) i then b - 55 else if le-ltb b 97 l i then 36
    else if lt-ltb b 123 (omega arith) i then b - 87 else 36) in omega arith

hexadecimal_digit : (b : ℕ) → is_in run.HexDigit b ≡ true → digit_value b < 16
hexadecimal_digit b =
    by_tests (is_in_range 48 57 b) (is_in_range 65 70 b) (is_in_range 97 102 b) refl refl refl
  where
    by_tests : (x y z : Bool) → is_in_range 48 57 b ≡ x → is_in_range 65 70 b ≡ y
        → is_in_range 97 102 b ≡ z → ((x || y) || z) ≡ true → digit_value b < 16
    by_tests true y z f g h e = let d = decimal_digit b f in omega (arith, d)
    by_tests false true z f g h e = let r = in_range 65 70 b g in large_letter b r.0 r.1
    by_tests false false true f g h e = let r = in_range 97 102 b h in small_letter b r.0 r.1
    by_tests false false false f g h e = absurd (cc e)

module _ (p : ℕ → Bool) (radix : ℕ) (digit : (b : ℕ) → p b ≡ true → digit_value b < radix) where
  run_digits : (bs : List ℕ) → AllDigits radix (take (prefix_len p bs) bs)
  run_digits [] = tt
  run_digits (b ∷ bs) = by_test (p b) refl (run_digits bs)
    where
      by_test : (t : Bool) → p b ≡ t → AllDigits radix (take (prefix_len p bs) bs)
          → AllDigits radix (take (if t then 1 + prefix_len p bs else 0) (b ∷ bs))
      by_test true e more = let n : suc (prefix_len p bs) ≡ 1 + prefix_len p bs = omega arith in
          subst (λ k. AllDigits radix (take k (b ∷ bs))) n (digit b e, more)
      by_test false e more = tt

  run_some : (bs : List ℕ) → 0 < prefix_len p bs → IsNumeral radix (take (prefix_len p bs) bs)
  run_some [] h = absurd (no_less h)
  run_some (b ∷ bs) h = (taken (prefix_len p (b ∷ bs)) h, run_digits (b ∷ bs))
    where
      taken : (n : ℕ) → 0 < n → 0 < length (take n (b ∷ bs))
      taken zero h = absurd (no_less h)
      taken (suc n) h = omega arith

decimal_some : (bs : List ℕ) → 0 < run_len run.Digit bs
    → IsNumeral 10 (take (run_len run.Digit bs) bs)
decimal_some = run_some (is_in run.Digit) 10 decimal_digit

hexadecimal_some : (bs : List ℕ) → 0 < run_len run.HexDigit bs
    → IsNumeral 16 (take (run_len run.HexDigit bs) bs)
hexadecimal_some = run_some (is_in run.HexDigit) 16 hexadecimal_digit

one_taken : (n b : ℕ) (bs : List ℕ) → take (1 + n) (b ∷ bs) ≡ b ∷ take n bs
one_taken n b bs = let e : 1 + n ≡ suc n = omega arith in ap (λ k. take k (b ∷ bs)) e

-- ---- an exponent behind its letter, or nothing

record IsSigned (text : List ℕ) : Type 0 where
  exponent : Exponent
  digits : IsNumeral 10 exponent.digits
  bytes : text ≡ exponent_bytes exponent

signed_part : (bs : List ℕ) → 0 < signed_len bs → IsSigned (take (signed_len bs) bs)
signed_part [] p = absurd (no_less p)
signed_part (b ∷ bs) p =
    by_test (b == 43) (b == 45) (nat_lt 0 (run_len run.Digit bs)) refl refl refl p
  where
    by_test : (x y z : Bool) → (b == 43) ≡ x → (b == 45) ≡ y → nat_lt 0 (run_len run.Digit bs) ≡ z
        → 0 < (if x || y then (if z then 1 + run_len run.Digit bs else 0)
        else run_len run.Digit (b ∷ bs))
        → IsSigned (take (if x || y then (if z then 1 + run_len run.Digit bs else 0)
        else run_len run.Digit (b ∷ bs)) (b ∷ bs))
    by_test true y true e f g q = record {
      exponent = record { mark = Plus; digits = take (run_len run.Digit bs) bs };
      digits = decimal_some bs (ltb-true 0 _ g);
      bytes = one_taken _ b bs ∙ ap (λ c. c ∷ take (run_len run.Digit bs) bs) (eqb-true b 43 e);
    }
    by_test true y false e f g q = absurd (no_less q)
    by_test false true true e f g q = record {
      exponent = record { mark = Minus; digits = take (run_len run.Digit bs) bs };
      digits = decimal_some bs (ltb-true 0 _ g);
      bytes = one_taken _ b bs ∙ ap (λ c. c ∷ take (run_len run.Digit bs) bs) (eqb-true b 45 f);
    }
    by_test false true false e f g q = absurd (no_less q)
    by_test false false z e f g q = record {
      exponent = record { mark = Unmarked; digits = take (run_len run.Digit (b ∷ bs)) (b ∷ bs) };
      digits = decimal_some (b ∷ bs) q;
      bytes = refl;
    }

-- with the letter
record IsScale (form : Form) (text : List ℕ) : Type 0 where
  exponent : Exponent
  digits : IsNumeral 10 exponent.digits
  bytes : text ≡ scale_bytes form (Some exponent)

scale_part : (form : Form) (rest : List ℕ) → (exponent_len (letter form) rest ≡ 0)
    ⊎ IsScale form (take (exponent_len (letter form) rest) rest)
scale_part form [] = inl refl
scale_part form (b ∷ bs) = by_test (b == letter form) (nat_lt 0 (signed_len bs)) refl refl
  where
    by_test : (x y : Bool) → (b == letter form) ≡ x
        → nat_lt 0 (signed_len bs) ≡ y → ((if x && y then 1 + signed_len bs else 0) ≡ 0)
        ⊎ IsScale form (take (if x && y then 1 + signed_len bs else 0) (b ∷ bs))
    by_test true true e f =
        let s = signed_part bs (ltb-true 0 _ f) in
        inr (record {
          exponent = s.exponent;
          digits = s.digits;
          bytes = one_taken _ b bs ∙ (λ i. eqb-true b (letter form) e i ∷ s.bytes i);
        })
    by_test true false e f = inl refl
    by_test false y e f = inl refl

-- ---- a point and digits, or nothing

pointed : (ds : List ℕ) → 0 < length ds → point_bytes ds ≡ 46 ∷ ds
pointed [] h = absurd (no_less h)
pointed (d ∷ ds) h = refl

record IsPart (radix : ℕ) (text : List ℕ) : Type 0 where
  digits : List ℕ
  all : AllDigits radix digits
  bytes : text ≡ point_bytes digits

-- what stands in a literal without `b`, behind `0x` where it is hexadecimal
record IsScaled (radix : ℕ) (form : Form) (text : List ℕ) : Type 0 where
  whole : List ℕ
  fraction : List ℕ
  exponent : Option Exponent
  whole_digits : IsNumeral radix whole
  fraction_digits : AllDigits radix fraction
  exponent_digits : (e : Exponent) → exponent ≡ Some e → IsNumeral 10 e.digits
  bytes : text ≡ whole ++ (point_bytes fraction ++ scale_bytes form exponent)

three_parts : (n m k : ℕ) (bs : List ℕ)
    → take (n + m + k) bs ≡ take n bs ++ (take m (drop n bs) ++ take k (drop (n + m) bs))
three_parts n m k bs =
    take-add (n + m) k bs ∙ ap (λ l. l ++ take k (drop (n + m) bs)) (take-add n m bs)
    ∙ append_assoc (take n bs) (take m (drop n bs)) (take k (drop (n + m) bs))

with_scale : (radix : ℕ) (form : Form) (bs : List ℕ) (n m k : ℕ) → IsNumeral radix (take n bs)
    → IsPart radix (take m (drop n bs)) → (k ≡ 0) ⊎ IsScale form (take k (drop (n + m) bs))
    → IsScaled radix form (take (n + m + k) bs)
with_scale radix form bs n m k whole part (inl e) = record {
  whole = take n bs;
  fraction = part.digits;
  exponent = None;
  whole_digits = whole;
  fraction_digits = part.all;
  exponent_digits = λ x f. absurd (cc f);
  bytes = three_parts n m k bs ∙ (λ i. take n bs ++ (part.bytes i ++ take (e i) (drop (n + m) bs)));
}
with_scale radix form bs n m k whole part (inr s) = record {
  whole = take n bs;
  fraction = part.digits;
  exponent = Some s.exponent;
  whole_digits = whole;
  fraction_digits = part.all;
  exponent_digits = λ x f. let same : s.exponent ≡ x = cc f in
      subst (λ (y : Exponent). IsNumeral 10 y.digits) same s.digits;
  bytes = three_parts n m k bs ∙ (λ i. take n bs ++ (part.bytes i ++ s.bytes i));
}

module _ (radix : ℕ) (r : Run) (some : (bs : List ℕ) → 0 < run_len r bs
    → IsNumeral radix (take (run_len r bs) bs)) where
  point_part : (rest : List ℕ) → IsPart radix (take (part_len 46 r rest) rest)
  point_part [] = record { digits = []; all = tt; bytes = refl }
  point_part (b ∷ bs) = by_test (b == 46) (nat_lt 0 (run_len r bs)) refl refl
    where
      by_test : (x y : Bool) → (b == 46) ≡ x → nat_lt 0 (run_len r bs) ≡ y
          → IsPart radix (take (if x && y then 1 + run_len r bs else 0) (b ∷ bs))
      by_test true true e f =
          let digits = some bs (ltb-true 0 _ f) in
          record {
            digits = take (run_len r bs) bs;
            all = digits.1;
            bytes = one_taken _ b bs ∙ ap (λ c. c ∷ take (run_len r bs) bs) (eqb-true b 46 e)
                ∙ sym (pointed _ digits.0);
          }
      by_test true false e f = record { digits = []; all = tt; bytes = refl }
      by_test false y e f = record { digits = []; all = tt; bytes = refl }

  scaled_parts : (form : Form) (bs : List ℕ) → 0 < run_len r bs
      → IsScaled radix form (take (scaled_len r (letter form) bs) bs)
  unfolding scaled_len
  scaled_parts form bs p =
      with_scale radix form bs (run_len r bs) (part_len 46 r (drop (run_len r bs) bs)) _ (some bs p)
      (point_part (drop (run_len r bs) bs)) (scale_part form _)

-- ---- literals

decimal_literal : (text : List ℕ) → IsScaled 10 Decimal text → IsLiteral text
decimal_literal text x = spelled x.exponent refl
  where
    spelled : (o : Option Exponent) → x.exponent ≡ o → IsLiteral text
    spelled None e = (
      record { form = Decimal; whole = x.whole; fraction = x.fraction; exponent = None },
      record {
        bytes = ap (λ o. x.whole ++ (point_bytes x.fraction ++ scale_bytes Decimal o)) (sym e)
            ∙ sym x.bytes;
        parts = record { whole = x.whole_digits; fraction = x.fraction_digits; exponent = tt };
      },
    )
    spelled (Some n) e = (
      record { form = Decimal; whole = x.whole; fraction = x.fraction; exponent = Some n },
      record {
        bytes = ap (λ o. x.whole ++ (point_bytes x.fraction ++ scale_bytes Decimal o)) (sym e)
            ∙ sym x.bytes;
        parts = record {
          whole = x.whole_digits;
          fraction = x.fraction_digits;
          exponent = x.exponent_digits n e;
        };
      },
    )

hexadecimal_literal : (text : List ℕ) → IsScaled 16 Hexadecimal text → IsLiteral (48 ∷ (120 ∷ text))
hexadecimal_literal text x = spelled x.exponent refl
  where
    spelled : (o : Option Exponent) → x.exponent ≡ o → IsLiteral (48 ∷ (120 ∷ text))
    spelled None e = (
      record { form = Hexadecimal; whole = x.whole; fraction = x.fraction; exponent = None },
      record {
        bytes = ap (λ ds. 48 ∷ (120 ∷ ds)) (ap (λ o. x.whole
            ++ (point_bytes x.fraction ++ scale_bytes Hexadecimal o)) (sym e) ∙ sym x.bytes);
        parts = record { whole = x.whole_digits; fraction = x.fraction_digits; exponent = tt };
      },
    )
    spelled (Some n) e = (
      record { form = Hexadecimal; whole = x.whole; fraction = x.fraction; exponent = Some n },
      record {
        bytes = ap (λ ds. 48 ∷ (120 ∷ ds)) (ap (λ o. x.whole
            ++ (point_bytes x.fraction ++ scale_bytes Hexadecimal o)) (sym e) ∙ sym x.bytes);
        parts = record {
          whole = x.whole_digits;
          fraction = x.fraction_digits;
          exponent = x.exponent_digits n e;
        };
      },
    )

binary_literal : (n : ℕ) (bs : List ℕ) → IsNumeral 10 (take n bs) → 0 < exponent_len 98 (drop n bs)
    → IsLiteral (take (n + exponent_len 98 (drop n bs)) bs)
binary_literal n bs whole q = with_exponent (scale_part Binary (drop n bs))
  where
    with_exponent : (exponent_len 98 (drop n bs) ≡ 0)
        ⊎ IsScale Binary (take (exponent_len 98 (drop n bs)) (drop n bs))
        → IsLiteral (take (n + exponent_len 98 (drop n bs)) bs)
    with_exponent (inl e) = absurd (no_less (subst (λ k. 0 < k) e q))
    with_exponent (inr s) = (
      record { form = Binary; whole = take n bs; fraction = []; exponent = Some s.exponent },
      record {
        bytes = ap (λ l. take n bs ++ l) (sym s.bytes) ∙ sym (take-add n _ bs);
        parts = record { whole = whole; fraction = refl; exponent = s.digits };
      },
    )

decimal_front : (r : Run)
    → ((bs : List ℕ) → 0 < run_len r bs → IsNumeral 10 (take (run_len r bs) bs)) → (bs : List ℕ)
    → 0 < run_len r bs → IsLiteral (take (scaled_len r 101 bs) bs)
decimal_front r some bs p = decimal_literal _ (scaled_parts 10 r some Decimal bs p)

hexadecimal_front : ((bs : List ℕ) → 0 < run_len run.HexDigit bs
    → IsNumeral 16 (take (run_len run.HexDigit bs) bs)) → (bs : List ℕ) → is_hex bs ≡ true
    → IsLiteral (take (2 + scaled_len run.HexDigit 112 (drop 2 bs)) bs)
hexadecimal_front some [] e = absurd (cc e)
hexadecimal_front some (a ∷ []) e = absurd (cc e)
hexadecimal_front some (a ∷ (b ∷ bs)) e =
    by_test (a == 48) (b == 120) (nat_lt 0 (run_len run.HexDigit bs)) refl refl refl e
  where
    by_test : (x y z : Bool) → (a == 48) ≡ x
        → (b == 120) ≡ y → nat_lt 0 (run_len run.HexDigit bs) ≡ z → (x && y && z) ≡ true
        → IsLiteral (take (2 + scaled_len run.HexDigit 112 bs) (a ∷ (b ∷ bs)))
    by_test true true true p q t h =
        let n = scaled_len run.HexDigit 112 bs in
        let two : 2 + n ≡ suc (suc n) = omega arith in
        let c = eqb-true a 48 p in
        let k = eqb-true b 120 q in
        subst IsLiteral (sym (ap (λ j. take j (a ∷ (b ∷ bs))) two ∙ (λ i. c i ∷ (k i ∷ take n bs))))
        (hexadecimal_literal _ (scaled_parts 16 run.HexDigit some Hexadecimal bs (ltb-true 0 _ t)))
    by_test true true false p q t h = absurd (cc h)
    by_test true false z p q t h = absurd (cc h)
    by_test false y z p q t h = absurd (cc h)

longest_literal : (bs : List ℕ) → 0 < run_len run.Digit bs → IsLiteral (take (literal_len bs) bs)
unfolding literal_len
longest_literal bs p =
    by_test (is_hex bs) (nat_lt 0 (exponent_len 98 (drop (run_len run.Digit bs) bs))) refl refl _ _
    (hexadecimal_front hexadecimal_some bs) (decimal_front run.Digit decimal_some bs p)
  where
    by_test : (x y : Bool) → is_hex bs ≡ x
        → nat_lt 0 (exponent_len 98 (drop (run_len run.Digit bs) bs)) ≡ y → (n m : ℕ)
        → (is_hex bs ≡ true → IsLiteral (take (2 + n) bs)) → IsLiteral (take m bs)
        → IsLiteral (take (if x then 2 + n else if y
        then run_len run.Digit bs + exponent_len 98 (drop (run_len run.Digit bs) bs) else m) bs)
    by_test true y e f n m h d = h e
    by_test false true e f n m h d =
        binary_literal (run_len run.Digit bs) bs (decimal_some bs p) (ltb-true 0 _ f)
    by_test false false e f n m h d = d

-- ---- words

-- a literal's text is that of a literal
abbrev pub IsSpelled : Word → Type 0
IsSpelled (literal k text) = IsLiteral text
IsSpelled w = ⊤

abbrev kind_in : Option (TokenKind × ℕ) → TokenKind
kind_in None = kind.Name
kind_in (Some p) = p.0

no_sign : (o : Option (Symbol × ℕ)) (len : ℕ) → sign_token o ≡ Some (kind.Literal, len) → ⊥
no_sign None len e = cc e
no_sign (Some g) len e = let k : kind.Sign g.0 ≡ kind.Literal = ap kind_in e in cc k

abbrev found : TokenKind → ℕ → Option (TokenKind × ℕ)
found k n = Some (k, n)

no_word : (o : Option Symbol) (n len : ℕ) → found (word_kind o) n ≡ found kind.Literal len → ⊥
no_word (Some g) n len e = let k : kind.Sign g ≡ kind.Literal = ap kind_in e in cc k
no_word None n len e = let k : kind.Name ≡ kind.Literal = ap kind_in e in cc k

front_literal : (bs : List ℕ) (len : ℕ) → front bs ≡ Some (kind.Literal, len)
    → IsLiteral (take len bs)
unfolding front
front_literal bs len = by_tests (nat_lt 0 (run_len run.Digit bs))
    (nat_lt 0 (run_len run.Word (drop (literal_len bs) bs))) (nat_lt 0 (run_len run.Word bs)) refl
  where
    by_tests : (d w x : Bool) → nat_lt 0 (run_len run.Digit bs) ≡ d
        → (if d then (if w then None else found kind.Literal (literal_len bs)) else if x
        then found (word_kind (reserved_word (take (run_len run.Word bs) bs))) (run_len run.Word bs)
        else sign_token (sign_at bs)) ≡ found kind.Literal len → IsLiteral (take len bs)
    by_tests true true x p e = absurd (cc e)
    by_tests true false x p e = subst (λ n. IsLiteral (take n bs)) (ap len_in e)
        (longest_literal bs (ltb-true 0 (run_len run.Digit bs) p))
    by_tests false w true p e = absurd (no_word _ _ len e)
    by_tests false w false p e = absurd (no_sign (sign_at bs) len e)

kind_spelled : (ops : List (List ℕ)) (k : TokenKind) (text : List ℕ)
    → (k ≡ kind.Literal → IsLiteral text) → IsSpelled (kind_word ops k text)
kind_spelled ops kind.Name text h = by_test (list_any (λ n. bytes_eq n text) ops)
  where
    by_test : (b : Bool)
        → IsSpelled (if b then rounding (spelled_of text) text else name (spelled_of text) text)
    by_test true = tt
    by_test false = tt
kind_spelled ops kind.Literal text h = h refl
kind_spelled ops (kind.Sign g) text h = tt

pub words_spelled : (all : List ℕ) (n : Naming) (ops : List (List ℕ)) {at : ℕ}
    {text : List ℕ} {ts : List Token} {end : Option ℕ} → text ≡ drop at all → Lexes at text ts end
    → AllByRecursion IsSpelled (words_from all n ops ts)
words_spelled all n ops same (ends e) = tt
words_spelled all n ops same (bad h e) = tt
words_spelled all n ops {at} {text} same (token {k = k} {len = len} {more = more} f l) =
    let b = blank_len false text in
    let t : Token = record { kind = k; start = at + b; end = at + b + len } in
    let left : drop b text ≡ drop (at + b) all = ap (drop b) same ∙ drop-drop b at all in
    let text_is : slice_range all (at + b) (at + b + len) ≡ take len (drop b text) =
    (λ i. take (less (at + b) len i) (sym left i)) in
    let w = token_word all ops t in
    let sum : at + (b + len) ≡ at + b + len = omega arith in (
      kind_spelled ops k _ (λ e. subst IsLiteral (sym text_is)
          (front_literal (drop b text) len (f ∙ ap (λ x. found x len) e))),
      words_spelled all (naming_after n w) (option_to_list (defined_by n w) ++ ops)
          (ap (drop (b + len)) same ∙ drop-drop (b + len) at all ∙ ap (λ j. drop j all) sum) l,
    )
  where
    less : (a c : ℕ) → (a + c) - a ≡ c
    less a c = omega arith
