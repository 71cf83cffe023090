-- The names and literals of a program are tokens of its script.
use Rattle.std.proofs.Common.{◌≡◌, ◌<◌, ◌==◌, ◌&&◌, ◌+◌, ◌^◌, nat_lt, cond, Bool, true, false, ℕ}
use Rattle.std.proofs.Common.{zero, suc, codes, arith, List, [], ◌∷◌, ◌++◌, length, drop, Option}
use Rattle.std.proofs.Common.{Some, None, refl, sym, ap, ◌∙◌, length-append, if◌then◌else◌}
use Rattle.std.specs.Fmt.{decimal, digits}
use Rattle.std.specs.Char.{is_ascii_digit, digit_value}
use Rattle.std.specs.Str.Parse.{AllDigits}
use Rattle.std.proofs.Math.Seq.{drop-append_seam}
use Rattle.std.proofs.lemmas.Fmt.{decimal_is_IsNumeral_wide}
use Rattle.script_words.specs.declared.class.Number.{Number}
use Rattle.script_words.specs.declared.class.Number.TheVariants as digits_kind
use Rattle.script_words.specs.declared.class.Symbol.{Symbol}
use Rattle.script_words.specs.declared.lex.Run.{Run}
use Rattle.script_words.specs.declared.lex.Run.TheVariants.{Word as WordRun, Digit, HexDigit}
use Rattle.script_words.specs.declared.lex.TokenKind.{TokenKind}
use Rattle.script_words.specs.declared.lex.TokenKind.TheVariants as kind
use Rattle.script_words.specs.Literals.{is_word, is_in, run_len, is_hex, signed_len, exponent_len}
use Rattle.script_words.specs.Literals.{literal_len, scaled_len}
use Rattle.script_words.specs.Signs.{sign_at}
use Rattle.script_words.specs.Lex.{front, sign_token}
use Rattle.script_words.specs.Named.{number_of}
use Rattle.fixprog.specs.declared.format.Format.{Format}
use Rattle.program_truths.proofs.Lines.{IsWordText}
use Rattle.program_truths.proofs.Trees.{word_literal}
use Rattle.program_truths.proofs.StepLines.{IsPlaceText, place_text}

-- ---- a name or a literal begins with a letter, a digit or `_`

by_runs : {A : Type 0} (m n : ℕ) (x y z : A) → m ≡ 0 → n ≡ 0
    → (if nat_lt 0 m then x else if nat_lt 0 n then y else z) ≡ z
by_runs m n x y z h k = rw (h, k) refl

not_digit : (b : ℕ) → is_word b ≡ false → is_ascii_digit b ≡ false
not_digit b h = grind (arith, h)

no_run : (r : Run) (b : ℕ) (bs : List ℕ) → is_in r b ≡ false → run_len r (b ∷ bs) ≡ 0
no_run r b bs h = ap (λ c. cond c (1 + run_len r bs) 0) h

front_of_sign : (b : ℕ) (bs : List ℕ) → is_word b ≡ false → front (b ∷ bs)
    ≡ sign_token (sign_at (b ∷ bs))
unfolding front
front_of_sign b bs h = by_runs (run_len Digit (b ∷ bs)) (run_len WordRun (b ∷ bs)) _ _
    (sign_token (sign_at (b ∷ bs))) (no_run Digit b bs (not_digit b h)) (no_run WordRun b bs h)

abbrev IsWordKind : TokenKind → Type 0
IsWordKind kind.Name = Unit {0}
IsWordKind kind.Literal = Unit {0}
IsWordKind (kind.Sign g) = ⊥

abbrev is_sign : Option (TokenKind × ℕ) → Bool
is_sign (Some (kind.Sign g, n)) = true
is_sign o = false

abbrev is_found : Option (TokenKind × ℕ) → Bool
is_found (Some found) = true
is_found None = false

no_sign : (o : Option (Symbol × ℕ)) (k : TokenKind) (n : ℕ) → IsWordKind k → sign_token o
    ≡ Some (k, n) → ⊥
no_sign None k n w h = let e : false ≡ true = ap is_found h in cc
no_sign (Some found) kind.Name n w h = let e : true ≡ false = ap is_sign h in cc
no_sign (Some found) kind.Literal n w h = let e : true ≡ false = ap is_sign h in cc
no_sign (Some found) (kind.Sign g) n w h = w

first_is_word : (b : ℕ) (bs : List ℕ) (k : TokenKind) (c : Bool) → is_word b ≡ c → IsWordKind k
    → front (b ∷ bs) ≡ Some (k, length (b ∷ bs)) → is_word b ≡ true
first_is_word b bs k true e w h = e
first_is_word b bs k false e w h = absurd (no_sign (sign_at (b ∷ bs)) k (length (b ∷ bs)) w
    (sym (front_of_sign b bs e) ∙ h))

nothing_is_none : front [] ≡ None
unfolding front
nothing_is_none = refl

none_is_some : (k : TokenKind) (n : ℕ) → front [] ≡ Some (k, n) → ⊥
none_is_some k n h = let e : false ≡ true = ap is_found (sym nothing_is_none ∙ h) in cc

pub alone_word : (k : TokenKind) (t : List ℕ) → IsWordKind k → front t ≡ Some (k, length t)
    → IsWordText k t
alone_word k [] w h = absurd (none_is_some k 0 h)
alone_word k (b ∷ bs) w h = record {
  first = b;
  more = bs;
  text = refl;
  word =
      first_is_word b bs k (is_word b) refl w h;
  alone = h;
}

-- ---- numbers below 64

abbrev pub all_below : ℕ → (ℕ → Bool) → Bool
all_below zero f = true
all_below (suc k) f = f k && all_below k f

pub both : (a b : Bool) → (a && b) ≡ true → (a ≡ true) × (b ≡ true)
both true true h = (refl, refl)
both true false h = absurd (cc)
both false b h = absurd (cc)

pub below : (m n : ℕ) (f : ℕ → Bool) → all_below m f ≡ true → n < m → f n ≡ true
below zero n f h l = absurd (omega arith)
below (suc k) n f h l = by_place (n == k) refl (below k n f (both (f k) (all_below k f) h).1)
  where
    by_place : (c : Bool) → (n == k) ≡ c → (n < k → f n ≡ true) → f n ≡ true
    by_place true e r = let s : n ≡ k = grind (arith, e) in ap f s
        ∙ (both (f k) (all_below k f) h).0
    by_place false e r = let s : n < k = grind (arith, e) in r s

abbrev is_literal_of : ℕ → Option (TokenKind × ℕ) → Bool
is_literal_of n (Some (kind.Literal, m)) = m == n
is_literal_of n o = false

abbrev is_lone : List ℕ → Bool
is_lone t = is_literal_of (length t) (front t)

lone_literal : (n : ℕ) (o : Option (TokenKind × ℕ)) → is_literal_of n o ≡ true → o
    ≡ Some (kind.Literal, n)
lone_literal n None h = absurd (cc)
lone_literal n (Some (kind.Name, m)) h = absurd (cc)
lone_literal n (Some (kind.Sign g, m)) h = absurd (cc)
lone_literal n (Some (kind.Literal, m)) h = let s : m ≡ n = grind (arith, h) in
    ap (λ k. Some (kind.Literal, k)) s

pub lone_text : (t : List ℕ) → is_lone t ≡ true → IsWordText kind.Literal t
lone_text t h = alone_word kind.Literal t tt (lone_literal (length t) (front t) h)

abbrev are_digits : Number → Bool
are_digits digits_kind.Digits = true
are_digits k = false

digits_are : (k : Number) → are_digits k ≡ true → k ≡ digits_kind.Digits
digits_are digits_kind.Digits h = refl
digits_are digits_kind.Zero h = absurd (cc)
digits_are digits_kind.Other h = absurd (cc)

places_are_lone : all_below 64 (λ n. is_lone (decimal n)) ≡ true
unfolding front literal_len scaled_len digits
places_are_lone = refl

places_are_digits : all_below 63 (λ n. are_digits (number_of (decimal (suc n)))) ≡ true
unfolding digits
places_are_digits = refl

rights_are_lone : all_below 64 (λ n. is_lone (codes "1b-" ++ decimal n)) ≡ true
unfolding front literal_len scaled_len digits
rights_are_lone = refl

lefts_are_lone : all_below 64 (λ n. is_lone (codes "1b" ++ decimal n)) ≡ true
unfolding front literal_len scaled_len digits
lefts_are_lone = refl

pub place_is_text : (n : ℕ) → n < 64 → IsPlaceText n
place_is_text zero l = tt
place_is_text (suc k) l = record {
  word = lone_text (decimal (suc k)) (below 64 (suc k) (λ n. is_lone (decimal n)) places_are_lone
      l);
  digits = digits_are (number_of (decimal (suc k)))
      (below 63 k (λ n. are_digits (number_of (decimal (suc n)))) places_are_digits (omega arith));
}

pub right_is_text : (n : ℕ) → n < 64 → IsWordText kind.Literal (codes "1b-" ++ decimal n)
right_is_text n l = lone_text (codes "1b-" ++ decimal n)
    (below 64 n (λ n. is_lone (codes "1b-" ++ decimal n)) rights_are_lone l)

pub left_is_text : (n : ℕ) → n < 64 → IsWordText kind.Literal (codes "1b" ++ decimal n)
left_is_text n l = lone_text (codes "1b" ++ decimal n)
    (below 64 n (λ n. is_lone (codes "1b" ++ decimal n)) lefts_are_lone l)

-- ---- words of formats: digits, `b`, and a last place

-- an exponent that is one token, to its end
abbrev is_exponent : List ℕ → Bool
is_exponent t = signed_len t == length t && nat_lt 0 (length t)

exponents_are_whole : all_below 64 (λ n. is_exponent (place_text n)) ≡ true
unfolding digits
exponents_are_whole = refl

digit_is_digit : (c : ℕ) → digit_value c < 10 → is_ascii_digit c ≡ true
digit_is_digit c h = grind (arith, h)

run_of_digits : (ds rest : List ℕ) → AllDigits 10 ds → run_len Digit (ds ++ (98 ∷ rest)) ≡ length ds
run_of_digits [] rest h = refl
run_of_digits (d ∷ ds) rest h =
    ap (λ c. cond c (1 + run_len Digit (ds ++ (98 ∷ rest))) 0) (digit_is_digit d h.0)
    ∙ ap (λ n. 1 + n) (run_of_digits ds rest h.1) ∙ one_more (length ds)
  where
    one_more : (n : ℕ) → 1 + n ≡ suc n
    one_more n = omega arith

no_and : (a b c : Bool) → b ≡ false → (a && b && c) ≡ false
no_and true b c h = ap (λ x. x && c) h
no_and false b c h = refl

not_x : (d : ℕ) → digit_value d < 10 → (d == 120) ≡ false
not_x d h = grind (arith, h)

no_hex : (ds rest : List ℕ) → AllDigits 10 ds → is_hex (ds ++ (98 ∷ rest)) ≡ false
no_hex [] [] h = refl
no_hex [] (r ∷ rest) h = refl
no_hex (a ∷ []) rest h = no_and (a == 48) false (nat_lt 0 (run_len HexDigit rest)) refl
no_hex (a ∷ (d ∷ ds)) rest h = no_and (a == 48) (d == 120)
    (nat_lt 0 (run_len HexDigit (ds ++ (98 ∷ rest)))) (not_x d h.1.0)

drop-length : (l : List ℕ) → drop (length l) l ≡ []
drop-length [] = refl
drop-length (x ∷ xs) = drop-length xs

by_parts : (hex : Bool) (n binary a b m : ℕ) → hex ≡ false → 0 < binary → n + binary ≡ m
    → cond hex a (cond (nat_lt 0 binary) (n + binary) b) ≡ m
by_parts hex n binary a b m h l e = let p : nat_lt 0 binary ≡ true = grind (arith, l) in rw (h, p) e

by_literal : (m w l len : ℕ) (z : Option (TokenKind × ℕ)) → 0 < m → w ≡ 0 → l ≡ len
    → (if nat_lt 0 m then (if nat_lt 0 w then None else Some (kind.Literal, l)) else z)
    ≡ Some (kind.Literal, len)
by_literal m w l len z h e f = let p : nat_lt 0 m ≡ true = grind (arith, h) in rw (p, e, f) refl

module _ (ds es : List ℕ) (h : AllDigits 10 ds) (some : 0 < length ds) (e : is_exponent es ≡ true)
  where
    exponent_size : signed_len es ≡ length es
    exponent_size = let p = (both (signed_len es == length es) (nat_lt 0 (length es)) e).0 in
        grind (arith, p)

    exponent_some : nat_lt 0 (signed_len es) ≡ true
    exponent_some = ap (nat_lt 0) exponent_size
        ∙ (both (signed_len es == length es) (nat_lt 0 (length es)) e).1

    binary_is : exponent_len 98 (drop (run_len Digit (ds ++ (98 ∷ es))) (ds ++ (98 ∷ es))) ≡ 1
        + length es
    binary_is =
        ap (λ n. exponent_len 98 (drop n (ds ++ (98 ∷ es)))) (run_of_digits ds es h)
        ∙ ap (exponent_len 98) (drop-append_seam ds (98 ∷ es))
        ∙ ap (λ c. cond c (1 + signed_len es) 0) exponent_some ∙ ap (λ n. 1 + n) exponent_size

    whole_len : length (ds ++ (98 ∷ es)) ≡ length ds + (1 + length es)
    whole_len = let n = length-append ds (98 ∷ es) in omega (arith, n)

    literal_is : literal_len (ds ++ (98 ∷ es)) ≡ length (ds ++ (98 ∷ es))
    unfolding literal_len
    literal_is = by_parts (is_hex (ds ++ (98 ∷ es))) (run_len Digit (ds ++ (98 ∷ es)))
        (exponent_len 98 (drop (run_len Digit (ds ++ (98 ∷ es))) (ds ++ (98 ∷ es)))) _ _
        (length (ds ++ (98 ∷ es)))
        (no_hex ds es h) (let b = binary_is in omega (arith, b)) (let b = binary_is in let n =
        whole_len in let r = run_of_digits ds es h in omega (arith, b, n, r))

    none_behind : run_len WordRun (drop (literal_len (ds ++ (98 ∷ es))) (ds ++ (98 ∷ es))) ≡ 0
    none_behind = ap (λ n. run_len WordRun (drop n (ds ++ (98 ∷ es)))) literal_is
        ∙ ap (run_len WordRun) (drop-length (ds ++ (98 ∷ es)))

    pub binary_alone : front (ds ++ (98 ∷ es)) ≡ Some (kind.Literal, length (ds ++ (98 ∷ es)))
    unfolding front
    binary_alone = by_literal (run_len Digit (ds ++ (98 ∷ es))) _ _ _ _ (let r =
        run_of_digits ds es h in omega (arith, r)) none_behind literal_is

pub word_is_text : (n : ℕ) (f : Format) → n < 10 ^ 64 → f.places < 64
    → IsWordText kind.Literal (word_literal n f)
word_is_text n f l p =
    let d = (decimal_is_IsNumeral_wide n l).0 in
    alone_word kind.Literal (word_literal n f) tt (binary_alone (decimal n) (place_text f.places)
    d.1 d.0 (below 64 f.places (λ k. is_exponent (place_text k)) exponents_are_whole p))
