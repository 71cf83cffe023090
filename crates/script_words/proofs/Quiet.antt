-- The lengths of tokens are those before a quiet byte.
use Rattle.std.proofs.Common.{◌≡◌, ℕ, ◌+◌, ◌==◌, ◌&&◌, ◌||◌, Bool, true, false, cond, nat_lt, List}
use Rattle.std.proofs.Common.{[], ◌∷◌, ◌++◌, drop, take, Option, Some, None, refl, sym, ap, ◌∙◌}
use Rattle.std.proofs.Common.{arith}
use Rattle.std.proofs.lemmas.List.{drop-append-le, take-append-le}
use Rattle.script_words.specs.declared.class.Symbol.{Symbol}
use Rattle.script_words.specs.declared.lex.Run.{Run}
use Rattle.script_words.specs.declared.lex.Run.TheVariants.{Word, Digit, HexDigit}
use Rattle.script_words.specs.declared.lex.TokenKind.{TokenKind}
use Rattle.script_words.specs.declared.lex.TokenKind.TheVariants as kind
use Rattle.script_words.specs.Literals.{is_word, is_in, run_len, part_len, signed_len, exponent_len}
use Rattle.script_words.specs.Literals.{scaled_len, is_hex, literal_len}
use Rattle.script_words.specs.Signs.{sign_at, reserved_word}
use Rattle.script_words.specs.Lex.{front, word_kind, sign_token}
use Rattle.script_words.proofs.Within.{run-le, point-le, of_digits, literal_from, literal-le}
use Rattle.script_words.specs.Quiet.{IsQuiet, EndsBeforeQuiet}

-- ---- before a quiet byte

run_before : (r : Run) (t rest : List ℕ) (q : ℕ) → is_in r q ≡ false
    → run_len r (t ++ (q ∷ rest)) ≡ run_len r t
run_before r [] rest q h = ap (λ b. cond b (1 + run_len r rest) 0) h
run_before r (x ∷ t) rest q h = ap (λ n. cond (is_in r x) (1 + n) 0) (run_before r t rest q h)

part_before : (mark : ℕ) (r : Run) (t rest : List ℕ) (q : ℕ) → is_in r q ≡ false
    → (q == mark) ≡ false → part_len mark r (t ++ (q ∷ rest)) ≡ part_len mark r t
part_before mark r [] rest q h m =
    ap (λ b. cond (b && nat_lt 0 (run_len r rest)) (1 + run_len r rest) 0) m
part_before mark r (x ∷ t) rest q h m =
    ap (λ n. cond (x == mark && nat_lt 0 n) (1 + n) 0) (run_before r t rest q h)

signed_before : (t rest : List ℕ) (q : ℕ) → IsQuiet q → signed_len (t ++ (q ∷ rest)) ≡ signed_len t
signed_before [] rest q h =
    let n = run_len Digit rest in
    ap (λ b. cond (b || q == 45) (cond (nat_lt 0 n) (1 + n) 0) (run_len Digit (q ∷ rest))) h.plus
    ∙ ap (λ b. cond b (cond (nat_lt 0 n) (1 + n) 0) (run_len Digit (q ∷ rest))) h.minus
    ∙ run_before Digit [] rest q h.digit
signed_before (x ∷ t) rest q h =
    let all = t ++ (q ∷ rest) in
    ap (λ n. cond (x == 43 || x == 45) (cond (nat_lt 0 n) (1 + n) 0) (run_len Digit (x ∷ all)))
    (run_before Digit t rest q h.digit)
    ∙ ap (λ m. cond (x == 43 || x == 45) (cond (nat_lt 0 (run_len Digit t))
    (1 + run_len Digit t) 0) m) (run_before Digit (x ∷ t) rest q h.digit)

exponent_before : (mark : ℕ) (t rest : List ℕ) (q : ℕ) → IsQuiet q → (q == mark) ≡ false
    → exponent_len mark (t ++ (q ∷ rest)) ≡ exponent_len mark t
exponent_before mark [] rest q h m =
    ap (λ b. cond (b && nat_lt 0 (signed_len rest)) (1 + signed_len rest) 0) m
exponent_before mark (x ∷ t) rest q h m =
    ap (λ n. cond (x == mark && nat_lt 0 n) (1 + n) 0) (signed_before t rest q h)

scaled_before : (r : Run) (mark : ℕ) (t rest : List ℕ) (q : ℕ) → IsQuiet q → is_in r q ≡ false
    → (q == mark) ≡ false → scaled_len r mark (t ++ (q ∷ rest)) ≡ scaled_len r mark t
unfolding scaled_len
scaled_before r mark t rest q h i m =
    let all = t ++ (q ∷ rest) in
    let n = run_len r t in
    let p = part_len 46 r (drop n t) in
    let point : part_len 46 r (drop n all) ≡ p = ap (part_len 46 r) (drop-append-le n t (q ∷ rest)
    (run-le r t)) ∙ part_before 46 r (drop n t) rest q i h.point in
    let behind : exponent_len mark (drop (n + p) all) ≡ exponent_len mark (drop (n + p) t) =
    ap (exponent_len mark) (drop-append-le (n + p) t (q ∷ rest) (point-le r t))
    ∙ exponent_before mark (drop (n + p) t) rest q h m in
    ap (λ w. w + part_len 46 r (drop w all)
    + exponent_len mark (drop (w + part_len 46 r (drop w all)) all)) (run_before r t rest q i)
    ∙ ap (λ x. n + x + exponent_len mark (drop (n + x) all)) point ∙ ap (λ x. n + p + x) behind

binary_before : (t rest : List ℕ) (q : ℕ)
    → IsQuiet q → exponent_len 98 (drop (run_len Digit (t ++ (q ∷ rest))) (t ++ (q ∷ rest)))
    ≡ exponent_len 98 (drop (run_len Digit t) t)
binary_before t rest q h =
    ap (λ n. exponent_len 98 (drop n (t ++ (q ∷ rest)))) (run_before Digit t rest q h.digit)
    ∙ ap (exponent_len 98) (drop-append-le (run_len Digit t) t (q ∷ rest) (run-le Digit t))
    ∙ exponent_before 98 (drop (run_len Digit t) t) rest q h h.two

digits_before : (hex : Bool) (scaled : ℕ) (t rest : List ℕ) (q : ℕ) → IsQuiet q
    → of_digits hex scaled (t ++ (q ∷ rest)) ≡ of_digits hex scaled t
digits_before hex scaled t rest q h =
    let all = t ++ (q ∷ rest) in
    let binary = exponent_len 98 (drop (run_len Digit t) t) in
    ap (λ n. literal_from hex scaled n (run_len Digit all) (scaled_len Digit 101 all))
    (binary_before t rest q h)
    ∙ ap (λ n. literal_from hex scaled binary n (scaled_len Digit 101 all))
    (run_before Digit t rest q h.digit)
    ∙ ap (λ n. literal_from hex scaled binary (run_len Digit t) n)
    (scaled_before Digit 101 t rest q h h.digit h.ten)

never : (b c : Bool) → (b && false && c) ≡ false
never true c = refl
never false c = refl

literal_before : (b : ℕ) (t rest : List ℕ) (q : ℕ) → IsQuiet q
    → literal_len (b ∷ (t ++ (q ∷ rest))) ≡ literal_len (b ∷ t)
unfolding literal_len
literal_before b [] rest q h =
    let hex : is_hex (b ∷ (q ∷ rest)) ≡ false =
    ap (λ c. b == 48 && c && nat_lt 0 (run_len HexDigit rest)) h.opening
    ∙ never (b == 48) (nat_lt 0 (run_len HexDigit rest)) in
    ap (λ c. of_digits c (scaled_len HexDigit 112 rest) (b ∷ (q ∷ rest))) hex
    ∙ digits_before false (scaled_len HexDigit 112 rest) (b ∷ []) rest q h
literal_before b (c ∷ t) rest q h =
    let all = b ∷ (c ∷ (t ++ (q ∷ rest))) in
    let hex : is_hex all ≡ is_hex (b ∷ (c ∷ t)) =
    ap (λ n. b == 48 && c == 120 && nat_lt 0 n) (run_before HexDigit t rest q h.hexadecimal) in
    ap (λ x. of_digits x (scaled_len HexDigit 112 (t ++ (q ∷ rest))) all) hex
    ∙ ap (λ n. of_digits (is_hex (b ∷ (c ∷ t))) n all)
    (scaled_before HexDigit 112 t rest q h h.hexadecimal h.power)
    ∙ digits_before (is_hex (b ∷ (c ∷ t))) (scaled_len HexDigit 112 t) (b ∷ (c ∷ t)) rest q h

-- ---- tokens

-- the token at the front, from its parts
abbrev front_from : ℕ → ℕ → ℕ → ℕ → Option Symbol → Option (TokenKind × ℕ) → Option (TokenKind × ℕ)
front_from digits literal behind word reserved sign =
    cond (nat_lt 0 digits) (cond (nat_lt 0 behind) None (Some (kind.Literal, literal)))
    (cond (nat_lt 0 word) (Some (word_kind reserved, word)) sign)

-- with a word at the front the signs are of no account
without_sign : (d l n w : ℕ) (r : Option Symbol) (a b : Option (TokenKind × ℕ)) → nat_lt 0 w ≡ true
    → front_from d l n w r a ≡ front_from d l n w r b
without_sign d l n w r a b h =
    let number = cond (nat_lt 0 n) None (Some (kind.Literal, l)) in
    ap (λ c. cond (nat_lt 0 d) number (cond c (Some (word_kind r, w)) a)) h
    ∙ sym (ap (λ c. cond (nat_lt 0 d) number (cond c (Some (word_kind r, w)) b)) h)

some_word : (n : ℕ) → nat_lt 0 (1 + n) ≡ true
some_word n = grind arith

begins_word : (b : ℕ) (bs : List ℕ) → is_word b ≡ true → nat_lt 0 (run_len Word (b ∷ bs)) ≡ true
begins_word b bs h =
    ap (λ c. nat_lt 0 (cond c (1 + run_len Word bs) 0)) h ∙ some_word (run_len Word bs)

front_before : (b q : ℕ) (bs rest : List ℕ) → is_word b ≡ true → IsQuiet q
    → front (b ∷ (bs ++ (q ∷ rest))) ≡ front (b ∷ bs)
unfolding front
front_before b q bs rest h quiet =
    let t = b ∷ bs in
    let all = b ∷ (bs ++ (q ∷ rest)) in
    let len = literal_len t in
    let w = run_len Word t in
    let behind : run_len Word (drop len all) ≡ run_len Word (drop len t) =
    ap (run_len Word) (drop-append-le len t (q ∷ rest) (literal-le t))
    ∙ run_before Word (drop len t) rest q quiet.word in
    let sign = sign_token (sign_at all) in
    ap (λ n. front_from n (literal_len all) (run_len Word (drop (literal_len all) all))
    (run_len Word all) (reserved_word (take (run_len Word all) all)) sign)
    (run_before Digit t rest q quiet.digit)
    ∙ ap (λ n. front_from (run_len Digit t) n (run_len Word (drop n all)) (run_len Word all)
    (reserved_word (take (run_len Word all) all)) sign) (literal_before b bs rest q quiet)
    ∙ ap (λ n. front_from (run_len Digit t) len n (run_len Word all)
    (reserved_word (take (run_len Word all) all)) sign) behind
    ∙ ap (λ n. front_from (run_len Digit t) len (run_len Word (drop len t)) n
    (reserved_word (take n all)) sign) (run_before Word t rest q quiet.word)
    ∙ ap (λ x. front_from (run_len Digit t) len (run_len Word (drop len t)) w
    (reserved_word x) sign) (take-append-le w t (q ∷ rest) (run-le Word t))
    ∙ without_sign (run_len Digit t) len (run_len Word (drop len t)) w
    (reserved_word (take w t)) sign (sign_token (sign_at t)) (begins_word b bs h)

pub ends_before : EndsBeforeQuiet
ends_before b q bs rest k h quiet alone = front_before b q bs rest h quiet ∙ alone
