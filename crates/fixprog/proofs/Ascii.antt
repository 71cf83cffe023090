-- The texts of names and literals are ASCII.
use Rattle.std.proofs.Common.{◌≡◌, ℕ, suc, ◌+◌, ◌<◌, ◌==◌, ◌&&◌, ◌||◌, nat_lt, cond, Bool, true}
use Rattle.std.proofs.Common.{false, List, [], ◌∷◌, ◌++◌, take, drop, refl, sym, subst, arith}
use Rattle.std.specs.List.{AllByRecursion}
use Rattle.std.specs.Char.{is_ascii_digit, is_ascii_hexdigit}
use Rattle.std.proofs.Math.Seq.{take-add}
use Rattle.std.proofs.lemmas.Bool.{and_parts}
use Rattle.script_words.specs.declared.lex.Run.{Run}
use Rattle.script_words.specs.declared.lex.Run.TheVariants.{Word, Digit, HexDigit}
use Rattle.script_words.specs.Literals.{is_word, is_in, run_len, part_len, signed_len, exponent_len}
use Rattle.script_words.specs.Literals.{scaled_len, is_hex, literal_len}

-- each byte is ASCII
abbrev pub Plain : List ℕ → Type 0
Plain bs = AllByRecursion (λ b. b < 128) bs

pub plain_append : (xs ys : List ℕ) → Plain xs → Plain ys → Plain (xs ++ ys)
plain_append [] ys h k = k
plain_append (x ∷ xs) ys h k = (h.0, plain_append xs ys h.1 k)

word_below : (b : ℕ) → is_word b ≡ true → b < 128
word_below b h = grind arith

digit_below : (b : ℕ) → is_ascii_digit b ≡ true → b < 128
digit_below b h = grind arith

hex_below : (b : ℕ) → is_ascii_hexdigit b ≡ true → b < 128
hex_below b h = grind arith

in_below : (r : Run) (b : ℕ) → is_in r b ≡ true → b < 128
in_below Word b h = word_below b h
in_below Digit b h = digit_below b h
in_below HexDigit b h = hex_below b h

-- ---- fronts of so many bytes

abbrev Front : ℕ → List ℕ → Type 0
Front n bs = Plain (take n bs)

front_none : (bs : List ℕ) → Front 0 bs
front_none bs = tt

front_cons : (n x : ℕ) (xs : List ℕ) → x < 128 → Front n xs → Front (1 + n) (x ∷ xs)
front_cons n x xs h k = let e : suc n ≡ 1 + n = omega arith in
    subst (λ m. Front m (x ∷ xs)) e (h, k)

front_add : (n m : ℕ) (bs : List ℕ) → Front n bs → Front m (drop n bs) → Front (n + m) bs
front_add n m bs h k = subst Plain (sym (take-add n m bs))
    (plain_append (take n bs) (take m (drop n bs)) h k)

-- as many where the test is true
front_if : (b : Bool) (n : ℕ) (bs : List ℕ) → (b ≡ true → Front n bs) → Front (cond b n 0) bs
front_if true n bs h = h refl
front_if false n bs h = tt

front_either : (b : Bool) (n m : ℕ) (bs : List ℕ) → Front n bs → Front m bs → Front (cond b n m) bs
front_either true n m bs h k = h
front_either false n m bs h k = k

same_below : (x k : ℕ) → k < 128 → (x == k) ≡ true → x < 128
same_below x k h e = grind arith

run_plain : (r : Run) (bs : List ℕ) → Front (run_len r bs) bs
run_plain r [] = tt
run_plain r (x ∷ xs) = front_if (is_in r x) (1 + run_len r xs) (x ∷ xs)
    (λ h. front_cons (run_len r xs) x xs (in_below r x h) (run_plain r xs))

part_plain : (mark : ℕ) (r : Run) (bs : List ℕ) → mark < 128 → Front (part_len mark r bs) bs
part_plain mark r [] h = tt
part_plain mark r (x ∷ xs) h =
    front_if (x == mark && nat_lt 0 (run_len r xs)) (1 + run_len r xs) (x ∷ xs)
    (λ e. front_cons (run_len r xs) x xs (same_below x mark h (and_parts _ _ e).0)
    (run_plain r xs))

sign_below : (x : ℕ) → (x == 43 || x == 45) ≡ true → x < 128
sign_below x h = grind arith

signed_by : (c : Bool) (x : ℕ) (xs : List ℕ) → (x == 43 || x == 45) ≡ c
    → Front (cond c (cond (nat_lt 0 (run_len Digit xs)) (1 + run_len Digit xs) 0)
    (run_len Digit (x ∷ xs))) (x ∷ xs)
signed_by true x xs e = front_if (nat_lt 0 (run_len Digit xs)) (1 + run_len Digit xs) (x ∷ xs)
    (λ h. front_cons (run_len Digit xs) x xs (sign_below x e) (run_plain Digit xs))
signed_by false x xs e = run_plain Digit (x ∷ xs)

signed_plain : (bs : List ℕ) → Front (signed_len bs) bs
signed_plain [] = tt
signed_plain (x ∷ xs) = signed_by (x == 43 || x == 45) x xs refl

exponent_plain : (mark : ℕ) (bs : List ℕ) → mark < 128 → Front (exponent_len mark bs) bs
exponent_plain mark [] h = tt
exponent_plain mark (x ∷ xs) h =
    front_if (x == mark && nat_lt 0 (signed_len xs)) (1 + signed_len xs) (x ∷ xs)
    (λ e. front_cons (signed_len xs) x xs (same_below x mark h (and_parts _ _ e).0)
    (signed_plain xs))

scaled_plain : (r : Run) (mark : ℕ) (bs : List ℕ) → mark < 128 → Front (scaled_len r mark bs) bs
unfolding scaled_len
scaled_plain r mark bs h =
    let n = run_len r bs in
    let p = part_len 46 r (drop n bs) in
    front_add (n + p) (exponent_len mark (drop (n + p) bs)) bs
    (front_add n p bs (run_plain r bs) (part_plain 46 r (drop n bs) (omega arith)))
    (exponent_plain mark (drop (n + p) bs) h)

hex_plain : (bs : List ℕ) → is_hex bs ≡ true → Front 2 bs
hex_plain [] h = absurd (cc)
hex_plain (a ∷ []) h = absurd (cc)
hex_plain (a ∷ (b ∷ bs)) h =
    let first = and_parts (a == 48 && b == 120) (nat_lt 0 (run_len HexDigit bs)) h in
    let both = and_parts (a == 48) (b == 120) first.0 in
    (same_below a 48 (omega arith) both.0, (same_below b 120 (omega arith) both.1, tt))

literal_by : (c : Bool) (bs : List ℕ) → is_hex bs ≡ c
    → Front (cond c (2 + scaled_len HexDigit 112 (drop 2 bs))
    (cond (nat_lt 0 (exponent_len 98 (drop (run_len Digit bs) bs))) (run_len Digit bs
    + exponent_len 98 (drop (run_len Digit bs) bs)) (scaled_len Digit 101 bs))) bs
literal_by true bs e = front_add 2 (scaled_len HexDigit 112 (drop 2 bs)) bs (hex_plain bs e)
    (scaled_plain HexDigit 112 (drop 2 bs) (omega arith))
literal_by false bs e =
    let n = run_len Digit bs in
    let m = exponent_len 98 (drop n bs) in
    front_either (nat_lt 0 m) (n + m) (scaled_len Digit 101 bs) bs
    (front_add n m bs (run_plain Digit bs) (exponent_plain 98 (drop n bs) (omega arith)))
    (scaled_plain Digit 101 bs (omega arith))

pub literal_plain : (bs : List ℕ) → Front (literal_len bs) bs
unfolding literal_len
literal_plain bs = literal_by (is_hex bs) bs refl

pub word_plain : (bs : List ℕ) → Front (run_len Word bs) bs
word_plain bs = run_plain Word bs
