-- A token's text by itself is that token.
use Rattle.std.proofs.Common.{◌≡◌, ℕ, zero, suc, ◌+◌, ◌-◌, ◌≤◌, ◌==◌, ◌&&◌, ◌||◌, nat_lt, cond}
use Rattle.std.proofs.Common.{Bool, true, false, List, [], ◌∷◌, take, drop, Some, None, refl, sym}
use Rattle.std.proofs.Common.{ap, ◌∙◌, subst, arith, if◌then◌else◌}
use Rattle.std.specs.Char.{is_ascii_digit}
use Rattle.std.proofs.lemmas.List.{drop-take}
use Rattle.std.proofs.lemmas.Bool.{eqb-true, and_parts}
use Rattle.script_words.specs.declared.lex.Run.{Run}
use Rattle.script_words.specs.declared.lex.Run.TheVariants.{Word, Digit, HexDigit}
use Rattle.script_words.specs.declared.lex.TokenKind.TheVariants as kind
use Rattle.script_words.specs.Literals.{is_in, run_len, part_len, signed_len, exponent_len}
use Rattle.script_words.specs.Literals.{scaled_len, is_hex, literal_len}
use Rattle.script_words.specs.Signs.{sign_at, reserved_word}
use Rattle.script_words.proofs.Within.{literal_from}
use Rattle.script_words.specs.Lex.{front, word_kind, sign_token}

-- ---- so many bytes at the front have the same part, if that isn't longer

none_is : (n : ℕ) → n ≤ 0 → 0 ≡ n
none_is n l = omega arith

run_next : (b : Bool) (n k m : ℕ) → (n ≤ m → k ≡ n) → cond b (1 + n) 0 ≤ suc m → cond b (1 + k) 0
    ≡ cond b (1 + n) 0
run_next true n k m ih h = ap (λ i. 1 + i) (ih (omega arith))
run_next false n k m ih h = refl

pub run_cut : (r : Run) (bs : List ℕ) (m : ℕ) → run_len r bs ≤ m → run_len r (take m bs)
    ≡ run_len r bs
run_cut r [] zero h = refl
run_cut r [] (suc m) h = refl
run_cut r (x ∷ xs) zero h = none_is (run_len r (x ∷ xs)) h
run_cut r (x ∷ xs) (suc m) h = run_next (is_in r x) (run_len r xs) (run_len r (take m xs)) m
    (run_cut r xs m) h

under : (b : Bool) (n m : ℕ) → nat_lt 0 n ≡ b → cond b (1 + n) 0 ≤ suc m → n ≤ m
under true n m e h = omega arith
under false n m e h = let z : n ≡ 0 = grind arith in omega arith

part_next : (a : Bool) (n k m : ℕ) → (n ≤ m → k ≡ n) → cond (a && nat_lt 0 n) (1 + n) 0 ≤ suc m
    → cond (a && nat_lt 0 k) (1 + k) 0 ≡ cond (a && nat_lt 0 n) (1 + n) 0
part_next true n k m ih h = ap (λ i. cond (nat_lt 0 i) (1 + i) 0)
    (ih (under (nat_lt 0 n) n m refl h))
part_next false n k m ih h = refl

part_cut : (mark : ℕ) (r : Run) (bs : List ℕ) (m : ℕ) → part_len mark r bs ≤ m
    → part_len mark r (take m bs) ≡ part_len mark r bs
part_cut mark r [] zero h = refl
part_cut mark r [] (suc m) h = refl
part_cut mark r (x ∷ xs) zero h = none_is (part_len mark r (x ∷ xs)) h
part_cut mark r (x ∷ xs) (suc m) h = part_next (x == mark) (run_len r xs) (run_len r (take m xs)) m
    (run_cut r xs m) h

signed_next : (c : Bool) (x : ℕ) (xs : List ℕ) (m : ℕ)
    → cond c (cond (nat_lt 0 (run_len Digit xs)) (1 + run_len Digit xs) 0) (run_len Digit (x ∷ xs))
    ≤ suc m
    → cond c (cond (nat_lt 0 (run_len Digit (take m xs))) (1 + run_len Digit (take m xs)) 0)
    (run_len Digit (x ∷ take m xs)) ≡ cond c (cond (nat_lt 0 (run_len Digit xs)) (1
    + run_len Digit xs) 0) (run_len Digit (x ∷ xs))
signed_next true x xs m h = part_next true (run_len Digit xs) (run_len Digit (take m xs)) m
    (run_cut Digit xs m) h
signed_next false x xs m h = run_cut Digit (x ∷ xs) (suc m) h

signed_cut : (bs : List ℕ) (m : ℕ) → signed_len bs ≤ m → signed_len (take m bs) ≡ signed_len bs
signed_cut [] zero h = refl
signed_cut [] (suc m) h = refl
signed_cut (x ∷ xs) zero h = none_is (signed_len (x ∷ xs)) h
signed_cut (x ∷ xs) (suc m) h = signed_next (x == 43 || x == 45) x xs m h

exponent_cut : (mark : ℕ) (bs : List ℕ) (m : ℕ) → exponent_len mark bs ≤ m
    → exponent_len mark (take m bs) ≡ exponent_len mark bs
exponent_cut mark [] zero h = refl
exponent_cut mark [] (suc m) h = refl
exponent_cut mark (x ∷ xs) zero h = none_is (exponent_len mark (x ∷ xs)) h
exponent_cut mark (x ∷ xs) (suc m) h = part_next (x == mark) (signed_len xs)
    (signed_len (take m xs)) m (signed_cut xs m) h

rest_cut : (n m : ℕ) (bs : List ℕ) → n ≤ m → drop n (take m bs) ≡ take (m - n) (drop n bs)
rest_cut n m bs h = let e : m ≡ n + (m - n) = omega arith in ap (λ k. drop n (take k bs)) e
    ∙ drop-take n (m - n) bs

scaled_cut : (r : Run) (mark : ℕ) (bs : List ℕ) (m : ℕ) → scaled_len r mark bs ≤ m
    → scaled_len r mark (take m bs) ≡ scaled_len r mark bs
unfolding scaled_len
scaled_cut r mark bs m h =
    let w = run_len r bs in
    let p = part_len 46 r (drop w bs) in
    let e = exponent_len mark (drop (w + p) bs) in
    let a : run_len r (take m bs) ≡ w = run_cut r bs m (omega arith) in
    let b : part_len 46 r (drop w (take m bs)) ≡ p =
    ap (part_len 46 r) (rest_cut w m bs (omega arith))
    ∙ part_cut 46 r (drop w bs) (m - w) (omega arith) in
    let d : exponent_len mark (drop (w + p) (take m bs)) ≡ e =
    ap (exponent_len mark) (rest_cut (w + p) m bs (omega arith))
    ∙ exponent_cut mark (drop (w + p) bs) (m - (w + p)) (omega arith) in
    ap (λ i. i + part_len 46 r (drop i (take m bs))
    + exponent_len mark (drop (i + part_len 46 r (drop i (take m bs))) (take m bs))) a
    ∙ ap (λ i. w + i + exponent_len mark (drop (w + i) (take m bs))) b ∙ ap (λ i. w + p + i) d

binary_cut : (bs : List ℕ) (m : ℕ) → run_len Digit bs
    + exponent_len 98 (drop (run_len Digit bs) bs) ≤ m
    → exponent_len 98 (drop (run_len Digit (take m bs)) (take m bs))
    ≡ exponent_len 98 (drop (run_len Digit bs) bs)
binary_cut bs m h =
    let w = run_len Digit bs in
    ap (λ i. exponent_len 98 (drop i (take m bs))) (run_cut Digit bs m (omega arith))
    ∙ ap (exponent_len 98) (rest_cut w m bs (omega arith))
    ∙ exponent_cut 98 (drop w bs) (m - w) (omega arith)

-- ---- literals

hex_next : (c : Bool) (n k m : ℕ) → (n ≤ m → k ≡ n) → (c && nat_lt 0 n) ≡ false → (c && nat_lt 0 k)
    ≡ false
hex_next false n k m ih h = refl
hex_next true n k m ih h = let z : n ≡ 0 = grind arith in ap (nat_lt 0) (ih (omega arith)) ∙ h

hex_false : (bs : List ℕ) (m : ℕ) → is_hex bs ≡ false → is_hex (take m bs) ≡ false
hex_false [] zero h = refl
hex_false [] (suc m) h = refl
hex_false (a ∷ []) zero h = refl
hex_false (a ∷ []) (suc zero) h = refl
hex_false (a ∷ []) (suc (suc m)) h = refl
hex_false (a ∷ (b ∷ bs)) zero h = refl
hex_false (a ∷ (b ∷ bs)) (suc zero) h = refl
hex_false (a ∷ (b ∷ bs)) (suc (suc m)) h = hex_next (a == 48 && b == 120) (run_len HexDigit bs)
    (run_len HexDigit (take m bs)) m (run_cut HexDigit bs m) h

hex_true : (bs : List ℕ) (m : ℕ) → is_hex bs ≡ true → 2 + run_len HexDigit (drop 2 bs) ≤ m
    → is_hex (take m bs) ≡ true
hex_true [] m h l = absurd (cc)
hex_true (a ∷ []) m h l = absurd (cc)
hex_true (a ∷ (b ∷ bs)) zero h l = absurd (omega arith)
hex_true (a ∷ (b ∷ bs)) (suc zero) h l = absurd (omega arith)
hex_true (a ∷ (b ∷ bs)) (suc (suc m)) h l = ap (λ n. a == 48 && b == 120 && nat_lt 0 n)
    (run_cut HexDigit bs m (omega arith)) ∙ h

scaled_above : (r : Run) (mark : ℕ) (bs : List ℕ) → run_len r bs ≤ scaled_len r mark bs
unfolding scaled_len
scaled_above r mark bs = omega arith

plain_by : (b : Bool) (bs : List ℕ) (m : ℕ) → nat_lt 0
    (exponent_len 98 (drop (run_len Digit bs) bs)) ≡ b
    → cond b (run_len Digit bs + exponent_len 98 (drop (run_len Digit bs) bs))
    (scaled_len Digit 101 bs) ≤ m
    → cond (nat_lt 0 (exponent_len 98 (drop (run_len Digit (take m bs)) (take m bs))))
    (run_len Digit (take m bs) + exponent_len 98
    (drop (run_len Digit (take m bs)) (take m bs))) (scaled_len Digit 101 (take m bs))
    ≡ cond (nat_lt 0 (exponent_len 98 (drop (run_len Digit bs) bs))) (run_len Digit bs
    + exponent_len 98 (drop (run_len Digit bs) bs)) (scaled_len Digit 101 bs)
plain_by true bs m e h =
    let w = run_len Digit bs in
    let x = exponent_len 98 (drop w bs) in
    let y = binary_cut bs m h in
    ap (λ i. cond (nat_lt 0 i) (run_len Digit (take m bs) + i) (scaled_len Digit 101 (take m bs))) y
    ∙ ap (λ c. cond c (run_len Digit (take m bs) + x) (scaled_len Digit 101 (take m bs))) e
    ∙ ap (λ i. i + x) (run_cut Digit bs m (omega arith))
    ∙ sym (ap (λ c. cond c (w + x) (scaled_len Digit 101 bs)) e)
plain_by false bs m e h =
    let w = run_len Digit bs in
    let x = exponent_len 98 (drop w bs) in
    let z : x ≡ 0 = grind arith in
    let above = scaled_above Digit 101 bs in
    let y = binary_cut bs m (omega (arith, z, above)) in
    ap (λ i. cond (nat_lt 0 i) (run_len Digit (take m bs) + i) (scaled_len Digit 101 (take m bs))) y
    ∙ ap (λ c. cond c (run_len Digit (take m bs) + x) (scaled_len Digit 101 (take m bs))) e
    ∙ scaled_cut Digit 101 bs m h ∙ sym (ap (λ c. cond c (w + x) (scaled_len Digit 101 bs)) e)

literal_by : (b : Bool) (bs : List ℕ) (m : ℕ) → is_hex bs ≡ b → literal_len bs ≤ m
    → literal_len (take m bs) ≡ literal_len bs
unfolding literal_len
literal_by true bs m e h =
    let all : 2 + scaled_len HexDigit 112 (drop 2 bs) ≤ m =
    subst (λ c. literal_from c (scaled_len HexDigit 112 (drop 2 bs))
    (exponent_len 98 (drop (run_len Digit bs) bs)) (run_len Digit bs) (scaled_len Digit 101 bs)
    ≤ m) e h in
    let above = scaled_above HexDigit 112 (drop 2 bs) in
    ap (λ c. literal_from c (scaled_len HexDigit 112 (drop 2 (take m bs)))
    (exponent_len 98 (drop (run_len Digit (take m bs)) (take m bs)))
    (run_len Digit (take m bs)) (scaled_len Digit 101 (take m bs)))
    (hex_true bs m e (omega (arith, above)))
    ∙ ap (λ i. 2 + i) (ap (scaled_len HexDigit 112) (rest_cut 2 m bs (omega arith))
    ∙ scaled_cut HexDigit 112 (drop 2 bs) (m - 2) (omega arith))
    ∙ sym (ap (λ c. literal_from c (scaled_len HexDigit 112 (drop 2 bs))
    (exponent_len 98 (drop (run_len Digit bs) bs)) (run_len Digit bs)
    (scaled_len Digit 101 bs)) e)
literal_by false bs m e h =
    let all : cond (nat_lt 0 (exponent_len 98 (drop (run_len Digit bs) bs))) (run_len Digit bs
    + exponent_len 98 (drop (run_len Digit bs) bs)) (scaled_len Digit 101 bs) ≤ m =
    subst (λ c. literal_from c (scaled_len HexDigit 112 (drop 2 bs))
    (exponent_len 98 (drop (run_len Digit bs) bs)) (run_len Digit bs) (scaled_len Digit 101 bs)
    ≤ m) e h in
    ap (λ c. literal_from c (scaled_len HexDigit 112 (drop 2 (take m bs)))
    (exponent_len 98 (drop (run_len Digit (take m bs)) (take m bs)))
    (run_len Digit (take m bs)) (scaled_len Digit 101 (take m bs))) (hex_false bs m e)
    ∙ plain_by (nat_lt 0 (exponent_len 98 (drop (run_len Digit bs) bs))) bs m refl all
    ∙ sym (ap (λ c. literal_from c (scaled_len HexDigit 112 (drop 2 bs))
    (exponent_len 98 (drop (run_len Digit bs) bs)) (run_len Digit bs)
    (scaled_len Digit 101 bs)) e)

pub literal_cut : (bs : List ℕ) (m : ℕ) → literal_len bs ≤ m → literal_len (take m bs)
    ≡ literal_len bs
literal_cut bs m h = literal_by (is_hex bs) bs m refl h

-- ---- tokens

take-take : (n : ℕ) (xs : List ℕ) → take n (take n xs) ≡ take n xs
take-take zero xs = refl
take-take (suc n) [] = refl
take-take (suc n) (x ∷ xs) = ap (λ l. x ∷ l) (take-take n xs)

-- A name or a reserved word is one by itself.
pub word_by_itself : (bs : List ℕ) → nat_lt 0 (run_len Digit bs) ≡ false
    → nat_lt 0 (run_len Word bs) ≡ true
    → front (take (run_len Word bs) bs) ≡ Some
    (word_kind (reserved_word (take (run_len Word bs) bs)), run_len Word bs)
unfolding front
word_by_itself bs d w =
    let n = run_len Word bs in
    let t = take n bs in
    let z : run_len Digit bs ≡ 0 = grind arith in
    let digits : nat_lt 0 (run_len Digit t) ≡ false =
    ap (nat_lt 0) (run_cut Digit bs n (omega arith)) ∙ d in
    let same : run_len Word t ≡ n = run_cut Word bs n (omega arith) in
    ap (λ c. if c then (if nat_lt 0 (run_len Word (drop (literal_len t) t)) then None
    else Some (kind.Literal, literal_len t))
    else (if nat_lt 0 (run_len Word t) then Some
    (word_kind (reserved_word (take (run_len Word t) t)), run_len Word t)
    else sign_token (sign_at t))) digits
    ∙ ap (λ i. if nat_lt 0 i then Some (word_kind (reserved_word (take i t)), i)
    else sign_token (sign_at t)) same
    ∙ ap (λ c. if c then Some (word_kind (reserved_word (take n t)), n)
    else sign_token (sign_at t)) w
    ∙ ap (λ l. Some (word_kind (reserved_word l), n)) (take-take n bs)

-- where digits begin it, they aren't more than the literal
hex_digits : (bs : List ℕ) → is_hex bs ≡ true → run_len Digit bs ≤ 2
hex_digits [] h = omega arith
hex_digits (a ∷ []) h = absurd (cc)
hex_digits (a ∷ (b ∷ bs)) h =
    let second : b ≡ 120 = eqb-true b 120 (and_parts (a == 48) (b == 120)
    (and_parts (a == 48 && b == 120) (nat_lt 0 (run_len HexDigit bs)) h).0).1 in
    at_most_one (is_ascii_digit a) (run_len Digit (b ∷ bs))
    (ap (λ n. cond (is_ascii_digit n) (1 + run_len Digit bs) 0) second)
  where
    at_most_one : (c : Bool) (n : ℕ) → n ≡ 0 → cond c (1 + n) 0 ≤ 2
    at_most_one true n e = omega arith
    at_most_one false n e = omega arith

digits_by : (b c : Bool) (bs : List ℕ) → is_hex bs ≡ b
    → nat_lt 0 (exponent_len 98 (drop (run_len Digit bs) bs)) ≡ c
    → run_len Digit bs ≤ literal_from b (scaled_len HexDigit 112 (drop 2 bs))
    (exponent_len 98 (drop (run_len Digit bs) bs)) (run_len Digit bs) (scaled_len Digit 101 bs)
digits_by true c bs e f = let h = hex_digits bs e in omega arith
digits_by false true bs e f =
    let w = run_len Digit bs in
    let x = exponent_len 98 (drop w bs) in
    subst (λ c. w ≤ cond c (w + x) (scaled_len Digit 101 bs)) (sym f) (omega arith)
digits_by false false bs e f =
    let w = run_len Digit bs in
    let x = exponent_len 98 (drop w bs) in
    subst (λ c. w ≤ cond c (w + x) (scaled_len Digit 101 bs)) (sym f) (scaled_above Digit 101 bs)

digits_within : (bs : List ℕ) → run_len Digit bs ≤ literal_len bs
unfolding literal_len
digits_within bs =
    let w = run_len Digit bs in
    let x = exponent_len 98 (drop w bs) in
    subst (λ c. w ≤ literal_from c (scaled_len HexDigit 112 (drop 2 bs)) x w
    (scaled_len Digit 101 bs)) refl (digits_by (is_hex bs) (nat_lt 0 x) bs refl refl)

-- A literal is one by itself.
pub literal_by_itself : (bs : List ℕ) → nat_lt 0 (run_len Digit bs) ≡ true
    → front (take (literal_len bs) bs) ≡ Some (kind.Literal, literal_len bs)
unfolding front
literal_by_itself bs d =
    let n = literal_len bs in
    let t = take n bs in
    let digits : nat_lt 0 (run_len Digit t) ≡ true =
    ap (nat_lt 0) (run_cut Digit bs n (digits_within bs)) ∙ d in
    let same : literal_len t ≡ n = literal_cut bs n (omega arith) in
    let none : drop n t ≡ [] = rest_cut n n bs (omega arith)
    ∙ none_left (n - n) (drop n bs) (omega arith) in
    ap (λ c. if c then (if nat_lt 0 (run_len Word (drop (literal_len t) t)) then None
    else Some (kind.Literal, literal_len t))
    else (if nat_lt 0 (run_len Word t) then Some
    (word_kind (reserved_word (take (run_len Word t) t)), run_len Word t)
    else sign_token (sign_at t))) digits
    ∙ ap (λ i. if nat_lt 0 (run_len Word (drop i t)) then None else Some (kind.Literal, i)) same
    ∙ ap (λ l. if nat_lt 0 (run_len Word l) then None else Some (kind.Literal, n)) none
  where
    none_left : (k : ℕ) (xs : List ℕ) → k ≡ 0 → take k xs ≡ []
    none_left k xs e = ap (λ i. take i xs) e
