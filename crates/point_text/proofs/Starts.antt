-- The tokens of a text rise: each begins behind those before it, and before the byte that begins
-- none.
use Rattle.std.specs.Prelude.{◌≡◌, ℕ, zero, suc, ◌+◌, ◌<◌, ◌≤◌, List, [], ◌∷◌, length, drop, map}
use Rattle.std.specs.Prelude.{slice_get, Option, Some, None, false, refl}
use Rattle.std.proofs.Common.{arith, sym, ◌∙◌, length-drop}
use Rattle.std.proofs.lemmas.Option.{none-some, same_Some}
use Rattle.script_words.specs.declared.lex.TokenKind.{TokenKind}
use Rattle.script_words.specs.declared.lex.Token.{Token}
use Rattle.script_words.specs.Lex.{blank_len, front, Lexes, ends, bad, token}
use Rattle.script_words.proofs.Fronts.{front_some}

nothing_ahead : front [] ≡ None
unfolding front
nothing_ahead = refl

-- where a token begins, the text hasn't ended
before_end : (n : ℕ) (text : List ℕ) (k : TokenKind) (len : ℕ)
    → front (drop n text) ≡ Some (k, len) → n < length text
before_end n [] k len e = absurd (none-some _ (sym nothing_ahead ∙ empty n ∙ e))
  where
    empty : (n : ℕ) → front [] ≡ front (drop n [])
    empty zero = refl
    empty (suc n) = refl
before_end zero (b ∷ text) k len e = omega arith
before_end (suc n) (b ∷ text) k len e = let h = before_end n text k len e in omega arith

-- ---- where tokens begin

abbrev pub starts : List Token → List ℕ
starts ts = map (λ t. t.start) ts

-- from the place on, and before the end
pub start_within : (at : ℕ) (text : List ℕ) (ts : List Token) (end : Option ℕ)
    → Lexes at text ts end
    → (i a : ℕ) → slice_get (starts ts) i ≡ Some a → (at ≤ a) × (a < at + length text)
start_within at text ts end (ends e) i a h = absurd (none-some _ h)
start_within at text ts end (bad l e) i a h = absurd (none-some _ h)
start_within at text ts end (token {k = k} {len = len} {more = more} e rest) zero a h =
    let n = blank_len false text in
    let s : at + n ≡ a = same_Some _ _ h in
    let l : n < length text = before_end n text k len e in
    (omega arith, omega arith)
start_within at text ts end (token {k = k} {len = len} {more = more} e rest) (suc i) a h =
    let n = blank_len false text in
    let r = start_within (at + n + len) (drop (n + len) text) more end rest i a h in
    let d = length-drop (n + len) text in
    (omega (arith, r.0), omega (arith, r.0, r.1, d))

pub starts_rise : (at : ℕ) (text : List ℕ) (ts : List Token) (end : Option ℕ) → Lexes at text ts end
    → (i j a b : ℕ) → i < j → slice_get (starts ts) i ≡ Some a → slice_get (starts ts) j ≡ Some b
    → a < b
starts_rise at text ts end (ends e) i j a b l h g = absurd (none-some _ h)
starts_rise at text ts end (bad k e) i j a b l h g = absurd (none-some _ h)
starts_rise at text ts end (token e rest) i zero a b l h g = absurd (omega arith)
starts_rise at text ts end (token {k = k} {len = len} {more = more} e rest) zero (suc j) a b l h g =
    let n = blank_len false text in
    let s : at + n ≡ a = same_Some _ _ h in
    let some = front_some (drop n text) k len e in
    let r = start_within (at + n + len) (drop (n + len) text) more end rest j b g in
    omega (arith, some, r.0)
starts_rise at text ts end (token {k = k} {len = len} {more = more} e rest) (suc i) (suc j) a b l h
    g =
    let n = blank_len false text in
    starts_rise (at + n + len) (drop (n + len) text) more end rest i j a b (omega arith) h g

-- ---- the byte that begins none

pub bad_within : (at : ℕ) (text : List ℕ) (ts : List Token) (end : Option ℕ) → Lexes at text ts end
    → (b : ℕ) → end ≡ Some b → (at ≤ b) × (b < at + length text)
bad_within at text ts end (ends e) b h = absurd (none-some _ h)
bad_within at text ts end (bad l e) b h =
    let s : at + blank_len false text ≡ b = same_Some _ _ h in
    (omega arith, omega arith)
bad_within at text ts end (token {k = k} {len = len} {more = more} e rest) b h =
    let n = blank_len false text in
    let r = bad_within (at + n + len) (drop (n + len) text) more end rest b h in
    let d = length-drop (n + len) text in
    (omega (arith, r.0), omega (arith, r.0, r.1, d))

pub starts_before : (at : ℕ) (text : List ℕ) (ts : List Token) (end : Option ℕ)
    → Lexes at text ts end
    → (i a b : ℕ) → slice_get (starts ts) i ≡ Some a → end ≡ Some b → a < b
starts_before at text ts end (ends e) i a b h g = absurd (none-some _ h)
starts_before at text ts end (bad l e) i a b h g = absurd (none-some _ h)
starts_before at text ts end (token {k = k} {len = len} {more = more} e rest) zero a b h g =
    let n = blank_len false text in
    let s : at + n ≡ a = same_Some _ _ h in
    let some = front_some (drop n text) k len e in
    let r = bad_within (at + n + len) (drop (n + len) text) more end rest b g in
    omega (arith, some, r.0)
starts_before at text ts end (token {k = k} {len = len} {more = more} e rest) (suc i) a b h g =
    let n = blank_len false text in
    starts_before (at + n + len) (drop (n + len) text) more end rest i a b h g
