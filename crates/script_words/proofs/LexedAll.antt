-- Each text has a list of tokens.
use Rattle.std.proofs.Common.{◌≡◌, ℕ, zero, suc, ◌+◌, ◌<◌, ◌≤◌, ◌==◌, ◌||◌, not, false, true, Bool}
use Rattle.std.proofs.Common.{List, [], ◌∷◌, length, drop, Option, Some, None, refl, arith}
use Rattle.std.proofs.Common.{length-drop, if◌then◌else◌, ⊎_elim}
use Rattle.std.proofs.lemmas.Bool.{cases_lt}
use Rattle.script_words.specs.declared.lex.TokenKind.{TokenKind}
use Rattle.script_words.specs.declared.lex.Token.{Token}
use Rattle.script_words.specs.Lex.{is_blank, blank_len, front, Lexes, ends, bad, token, LexesAll}
use Rattle.script_words.specs.Lex.{TokensAreFew}
use Rattle.script_words.proofs.Fronts.{front_some}

-- ---- each token has a byte or more, so a shorter text is behind the first

-- some tokens
abbrev IsLexed : ℕ → List ℕ → Type 0
IsLexed at text = (ts : List Token) × (end : Option ℕ) × Lexes at text ts end

blank_within : (inside : Bool) (text : List ℕ) → blank_len inside text ≤ length text
blank_within inside [] = omega arith
blank_within inside (b ∷ bs) = one_more (inside || is_blank b || b == 35) _
    (blank_within (if inside then not (b == 10) else b == 35) bs)
  where
    one_more : (t : Bool) (n : ℕ) → n ≤ length bs → (if t then 1 + n else 0) ≤ suc (length bs)
    one_more true n h = omega arith
    one_more false n h = omega arith

next_lexed : (at : ℕ) (text : List ℕ) (o : Option (TokenKind × ℕ))
    → front (drop (blank_len false text) text) ≡ o → blank_len false text < length text
    → ((from n : ℕ) → blank_len false text < n → IsLexed from (drop n text)) → IsLexed at text
next_lexed at text None e h more = ([], Some _, bad h e)
next_lexed at text (Some p) e h more =
    let some = front_some (drop (blank_len false text) text) p.0 p.1 e in
    let rest = more (at + blank_len false text + p.1) (blank_len false text + p.1) (omega arith) in
    (_ ∷ rest.0, rest.1, token e rest.2)

lexed_below : (bound at : ℕ) (text : List ℕ) → length text < bound → IsLexed at text
lexed_below zero at text h = absurd (omega arith)
lexed_below (suc bound) at text h = ⊎_elim
    (λ some. next_lexed at text _ refl some
    (λ from n k. lexed_below bound from (drop n text) (omega (arith, length-drop n text))))
    (λ none. ([], None, ends (omega (arith, blank_within false text))))
    (cases_lt (blank_len false text) (length text))

pub lexed_all : LexesAll
lexed_all text = lexed_below (suc (length text)) 0 text (omega arith)

-- ---- and no more of them than bytes

nothing_ahead : front [] ≡ None
unfolding front
nothing_ahead = refl

dropped_some : (n : ℕ) (text : List ℕ) (k : TokenKind) (len : ℕ)
    → front (drop n text) ≡ Some (k, len) → 1 ≤ length text
dropped_some n (b ∷ text) k len e = omega arith
dropped_some zero [] k len e = absurd (cc (nothing_ahead, e))
dropped_some (suc n) [] k len e = absurd (cc (nothing_ahead, e))

pub tokens_few : TokensAreFew
tokens_few at text ts end (ends e) = omega arith
tokens_few at text ts end (bad l e) = omega arith
tokens_few at text ts end (token {k = k} {len = len} {more = more} e rest) =
    let n = blank_len false text in
    let some = front_some (drop n text) k len e in
    let one = dropped_some n text k len e in
    let h = tokens_few (at + n + len) (drop (n + len) text) more end rest in
    let d = length-drop (n + len) text in
    omega (arith, some, one, h, d)
