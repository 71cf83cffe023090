-- A text has one list of tokens.
use Rattle.std.proofs.Common.{◌≡◌, ℕ, ◌+◌, ◌≤◌, false, List, ◌∷◌, length, drop, Option, Some, None}
use Rattle.std.proofs.Common.{refl, sym, ap, ◌∙◌, subst, arith}
use Rattle.std.proofs.Math.ListN.{drop_of_length-le}
use Rattle.script_words.specs.Lex.{blank_len, front as script_front}
use Rattle.fixprog.specs.declared.token.Kind.{Kind}
use Rattle.fixprog.specs.declared.token.ProgramToken.{ProgramToken}
use Rattle.fixprog.specs.Lex.{front, SameLexing, Lexes, ends, bad, token}

no_front : (text : List ℕ) (n : ℕ) → length text ≤ n → front (drop n text) ≡ None
unfolding front script_front
no_front text n h = ap front (drop_of_length-le text h)

no_more : (text : List ℕ) (k : Kind) (len : ℕ) → blank_len false text ≡ length text
    → front (drop (blank_len false text) text) ≡ Some (k, len) → ⊥
no_more text k len e f =
    let none : front (drop (blank_len false text) text) ≡ None =
    no_front text (blank_len false text) (omega arith) in
    cc

same_head : (t : ProgramToken) {ts us : List ProgramToken} {a b : Option ℕ} → SameLexing ts us a b
    → SameLexing (t ∷ ts) (t ∷ us) a b
same_head t s = record { tokens = ap (λ l. t ∷ l) s.tokens; bad = s.bad }

-- the token at the front is one
with_front : (at blank : ℕ) (text : List ℕ) (k j : Kind) (m n : ℕ) (ts us : List ProgramToken)
    (a b : Option ℕ) → k ≡ j → m ≡ n → SameLexing ts us a b
    → SameLexing (record { kind = k; start = at + blank; end = at + blank + m } ∷ ts)
    (record { kind = j; start = at + blank; end = at + blank + n } ∷ us) a b
with_front at blank text k j m n ts us a b e h s = record {
  tokens = ap (λ x. record { kind = x; start = at + blank; end = at + blank + m } ∷ ts) e
      ∙ ap (λ x. record { kind = j; start = at + blank; end = at + blank + x } ∷ ts) h
      ∙ ap (λ l. record { kind = j; start = at + blank; end = at + blank + n } ∷ l) s.tokens;
  bad = s.bad;
}

abbrev kind_in : Option (Kind × ℕ) → Kind → Kind
kind_in None k = k
kind_in (Some p) k = p.0

abbrev len_in : Option (Kind × ℕ) → ℕ → ℕ
len_in None n = n
len_in (Some p) n = p.1

pub lexed_once : {at : ℕ} {text : List ℕ} {ts us : List ProgramToken} {a b : Option ℕ}
    → Lexes at text ts a → Lexes at text us b → SameLexing ts us a b
lexed_once (ends e) (ends e') = record { tokens = refl; bad = refl }
lexed_once (ends e) (bad h n) = absurd (omega arith)
lexed_once {at} {text} (ends e) (token f l) = absurd (no_more text _ _ e f)
lexed_once (bad h n) (ends e) = absurd (omega arith)
lexed_once (bad h n) (bad h' n') = record { tokens = refl; bad = refl }
lexed_once (bad h n) (token f l) = absurd (cc (n, f))
lexed_once {at} {text} (token f l) (ends e) = absurd (no_more text _ _ e f)
lexed_once (token f l) (bad h n) = absurd (cc (n, f))
lexed_once {at} {text} {a = a} {b = b} (token {k = k} {len = m} {more = ts} f l)
    (token {k = j} {len = n} {more = us} g r) =
    let both = sym f ∙ g in
    let kinds : k ≡ j = ap (λ o. kind_in o k) both in
    let lens : m ≡ n = ap (λ o. len_in o m) both in
    let there = subst (λ x. Lexes (at + blank_len false text
    + x) (drop (blank_len false text + x) text) us b) (sym lens) r in
    with_front at (blank_len false text) text k j m n ts us a b kinds lens (lexed_once l there)
