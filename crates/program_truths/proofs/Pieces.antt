-- Printing tokens and reading them back.
use Rattle.std.proofs.Common.{◌≡◌, ℕ, ◌+◌, ◌-◌, false, List, [], ◌∷◌, ◌++◌, length, drop, take, map}
use Rattle.std.proofs.Common.{Some, None, option_to_list, refl, sym, ap, ◌∙◌, subst, arith}
use Rattle.std.proofs.Common.{append_assoc, length-append}
use Rattle.std.proofs.Math.Seq.{drop-append_seam, take-append_seam, drop-append-add}
use Rattle.script_words.specs.declared.lex.TokenKind.{TokenKind}
use Rattle.script_words.specs.declared.lex.Token.{Token}
use Rattle.script_words.specs.Lex.{blank_len, front, Lexes, ends, token}
use Rattle.script_words.specs.Words.{Word}
use Rattle.script_words.specs.Named.{Naming, kind_word, token_text, token_word, naming_after}
use Rattle.script_words.specs.Named.{defined_by, words_from}

-- a token's text with the blanks before it
pub record Piece : Type 0 where
  pub gap : List ℕ
  pub kind : TokenKind
  pub text : List ℕ

abbrev pub printed : List Piece → List ℕ → List ℕ
printed [] tail = tail
printed (p ∷ ps) tail = p.gap ++ (p.text ++ printed ps tail)

abbrev pub token_at : ℕ → Piece → Token
token_at at p = record {
  kind = p.kind;
  start = at + length p.gap;
  end = at + length p.gap
      + length p.text;
}

abbrev pub tokens_at : ℕ → List Piece → List Token
tokens_at at [] = []
tokens_at at (p ∷ ps) = token_at at p ∷ tokens_at (at + length p.gap + length p.text) ps

-- each text is one token where it stands, behind blanks
abbrev pub AreApart : List Piece → List ℕ → Type 0
AreApart [] tail = Unit {0}
AreApart (p ∷ ps) tail =
    (blank_len false (p.gap ++ (p.text ++ printed ps tail)) ≡ length p.gap)
    × (front (p.text ++ printed ps tail) ≡ Some (p.kind, length p.text)) × AreApart ps tail

pub printed-append : (ps qs : List Piece) (tail : List ℕ) → printed (ps ++ qs) tail
    ≡ printed ps (printed qs tail)
printed-append [] qs tail = refl
printed-append (p ∷ ps) qs tail = ap (λ l. p.gap ++ (p.text ++ l)) (printed-append ps qs tail)

pub apart-append : (ps qs : List Piece) (tail : List ℕ) → AreApart ps (printed qs tail)
    → AreApart qs tail → AreApart (ps ++ qs) tail
apart-append [] qs tail h k = k
apart-append (p ∷ ps) qs tail h k = (
  ap (λ l. blank_len false (p.gap ++ (p.text ++ l))) (printed-append ps qs tail) ∙ h.0,
  ap (λ l. front (p.text ++ l)) (printed-append ps qs tail) ∙ h.1,
  apart-append ps qs tail h.2 k,
)

past_text : (p : Piece) (rest : List ℕ) → drop (length p.gap + length p.text) (p.gap
    ++ (p.text ++ rest)) ≡ rest
past_text p rest = drop-append-add p.gap (p.text ++ rest) (length p.text)
    ∙ drop-append_seam p.text rest

-- What is printed is read as these tokens.
pub reads_tokens : (at : ℕ) (ps : List Piece) (tail : List ℕ) → AreApart ps tail
    → blank_len false tail ≡ length tail → Lexes at (printed ps tail) (tokens_at at ps) None
reads_tokens at [] tail h e = ends e
reads_tokens at (p ∷ ps) tail h e =
    let rest = printed ps tail in
    let whole = p.gap ++ (p.text ++ rest) in
    let b = blank_len false whole in
    let here : front (drop b whole) ≡ Some (p.kind, length p.text) =
    ap (λ n. front (drop n whole)) h.0 ∙ ap front (drop-append_seam p.gap (p.text ++ rest)) ∙ h.1 in
    let behind : drop (b + length p.text) whole ≡ rest = ap (λ n. drop (n + length p.text) whole)
    h.0 ∙ past_text p rest in
    let more : Lexes (at + length p.gap + length p.text) rest
    (tokens_at (at + length p.gap + length p.text) ps) None =
    reads_tokens (at + length p.gap + length p.text) ps tail h.2 e in
    let there : Lexes (at + b + length p.text) (drop (b + length p.text) whole)
    (tokens_at (at + length p.gap + length p.text) ps) None =
    subst (λ n. Lexes (at + n + length p.text) (drop (b + length p.text) whole)
    (tokens_at (at + length p.gap + length p.text) ps) None) (sym h.0)
    (subst (λ t. Lexes (at + length p.gap + length p.text) t
    (tokens_at (at + length p.gap + length p.text) ps) None) (sym behind) more) in
    subst (λ n. Lexes at whole (record {
      kind = p.kind;
      start = at + n;
      end = at + n
          + length p.text;
    } ∷ tokens_at (at + length p.gap + length p.text) ps) None) h.0
    (token here there)

-- ---- words

abbrev pub piece_word : Piece → Word
piece_word p = kind_word [] p.kind p.text

-- none of them ends the definition of an operator
abbrev pub DefineNone : Naming → List Piece → Type 0
DefineNone n [] = Unit {0}
DefineNone n (p ∷ ps) = (defined_by n (piece_word p) ≡ None)
    × DefineNone (naming_after n (piece_word p)) ps

-- the text of a token that stands behind these bytes
text_behind : (before : List ℕ) (p : Piece) (rest : List ℕ)
    → token_text (before ++ (p.gap ++ (p.text ++ rest))) (token_at (length before) p) ≡ p.text
text_behind before p rest =
    let start = length before + length p.gap in
    let all = before ++ (p.gap ++ (p.text ++ rest)) in
    let size : start + length p.text - start ≡ length p.text = omega arith in
    let at : drop start all ≡ p.text ++ rest = drop-append-add before (p.gap ++ (p.text ++ rest))
    (length p.gap) ∙ drop-append_seam p.gap (p.text ++ rest) in
    ap (λ n. take n (drop start all)) size ∙ ap (take (length p.text)) at
    ∙ take-append_seam p.text rest

shifted : (before : List ℕ) (p : Piece) (rest : List ℕ) → before ++ (p.gap ++ (p.text ++ rest))
    ≡ (before ++ (p.gap ++ p.text)) ++ rest
shifted before p rest = ap (λ l. before ++ l) (sym (append_assoc p.gap p.text rest))
    ∙ sym (append_assoc before (p.gap ++ p.text) rest)

length_behind : (before : List ℕ) (p : Piece) → length (before ++ (p.gap ++ p.text))
    ≡ length before + length p.gap + length p.text
length_behind before p = omega (
  arith,
  length-append before (p.gap ++ p.text),
  length-append p.gap p.text,
)

-- What is printed behind some bytes is read as these words.
pub reads_words : (before : List ℕ) (ps : List Piece) (tail : List ℕ) (n : Naming) → DefineNone n ps
    → words_from (before ++ printed ps tail) n [] (tokens_at (length before) ps) ≡ map piece_word ps
reads_words before [] tail n h = refl
reads_words before (p ∷ ps) tail n h =
    let rest = printed ps tail in
    let all = before ++ (p.gap ++ (p.text ++ rest)) in
    let next = before ++ (p.gap ++ p.text) in
    let w = piece_word p in
    let one : token_word all [] (token_at (length before) p) ≡ w =
    ap (kind_word [] p.kind) (text_behind before p rest) in
    let more : words_from all (naming_after n w) [] (tokens_at (length before + length p.gap
    + length p.text) ps) ≡ map piece_word ps =
    ap (λ t. words_from t (naming_after n w) [] (tokens_at (length before + length p.gap
    + length p.text) ps)) (shifted before p rest)
    ∙ ap (λ k. words_from (next ++ rest) (naming_after n w) [] (tokens_at k ps))
    (sym (length_behind before p))
    ∙ reads_words next ps tail (naming_after n w) h.1 in
    ap (λ v. v ∷ words_from all (naming_after n v) (option_to_list (defined_by n v) ++ [])
    (tokens_at (length before + length p.gap + length p.text) ps)) one
    ∙ ap (λ o. w ∷ words_from all (naming_after n w) (option_to_list o ++ [])
    (tokens_at (length before + length p.gap + length p.text) ps)) h.0
    ∙ ap (λ l. w ∷ l) more
