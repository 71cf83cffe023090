-- Texts that are read as words wherever they stand, and how they are joined.
use Rattle.std.proofs.Common.{◌≡◌, ℕ, suc, ◌+◌, arith, false, List, [], ◌∷◌, ◌++◌, length, map}
use Rattle.std.proofs.Common.{Some, refl, sym, ap, ◌∙◌, subst, append_assoc}
use Rattle.script_words.specs.declared.class.Symbol.{Symbol}
use Rattle.script_words.specs.declared.lex.TokenKind.{TokenKind}
use Rattle.script_words.specs.declared.lex.TokenKind.TheVariants as kind
use Rattle.script_words.specs.Lex.{blank_len, front}
use Rattle.script_words.specs.Quiet.{IsQuiet, EndsBeforeQuiet}
use Rattle.script_words.specs.Words.{Word, name, literal, sign}
use Rattle.script_words.specs.Named.{Naming, nothing, naming_after, spelled_of, number_of}
use Rattle.script_words.specs.Named.{IsWordsOf}
use Rattle.program_truths.proofs.Pieces.{Piece, printed, AreApart, printed-append, apart-append}
use Rattle.program_truths.proofs.Pieces.{piece_word, DefineNone, tokens_at, reads_tokens}
use Rattle.program_truths.proofs.Pieces.{reads_words}
use Rattle.program_truths.proofs.Lines.{IsWordText, word_alone, front_of_word, piece}

-- ---- definitions of operators

abbrev pub naming_behind : Naming → List Piece → Naming
naming_behind n [] = n
naming_behind n (p ∷ ps) = naming_behind (naming_after n (piece_word p)) ps

none-append : (n : Naming) (ps qs : List Piece) → DefineNone n ps
    → DefineNone (naming_behind n ps) qs → DefineNone n (ps ++ qs)
none-append n [] qs h k = k
none-append n (p ∷ ps) qs h k = (h.0, none-append (naming_after n (piece_word p)) ps qs h.1 k)

behind-append : (n : Naming) (ps qs : List Piece) → naming_behind n (ps ++ qs)
    ≡ naming_behind (naming_behind n ps) qs
behind-append n [] qs = refl
behind-append n (p ∷ ps) qs = behind-append (naming_after n (piece_word p)) ps qs

words-append : (ps qs : List Piece) → map piece_word (ps ++ qs) ≡ map piece_word ps
    ++ map piece_word qs
words-append [] qs = refl
words-append (p ∷ ps) qs = ap (λ l. piece_word p ∷ l) (words-append ps qs)

-- ---- texts that are words before what has the property

pub record Chunk (P : List ℕ → Type 0) (text : List ℕ) (ws : List Word) : Type 0 where
  pub first : Piece
  pub more : List Piece
  pub bytes : (tail : List ℕ) → printed (first ∷ more) tail ≡ text ++ tail
  pub apart : (tail : List ℕ) → P tail → AreApart (first ∷ more) tail
  pub words : map piece_word (first ∷ more) ≡ ws
  pub none : DefineNone nothing (first ∷ more)
  pub back : naming_behind nothing (first ∷ more) ≡ nothing

-- whatever follows
abbrev pub Any : List ℕ → Type 0
Any tail = Unit {0}

-- a byte follows that continues no name and no literal
abbrev pub Quiet : List ℕ → Type 0
Quiet [] = ⊥
Quiet (q ∷ rest) = IsQuiet q

pub seq : {P Q : List ℕ → Type 0} {t u : List ℕ} {ws vs : List Word} → Chunk P t ws → Chunk Q u vs
    → ((tail : List ℕ) → Q tail → P (u ++ tail)) → Chunk Q (t ++ u) (ws ++ vs)
seq {P = P} {t = t} {u = u} {ws = ws} {vs = vs} c d f =
    let ps = c.first ∷ c.more in
    let qs = d.first ∷ d.more in
    record {
      first = c.first;
      more = c.more ++ qs;
      bytes = λ tail. printed-append ps qs tail ∙ c.bytes (printed qs tail)
          ∙ ap (λ l. t ++ l) (d.bytes tail) ∙ sym (append_assoc t u tail);
      apart = λ tail q. apart-append ps qs tail
          (c.apart (printed qs tail) (subst P (sym (d.bytes tail)) (f tail q))) (d.apart tail q);
      words = words-append ps qs ∙ ap (λ l. l ++ map piece_word qs) c.words
          ∙ ap (λ l. ws ++ l) d.words;
      none = none-append nothing ps qs c.none (subst (λ n. DefineNone n qs) (sym c.back) d.none);
      back = behind-append nothing ps qs ∙ ap (λ n. naming_behind n qs) c.back ∙ d.back;
    }

pub retold : {P : List ℕ → Type 0} {t u : List ℕ} {ws vs : List Word} → t ≡ u → ws ≡ vs
    → Chunk P t ws → Chunk P u vs
retold {P = P} {t = t} {u = u} {ws = ws} {vs = vs} e f c =
    subst (λ x. Chunk P x vs) e (subst (λ y. Chunk P t y) f c)

abbrev wider : ℕ → Piece → Piece
wider b p = record { gap = b ∷ p.gap; kind = p.kind; text = p.text }

one_more : (n : ℕ) → 1 + n ≡ suc n
one_more n = omega arith

-- a blank, or the end of a line, before them
pub behind_blank : {P : List ℕ → Type 0} {t : List ℕ} {ws : List Word} → Chunk P t ws
    → Chunk P (32 ∷ t) ws
behind_blank {P = P} {t = t} {ws = ws} c = record {
  first = wider 32 c.first;
  more = c.more;
  bytes = λ tail. ap (λ l. 32 ∷ l) (c.bytes tail);
  apart = λ tail q. (
    ap (λ n. 1 + n) (c.apart tail q).0 ∙ one_more (length c.first.gap),
    (c.apart tail q).1,
    (c.apart tail q).2,
  );
  words = c.words;
  none = c.none;
  back = c.back;
}

pub behind_line : {P : List ℕ → Type 0} {t : List ℕ} {ws : List Word} → Chunk P t ws
    → Chunk P (10 ∷ t) ws
behind_line {P = P} {t = t} {ws = ws} c = record {
  first = wider 10 c.first;
  more = c.more;
  bytes = λ tail. ap (λ l. 10 ∷ l) (c.bytes tail);
  apart = λ tail q. (
    ap (λ n. 1 + n) (c.apart tail q).0 ∙ one_more (length c.first.gap),
    (c.apart tail q).1,
    (c.apart tail q).2,
  );
  words = c.words;
  none = c.none;
  back = c.back;
}

-- Such a text before a line's end is read as its words.
pub chunk_is_read : {P : List ℕ → Type 0} {t : List ℕ} {ws : List Word} → Chunk P t ws
    → P (10 ∷ []) → IsWordsOf (t ++ (10 ∷ [])) ws
chunk_is_read {P = P} {t = t} {ws = ws} c h =
    let ps = c.first ∷ c.more in
    subst (λ l. IsWordsOf l ws) (c.bytes (10 ∷ [])) (record {
      tokens = tokens_at 0 ps;
      lexed = reads_tokens 0 ps (10 ∷ []) (c.apart (10 ∷ []) h) refl;
      words = reads_words [] ps (10 ∷ []) nothing c.none ∙ c.words;
    })

-- ---- names and literals

module _ (law : EndsBeforeQuiet) where
  word_apart : (k : TokenKind) (t tail : List ℕ) → IsWordText k t → Quiet tail
      → AreApart (piece [] k t ∷ []) tail
  word_apart k t [] w q = absurd q
  word_apart k t (b ∷ bs) w q = (word_alone k t (b ∷ bs) w, front_of_word law k t bs b w q, tt)

  pub name_chunk : (t : List ℕ) → IsWordText kind.Name t
      → Chunk Quiet t (name (spelled_of t) t ∷ [])
  name_chunk t w = record {
    first = piece [] kind.Name t;
    more = [];
    bytes = λ tail. refl;
    apart = λ tail q. word_apart kind.Name t tail w q;
    words = refl;
    none = (refl, tt);
    back = refl;
  }

  pub literal_chunk : (t : List ℕ) → IsWordText kind.Literal t
      → Chunk Quiet t (literal (number_of t) t ∷ [])
  literal_chunk t w = record {
    first = piece [] kind.Literal t;
    more = [];
    bytes = λ tail. refl;
    apart = λ tail q. word_apart kind.Literal t tail w q;
    words = refl;
    none = (refl, tt);
    back = refl;
  }

-- ---- signs

-- this sign is what stands at the front before the tail
abbrev pub Before : Symbol → List ℕ → List ℕ → Type 0
Before g t tail = front (t ++ tail) ≡ Some (kind.Sign g, length t)

pub sign_chunk : (g : Symbol) (t : List ℕ) → ((tail : List ℕ) → blank_len false (t ++ tail) ≡ 0)
    → naming_after nothing (sign g) ≡ nothing → Chunk (Before g t) t (sign g ∷ [])
sign_chunk g t h e = record {
  first = piece [] (kind.Sign g) t;
  more = [];
  bytes = λ tail. refl;
  apart = λ tail q. (h tail, q, tt);
  words = refl;
  none = (refl, tt);
  back = e;
}
