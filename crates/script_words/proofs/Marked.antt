-- The words of tokens, a word at a time.
use Rattle.std.proofs.Common.{◌≡◌, ℕ, Bool, true, false, cond, List, [], ◌∷◌, ◌++◌, Option, Some}
use Rattle.std.proofs.Common.{option_to_list, refl, sym, ap, ◌∙◌, append_assoc, append-nil}
use Rattle.std.specs.List.{list_any}
use Rattle.std.specs.Str.{bytes_eq}
use Rattle.std.specs.BTreeSet.{BTreeSet, Updates}
use Rattle.std.specs.Borrow.{Bor}
use Rattle.std.specs.Option.{option_copied}
use Rattle.std.proofs.lemmas.List.{map-append}
use Rattle.script_words.specs.declared.class.Spelled.{Spelled}
use Rattle.script_words.specs.declared.lex.Token.{Token}
use Rattle.script_words.specs.declared.lex.TokenKind.{TokenKind}
use Rattle.script_words.specs.declared.lex.TokenKind.TheVariants as kind
use Rattle.script_words.specs.declared.list.PlacedWord.{PlacedWord}
use Rattle.script_words.specs.declared.words.Word.{Word as CodeWord}
use Rattle.script_words.specs.declared.words.Naming.{Naming as CodeNaming}
use Rattle.script_words.specs.declared.words.Naming.TheVariants as code_naming
use Rattle.script_words.specs.Words.{name, rounding, class_of}
use Rattle.script_words.specs.Named.{word_of, naming_of, kind_word, token_word, naming_after}
use Rattle.script_words.specs.Named.{defined_by, words_from, words_of, text_cmp, HasNames}
use Rattle.script_words.specs.Named.{spelled_of}
use Rattle.script_words.specs.Placed.{word_with, kind_of, word_text, word_at, words_at, token_of}
use Rattle.script_words.specs.Placed.{tokens_of}
use Rattle.script_words.proofs.Grown.{one_more}

module _ (names : List (List ℕ)) (k : TokenKind) (text : List ℕ) (spelled : Spelled)
    (is_name : k ≡ kind.Name) (same : spelled ≡ spelled_of text) where
  -- a name that is among the operators'
  pub marked : list_any (λ n. bytes_eq n text) names ≡ true
      → rounding spelled text ≡ kind_word names k text
  marked h = ap (λ x. rounding x text) same
      ∙ ap (λ b. cond b (rounding (spelled_of text) text) (name (spelled_of text) text)) (sym h)
      ∙ ap (λ x. kind_word names x text) (sym is_name)

  -- any other name
  pub unmarked : list_any (λ n. bytes_eq n text) names ≡ false
      → name spelled text ≡ kind_word names k text
  unmarked h = ap (λ x. name x text) same
      ∙ ap (λ b. cond b (rounding (spelled_of text) text) (name (spelled_of text) text)) (sym h)
      ∙ ap (λ x. kind_word names x text) (sym is_name)

-- one more name
pub added : (set new : BTreeSet (Bor (List ℕ))) (k : Bor (List ℕ)) (o : Option (Bor (List ℕ)))
    → o ≡ Some k → Updates text_cmp set new k true
    → (names : List (List ℕ)) → HasNames set names
    → HasNames new (option_to_list (option_copied o) ++ names)
added set new k o e updates names has q =
    one_more set new k updates names has q
    ∙ ap (λ x. list_any (λ n. bytes_eq n q.now) (option_to_list (option_copied x) ++ names)) (sym e)

-- ---- a word's class and text are the word, and its class is its token's kind

class_and_text : (names : List (List ℕ)) (k : TokenKind) (t : List ℕ)
    → word_with (class_of (kind_word names k t)) t ≡ kind_word names k t
class_and_text names kind.Name t = by_name (list_any (λ n. bytes_eq n t) names)
  where
    by_name : (b : Bool) → word_with (class_of (cond b (rounding (spelled_of t) t)
        (name (spelled_of t) t))) t ≡ cond b (rounding (spelled_of t) t) (name (spelled_of t) t)
    by_name true = refl
    by_name false = refl
class_and_text names kind.Literal t = refl
class_and_text names (kind.Sign g) t = refl

kind_told : (names : List (List ℕ)) (k : TokenKind) (t : List ℕ)
    → kind_of (class_of (kind_word names k t)) ≡ k
kind_told names kind.Name t = by_name (list_any (λ n. bytes_eq n t) names)
  where
    by_name : (b : Bool) → kind_of (class_of
        (cond b (rounding (spelled_of t) t) (name (spelled_of t) t))) ≡ kind.Name
    by_name true = refl
    by_name false = refl
kind_told names kind.Literal t = refl
kind_told names (kind.Sign g) t = refl

-- ---- the loop

-- The words so far are those of their tokens, whatever tokens come behind.
pub record MarkedTo (text : List ℕ) (placed : List PlacedWord) (naming : CodeNaming)
    (set : BTreeSet (Bor (List ℕ))) : Type 0 where
  pub names : List (List ℕ)
  pub has : HasNames set names
  pub rest : (more : List Token) → words_of text (tokens_of placed ++ more)
      ≡ words_at text placed ++ words_from text (naming_of naming) names more

pub marked_none : (text : List ℕ) (placed : List PlacedWord) (set : BTreeSet (Bor (List ℕ)))
    → placed ≡ [] → HasNames set [] → MarkedTo text placed code_naming.Nothing set
marked_none text placed set e h = record {
  names = [];
  has = h;
  rest = λ more. ap (λ ps. words_of text (tokens_of ps ++ more)) e
      ∙ ap (λ ps. words_at text ps ++ words_of text more) (sym e);
}

pub marked_all : {text : List ℕ} {placed : List PlacedWord}
    {naming : CodeNaming} {set : BTreeSet (Bor (List ℕ))} → MarkedTo text placed naming set
    → words_at text placed ≡ words_of text (tokens_of placed)
marked_all {text} {placed} m = sym (append-nil (words_at text placed)) ∙ sym (m.rest [])
    ∙ ap (words_of text) (append-nil (tokens_of placed))

module _ {text : List ℕ} {placed : List PlacedWord} {naming : CodeNaming}
    {set : BTreeSet (Bor (List ℕ))} (m : MarkedTo text placed naming set) (p : PlacedWord)
    (k : TokenKind) (w : CodeWord)
    (words : (names : List (List ℕ)) → HasNames set names
    → word_of w ≡ kind_word names k (word_text text p)) (c : p.class ≡ class_of (word_of w)) where
  same_class : p.class ≡ class_of (kind_word m.names k (word_text text p))
  same_class = c ∙ ap class_of (words m.names m.has)

  -- the word is made again from its class and place
  pub made_again : word_at text p ≡ word_of w
  made_again = ap (λ x. word_with x (word_text text p)) same_class
      ∙ class_and_text m.names k (word_text text p) ∙ sym (words m.names m.has)

  pub same_kind : kind_of p.class ≡ k
  same_kind = ap kind_of same_class ∙ kind_told m.names k (word_text text p)

  told : token_word text m.names (token_of p) ≡ word_of w
  told = ap (λ x. kind_word m.names x (word_text text p)) same_kind ∙ sym (words m.names m.has)

  -- One more word, and its operator where it ends a definition.
  pub marked_more : (naming' : CodeNaming)
      → naming_of naming' ≡ naming_after (naming_of naming) (word_of w)
      → (o : Option (Bor (List ℕ))) → option_copied o ≡ defined_by (naming_of naming) (word_of w)
      → (set' : BTreeSet (Bor (List ℕ))) → ((names : List (List ℕ)) → HasNames set names
      → HasNames set' (option_to_list (option_copied o) ++ names))
      → (placed' : List PlacedWord) → placed' ≡ placed ++ (p ∷ [])
      → MarkedTo text placed' naming' set'
  marked_more naming' n o joins set' grows placed' e = record {
    names = option_to_list (option_copied o) ++ m.names;
    has = grows m.names m.has;
    rest = λ more.
        let before = naming_of naming in
        let tail = words_from text (naming_of naming')
        (option_to_list (option_copied o) ++ m.names) more in
        let tokens : tokens_of placed' ++ more ≡ tokens_of placed ++ (token_of p ∷ more) =
        ap (λ ps. tokens_of ps ++ more) e
        ∙ ap (λ ts. ts ++ more) (map-append token_of placed (p ∷ []))
        ∙ append_assoc (tokens_of placed) (token_of p ∷ []) more in
        let found : words_at text placed' ++ tail ≡ words_at text placed ++ (word_of w ∷ tail) =
        ap (λ ps. words_at text ps ++ tail) e
        ∙ ap (λ ws. ws ++ tail) (map-append (word_at text) placed (p ∷ []))
        ∙ append_assoc (words_at text placed) (word_at text p ∷ []) tail
        ∙ ap (λ x. words_at text placed ++ (x ∷ tail)) made_again in
        let step : token_word text m.names (token_of p) ∷ words_from text (naming_after before
        (token_word text m.names (token_of p))) (option_to_list (defined_by before
        (token_word text m.names (token_of p))) ++ m.names) more ≡ word_of w ∷ tail =
        ap (λ x. x ∷ words_from text (naming_after before x)
        (option_to_list (defined_by before x) ++ m.names) more) told
        ∙ ap (λ x. word_of w ∷ words_from text x
        (option_to_list (defined_by before (word_of w)) ++ m.names) more) (sym n)
        ∙ ap (λ x. word_of w ∷ words_from text (naming_of naming')
        (option_to_list x ++ m.names) more) (sym joins) in
        ap (words_of text) tokens ∙ m.rest (token_of p ∷ more)
        ∙ ap (λ l. words_at text placed ++ l) step ∙ sym found;
  }
