-- The reading of a text, a word at a time.
use Rattle.std.proofs.Common.{◌≡◌, ℕ, ◌+◌, ◌≤◌, false, List, [], ◌∷◌, ◌++◌, length, drop, Option}
use Rattle.std.proofs.Common.{Some, option_to_list, sym, ap, ◌∙◌, subst, arith}
use Rattle.std.specs.List.{All}
use Rattle.std.specs.BTreeSet.{BTreeSet}
use Rattle.std.specs.Borrow.{Bor}
use Rattle.std.specs.Option.{option_copied}
use Rattle.std.proofs.lemmas.List.{map-append}
use Rattle.std.proofs.lemmas.List.Elements.{All-nil, All-push, All-map}
use Rattle.script_words.specs.declared.class.Class.{Class}
use Rattle.script_words.specs.declared.lex.TokenKind.{TokenKind}
use Rattle.script_words.specs.declared.list.PlacedWord.{PlacedWord}
use Rattle.script_words.specs.declared.words.Word.{Word as CodeWord}
use Rattle.script_words.specs.declared.words.Naming.{Naming as CodeNaming}
use Rattle.script_words.specs.declared.words.Naming.TheVariants as code_naming
use Rattle.script_words.specs.Lex.{blank_len, front, IsWithin}
use Rattle.script_words.specs.Words.{class_of}
use Rattle.script_words.specs.Named.{word_of, naming_of, kind_word, naming_after, defined_by}
use Rattle.script_words.specs.Named.{HasNames}
use Rattle.script_words.specs.Placed.{word_text, token_of, tokens_of, IsPlacedIn}
use Rattle.script_words.proofs.Lexing.{LexedTo, lexed_none, lexed_more}
use Rattle.script_words.proofs.Marked.{MarkedTo, marked_none, marked_more, same_kind}

-- The words so far, and those of the rest, are those of the whole text.
pub record ReadTo (text : List ℕ) (at : ℕ) (placed : List PlacedWord) (naming : CodeNaming)
    (set : BTreeSet (Bor (List ℕ))) : Type 0 where
  pub lexed : LexedTo text at (tokens_of placed)
  pub marked : MarkedTo text placed naming set
  pub inside : All (IsPlacedIn text) placed

pub read_none : (text : List ℕ) (placed : List PlacedWord) (set : BTreeSet (Bor (List ℕ)))
    → placed ≡ [] → HasNames set [] → ReadTo text 0 placed code_naming.Nothing set
read_none text placed set e h = record {
  lexed = subst (λ ps. LexedTo text 0 (tokens_of ps)) (sym e) (lexed_none text);
  marked = marked_none text placed set e h;
  inside = subst (All (IsPlacedIn text)) (sym e) (All-nil (IsPlacedIn text));
}

pub all_within : {text : List ℕ} {at : ℕ} {placed : List PlacedWord}
    {naming : CodeNaming} {set : BTreeSet (Bor (List ℕ))} → ReadTo text at placed naming set
    → All (IsWithin text) (tokens_of placed)
all_within {text} {at} {placed} r = All-map (IsWithin text) token_of placed r.inside

module _ {text : List ℕ} {at : ℕ} {placed : List PlacedWord} {naming : CodeNaming}
    {set : BTreeSet (Bor (List ℕ))} (r : ReadTo text at placed naming set) where
  -- one more word
  pub read_more : (blank len : ℕ) (k : TokenKind) → blank ≡ blank_len false (drop at text)
      → at + blank + len ≤ length text → front (drop (at + blank) text) ≡ Some (k, len)
      → (class : Class) (w : CodeWord)
      → let p : PlacedWord = record { class = class; start = at + blank; end = at + blank + len } in
      ((names : List (List ℕ)) → HasNames set names
      → word_of w ≡ kind_word names k (word_text text p)) → class ≡ class_of (word_of w)
      → (naming' : CodeNaming) → naming_of naming' ≡ naming_after (naming_of naming) (word_of w)
      → (o : Option (Bor (List ℕ))) → option_copied o ≡ defined_by (naming_of naming) (word_of w)
      → (set' : BTreeSet (Bor (List ℕ))) → ((names : List (List ℕ)) → HasNames set names
      → HasNames set' (option_to_list (option_copied o) ++ names))
      → (placed' : List PlacedWord) → placed' ≡ placed ++ (p ∷ [])
      → ReadTo text (at + blank + len) placed' naming' set'
  read_more blank len k b h f class w words c naming' n o joins set' grows placed' e =
      let p : PlacedWord = record { class = class; start = at + blank; end = at + blank + len } in
      let token : token_of p ≡ record { kind = k; start = at + blank; end = at + blank + len } =
      ap (λ x. record { kind = x; start = at + blank; end = at + blank + len })
      (same_kind r.marked p k w words c) in
      let tokens : tokens_of placed'
      ≡ tokens_of placed ++ (record { kind = k; start = at + blank; end = at + blank + len } ∷ []) =
      ap tokens_of e ∙ map-append token_of placed (p ∷ [])
      ∙ ap (λ t. tokens_of placed ++ (t ∷ [])) token in
      record {
        lexed = subst (LexedTo text (at + blank + len)) (sym tokens)
            (lexed_more text at (tokens_of placed) r.lexed blank len k b h f);
        marked = marked_more r.marked p k w words c naming' n o joins set' grows placed' e;
        inside = subst (All (IsPlacedIn text)) (sym e) (All-push (IsPlacedIn text) placed p r.inside
            (record { ordered = omega arith; inside = h }));
      }
