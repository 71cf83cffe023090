-- Where the reading of words ends.
use Rattle.std.proofs.Common.{◌≡◌, ℕ, zero, suc, ◌+◌, ◌-◌, ◌≤◌, List, [], ◌∷◌, length, take, Option}
use Rattle.std.proofs.Common.{Some, None, Bool, refl, sym, ap, ◌∙◌, subst, arith}
use Rattle.std.specs.List.{slice_get}
use Rattle.script_words.specs.declared.lex.Token.{Token}
use Rattle.script_words.specs.Words.{Word}
use Rattle.script_shape.specs.declared.due.Due.{Due}
use Rattle.script_shape.specs.Roles.{at, leaves_of}
use Rattle.script_judge.specs.declared.refusal.Refusal.{Refusal}
use Rattle.script_judge.specs.declared.fault.Fault.{Fault}
use Rattle.script_judge.specs.Fault.{fault_of, has_value, has_earlier_value}
use Rattle.script_judge.specs.Reading.{Reading, IsReadingOf, IsReadable, IsTextRefusal, too_long}
use Rattle.script_judge.specs.Reading.{not_text, readable, IsFaultOf, read, at_word, fault_at}
use Rattle.script_judge.specs.Reading.{fault_at_end, fault}

pub leaves_take : (k : ℕ) (rs : List Due) (ws : List Word)
    → leaves_of (take k rs) ws ≡ take k (leaves_of rs ws)
leaves_take zero rs ws = refl
leaves_take (suc k) [] ws = refl
leaves_take (suc k) (r ∷ rs) [] = refl
leaves_take (suc k) (r ∷ rs) (w ∷ ws) = ap (λ ls. at r w ∷ ls) (leaves_take k rs ws)

pub leaves_length : (rs : List Due) (ws : List Word) → length rs ≤ length ws
    → length (leaves_of rs ws) ≡ length rs
leaves_length [] ws h = refl
leaves_length (r ∷ rs) [] h = absurd (omega arith)
leaves_length (r ∷ rs) (w ∷ ws) h = ap (λ n. suc n) (leaves_length rs ws (omega arith))

-- the words behind those that have a role have no part in the leaves
pub leaves_front : (rs : List Due) (ws : List Word)
    → leaves_of rs (take (length rs) ws) ≡ leaves_of rs ws
leaves_front [] ws = refl
leaves_front (r ∷ rs) [] = refl
leaves_front (r ∷ rs) (w ∷ ws) = ap (λ ls. at r w ∷ ls) (leaves_front rs ws)

pub earlier : (text : List ℕ) (rs : List Due) (ws : List Word)
    → length rs ≤ length ws → has_value text (leaves_of (take (length rs - 1) rs) ws)
    ≡ has_earlier_value text (leaves_of rs ws)
earlier text rs ws h =
    ap (has_value text) (leaves_take (length rs - 1) rs ws
    ∙ ap (λ n. take (n - 1) (leaves_of rs ws)) (sym (leaves_length rs ws h)))

-- the reading of these words, with their roles
abbrev pub reading : List Token → Option ℕ → List Word → List Due → Bool → Reading
reading tokens bad words roles whole = record {
  tokens = tokens;
  bad = bad;
  words = words;
  taken = length roles;
  whole = whole;
  leaves = leaves_of roles words;
}

module _ (len : ℕ) (tokens : List Token) (bad : Option ℕ) (words : List Word)
    (roles : List Due) (whole : Bool) where
  pub ends_at : (before : List Word) (word : Word)
      (next : Option Word) (f : Fault) (answer : Refusal) → before ≡ take (length roles) words
      → slice_get words (length roles) ≡ Some word → next ≡ slice_get words (length roles + 1)
      → f ≡ fault_of before (leaves_of roles before) word next → answer ≡ at_word tokens f
      → Some answer ≡ fault len (reading tokens bad words roles whole)
  ends_at before word next f answer b h n e a =
      let front = take (length roles) words in
      let leaves : leaves_of roles before ≡ leaves_of roles words =
      ap (leaves_of roles) b ∙ leaves_front roles words in
      let same : f ≡ fault_of front (leaves_of roles words) word
      (slice_get words (length roles + 1)) =
      e ∙ ap (λ x. fault_of x (leaves_of roles before) word next) b
      ∙ ap (λ l. fault_of front l word next) leaves
      ∙ ap (fault_of front (leaves_of roles words) word) n in
      ap Some (a ∙ ap (at_word tokens) same)
      ∙ sym (ap (fault_at len (reading tokens bad words roles whole)) h)

  pub ends_whole : (answer : Option Refusal)
      → slice_get words (length roles) ≡ None → answer ≡ fault_at_end len bad whole
      → answer ≡ fault len (reading tokens bad words roles whole)
  ends_whole answer h a = a ∙ sym (ap (fault_at len (reading tokens bad words roles whole)) h)

-- ---- texts

pub readable_of : (text : List ℕ) (o : Option Refusal) → IsTextRefusal text o
    → o ≡ None → IsReadable text
readable_of text o (too_long h) e = absurd (cc e)
readable_of text o (not_text h k) e = absurd (cc e)
readable_of text o (readable h) e = h

pub read_fault : (text : List ℕ) (r : Reading) (len : ℕ) → IsReadable text → IsReadingOf text r
    → len ≡ length text → (o : Option Refusal) → o ≡ fault len r → IsFaultOf text o
read_fault text r len h k l o e =
    subst (IsFaultOf text) (sym (e ∙ ap (λ n. fault n r) l)) (read h k)
