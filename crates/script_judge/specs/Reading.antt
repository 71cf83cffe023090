-- How far a text is read, and where its reading ends before its script does.
use Rattle.std.specs.Prelude.{◌≡◌, ◌↔◌, ℕ, ◌+◌, ◌≤◌, ◌<◌, ◌^◌, List, length, take, map, get_or}
use Rattle.std.specs.Prelude.{slice_get, Option, Some, None, Bool, if◌then◌else◌}
use Rattle.std.specs.Str.{IsUtf8, IsValidUpTo}
use Rattle.script_words.specs.declared.lex.Token.{Token}
use Rattle.script_words.specs.Lex.{Lexes}
use Rattle.script_words.specs.Words.{Word}
use Rattle.script_words.specs.Named.{words_of, IsWordsOf}
use Rattle.script_shape.specs.Tree.{IsScript}
use Rattle.script_shape.specs.ShapeLaw.{IsShapeOf}
use Rattle.script_shape.specs.Roles.{Leaf, HasRoles}
use Rattle.script_judge.specs.declared.refusal.Refusal.{Refusal}
use Rattle.script_judge.specs.declared.refusal.RefusalKind.{RefusalKind}
use Rattle.script_judge.specs.declared.refusal.RefusalKind.TheVariants as kind
use Rattle.script_judge.specs.declared.refusal.LimitKind.TheVariants as limit
use Rattle.script_judge.specs.declared.fault.Fault.{Fault}
use Rattle.script_judge.specs.Fault.{fault_of}

-- A text's tokens up to the first byte that begins none, their words, how many of these begin a
-- script, whether all of them are one, and the words that begin one with their roles.
pub record Reading : Type 0 where
  pub tokens : List Token
  pub bad : Option ℕ
  pub words : List Word
  pub taken : ℕ
  pub whole : Bool
  pub leaves : List Leaf

-- The text is read so.
pub record IsReadingOf (text : List ℕ) (r : Reading) : Type 0 where
  pub lexed : Lexes 0 text r.tokens r.bad
  pub words : words_of text r.tokens ≡ r.words
  pub shape : IsShapeOf r.words r.taken r.whole
  pub roles : HasRoles (take r.taken r.words) r.leaves

-- this kind at this byte
abbrev pub refusal : RefusalKind → ℕ → Refusal
refusal k at = record { kind = k; at = at }

-- the byte at which a word begins
abbrev pub start_of : List Token → ℕ → ℕ
start_of tokens i = get_or (map (λ t. t.start) tokens) i 0

-- the refusal of a word, at its first byte
abbrev pub at_word : List Token → Fault → Refusal
at_word tokens f = refusal f.kind (start_of tokens f.word)

-- with every word taken: a byte that begins no token, or the end before the script's
abbrev pub fault_at_end : ℕ → Option ℕ → Bool → Option Refusal
fault_at_end len (Some bad) whole = Some (refusal kind.BadToken bad)
fault_at_end len None whole = if whole then None else Some (refusal kind.Unexpected len)

-- where the words, the first of which has no place, end the reading of a text of this length
abbrev pub fault_at : ℕ → Reading → Option Word → Option Refusal
fault_at len r (Some w) = Some (at_word r.tokens
    (fault_of (take r.taken r.words) r.leaves w (slice_get r.words (r.taken + 1))))
fault_at len r None = fault_at_end len r.bad r.whole

-- The refusal at which the reading of a text ends, or none where the text is words of a whole
-- script.
abbrev pub fault : ℕ → Reading → Option Refusal
fault len r = fault_at len r (slice_get r.words r.taken)

-- Why bytes aren't read at all: there are too many, or they are no text.
abbrev pub IsReadable : List ℕ → Type 0
IsReadable text = (length text ≤ 2 ^ 20) × IsUtf8 text

-- More than 2^20 bytes, else the first byte of what is ill-formed, else none.
pub data IsTextRefusal : List ℕ → Option Refusal → Type 0 where
  too_long : {text : List ℕ} → 2 ^ 20 < length text
      → IsTextRefusal text (Some (refusal (kind.Limit limit.Bytes) 1048576))
  not_text : {text : List ℕ} {at : ℕ} → length text ≤ 2 ^ 20 → IsValidUpTo text at
      → IsTextRefusal text (Some (refusal kind.NotText at))
  readable : {text : List ℕ} → IsReadable text → IsTextRefusal text None

-- The refusal at which the reading of the bytes ends, if they aren't the words of a whole script.
pub data IsFaultOf : List ℕ → Option Refusal → Type 0 where
  unread : {text : List ℕ} {r : Refusal} → IsTextRefusal text (Some r) → IsFaultOf text (Some r)
  read : {text : List ℕ} {r : Reading} → IsReadable text → IsReadingOf text r
      → IsFaultOf text (fault (length text) r)

-- The bytes are text, and the text is the words of a whole script.
pub record IsScriptText (text : List ℕ) : Type 0 where
  pub readable : IsReadable text
  pub ws : List Word
  pub words : IsWordsOf text ws
  pub script : IsScript ws

-- The reading of a text ends at nothing exactly where it is the words of a whole script.
abbrev pub ReadsScripts : Type 0
ReadsScripts = (text : List ℕ) → IsFaultOf text None ↔ IsScriptText text
