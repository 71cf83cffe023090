-- What a text spells: a program, or its first fault.
use Rattle.std.specs.Prelude.{◌≡◌, ℕ, ◌+◌, ◌<◌, ◌≤◌, ◌^◌, ◌==◌, ◌&&◌, ◌||◌, nat_lt, All, List, []}
use Rattle.std.specs.Prelude.{◌++◌, length, take, map, get_or, Option, Some, None, Bool, false}
use Rattle.std.specs.List.{Contains, AllByRecursion}
use Rattle.std.specs.Str.{IsUtf8, IsValidUpTo}
use Rattle.script_words.specs.declared.lex.TokenKind.{TokenKind}
use Rattle.script_words.specs.declared.lex.TokenKind.TheVariants as script
use Rattle.script_words.specs.Lex.{front as script_front}
use Rattle.fixprog.specs.declared.fault.ProgKind.{ProgKind}
use Rattle.fixprog.specs.declared.fault.ProgKind.TheVariants as kind
use Rattle.fixprog.specs.declared.fault.ProgFault.{ProgFault}
use Rattle.fixprog.specs.declared.token.ProgramToken.{ProgramToken}
use Rattle.fixprog.specs.Words.{Word, name, literal}
use Rattle.fixprog.specs.Lex.{Lexes, words_of, IsToken}
use Rattle.fixprog.specs.Grammar.{Program, program_words}
use Rattle.fixprog.specs.Faults.{Fault, program_faults}

-- ---- words that are a program, or begin one

-- The words are the whole of a program, be it faultless or not.
abbrev pub IsProgram : List Word → Type 0
IsProgram ws = (p : Program) × (program_words p ≡ ws)

-- The words begin this program: some more words, each of which a token can be, make them the
-- whole of it.
pub record Begins (ws : List Word) (p : Program) : Type 0 where
  pub more : List Word
  pub words : program_words p ≡ ws ++ more
  pub spelled : All IsToken more

-- The words are a program or can still become one, by more words that tokens can be.
abbrev pub BeginsProgram : List Word → Type 0
BeginsProgram ws = (p : Program) × Begins ws p

-- A text's tokens up to the first byte that begins none, their words, and how many of these begin
-- a program.
pub record Reading : Type 0 where
  pub tokens : List ProgramToken
  pub bad : Option ℕ
  pub words : List Word
  pub taken : ℕ

-- The text is read so: the words that are taken begin a program, and with the next they don't.
pub record IsReadingOf (text : List ℕ) (r : Reading) : Type 0 where
  pub lexed : Lexes 0 text r.tokens r.bad
  pub words : words_of text r.tokens ≡ r.words
  pub within : r.taken ≤ length r.words
  pub begins : BeginsProgram (take r.taken r.words)
  pub most : r.taken < length r.words → ¬ BeginsProgram (take (r.taken + 1) r.words)

-- ---- faults

-- The fault of this kind at this byte, counted from 0.
abbrev pub fault : ProgKind → ℕ → ProgFault
fault k at = record { kind = k; at = at }

-- the byte at which a word begins
abbrev pub start_of : List ProgramToken → ℕ → ℕ
start_of tokens i = get_or (map (λ t. t.start) tokens) i 0

-- The faults of a text that is read so: where its reading ends, and those of a program that its
-- words begin, as far as
-- the words that are taken tell them.
pub data HasFault : List ℕ → Reading → ProgFault → Type 0 where
  out_of_place : {text : List ℕ} {r : Reading} → r.taken < length r.words
      → HasFault text r (fault kind.Unexpected (start_of r.tokens r.taken))
  no_token : {text : List ℕ} {r : Reading} {at : ℕ} → r.taken ≡ length r.words → r.bad ≡ Some at
      → HasFault text r (fault kind.BadToken at)
  cut_short : {text : List ℕ} {r : Reading} → r.taken ≡ length r.words → r.bad ≡ None
      → ¬ IsProgram r.words → HasFault text r (fault kind.Unexpected (length text))
  judged : {text : List ℕ} {r : Reading} {p : Program} {f : Fault}
      → Begins (take r.taken r.words) p → Contains (program_faults p) f → f.told < r.taken
      → HasFault text r (fault f.kind (start_of r.tokens f.word))

-- the number of a kind in the table of faults
abbrev pub number : ProgKind → ℕ
number kind.NotText = 1
number kind.BadToken = 2
number kind.Unexpected = 3
number kind.BadFormat = 4
number kind.Undefined = 5
number kind.NameUsed = 6
number kind.BadRange = 7
number kind.LiteralLimit = 8
number kind.BadDirection = 9
number kind.Limit = 10

-- a lower byte, or the same with the lower number
abbrev pub is_before : ProgFault → ProgFault → Bool
is_before one other = nat_lt one.at other.at || (one.at == other.at
    && nat_lt (number one.kind) (number other.kind))

-- The bytes are UTF-8 and at most 2^16, so that the words of the text are judged.
abbrev pub IsReadable : List ℕ → Type 0
IsReadable text = (length text ≤ 2 ^ 16) × IsUtf8 text

-- The first fault of a text, or none: of the bytes, else the first of its reading's.
pub data IsFirstFault : List ℕ → Option ProgFault → Type 0 where
  too_long : {text : List ℕ} → 2 ^ 16 < length text
      → IsFirstFault text (Some (fault kind.Limit 65536))
  not_text : {text : List ℕ} {at : ℕ} → length text ≤ 2 ^ 16 → IsValidUpTo text at
      → IsFirstFault text (Some (fault kind.NotText at))
  first : {text : List ℕ} {r : Reading} {f : ProgFault} → IsReadable text → IsReadingOf text r
      → HasFault text r f
      → ((g : ProgFault) → HasFault text r g → is_before g f ≡ false) → IsFirstFault text (Some f)
  faultless : {text : List ℕ} {r : Reading} → IsReadable text → IsReadingOf text r
      → ((f : ProgFault) → ¬ HasFault text r f) → IsFirstFault text None

-- The text spells the program: it has no fault, and its tokens are the program's words.
pub record Spells (text : List ℕ) (p : Program) : Type 0 where
  pub accepted : IsFirstFault text None
  pub tokens : List ProgramToken
  pub lexed : Lexes 0 text tokens None
  pub words : program_words p ≡ words_of text tokens

-- ---- laws

-- A text has one first fault, or none; and then it spells one program.
abbrev pub FirstsAreUnique : Type 0
FirstsAreUnique = (text : List ℕ) (a b : Option ProgFault) → IsFirstFault text a
    → IsFirstFault text b → a ≡ b

-- No text spells two different programs.
abbrev pub SpellsOnce : Type 0
SpellsOnce = (text : List ℕ) (p q : Program) → Spells text p → Spells text q → p ≡ q

-- A text without a fault spells a program.
abbrev pub SpellsAll : Type 0
SpellsAll = (text : List ℕ) → IsFirstFault text None → (p : Program) × Spells text p

-- Nothing is wrong in a program that a text spells.
abbrev pub SpelledAreFaultless : Type 0
SpelledAreFaultless = (text : List ℕ) (p : Program) → Spells text p → program_faults p ≡ []

-- the text is one token of a script
abbrev pub IsAlone : TokenKind → List ℕ → Type 0
IsAlone k t = script_front t ≡ Some (k, length t)

-- The word, if it is a name or a literal, is one token of scripts by itself; of other words nothing
-- is asked.
abbrev pub IsAloneWord : Word → Type 0
IsAloneWord (name t) = IsAlone script.Name t
IsAloneWord (literal t) = IsAlone script.Literal t
IsAloneWord w = Unit {0}

-- Each name and literal of a program that a text spells is a token of scripts by itself.
abbrev pub WordsAreAlone : Type 0
WordsAreAlone = (text : List ℕ) (p : Program) → Spells text p
    → AllByRecursion IsAloneWord (program_words p)
