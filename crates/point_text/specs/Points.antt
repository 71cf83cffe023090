-- The texts that are points of a script: entries `name = bound ;` or `name = bound / literal ;`,
-- one for each variable.
use Rattle.std.specs.Prelude.{◌≡◌, ◌≢◌, ℕ, ◌≤◌, ◌^◌, List, [], ◌∷◌, ◌++◌, length, map, slice_get}
use Rattle.std.specs.Prelude.{Option, Some, None, Bool, true, false}
use Rattle.std.specs.Str.{IsUtf8}
use Rattle.fx_model.specs.declared.Literal.{Literal}
use Rattle.literal.specs.Normal.{IsNormal, IsReading}
use Rattle.script_words.specs.declared.class.Symbol.TheVariants as s
use Rattle.script_words.specs.declared.lex.Token.{Token}
use Rattle.script_words.specs.declared.lex.TokenKind.{TokenKind}
use Rattle.script_words.specs.declared.lex.TokenKind.TheVariants as kind
use Rattle.script_words.specs.Lex.{Lexes}
use Rattle.script_words.specs.Named.{token_text}
use Rattle.script_nodes.specs.Known.{Name}
use Rattle.point_values.specs.Rows.{Row, IsRow}

-- ---- tokens with their texts; a sign's own text says nothing more
pub data Part : Type 0 where
  name : List ℕ → Part
  literal : List ℕ → Part
  equal : Part
  plus : Part
  minus : Part
  slash : Part
  semicolon : Part
  other : Part

-- The part that a token of this kind with this text is; a sign that no point has is another part.
abbrev pub part_of : TokenKind → List ℕ → Part
part_of kind.Name text = name text
part_of kind.Literal text = literal text
part_of (kind.Sign s.Equal) text = equal
part_of (kind.Sign s.Plus) text = plus
part_of (kind.Sign s.Minus) text = minus
part_of (kind.Sign s.Slash) text = slash
part_of (kind.Sign s.Semicolon) text = semicolon
part_of (kind.Sign g) text = other

-- The tokens of a text as parts, in order.
abbrev pub parts_of : List ℕ → List Token → List Part
parts_of text tokens = map (λ t. part_of t.kind (token_text text t)) tokens

-- ---- the grammar
pub data Mark : Type 0 where
  unmarked : Mark
  with_plus : Mark
  with_minus : Mark

-- `variable = number ;` or `variable = number / divisor ;`, as they are spelled
pub record Entry : Type 0 where
  pub variable : List ℕ
  pub mark : Mark
  pub number : List ℕ
  pub divisor : Option (List ℕ)

-- The sign before an entry's number, where one is written.
abbrev pub mark_parts : Mark → List Part
mark_parts unmarked = []
mark_parts with_plus = plus ∷ []
mark_parts with_minus = minus ∷ []

-- The slash and the literal of an entry's divisor, if it has one.
abbrev pub divisor_parts : Option (List ℕ) → List Part
divisor_parts None = []
divisor_parts (Some text) = slash ∷ (literal text ∷ [])

-- The parts that spell an entry, from its variable to its semicolon.
abbrev pub entry_parts : Entry → List Part
entry_parts e =
    name e.variable
    ∷ (equal ∷ (mark_parts e.mark
    ++ (literal e.number ∷ (divisor_parts e.divisor ++ (semicolon ∷ [])))))

-- The parts that spell the entries, one after the other.
abbrev pub entries_parts : List Entry → List Part
entries_parts [] = []
entries_parts (e ∷ es) = entry_parts e ++ entries_parts es

-- These tokens begin a list of entries.
abbrev pub Begins : List Part → Type 0
Begins ps = (es : List Entry) × (rest : List Part) × (entries_parts es ≡ ps ++ rest)

-- ---- literals
-- It isn't read: what the tokens' literals are that are past their limits.
abbrev pub IsUnread : List ℕ → Type 0
IsUnread digits = (l : Literal) → ¬ IsReading digits l

-- ---- what an entry says
abbrev pub is_minus : Mark → Bool
is_minus unmarked = false
is_minus with_plus = false
is_minus with_minus = true

-- the divisor's literal is within its limits and isn't 0
abbrev pub IsDivisorOf : Option (List ℕ) → Option Literal → Type 0
IsDivisorOf None None = Unit {0}
IsDivisorOf (Some text) (Some l) = IsReading text l × (l.num ≢ 0)
IsDivisorOf None (Some l) = ⊥
IsDivisorOf (Some text) None = ⊥

-- The row is what the entry says: its number with its sign, and its divisor, which isn't 0.
pub record IsRowOf (e : Entry) (row : Row) : Type 0 where
  pub sign : row.0.negative ≡ is_minus e.mark
  pub number : IsReading e.number row.0.literal
  pub divisor : IsDivisorOf e.divisor row.1

-- ---- points
-- at most 2^16 bytes of text
abbrev pub IsShortText : List ℕ → Type 0
IsShortText text = (length text ≤ 2 ^ 16) × IsUtf8 text

-- The text spells these rows, one for each of the script's variables.
pub record SpellsPoint (variables : List Name) (text : List ℕ) (rows : List Row) : Type 0 where
  pub short : IsShortText text
  pub tokens : List Token
  pub lexed : Lexes 0 text tokens None
  pub entries : List Entry
  pub parts : parts_of text tokens ≡ entries_parts entries
  -- each entry is of one variable, and no two are of one
  pub known : (k : ℕ) (e : Entry) → slice_get entries k ≡ Some e
      → (i : ℕ) × (slice_get variables i ≡ Some e.variable)
  pub once : (j k : ℕ) (d e : Entry) → slice_get entries j ≡ Some d → slice_get entries k ≡ Some e
      → d.variable ≡ e.variable → j ≡ k
  -- each variable has its row, from the entry with its name
  pub count : length rows ≡ length variables
  pub each : (i : ℕ) (v : Name) (row : Row) → slice_get variables i ≡ Some v
      → slice_get rows i ≡ Some row → (k : ℕ) × (e : Entry) × (slice_get entries k ≡ Some e)
      × (e.variable ≡ v) × IsRowOf e row

-- ---- rows as they are read
-- a divisor, if there is one: in normal form, and not 0
abbrev pub IsDivisor : Option Literal → Type 0
IsDivisor None = Unit {0}
IsDivisor (Some l) = IsNormal l × (l.num ≢ 0)

-- a row that is set or isn't
abbrev pub IsSetRow : Option Row → Type 0
IsSetRow None = Unit {0}
IsSetRow (Some row) = IsRow row
