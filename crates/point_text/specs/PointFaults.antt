-- Why a text is no point of a script: its first fault.
use Rattle.std.specs.Prelude.{◌≡◌, ◌≢◌, ◌⊎◌, ℕ, ◌+◌, ◌≤◌, ◌<◌, ◌^◌, List, length, map, take}
use Rattle.std.specs.Prelude.{slice_get, Option, Some, None}
use Rattle.std.specs.Str.{IsValidUpTo}
use Rattle.fx_model.specs.declared.Literal.{Literal}
use Rattle.literal.specs.Normal.{IsReading}
use Rattle.script_words.specs.declared.lex.Token.{Token}
use Rattle.script_words.specs.Lex.{Lexes}
use Rattle.script_nodes.specs.Known.{Name}
use Rattle.point_text.specs.declared.fault.PointKind.{PointKind}
use Rattle.point_text.specs.declared.fault.PointKind.TheVariants as kind
use Rattle.point_text.specs.declared.fault.PointFault.{PointFault}
use Rattle.point_text.specs.Points.{Part, name, literal, slash, parts_of, Entry, entries_parts}
use Rattle.point_text.specs.Points.{Begins, IsUnread, IsShortText}

-- How far a text is read: its tokens up to the first byte that begins none, and how many of these
-- begin a list of entries.
pub record Reading (text : List ℕ) : Type 0 where
  pub tokens : List Token
  pub bad : Option ℕ
  pub lexed : Lexes 0 text tokens bad
  pub taken : ℕ
  pub within : taken ≤ length tokens
  pub begins : Begins (take taken (parts_of text tokens))
  pub ends : taken < length tokens → ¬ Begins (take (taken + 1) (parts_of text tokens))

-- Among the tokens that are read, number i begins at this byte and is this.
pub record IsRead {text : List ℕ} (r : Reading text) (i at : ℕ) (p : Part) : Type 0 where
  pub read : i < r.taken
  pub part : slice_get (parts_of text r.tokens) i ≡ Some p
  pub start : slice_get (map (λ t. t.start) r.tokens) i ≡ Some at

-- The kinds of faults, and where they stand.
pub data HasFault {text : List ℕ} (variables : List Name) (r : Reading text) : PointKind → ℕ
    → Type 0 where
  bad_token : {at : ℕ} → r.taken ≡ length r.tokens → r.bad ≡ Some at
      → HasFault variables r kind.BadToken at
  unexpected : {at : ℕ} → slice_get (map (λ t. t.start) r.tokens) r.taken ≡ Some at
      → HasFault variables r kind.Unexpected at
  cut_short : r.taken ≡ length r.tokens → r.bad ≡ None
      → ((es : List Entry) → parts_of text r.tokens ≢ entries_parts es)
      → HasFault variables r kind.Unexpected (length text)
  unknown : {i at : ℕ} {v : Name} → IsRead r i at (name v)
      → ((k : ℕ) → slice_get variables k ≢ Some v) → HasFault variables r kind.Unknown at
  twice : {i at j before : ℕ} {v : Name} → IsRead r i at (name v) → IsRead r j before (name v)
      → j < i → HasFault variables r kind.Twice at
  -- of literals within their limits alone
  zero_divisor : {i at before : ℕ} {digits : List ℕ} {l : Literal} → IsRead r i before slash
      → IsRead r (i + 1) at (literal digits) → IsReading digits l → l.num ≡ 0
      → HasFault variables r kind.ZeroDivisor at
  literal_limit : {i at : ℕ} {digits : List ℕ} → IsRead r i at (literal digits) → IsUnread digits
      → HasFault variables r kind.LiteralLimit at
  missing : (k : ℕ) {v : Name} → slice_get variables k ≡ Some v
      → ((i at : ℕ) → ¬ IsRead r i at (name v)) → HasFault variables r kind.Missing (length text)

-- the number of a kind in the order of kinds
abbrev pub number : PointKind → ℕ
number kind.NotText = 1
number kind.BadToken = 2
number kind.Unexpected = 3
number kind.Unknown = 4
number kind.Twice = 5
number kind.ZeroDivisor = 6
number kind.LiteralLimit = 7
number kind.Limit = 8
number kind.Missing = 9

-- at a lower byte, or at the same with no greater number
abbrev pub IsNotAfter : PointKind → ℕ → PointKind → ℕ → Type 0
IsNotAfter k at other there = (at < there) ⊎ ((at ≡ there) × (number k ≤ number other))

-- The text has too many bytes, or is no text.
abbrev pub IsTextFault : List ℕ → PointFault → Type 0
IsTextFault text f = ((2 ^ 16 < length text) × (f ≡ record { kind = kind.Limit; at = 65536 }))
    ⊎ ((length text ≤ 2 ^ 16) × IsValidUpTo text f.at × (f.kind ≡ kind.NotText))

-- The first fault of a text: too many bytes, else no text, else the first of those that it has.
pub data IsPointFault (variables : List Name) (text : List ℕ) : PointFault → Type 0 where
  too_long : 2 ^ 16 < length text
      → IsPointFault variables text (record { kind = kind.Limit; at = 65536 })
  not_text : {at : ℕ} → length text ≤ 2 ^ 16 → IsValidUpTo text at
      → IsPointFault variables text (record { kind = kind.NotText; at = at })
  first : {k : PointKind} {at : ℕ} → IsShortText text → (r : Reading text)
      → HasFault variables r k at
      → ((other : PointKind) (there : ℕ) → HasFault variables r other there
      → IsNotAfter k at other there)
      → IsPointFault variables text (record { kind = k; at = at })

-- What stands behind the last token: a byte that begins none, or the text's end.
abbrev pub end_of : List ℕ → Option ℕ → PointFault
end_of text None = record { kind = kind.Unexpected; at = length text }
end_of text (Some at) = record { kind = kind.BadToken; at = at }
