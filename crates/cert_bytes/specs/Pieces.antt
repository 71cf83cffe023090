-- Reading through a folder, in whatever pieces it gives the bytes.
use Rattle.std.specs.Prelude.{◌≡◌, ◌≤◌, ◌<◌, ◌+◌, ◌^◌, ◌∷◌, ◌++◌, ℕ, Bool, true, false, List, []}
use Rattle.std.specs.Prelude.{length, drop, Option, Some, None, Result, Ok, Err, ⊤}
use Rattle.cert_bytes.specs.declared.fault.CertFault.{CertFault}
use Rattle.cert_bytes.specs.declared.fault.Stop.{Stop}
use Rattle.cert_bytes.specs.declared.fault.Stop.TheVariants.{Fault}
use Rattle.cert_bytes.specs.declared.style.Style.{Style}
use Rattle.cert_bytes.specs.Reading.{Cursor, cursor}

-- a place in the bytes of a name, and the bytes from there on that were read ahead
pub record Ahead : Type 0 where
  pub name : List ℕ
  pub style : Style
  pub at : ℕ
  pub ahead : List ℕ

-- what reading leaves as it is
abbrev pub kept_of : Ahead → List ℕ × Style
kept_of s = (s.name, s.style)

-- what reading the version leaves as it is: that tells the style
abbrev pub name_of : Ahead → List ℕ
name_of s = s.name

-- the place in the bytes that are told
abbrev pub cursor_of : List ℕ → Ahead → Cursor
cursor_of all s = cursor s.style all s.at

-- What was read ahead is what stands there.
pub record Agrees (all : List ℕ) (s : Ahead) : Type 0 where
  pub within : s.at ≤ length all
  pub rest : List ℕ
  pub ahead : drop s.at all ≡ s.ahead ++ rest

-- the same, where the bytes are told
abbrev pub AgreesTold : Option (List ℕ) → Ahead → Type 0
AgreesTold None s = ⊤
AgreesTold (Some all) s = Agrees all s

-- So many bytes were read ahead, and byte 2^44 isn't one of them.
pub record HasAhead (n : ℕ) (s : Ahead) : Type 0 where
  pub there : n ≤ length s.ahead
  pub room : s.at + n ≤ 2 ^ 44

-- the same, and something was read ahead unless the bytes end there
pub record IsFilled (all : List ℕ) (s : Ahead) : Type 0 where
  pub agrees : Agrees all s
  pub end : s.ahead ≡ [] → length all ≤ s.at

-- something was read ahead, or nothing was
abbrev pub IsReady : Ahead → Bool → Type 0
IsReady s true = ¬ (s.ahead ≡ [])
IsReady s false = s.ahead ≡ []

-- the next byte is b
abbrev pub IsFirst : ℕ → List ℕ → Type 0
IsFirst b [] = ⊥
IsFirst b (x ∷ rest) = x ≡ b

-- the next byte is below 128
abbrev pub IsLow : List ℕ → Type 0
IsLow [] = ⊥
IsLow (b ∷ rest) = b < 128

-- no further byte is there
abbrev pub IsEnd : List ℕ → Ahead → Bool → Type 0
IsEnd all s true = ⊤
IsEnd all s false = length all ≤ s.at

-- What a call gave, seen by view, is what reading gives from the place before; and it left the
-- place behind what it read. Where the folder failed or memory wasn't found, nothing is said.
abbrev pub Gives : {X Y : Type 0} → (X → Y) → List ℕ → Ahead → Ahead → Result X Stop
    → (Cursor → Result (Y × Cursor) CertFault) → Type 0
Gives view all old new (Ok x) read = read (cursor_of all old) ≡ Ok (view x, cursor_of all new)
Gives view all old new (Err e) read = (f : CertFault) → e ≡ Fault f
    → read (cursor_of all old) ≡ Err f
