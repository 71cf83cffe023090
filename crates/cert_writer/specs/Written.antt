-- What a written certificate is to a script.
use Rattle.std.specs.Prelude.{◌≡◌, ◌≤◌, ◌⊎◌, ◌^◌, ⊤, ℕ, List, length, Option, Some, None}
use Rattle.goals.specs.declared.line.Line.{Line}
use Rattle.script_grammar.specs.Spells.{View}
use Rattle.settler.specs.Answers.{options, IsProved}
use Rattle.cert_bytes.specs.declared.style.Style.TheVariants.{Second}
use Rattle.cert_bytes.specs.Certificates.{SpellsAs}
use Rattle.cert_bytes.specs.Fronts.{IsFront}
use Rattle.cert_bytes.specs.Styles.{none_seen}
use Rattle.script_checker.specs.Checking.{AreAcceptedFor}

-- With so many rounds, and boxes that are halved so often at most, of which there may be some
-- number up to 8,192, the script is proved.
abbrev pub IsProvedWith : View → ℕ → ℕ → Type 0
IsProvedWith s rounds depth = (boxes : ℕ) × (lines : List Line) × (boxes ≤ 8192)
    × IsProved s (options rounds depth boxes) lines

-- This is so of the lines with which it is proved so.
abbrev pub OfProved : View → ℕ → ℕ → (List Line → Type 0) → Type 0
OfProved s rounds depth P = (boxes : ℕ) (lines : List Line) → boxes ≤ 8192
    → IsProved s (options rounds depth boxes) lines → P lines

-- The bytes are accepted for the script with the lines, and spell their items in version 2, in
-- which certificates are written.
pub record AreWrittenFor (s : View) (bytes : List ℕ) (lines : List Line) : Type 0 where
  pub accepted : AreAcceptedFor s bytes lines
  pub spells : SpellsAs (Second none_seen) bytes accepted.accepted.items

-- The bytes are a front of such.
abbrev pub IsAcceptedFront : View → List Line → List ℕ → Type 0
IsAcceptedFront s lines bytes = (all : List ℕ) × AreWrittenFor s all lines × IsFront bytes all

-- A file whose bytes are told holds such a certificate now, of 2^44 bytes at most.
abbrev pub HoldsCertificate : View → List Line → Option (List ℕ) → Option (List ℕ) → Type 0
HoldsCertificate s lines None new = ⊤
HoldsCertificate s lines (Some old) new = (bytes : List ℕ) × (new ≡ Some bytes)
    × AreWrittenFor s bytes lines × (length bytes ≤ 2 ^ 44)

-- It holds what it held, or a front of such a certificate, which may be nothing.
abbrev pub HoldsFront : View → List Line → Option (List ℕ) → Option (List ℕ) → Type 0
HoldsFront s lines None new = ⊤
HoldsFront s lines (Some old) new = (new ≡ Some old)
    ⊎ ((bytes : List ℕ) × (new ≡ Some bytes) × IsAcceptedFront s lines bytes)
