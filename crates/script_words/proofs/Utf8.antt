-- A text is UTF-8, or so up to some byte.
use Rattle.std.specs.Prelude.{ℕ, List, length}
use Rattle.std.specs.Str.{IsUtf8, IsValidUpTo}
use Rattle.std.proofs.Common.{sym, subst}
use Rattle.std.proofs.Math.Seq.{take-length}

-- but not both
pub no_both : (text : List ℕ) (at : ℕ) → IsValidUpTo text at → IsUtf8 text → ⊥
no_both text at h k = h.longest (length text) h.short (subst IsUtf8 (sym (take-length text)) k)
