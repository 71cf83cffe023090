-- Laws of what specs/Parts defines.
use Rattle.std.specs.Prelude.{◌≡◌, Some}
use Rattle.std.proofs.Common.{sym}
use Rattle.facts.specs.declared.size.Size.{Size}
use Rattle.facts.specs.declared.relative.RelativeError.{RelativeError}
use Rattle.facts.specs.Parts.{size_from, size_from-some, error_from, error_from-some}

-- ---- absolute values
pub size_from_self : (s : Size) → Some s ≡ size_from s.interval
size_from_self s = sym (size_from-some s.interval s.from_zero)

-- ---- relative errors
pub error_from_self : (e : RelativeError) → Some e ≡ error_from e.interval
error_from_self e = sym (error_from-some e.interval e.above_minus_one)
