-- Laws of what specs/Parts defines.
use Rattle.std.specs.Prelude.{◌≡◌, false, slice_index_or, replicate, refl, ℕ}
use Rattle.std.proofs.Common.{zero, suc}

-- Where nothing has been marked, nothing is.
pub unmarked : (n : ℕ) (x : ℕ) → slice_index_or (replicate n false) x false ≡ false
unmarked zero x = refl
unmarked (suc n) zero = refl
unmarked (suc n) (suc x) = unmarked n x
