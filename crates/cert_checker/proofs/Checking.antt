-- Laws of what specs/Checking defines.
use Rattle.std.specs.Prelude.{◌≡◌, ℕ, List}
use Rattle.std.proofs.Common.{ap}
use Rattle.cert_bytes.specs.Readers.{Progress, fresh}
use Rattle.cert_checker.specs.Checking.{IsFresh}

-- as a reader that was just made
pub is_fresh : (name : List ℕ) (r : Progress) → r ≡ fresh name → IsFresh r
is_fresh name r e = record {
  at = ap (λ (q : Progress). q.ahead.at) e;
  style = ap (λ (q : Progress). q.ahead.style) e;
  due = ap (λ (q : Progress). q.due) e;
  fault = ap (λ (q : Progress). q.fault) e;
}
