-- Where a call that reads through a folder leaves the place.
use Rattle.std.specs.Prelude.{◌≡◌, ◌≤◌, ℕ, List, Option}
use Rattle.cert_bytes.specs.Pieces.{Ahead, AgreesTold}

-- A call reads on from a place. It leaves what `keeps` tells of the place as it is; `told` is what
-- the folder tells behind the call.
pub record ReadsOn {K : Type 0} (keeps : Ahead → K) (told : List ℕ → Option (List ℕ))
    (old new : Ahead) : Type 0 where
  -- what is kept stays
  pub kept : keeps new ≡ keeps old
  -- it doesn't go back
  pub grows : old.at ≤ new.at
  -- what was read ahead still is what stands there
  pub agrees : AgreesTold (told new.name) new
