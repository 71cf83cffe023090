-- A call that only writes to one file of a folder.
use Rattle.std.specs.Prelude.{◌≡◌, ◌≢◌, ◌≤◌, ℕ, List}
use Rattle.fx_edge.specs.Outside.{Rose}
use Rattle.fx_edge.specs.declared.outside.Folder.{Ghosts}

-- A call writes to this name alone, and no read fails in it. `Fails` says that it failed by the
-- folder.
pub record OnlyWrites {D : Type 0} (folder : Ghosts D) (name : List ℕ) (old new : D)
    (Fails : Type 0) : Type 0 where
  -- what is told of each other name stays
  pub others : (other : List ℕ) → other ≢ name → folder.told new other ≡ folder.told old other
  -- the count of failed writes doesn't fall
  pub later : folder.write_faults old ≤ folder.write_faults new
  -- no read failed
  pub quiet : folder.read_faults new ≡ folder.read_faults old
  -- the call fails by the folder only where a write failed in it
  pub cause : Fails → Rose (folder.write_faults old) (folder.write_faults new)
