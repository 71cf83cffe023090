-- A call that only reads from a folder.
use Rattle.std.specs.Prelude.{◌≡◌, ◌≤◌, ℕ, List}
use Rattle.fx_edge.specs.Outside.{Rose}
use Rattle.fx_edge.specs.declared.outside.Folder.{Ghosts}

-- A call only reads from the folder. `Fails` says that the call failed by it.
pub record OnlyReads {D : Type 0} (folder : Ghosts D) (old new : D) (Fails : Type 0) : Type 0 where
  -- what is told of each name stays
  pub told : (name : List ℕ) → folder.told new name ≡ folder.told old name
  -- the count of failed reads doesn't fall
  pub later : folder.read_faults old ≤ folder.read_faults new
  -- no write failed
  pub quiet : folder.write_faults new ≡ folder.write_faults old
  -- the call fails by the folder only where a read failed in it
  pub cause : Fails → Rose (folder.read_faults old) (folder.read_faults new)
