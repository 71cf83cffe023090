-- The folders in memory, as their callers see them.
use Rattle.std.specs.Prelude.{ℕ, List, Option, Result}
use Rattle.fx_edge.specs.declared.folder.SureFolder.{SureFolder}
use Rattle.fx_edge.specs.declared.folder.MemFolder.{MemFolder}
use Rattle.fx_edge.specs.Outside.{count_after}
use Rattle.fx_edge.specs.Calls.{Numbered, no_calls, next_call}
use Rattle.fx_edge.specs.Held.{Held}
use Rattle.fx_edge.specs.Files.{file_at}

-- the file of a name, where it is there
abbrev pub sure_file : SureFolder → List ℕ → Option Held
sure_file d name = file_at d.files name

-- how many writes failed
abbrev pub sure_faults : SureFolder → ℕ
sure_faults d = d.write_faults

-- the file of a name, where it is there
abbrev pub mem_file : MemFolder → List ℕ → Option Held
mem_file d name = file_at d.files name

-- which calls fail by their number, how many there were, and how many failed
pub record Tally : Type 0 where
  pub numbered : Numbered
  pub read_faults : ℕ
  pub write_faults : ℕ

-- how the calls of a folder are numbered
abbrev pub calls_of : MemFolder → Numbered
calls_of d = d.calls

-- the tally of a folder
abbrev pub tally : MemFolder → Tally
tally d =
    record { numbered = calls_of d; read_faults = d.read_faults; write_faults = d.write_faults }

-- before the first call
abbrev pub new_tally : List ℕ → ℕ → Tally
new_tally failing most =
    record { numbered = no_calls failing most; read_faults = 0; write_faults = 0 }

-- after a read with this result
abbrev pub after_read : {T E : Type 0} → Result T E → Tally → Tally
after_read result t =
    record t { numbered = next_call t.numbered; read_faults = count_after result t.read_faults }

-- after a write with this result
abbrev pub after_write : {T E : Type 0} → Result T E → Tally → Tally
after_write result t =
    record t { numbered = next_call t.numbered; write_faults = count_after result t.write_faults }
