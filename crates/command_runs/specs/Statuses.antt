-- The exit status of each end, and the line of a read fault.
use Rattle.std.specs.Prelude.{ℕ, List, ◌++◌, codes}
use Rattle.command_runs.specs.declared.status.Status.{Status}
use Rattle.command_runs.specs.declared.status.Status.TheVariants as status

-- the exit status of the program for each way that a run ends
abbrev pub exit_code : Status → ℕ
exit_code status.Answered = 0
exit_code status.Unproved = 1
exit_code status.Usage = 2
exit_code status.Script = 3
exit_code status.Limit = 4
exit_code status.Certificate = 5
exit_code status.ReadFault = 6
exit_code status.WriteFault = 7
exit_code status.OutOfMemory = 8
exit_code status.Program = 9
exit_code status.Point = 10
exit_code status.TooWide = 11
exit_code status.List = 12

-- the line of a file that wasn't read whole
abbrev pub read_fault_line : List ℕ → List ℕ
read_fault_line name = codes "read fault: " ++ name ++ codes "\n"
