use Rattle.std.proofs.Common.{◌++◌, ℕ, List, take}
use Rattle.cert_trim.specs.Flags.{AreFlags}
use Rattle.cert_trim.proofs.used.flag_all.Given as goal

abbrev pub invariant-loop-number : goal.invariant-loop-number
invariant-loop-number l = (later : List ℕ) → AreFlags l.start l.initial.flags later
    → AreFlags l.start l.flags (take l.number-index l.numbers ++ later)
