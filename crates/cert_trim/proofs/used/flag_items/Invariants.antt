use Rattle.std.proofs.Common.{◌≡◌, ◌+◌, ◌-◌, length, take, drop}
use Rattle.cert_trim.specs.Flags.{AreFlags}
use Rattle.cert_trim.specs.Trimmed.{number_behind_all}
use Rattle.cert_trim.specs.Used.{used_from}
use Rattle.cert_trim.proofs.used.flag_items.Given as goal

abbrev pub invariant-loop-done : goal.invariant-loop-done
invariant-loop-done l =
    (l.place ≡ number_behind_all 0 (take (length l.items - l.done) l.items))
    × AreFlags l.start l.flags
    (used_from (l.start + l.place) (drop (length l.items - l.done) l.items))
