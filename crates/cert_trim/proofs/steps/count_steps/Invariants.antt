use Rattle.std.proofs.Common.{◌≡◌, ◌≤◌, take}
use Rattle.cert_trim.specs.Trimmed.{number_behind_all}
use Rattle.cert_trim.proofs.steps.count_steps.Given as goal

abbrev pub invariant-loop-item : goal.invariant-loop-item
invariant-loop-item l = (l.count ≡ number_behind_all 0 (take l.item-index l.items))
    × (l.count ≤ l.item-index)
