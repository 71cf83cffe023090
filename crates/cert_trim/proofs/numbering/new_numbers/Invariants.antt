use Rattle.std.proofs.Common.{◌≡◌, ◌≤◌, ◌<◌, ◌+◌, ℕ, length, vec_capacity}
use Rattle.cert_trim.specs.Flags.{stays_by, number_at}
use Rattle.cert_trim.specs.Trimmed.{new_number}
use Rattle.cert_trim.proofs.numbering.new_numbers.Given as goal

abbrev pub invariant-loop-flag : goal.invariant-loop-flag
invariant-loop-flag l =
    (length l.new.items ≡ l.flag-index)
    × (length l.flags ≤ vec_capacity l.new)
    × (l.next ≤ l.start + l.flag-index)
    × (l.next ≡ new_number (stays_by l.start l.flags) (l.start + l.flag-index))
    × ((n : ℕ) → n < l.flag-index
    → number_at l.new.items n ≡ new_number (stays_by l.start l.flags) (l.start + n))
