use Rattle.std.proofs.Common.{◌≡◌, ◌≤◌, ◌++◌, length, vec_capacity}
use Rattle.cert_trim.specs.Flags.{stays_by}
use Rattle.cert_trim.specs.Trimmed.{number_behind_all, trimmed_by}
use Rattle.cert_trim.proofs.left.left_items.Given as goal

abbrev pub invariant-loop-item : goal.invariant-loop-item
invariant-loop-item l =
    (goal.iterator-loop-item).can_next l.item-iterator
    × (goal.iterator-loop-item).is_finite l.item-iterator
    × (l.yielded ++ l.item-iterator.rest.items ≡ l.fn.items.items)
    × (l.place ≡ number_behind_all 0 l.yielded)
    × (l.place ≤ length l.yielded)
    × (length l.left.items ≤ length l.yielded)
    × (length l.fn.items.items ≤ vec_capacity l.left)
    × (l.left.items ≡ trimmed_by (stays_by l.start l.flags) l.start l.yielded)
