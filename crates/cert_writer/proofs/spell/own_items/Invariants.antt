use Rattle.std.proofs.Common.{◌≡◌, ◌≤◌, ◌+◌, ◌++◌, length, map, vec_capacity}
use Rattle.cert_bytes.specs.declared.item.Item.TheVariants as item
use Rattle.cert_writer.proofs.spell.own_items.Given as goal

abbrev pub invariant-loop-row : goal.invariant-loop-row
invariant-loop-row l =
    (goal.iterator-loop-row).can_next l.row-iterator
    × (goal.iterator-loop-row).is_finite l.row-iterator
    × (l.yielded ++ l.row-iterator.rest.items ≡ l.fn.steps.items)
    × (length l.fn.steps.items + 1 ≤ vec_capacity l.items)
    × (l.items.items ≡ map item.Step l.yielded)
