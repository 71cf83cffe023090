use Rattle.std.proofs.Common.{◌≡◌, ◌++◌, take}
use Rattle.cert_bytes.specs.Styles.{seen_behind}
use Rattle.cert_bytes.specs.Spelling.{spelled_behind}
use Rattle.cert_writer.proofs.spell.spell_items.Given as goal

abbrev pub invariant-loop-item : goal.invariant-loop-item
invariant-loop-item l = record {
  spelled : l.out.items
      ≡ l.initial.out.items ++ spelled_behind l.fn.seen (take l.item-index l.items);
  next_is : l.next ≡ seen_behind l.fn.seen (take l.item-index l.items);
}
