use Rattle.std.proofs.Common.{◌≡◌, ◌++◌, map, take}
use Rattle.cert_bytes.specs.declared.item.Item.TheVariants as item
use Rattle.cert_bytes.specs.Spelling.{certificate_of}
use Rattle.cert_writer.proofs.head.spell_marks.Given as goal

abbrev pub invariant-loop-mark : goal.invariant-loop-mark
invariant-loop-mark l =
    l.out.items ≡ l.initial.out.items ++ certificate_of (map item.Mark (take l.mark-index l.marks))
