use Rattle.std.proofs.Common.{◌≡◌, ◌++◌, take}
use Rattle.cert_bytes.specs.Spelling.{references}
use Rattle.cert_bytes.proofs.writing.put_references.Given as goal

abbrev pub invariant-loop-number : goal.invariant-loop-number
invariant-loop-number l =
    l.out.items ≡ l.initial.out.items ++ references (take l.number-index l.numbers) l.style
