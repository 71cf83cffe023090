use Rattle.std.proofs.Common.{◌≡◌, ◌≤◌, ◌+◌, ◌^◌, length, min}
use Rattle.std.specs.List.{AllByRecursion}
use Rattle.cert_bytes.specs.declared.style.Style.TheVariants.{Second}
use Rattle.cert_bytes.specs.Certificates.{HasSpelling}
use Rattle.cert_bytes.specs.Spelling.{spelled_from, certificate_of}
use Rattle.cert_rewriting.specs.Spelled.{told_length}
use Rattle.cert_rewriting.proofs.length.spelled_length.Given as goal

abbrev pub invariant-loop-left : goal.invariant-loop-left
invariant-loop-left l = record {
  spelled : AllByRecursion HasSpelling l.left;
  steps : l.seen.steps + length l.left ≤ length l.items;
  sections : l.seen.sections + length l.left ≤ length l.items;
  size : min (l.length + length (spelled_from (Second l.seen) l.left)) (2 ^ 44 + 1)
      ≡ told_length (certificate_of l.items);
  within : l.length ≤ 2 ^ 44 + 1;
}

abbrev pub decreases-loop-left : goal.decreases-loop-left
decreases-loop-left l = length l.left
