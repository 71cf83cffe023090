use Rattle.std.proofs.Common.{◌≤◌, ◌+◌, length}
use Rattle.std.specs.List.{AllByRecursion}
use Rattle.cert_bytes.specs.declared.style.Style.TheVariants.{Second}
use Rattle.cert_bytes.specs.Certificates.{HasSpelling}
use Rattle.cert_bytes.specs.Spelling.{spelled_from, certificate_of}
use Rattle.whole_texts.specs.OnlyWrites.{OnlyWrites}
use Rattle.cert_rewriting.proofs.Written.{IsWriting}
use Rattle.cert_rewriting.proofs.writing.add_items.Given as goal

abbrev pub invariant-loop-left : goal.invariant-loop-left
invariant-loop-left g l = record {
  spelled : AllByRecursion HasSpelling l.left;
  steps : l.seen.steps + length l.left ≤ length l.items;
  sections : l.seen.sections + length l.left ≤ length l.items;
  writing : IsWriting (g.F.Folder.told l.fn.folder l.name) (g.F.Folder.told l.folder l.name)
      l.waiting.items (spelled_from (Second l.seen) l.left) (certificate_of l.items);
  only_writes : OnlyWrites g.F.Folder l.name l.fn.folder l.folder ⊥;
}

abbrev pub decreases-loop-left : goal.decreases-loop-left
decreases-loop-left g l = length l.left
