use Rattle.std.proofs.Common.{◌≤◌, ◌-◌, length, take}
use Rattle.std.specs.Io.KnownBytes.{Appends}
use Rattle.whole_texts.specs.OnlyWrites.{OnlyWrites}
use Rattle.whole_texts.proofs.write.append_all.Given as goal

abbrev pub invariant-loop-done : goal.invariant-loop-done
invariant-loop-done g l = record {
  within : l.done ≤ length l.bytes;
  taken : Appends (g.F.Folder.told l.initial.folder l.name)
      (g.F.Folder.told l.folder l.name) (take l.done l.bytes);
  only_writes : OnlyWrites g.F.Folder l.name l.initial.folder l.folder ⊥;
}

abbrev pub decreases-loop-done : goal.decreases-loop-done
decreases-loop-done g l = length l.bytes - l.done
