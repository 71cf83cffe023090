use Rattle.std.proofs.Common.{map, take, string_bytes}
use Rattle.fx_edge.specs.OnlyReads.{OnlyReads}
use Rattle.batch_command.specs.Told.{AreRead}
use Rattle.batch_command.proofs.read.read_scripts.Given as goal

abbrev pub invariant-loop-name : goal.invariant-loop-name
invariant-loop-name g l = record {
  only_reads : OnlyReads g.F.Folder l.fn.folder l.folder ⊥;
  read :
      AreRead (g.F.Folder.told l.fn.folder) (take l.name-index (map string_bytes l.names))
      l.texts.items;
}
