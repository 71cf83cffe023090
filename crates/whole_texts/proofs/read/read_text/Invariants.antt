use Rattle.std.proofs.Common.{◌≤◌, ◌-◌, length, vec_len}
use Rattle.fx_edge.specs.OnlyReads.{OnlyReads}
use Rattle.whole_texts.proofs.Reading.{IsBegun}
use Rattle.whole_texts.proofs.read.read_text.Given as goal

abbrev pub invariant-loop-buffer : goal.invariant-loop-buffer
invariant-loop-buffer g l = record {
  front : IsBegun (g.F.Folder.told l.initial.folder l.name) l.text.items;
  short : length l.text.items ≤ l.most;
  only_reads : OnlyReads g.F.Folder l.initial.folder l.folder ⊥;
}

abbrev pub decreases-loop-buffer : goal.decreases-loop-buffer
decreases-loop-buffer g l = l.most - vec_len l.text
