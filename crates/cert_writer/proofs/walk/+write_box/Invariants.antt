use Rattle.std.proofs.Common.{length, ◌-◌}
use Rattle.whole_texts.specs.OnlyWrites.{OnlyWrites}
use Rattle.cert_writer.specs.Courses.{OnCourses, HasDone}
use Rattle.cert_writer.proofs.walk.+write_box.Given as goal

abbrev pub decreases-write_box : goal.decreases-write_box
decreases-write_box g l = 36 - length l.path

abbrev pub invariant-loop-i : goal.invariant-loop-i
invariant-loop-i g l = record {
  done : OnCourses l.boxes.universe.now l.boxes.plan.now l.boxes.rounds l.path l.fn.parent l.fn.seen
      (λ c p.
      HasDone c l.path l.own.known p (g.F.Folder.told l.fn.folder l.name) l.own.pieces l.i l.next
      (g.F.Folder.told l.folder l.name));
  only_writes : OnlyWrites g.F.Folder l.name l.fn.folder l.folder ⊥;
}
