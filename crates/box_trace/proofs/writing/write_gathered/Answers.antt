use Rattle.std.proofs.Common.{subst}
use Rattle.box_trace.specs.Tables.{known_at}
use Rattle.box_trace.specs.Scans.{IsGathered}
use Rattle.box_trace.proofs.writing.write_gathered.Goals as goal

pub write_void-requires-clause-conclusion : goal.write_void-requires-clause-conclusion
write_void-requires-clause-conclusion c =
    let u = c.args.uni.now in
    let g = c.args.gathered.now in
    (subst (IsGathered u (known_at u g.before.now) g.ends.now) c.in-Some.is
    c.requires.gathered).0

pub write_void-requires-clause-void : goal.write_void-requires-clause-void
write_void-requires-clause-void c =
    let u = c.args.uni.now in
    let g = c.args.gathered.now in
    (subst (IsGathered u (known_at u g.before.now) g.ends.now) c.in-Some.is
    c.requires.gathered).1

pub write-requires-clause-scanned : goal.write-requires-clause-scanned
write-requires-clause-scanned c =
    let u = c.args.uni.now in
    let g = c.args.gathered.now in
    subst (IsGathered u (known_at u g.before.now) g.ends.now) c.in-None.is
    c.requires.gathered
