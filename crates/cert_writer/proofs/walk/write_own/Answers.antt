use Rattle.std.specs.Prelude.{refl}
use Rattle.std.specs.Io.KnownBytes.{Appends}
use Rattle.std.proofs.Common.{subst}
use Rattle.whole_texts.specs.Pieces.{AppendsFront}
use Rattle.cert_writer.proofs.Files.{on_err}
use Rattle.cert_writer.specs.Courses.{course, OnCourses, GrewToFront}
use Rattle.cert_writer.proofs.Turn.{begun_still}
use Rattle.cert_writer.proofs.walk.write_own.Goals as goal

pub returns-in_err-bytes-clause-err : goal.returns-in_err-bytes-clause-err
returns-in_err-bytes-clause-err g c =
    let told = g.F.Folder.told c.args.folder.now c.args.name.now in
    on_err c.from_residual.result (OnCourses c.args.boxes.now.universe.now c.args.boxes.now.plan.now
    c.args.boxes.now.rounds
    c.args.path.now c.args.parent c.args.seen (λ x p. GrewToFront x.aim p.items told told))
    (λ t lines states p is before.
    let aim = (course c.args.boxes.now.universe.now c.args.boxes.now.plan.now
    c.args.boxes.now.rounds t lines states).aim in
    begun_still aim p.items told told
    (c.writing_goes_on.ensures.begun aim is.aim p before.here) refl)

pub returns-in_err-append_all-clause-err : goal.returns-in_err-append_all-clause-err
returns-in_err-append_all-clause-err g c =
    let old = g.F.Folder.told c.args.folder.now c.args.name.now in
    let new = g.F.Folder.told c.append_all.new.folder c.args.name.now in
    on_err c.from_residual-in_err-append_all.result
    (OnCourses c.args.boxes.now.universe.now c.args.boxes.now.plan.now c.args.boxes.now.rounds
    c.args.path.now c.args.parent
    c.args.seen (λ x p. GrewToFront x.aim p.items old new))
    (λ t lines states p is before.
    (c.in_ok-bytes.ensures.own t lines states p is before).front old new
    (subst (λ bs. AppendsFront old new bs) c.deref.ensures.value c.in_err-append_all.ensures.err))

pub returns-clause-ok : goal.returns-clause-ok
returns-clause-ok g c = λ t lines states p is before.
    let old = g.F.Folder.told c.args.folder.now c.args.name.now in
    let new = g.F.Folder.told c.append_all.new.folder c.args.name.now in
    (c.in_ok-bytes.ensures.own t lines states p is before).done old new
    (subst (λ bs. Appends old new bs) c.deref.ensures.value c.in_ok-append_all.ensures.ok)
