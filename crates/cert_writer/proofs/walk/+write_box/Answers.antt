use Rattle.std.specs.Prelude.{◌≡◌, ◌<◌, ◌+◌, ◌-◌, [], ◌∷◌, length, refl}
use Rattle.std.proofs.Common.{arith, ap, ◌∙◌}
use Rattle.std.proofs.lemmas.List.{length-append}
use Rattle.whole_texts.proofs.OnlyWrites.{only_writes_on}
use Rattle.cert_writer.specs.Courses.{course, OnCourses, GrewToFront}
use Rattle.cert_writer.proofs.Turn.{begun_later, child_of, turn}
use Rattle.cert_writer.proofs.walk.+write_box.Goals as goal
use Rattle.cert_writer.proofs.Files.{on_err}

pub write_box-requires : goal.write_box-requires
write_box-requires g t c κs within =
    let s = c.requires.1.1.1 in
    let x = course c.args.boxes.now.universe.now c.args.boxes.now.plan.now c.args.boxes.now.rounds
    s.0 s.1 s.2 in
    let w = (c.loop-i.invariant.done s.0 s.1 s.2 s.3 s.4 s.5).0 c.loop-i-test.true in
    let there : length c.args.path < 36 = let l = c.loop-i-test.true in
    c.in_ok-own.ensures.room (omega (arith, l)) in
    let longer : length c.child.result ≡ length c.args.path + 1 =
    ap length c.child.ensures ∙ length-append c.args.path (c.loop-i.i ∷ []) in
    let first : 36 - length c.args.path ≡ t = c.requires.1.0 in
    let falls : 36 - length c.child.result < t = omega (arith, there, longer, first) in (
      falls,
      (
        within,
        (
          s.0,
          s.1,
          s.2,
          w.place,
          s.4,
          child_of x c.args.path c.in_ok-own.own.known s.3 _ c.in_ok-own.own.pieces c.loop-i.i
              c.loop-i.next _ w c.child.result c.child.ensures _ refl,
        ),
      ),
    )

pub returns-in_err-next-clause-err : goal.returns-in_err-next-clause-err
returns-in_err-next-clause-err g t c =
    let old = g.F.Folder.told c.args.folder.now c.args.name.now in
    let mid = g.F.Folder.told c.loop-i.folder c.args.name.now in
    let new = g.F.Folder.told c.write_box.new.folder c.args.name.now in
    on_err c.from_residual-in_err-next.result (OnCourses c.args.boxes.now.universe.now
    c.args.boxes.now.plan.now
    c.args.boxes.now.rounds c.args.path c.args.parent c.args.seen (λ x p. GrewToFront x.aim p.items
    old new))
    (λ q lines states p is before.
    let x = course c.args.boxes.now.universe.now c.args.boxes.now.plan.now c.args.boxes.now.rounds q
    lines states in
    let w = (c.loop-i.invariant.done q lines states p is before).0 c.loop-i-test.true in
    begun_later x.aim p.items w.place.items old mid new w.grew
    (c.in_err-next.ensures.err q lines states w.place is
    (child_of x c.args.path c.in_ok-own.own.known p old c.in_ok-own.own.pieces c.loop-i.i
    c.loop-i.next mid w c.child.result c.child.ensures _ refl)))

pub loop-i-preserved : goal.loop-i-preserved
loop-i-preserved g t c = record {
  done = λ q lines states p is before.
      let old = g.F.Folder.told c.args.folder.now c.args.name.now in
      let mid = g.F.Folder.told c.loop-i.folder c.args.name.now in
      let new = g.F.Folder.told c.write_box.new.folder c.args.name.now in
      let x = course c.args.boxes.now.universe.now c.args.boxes.now.plan.now c.args.boxes.now.rounds
      q lines states in
      let laws = c.walk_goes_on.ensures in
      let w = (c.loop-i.invariant.done q lines states p is before).0 c.loop-i-test.true in
      turn laws.tables laws.writing x is
      (laws.best x is) laws.one_more c.args.path c.in_ok-own.own.known p old mid
      c.in_ok-own.own.pieces c.loop-i.i c.loop-i.next w c.loop-i-test.true c.in_ok-next.next new
      (c.in_ok-next.ensures.ok q lines states w.place is
      (child_of x c.args.path c.in_ok-own.own.known p old c.in_ok-own.own.pieces c.loop-i.i
      c.loop-i.next mid w c.child.result c.child.ensures _ refl));
  only_writes = only_writes_on c.loop-i.invariant.only_writes c.in_ok-next.ensures.only_writes;
}

pub returns-clause-ok : goal.returns-clause-ok
returns-clause-ok g t c = λ q lines states p is before.
    let l = c.loop-i-test.false in
    let m = c.loop-i.auto.i-end in
    (c.loop-i.invariant.done q lines states p is before).1 (omega (arith, l, m))
