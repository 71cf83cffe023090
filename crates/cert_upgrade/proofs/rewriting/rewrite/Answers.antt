use Rattle.std.specs.Prelude.{◌≡◌, false, true, Err, refl}
use Rattle.std.proofs.Common.{◌∙◌, sym, ap, subst, arith, rules}
use Rattle.std.proofs.lemmas.Result.{err_from_is_err_and}
use Rattle.cert_bytes.specs.Pieces.{AgreesTold}
use Rattle.cert_bytes.specs.Readers.{Progress}
use Rattle.cert_upgrade.specs.declared.stop.UpgradeStop.TheVariants.{ReadFailed, WriteFailed}
use Rattle.cert_upgrade.specs.declared.stop.UpgradeStop.TheVariants.{OutOfMemory}
use Rattle.cert_upgrade.proofs.Read.{read_none, read_fault, not_done, items_are_one, fewer_turns}
use Rattle.cert_upgrade.proofs.Rewritten.{rewritten_none, rewritten_turn, rewritten_all}
use Rattle.cert_upgrade.proofs.Rewritten.{nothing_taken, broken_reading, broken_turn}
use Rattle.cert_upgrade.proofs.Stopped.{broken_so, not_long, of_reads, of_no_writes, no_cause}
use Rattle.cert_upgrade.proofs.Stopped.{no_stop, of_write}
use Rattle.cert_upgrade.proofs.rewriting.rewrite.Goals as goal

pub returns-in_err-reader-clause-err : goal.returns-in_err-reader-clause-err
returns-in_err-reader-clause-err g c =
    let p = err_from_is_err_and c.from_residual.result c.from_residual.ensures.1 in
    rw p.1 (nothing_taken (g.F.Folder.told c.args.folder.now c.args.cert.now)
    (g.F.Folder.told c.args.folder.now c.args.new.now)
    (g.F.Folder.told c.args.folder.now c.args.new.now) refl)

pub returns-in_err-reader-clause-sound : goal.returns-in_err-reader-clause-sound
returns-in_err-reader-clause-sound g c = λ all t items are.
    let p = err_from_is_err_and c.from_residual.result c.from_residual.ensures.1 in rw (p.1, p.2) tt

pub returns-in_err-reader-clause-short : goal.returns-in_err-reader-clause-short
returns-in_err-reader-clause-short g c = λ e.
    let p = err_from_is_err_and c.from_residual.result c.from_residual.ensures.1 in
    let a = p.1 in let b = p.2 in cc

pub returns-in_err-reader-clause-reads : goal.returns-in_err-reader-clause-reads
returns-in_err-reader-clause-reads g c =
    let p = err_from_is_err_and c.from_residual.result c.from_residual.ensures.1 in
    rw (p.1, p.2) (no_cause ReadFailed OutOfMemory (g.F.Folder.read_faults c.args.folder.now)
    (g.F.Folder.read_faults c.args.folder.now) (λ e. cc e) (omega arith))

pub returns-in_err-reader-clause-writes : goal.returns-in_err-reader-clause-writes
returns-in_err-reader-clause-writes g c =
    let p = err_from_is_err_and c.from_residual.result c.from_residual.ensures.1 in
    rw (p.1, p.2) (no_cause WriteFailed OutOfMemory (g.F.Folder.write_faults c.args.folder.now)
    (g.F.Folder.write_faults c.args.folder.now) (λ e. cc e) (omega arith))

pub loop-ended-init : goal.loop-ended-init
loop-ended-init g c =
    let told = g.F.Folder.told c.args.folder.now c.args.cert.now in
    let held = g.F.Folder.told c.args.folder.now c.args.new.now in
    let b = c.in_ok-reader.ensures.begins in
    let at = ap (λ (p : Progress). p.ahead.at) b in
    record {
      rewritten = rewritten_none told c.in_ok-reader.reader c.none-seen.result held held
          c.new-bytes.result.items
          (read_none told c.args.cert.now c.in_ok-reader.reader c.none-seen.result b
          c.none-seen.ensures) c.new-bytes.ensures.items refl;
      within = omega (arith, at);
      agrees = c.in_ok-reader.ensures.agrees _;
      name = ap (λ (p : Progress). p.ahead.name) b;
      others = λ other n. refl;
      reads = omega arith;
      writes = omega arith;
    }

pub respell-requires-clause-can_respell : goal.respell-requires-clause-can_respell
respell-requires-clause-can_respell g c =
    let i = c.loop-ended.invariant in
    let open_on : c.loop-ended.ended ≡ false = search rules in
    record {
      sound = i.rewritten.read.sound;
      due = not_done (g.F.Folder.told c.args.folder.now c.args.cert.now) i.rewritten.items
          c.loop-ended.reader c.loop-ended.seen c.loop-ended.ended i.rewritten.read open_on;
      few = i.rewritten.read.few;
      within = i.within;
    }

pub returns-in_err-next-clause-err : goal.returns-in_err-next-clause-err
returns-in_err-next-clause-err g c =
    let p = err_from_is_err_and c.from_residual-in_err-next.result
    c.from_residual-in_err-next.ensures.1 in
    let i = c.loop-ended.invariant in
    rw (p.1, c.in_err-next.ensures.only_reads.told c.args.new.now)
    (broken_reading (g.F.Folder.told c.args.folder.now c.args.cert.now) c.loop-ended.reader
    c.loop-ended.seen c.loop-ended.ended (g.F.Folder.told c.args.folder.now c.args.new.now)
    (g.F.Folder.told c.loop-ended.folder c.args.new.now) c.loop-ended.bytes.items i.rewritten)

pub returns-in_err-next-clause-sound : goal.returns-in_err-next-clause-sound
returns-in_err-next-clause-sound g c = λ all t items are.
    let p = err_from_is_err_and c.from_residual-in_err-next.result
    c.from_residual-in_err-next.ensures.1 in
    let i = c.loop-ended.invariant in
    let told = g.F.Folder.told c.args.folder.now c.args.cert.now in
    let there = ap (g.F.Folder.told c.loop-ended.folder) i.name
    ∙ i.others c.args.cert.now c.requires.apart ∙ t in
    rw (p.1, p.2) (broken_so c.in_err-next.field-0.0 (λ f e. items_are_one.sound all items f are
    (read_fault told all i.rewritten.items c.loop-ended.reader c.loop-ended.seen c.loop-ended.ended
    f t i.rewritten.read (c.in_err-next.ensures.fault all there f (ap Err e)))))

pub returns-in_err-next-clause-short : goal.returns-in_err-next-clause-short
returns-in_err-next-clause-short g c =
    let p = err_from_is_err_and c.from_residual-in_err-next.result
    c.from_residual-in_err-next.ensures.1 in
    rw (p.1, p.2) (not_long c.in_err-next.field-0.0)

pub returns-in_err-next-clause-reads : goal.returns-in_err-next-clause-reads
returns-in_err-next-clause-reads g c =
    let p = err_from_is_err_and c.from_residual-in_err-next.result
    c.from_residual-in_err-next.ensures.1 in
    rw (p.1, p.2) (of_reads c.in_err-next.field-0.0 (g.F.Folder.read_faults c.args.folder.now)
    (g.F.Folder.read_faults c.loop-ended.folder) (g.F.Folder.read_faults c.respell.new.folder)
    c.loop-ended.invariant.reads c.in_err-next.ensures.only_reads.later
    (λ e. c.in_err-next.ensures.only_reads.cause (ap Err e)))

pub returns-in_err-next-clause-writes : goal.returns-in_err-next-clause-writes
returns-in_err-next-clause-writes g c =
    let p = err_from_is_err_and c.from_residual-in_err-next.result
    c.from_residual-in_err-next.ensures.1 in
    let a = c.loop-ended.invariant.writes in
    let b = c.in_err-next.ensures.only_reads.quiet in
    rw (p.1, p.2) (of_no_writes c.in_err-next.field-0.0
    (g.F.Folder.write_faults c.args.folder.now) (g.F.Folder.write_faults c.respell.new.folder)
    (omega (arith, a, b)))

pub returns-in_err-pass_on-clause-err : goal.returns-in_err-pass_on-clause-err
returns-in_err-pass_on-clause-err g c =
    let p = err_from_is_err_and c.from_residual-in_err-pass_on.result
    c.from_residual-in_err-pass_on.ensures.1 in
    let i = c.loop-ended.invariant in
    let r = c.in_ok-next.ensures in
    let open_on : c.loop-ended.ended ≡ false = search rules in
    let there = ap (g.F.Folder.told c.loop-ended.folder) i.name
    ∙ i.others c.args.cert.now c.requires.apart in
    rw p.1 (broken_turn (g.F.Folder.told c.args.folder.now c.args.cert.now)
    (g.F.Folder.told c.loop-ended.folder c.loop-ended.reader.ahead.name) c.loop-ended.reader
    c.respell.new.reader c.loop-ended.seen c.in_ok-next.next c.loop-ended.ended c.in_ok-next.last
    (g.F.Folder.told c.args.folder.now c.args.new.now)
    (g.F.Folder.told c.loop-ended.folder c.args.new.now)
    (g.F.Folder.told c.respell.new.folder c.args.new.now)
    (g.F.Folder.told c.pass_on.new.folder c.args.new.now)
    c.loop-ended.bytes.items c.respell.new.out.items there open_on
    (r.only_reads.told c.args.new.now)
    i.rewritten r.ok c.in_err-pass_on.ensures.err)

pub returns-in_err-pass_on-clause-sound : goal.returns-in_err-pass_on-clause-sound
returns-in_err-pass_on-clause-sound g c = λ all t items are.
    let p = err_from_is_err_and c.from_residual-in_err-pass_on.result
    c.from_residual-in_err-pass_on.ensures.1 in
    rw (p.1, p.2) tt

pub returns-in_err-pass_on-clause-short : goal.returns-in_err-pass_on-clause-short
returns-in_err-pass_on-clause-short g c = λ e.
    let p = err_from_is_err_and c.from_residual-in_err-pass_on.result
    c.from_residual-in_err-pass_on.ensures.1 in
    let a = p.1 in let b = p.2 in cc

pub returns-in_err-pass_on-clause-reads : goal.returns-in_err-pass_on-clause-reads
returns-in_err-pass_on-clause-reads g c =
    let p = err_from_is_err_and c.from_residual-in_err-pass_on.result
    c.from_residual-in_err-pass_on.ensures.1 in
    let a = c.loop-ended.invariant.reads in
    let b = c.in_ok-next.ensures.only_reads.later in
    let q = c.in_err-pass_on.ensures.only_writes.quiet in
    rw (p.1, p.2) (no_cause ReadFailed WriteFailed (g.F.Folder.read_faults c.args.folder.now)
    (g.F.Folder.read_faults c.pass_on.new.folder) (λ e. cc e) (omega (arith, a, b, q)))

pub returns-in_err-pass_on-clause-writes : goal.returns-in_err-pass_on-clause-writes
returns-in_err-pass_on-clause-writes g c =
    let p = err_from_is_err_and c.from_residual-in_err-pass_on.result
    c.from_residual-in_err-pass_on.ensures.1 in
    let a = c.loop-ended.invariant.writes in
    let q = c.in_ok-next.ensures.only_reads.quiet in
    rw (p.1, p.2) (of_write (g.F.Folder.write_faults c.args.folder.now)
    (g.F.Folder.write_faults c.respell.new.folder) (g.F.Folder.write_faults c.pass_on.new.folder)
    (omega (arith, a, q)) c.in_err-pass_on.ensures.only_writes.later
    (c.in_err-pass_on.ensures.only_writes.cause refl))

pub loop-ended-preserved : goal.loop-ended-preserved
loop-ended-preserved g c =
    let i = c.loop-ended.invariant in
    let r = c.in_ok-next.ensures in
    let p = c.in_ok-pass_on.ensures in
    let open_on : c.loop-ended.ended ≡ false = search rules in
    let there = ap (g.F.Folder.told c.loop-ended.folder) i.name
    ∙ i.others c.args.cert.now c.requires.apart in
    record {
      rewritten = rewritten_turn (g.F.Folder.told c.args.folder.now c.args.cert.now)
          (g.F.Folder.told c.loop-ended.folder c.loop-ended.reader.ahead.name) c.loop-ended.reader
          c.respell.new.reader c.loop-ended.seen c.in_ok-next.next c.loop-ended.ended
          c.in_ok-next.last (g.F.Folder.told c.args.folder.now c.args.new.now)
          (g.F.Folder.told c.loop-ended.folder c.args.new.now)
          (g.F.Folder.told c.respell.new.folder c.args.new.now)
          (g.F.Folder.told c.pass_on.new.folder c.args.new.now)
          c.loop-ended.bytes.items c.respell.new.out.items c.pass_on.new.waiting.items there open_on
          (r.only_reads.told c.args.new.now) i.rewritten r.ok p.ok p.whole;
      within = r.within;
      agrees = subst (λ t. AgreesTold t c.respell.new.reader.ahead)
          (sym (p.only_writes.others c.respell.new.reader.ahead.name
          (λ e. c.requires.apart (sym (r.reads_on.kept ∙ i.name) ∙ e)))) r.reads_on.agrees;
      name = r.reads_on.kept ∙ i.name;
      others = λ other n.
          p.only_writes.others other n ∙ r.only_reads.told other ∙ i.others other n;
      reads = let a = i.reads in let b = r.only_reads.later in
          let q = p.only_writes.quiet in omega (arith, a, b, q);
      writes = let a = i.writes in let q = r.only_reads.quiet in let b = p.only_writes.later in
          omega (arith, a, b, q);
    }

pub loop-ended-smaller : goal.loop-ended-smaller
loop-ended-smaller g c = fewer_turns c.loop-ended.ended c.in_ok-next.last
    _ _ (search rules) c.in_ok-next.ensures.grows c.in_ok-next.ensures.within

pub returns-clause-ok : goal.returns-clause-ok
returns-clause-ok g c =
    let i = c.loop-ended.invariant in
    let done : c.loop-ended.ended ≡ true = search rules in
    rewritten_all c.certificates_are_spelled_once.ensures.spelled _ _ _ _ _ _ _ done i.rewritten

pub returns-in_err-next-clause-others : goal.returns-in_err-next-clause-others
returns-in_err-next-clause-others g c = λ other n.
    c.in_err-next.ensures.only_reads.told other ∙ c.loop-ended.invariant.others other n

pub returns-in_err-pass_on-clause-others : goal.returns-in_err-pass_on-clause-others
returns-in_err-pass_on-clause-others g c = λ other n.
    c.in_err-pass_on.ensures.only_writes.others other n ∙ c.in_ok-next.ensures.only_reads.told other
    ∙ c.loop-ended.invariant.others other n

pub returns-clause-reads : goal.returns-clause-reads
returns-clause-reads g c =
    no_stop ReadFailed c.loop-ended.seen (g.F.Folder.read_faults c.args.folder.now)
    (g.F.Folder.read_faults c.loop-ended.folder) c.loop-ended.invariant.reads

pub returns-clause-writes : goal.returns-clause-writes
returns-clause-writes g c =
    no_stop WriteFailed c.loop-ended.seen (g.F.Folder.write_faults c.args.folder.now)
    (g.F.Folder.write_faults c.loop-ended.folder) c.loop-ended.invariant.writes
