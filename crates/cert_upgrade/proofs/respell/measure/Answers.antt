use Rattle.std.specs.Prelude.{◌≡◌, false, true, Err, refl}
use Rattle.std.proofs.Common.{◌∙◌, ap, arith, rules}
use Rattle.std.proofs.lemmas.Result.{err_from_is_err_and}
use Rattle.fx_edge.proofs.OnlyReads.{only_reads_none, only_reads_on, only_reads_then, told_of}
use Rattle.cert_bytes.specs.Readers.{Progress}
use Rattle.cert_upgrade.proofs.Measured.{measured_none, measured_turn, measured_all}
use Rattle.cert_upgrade.proofs.Read.{read_none, read_fault, not_done, fewer_turns}
use Rattle.cert_upgrade.proofs.Stopped.{same_stop}
use Rattle.cert_upgrade.proofs.respell.measure.Goals as goal

pub loop-ended-init : goal.loop-ended-init
loop-ended-init g c =
    let told = g.F.Folder.told c.args.folder.now c.args.name.now in
    let b = c.in_ok-reader.ensures.begins in
    let at = ap (λ (p : Progress). p.ahead.at) b in
    record {
      measured = measured_none told c.in_ok-reader.reader c.none-seen.result
          (read_none told c.args.name.now c.in_ok-reader.reader c.none-seen.result b
          c.none-seen.ensures);
      within = omega (arith, at);
      agrees = c.in_ok-reader.ensures.agrees _;
      name = ap (λ (p : Progress). p.ahead.name) b;
      only_reads = only_reads_none;
    }

pub respell-requires-clause-can_respell : goal.respell-requires-clause-can_respell
respell-requires-clause-can_respell g c =
    let i = c.loop-ended.invariant in
    let open_on : c.loop-ended.ended ≡ false = search rules in
    record {
      sound = i.measured.read.sound;
      due = not_done (g.F.Folder.told c.args.folder.now c.args.name.now) i.measured.items
          c.loop-ended.reader c.loop-ended.seen c.loop-ended.ended i.measured.read open_on;
      few = i.measured.read.few;
      within = i.within;
    }

pub loop-ended-preserved : goal.loop-ended-preserved
loop-ended-preserved g c =
    let i = c.loop-ended.invariant in
    let r = c.in_ok-next.ensures in
    let open_on : c.loop-ended.ended ≡ false = search rules in
    let there = told_of i.only_reads i.name refl in
    record {
      measured = measured_turn (g.F.Folder.told c.args.folder.now c.args.name.now)
          (g.F.Folder.told c.loop-ended.folder c.loop-ended.reader.ahead.name)
          c.loop-ended.reader c.respell.new.reader c.loop-ended.seen c.in_ok-next.next
          c.loop-ended.ended c.in_ok-next.last c.loop-ended.length c.saturating_add.result
          c.min-length.result c.clear.new.self.items c.respell.new.out.items there open_on
          c.clear.ensures.items i.measured r.ok
          (omega (arith, c.saturating_add.ensures)) c.min-length.ensures;
      within = r.within;
      agrees = r.reads_on.agrees;
      name = r.reads_on.kept ∙ i.name;
      only_reads = only_reads_on i.only_reads r.only_reads;
    }

pub loop-ended-smaller : goal.loop-ended-smaller
loop-ended-smaller g c = fewer_turns c.loop-ended.ended c.in_ok-next.last
    _ _ (search rules) c.in_ok-next.ensures.grows c.in_ok-next.ensures.within

pub returns-in_err-reader-clause-fault : goal.returns-in_err-reader-clause-fault
returns-in_err-reader-clause-fault g c = λ all t f.
    let p = err_from_is_err_and c.from_residual.result c.from_residual.ensures.1 in
    rw (p.1, p.2) (λ e. cc e)

pub returns-in_err-reader-clause-only_reads : goal.returns-in_err-reader-clause-only_reads
returns-in_err-reader-clause-only_reads g c =
    let p = err_from_is_err_and c.from_residual.result c.from_residual.ensures.1 in
    rw (p.1, p.2) (only_reads_then only_reads_none only_reads_none (λ e. cc e))

pub returns-in_err-next-clause-fault : goal.returns-in_err-next-clause-fault
returns-in_err-next-clause-fault g c = λ all t f.
    let p = err_from_is_err_and c.from_residual-in_err-next.result
    c.from_residual-in_err-next.ensures.1 in
    let i = c.loop-ended.invariant in
    let there = told_of i.only_reads i.name t in
    rw (p.1, p.2) (λ e. read_fault (g.F.Folder.told c.args.folder.now c.args.name.now) all
    i.measured.items c.loop-ended.reader c.loop-ended.seen c.loop-ended.ended f t i.measured.read
    (c.in_err-next.ensures.fault all there f (ap Err (same_stop _ _ e))))

pub returns-in_err-next-clause-only_reads : goal.returns-in_err-next-clause-only_reads
returns-in_err-next-clause-only_reads g c =
    let p = err_from_is_err_and c.from_residual-in_err-next.result
    c.from_residual-in_err-next.ensures.1 in
    rw (p.1, p.2) (only_reads_then c.loop-ended.invariant.only_reads
    c.in_err-next.ensures.only_reads (λ e. ap Err (same_stop _ _ e)))

pub returns-clause-ok : goal.returns-clause-ok
returns-clause-ok g c =
    let i = c.loop-ended.invariant in
    let done : c.loop-ended.ended ≡ true = search rules in
    measured_all c.certificates_are_spelled_once.ensures.spelled _ _ _ _ _ done i.measured
