use Rattle.std.specs.Prelude.{◌≡◌, ◌⊎◌, Some, [], Err}
use Rattle.std.proofs.Common.{◌∙◌, ap, subst, arith, ltb-true, ltb-false}
use Rattle.std.proofs.lemmas.Result.{err_from_is_err_and}
use Rattle.fx_edge.specs.Outside.{Empties}
use Rattle.cert_upgrade.specs.declared.stop.UpgradeStop.TheVariants.{NewTooLong, ReadFailed}
use Rattle.cert_upgrade.specs.declared.stop.UpgradeStop.TheVariants.{WriteFailed}
use Rattle.cert_upgrade.proofs.Stopped.{cause_later, of_reads, of_no_writes, no_cause, of_write}
use Rattle.cert_upgrade.proofs.Upgraded.{comes_unread, any_unread, too_long, comes_unmade}
use Rattle.cert_upgrade.proofs.Upgraded.{any_unmade, may_become, comes_rewritten, any_rewritten}
use Rattle.cert_upgrade.proofs.rewriting.upgrade.Goals as goal

-- ---- the first reading stopped
pub returns-in_err-length-clause-comes : goal.returns-in_err-length-clause-comes
returns-in_err-length-clause-comes g c = λ all t.
    let p = err_from_is_err_and c.from_residual.result c.from_residual.ensures.1 in
    let m = c.in_err-length.ensures in
    rw (p.1, p.2) (comes_unread all (g.F.Folder.told c.args.folder.now c.args.new.now)
    (g.F.Folder.told c.measure.new.folder c.args.new.now) c.in_err-length.field-0.0
    (m.only_reads.told c.args.new.now) (λ f e. m.fault all t f (ap Err e)))

pub returns-in_err-length-clause-any : goal.returns-in_err-length-clause-any
returns-in_err-length-clause-any g c =
    let p = err_from_is_err_and c.from_residual.result c.from_residual.ensures.1 in
    rw (p.1, p.2) (any_unread (g.F.Folder.told c.args.folder.now c.args.new.now)
    (g.F.Folder.told c.measure.new.folder c.args.new.now) c.in_err-length.field-0.0
    (c.in_err-length.ensures.only_reads.told c.args.new.now))

pub returns-in_err-length-clause-reads : goal.returns-in_err-length-clause-reads
returns-in_err-length-clause-reads g c =
    let p = err_from_is_err_and c.from_residual.result c.from_residual.ensures.1 in
    let m = c.in_err-length.ensures in
    rw (p.1, p.2) (of_reads c.in_err-length.field-0.0 (g.F.Folder.read_faults c.args.folder.now)
    (g.F.Folder.read_faults c.args.folder.now) (g.F.Folder.read_faults c.measure.new.folder)
    (omega arith) m.only_reads.later (λ e. m.only_reads.cause (ap Err e)))

pub returns-in_err-length-clause-writes : goal.returns-in_err-length-clause-writes
returns-in_err-length-clause-writes g c =
    let p = err_from_is_err_and c.from_residual.result c.from_residual.ensures.1 in
    let q = c.in_err-length.ensures.only_reads.quiet in
    rw (p.1, p.2) (of_no_writes c.in_err-length.field-0.0
    (g.F.Folder.write_faults c.args.folder.now) (g.F.Folder.write_faults c.measure.new.folder)
    (omega (arith, q)))

-- ---- the new spelling is too long
pub returns-then-too_long-clause-comes : goal.returns-then-too_long-clause-comes
returns-then-too_long-clause-comes g c = λ all t.
    let m = c.in_ok-length.ensures in (
      too_long all m.ok.0 c.in_ok-length.length (m.ok.1.are all t) m.ok.3
          (omega (arith, ltb-true)),
      m.only_reads.told c.args.new.now,
    )

pub returns-then-too_long-clause-any : goal.returns-then-too_long-clause-any
returns-then-too_long-clause-any g c = c.in_ok-length.ensures.only_reads.told c.args.new.now

pub returns-then-too_long-clause-reads : goal.returns-then-too_long-clause-reads
returns-then-too_long-clause-reads g c =
    no_cause ReadFailed NewTooLong (g.F.Folder.read_faults c.args.folder.now)
    (g.F.Folder.read_faults c.measure.new.folder) (λ e. cc e)
    c.in_ok-length.ensures.only_reads.later

pub returns-then-too_long-clause-writes : goal.returns-then-too_long-clause-writes
returns-then-too_long-clause-writes g c =
    let q = c.in_ok-length.ensures.only_reads.quiet in
    no_cause WriteFailed NewTooLong (g.F.Folder.write_faults c.args.folder.now)
    (g.F.Folder.write_faults c.measure.new.folder) (λ e. cc e) (omega (arith, q))

-- ---- the new file couldn't be made
pub returns-in_err-fresh-clause-comes : goal.returns-in_err-fresh-clause-comes
returns-in_err-fresh-clause-comes g c = λ all t.
    let p = err_from_is_err_and c.from_residual-in_err-fresh.result
    c.from_residual-in_err-fresh.ensures.1 in
    let m = c.in_ok-length.ensures in
    let old = g.F.Folder.told c.args.folder.now c.args.new.now in
    let now = g.F.Folder.told c.fresh.new.self c.args.new.now in
    let may = may_become all m.ok.0 c.in_ok-length.length (m.ok.1.are all t) m.ok.3
    (omega (arith, ltb-false)) in
    rw (p.1, p.2) (comes_unmade all m.ok.0 old now may
    (subst (λ x. (now ≡ x) ⊎ (now ≡ Some [])) (m.only_reads.told c.args.new.now)
    c.in_err-fresh.ensures.err))

pub returns-in_err-fresh-clause-any : goal.returns-in_err-fresh-clause-any
returns-in_err-fresh-clause-any g c =
    let p = err_from_is_err_and c.from_residual-in_err-fresh.result
    c.from_residual-in_err-fresh.ensures.1 in
    let old = g.F.Folder.told c.args.folder.now c.args.new.now in
    let now = g.F.Folder.told c.fresh.new.self c.args.new.now in
    rw (p.1, p.2) (any_unmade old now
    (subst (λ x. (now ≡ x) ⊎ (now ≡ Some []))
    (c.in_ok-length.ensures.only_reads.told c.args.new.now)
    c.in_err-fresh.ensures.err))

pub returns-in_err-fresh-clause-reads : goal.returns-in_err-fresh-clause-reads
returns-in_err-fresh-clause-reads g c =
    let p = err_from_is_err_and c.from_residual-in_err-fresh.result
    c.from_residual-in_err-fresh.ensures.1 in
    let a = c.in_ok-length.ensures.only_reads.later in
    let q = c.in_err-fresh.ensures.quiet in
    rw (p.1, p.2) (no_cause ReadFailed WriteFailed (g.F.Folder.read_faults c.args.folder.now)
    (g.F.Folder.read_faults c.fresh.new.self) (λ e. cc e) (omega (arith, a, q)))

pub returns-in_err-fresh-clause-writes : goal.returns-in_err-fresh-clause-writes
returns-in_err-fresh-clause-writes g c =
    let p = err_from_is_err_and c.from_residual-in_err-fresh.result
    c.from_residual-in_err-fresh.ensures.1 in
    let q = c.in_ok-length.ensures.only_reads.quiet in
    rw (p.1, p.2) (of_write (g.F.Folder.write_faults c.args.folder.now)
    (g.F.Folder.write_faults c.measure.new.folder) (g.F.Folder.write_faults c.fresh.new.self)
    (omega (arith, q)) c.in_err-fresh.ensures.cause.later c.in_err-fresh.ensures.cause.failed)

pub returns-in_err-fresh-clause-others : goal.returns-in_err-fresh-clause-others
returns-in_err-fresh-clause-others g c = λ other n.
    c.in_err-fresh.ensures.others other n ∙ c.in_ok-length.ensures.only_reads.told other

-- ---- the second reading
pub returns-clause-comes : goal.returns-clause-comes
returns-clause-comes g c = λ all t.
    let m = c.in_ok-length.ensures in
    let w = c.rewrite.ensures in
    let fresh = g.F.Folder.told c.fresh.new.self c.args.new.now in
    let there = c.in_ok-fresh.ensures.others c.args.cert.now c.requires.apart
    ∙ m.only_reads.told c.args.cert.now ∙ t in
    let may = may_become all m.ok.0 c.in_ok-length.length (m.ok.1.are all t) m.ok.3
    (omega (arith, ltb-false)) in
    comes_rewritten all m.ok.0 (g.F.Folder.told c.fresh.new.self c.args.cert.now)
    (g.F.Folder.told c.args.folder.now c.args.new.now) fresh
    (g.F.Folder.told c.rewrite.new.folder c.args.new.now) c.rewrite.result there may
    (subst (λ x. Empties x fresh) (m.only_reads.told c.args.new.now) c.in_ok-fresh.ensures.ok) w.ok
    w.err
    (w.sound all there m.ok.0 (m.ok.1.are all t))

pub returns-clause-any : goal.returns-clause-any
returns-clause-any g c =
    let w = c.rewrite.ensures in
    let fresh = g.F.Folder.told c.fresh.new.self c.args.new.now in
    any_rewritten (g.F.Folder.told c.fresh.new.self c.args.cert.now)
    (g.F.Folder.told c.args.folder.now c.args.new.now) fresh
    (g.F.Folder.told c.rewrite.new.folder c.args.new.now) c.rewrite.result
    (subst (λ x. Empties x fresh) (c.in_ok-length.ensures.only_reads.told c.args.new.now)
    c.in_ok-fresh.ensures.ok) w.ok w.err w.short

pub returns-clause-reads : goal.returns-clause-reads
returns-clause-reads g c =
    let a = c.in_ok-length.ensures.only_reads.later in
    let q = c.in_ok-fresh.ensures.quiet in
    cause_later ReadFailed c.rewrite.result (g.F.Folder.read_faults c.args.folder.now)
    (g.F.Folder.read_faults c.fresh.new.self) (g.F.Folder.read_faults c.rewrite.new.folder)
    (omega (arith, a, q)) c.rewrite.ensures.reads

pub returns-clause-writes : goal.returns-clause-writes
returns-clause-writes g c =
    let q = c.in_ok-length.ensures.only_reads.quiet in
    let a = c.in_ok-fresh.ensures.cause.later in
    cause_later WriteFailed c.rewrite.result (g.F.Folder.write_faults c.args.folder.now)
    (g.F.Folder.write_faults c.fresh.new.self) (g.F.Folder.write_faults c.rewrite.new.folder)
    (omega (arith, a, q)) c.rewrite.ensures.writes

pub returns-clause-others : goal.returns-clause-others
returns-clause-others g c = λ other n.
    c.rewrite.ensures.others other n ∙ c.in_ok-fresh.ensures.others other n
    ∙ c.in_ok-length.ensures.only_reads.told other
