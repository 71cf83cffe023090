use Rattle.std.proofs.Common.{Err}
use Rattle.cert_checker.proofs.Checking.{is_fresh}
use Rattle.check_command.proofs.Checked.{accepted_prints, unread_prints, refused_prints}
use Rattle.check_command.proofs.Complete.{answers_accepted, not_unread, not_refused}
use Rattle.check_command.proofs.check.check_certificate.Goals as goal

pub check_script-requires-clause-fresh : goal.check_script-requires-clause-fresh
check_script-requires-clause-fresh g c = is_fresh c.args.name.now _ c.in_ok-reader.ensures.begins

pub check_script-requires-clause-agrees : goal.check_script-requires-clause-agrees
check_script-requires-clause-agrees g c = c.in_ok-reader.ensures.agrees _

pub returns-in-Ok-clause-prints : goal.returns-in-Ok-clause-prints
returns-in-Ok-clause-prints g c =
    let found = c.in-Ok.ensures in
    accepted_prints (g.F.Folder.told c.args.folder.now) c.args.name.now c.in_ok-reader.reader
    c.in_ok-reader.ensures.begins c.args.script.now c.script_or_refusal.ensures.spans
    c.laws.ensures.spelled c.in-Ok.lines (λ all h. (found.of_told all h).checks)
    (λ all h. (found.of_told all h).accepts) found.holds found.count
    found.marks _ c.in_ok-checked_text-in-Ok.ensures

pub returns-in-Err-Cert-clause-prints : goal.returns-in-Err-Cert-clause-prints
returns-in-Err-Cert-clause-prints g c =
    unread_prints (g.F.Folder.told c.args.folder.now) c.args.name.now c.in_ok-reader.reader
    c.in_ok-reader.ensures.begins c.args.script.now c.laws.ensures.spelled c.in-Err-Cert.field-0
    c.in-Err-Cert.fault c.in-Err-Cert.field-0-is
    (λ all h. (c.in-Err-Cert.ensures.of_told all h).checks) _
    c.in_ok-cert_fault_line-in-Err-Cert.ensures

pub returns-in-Err-Cert-clause-accepted : goal.returns-in-Err-Cert-clause-accepted
returns-in-Err-Cert-clause-accepted g c = λ all known p.
    let a =
    answers_accepted c.bytes_are_accepted.ensures.accepted c.script_or_refusal.ensures.once
    (g.F.Folder.told c.args.folder.now) c.args.name.now c.in_ok-reader.reader
    c.in_ok-reader.ensures.begins c.args.script.now c.laws.ensures.spelled
    (Err c.in-Err-Cert.field-0) (λ all h. (c.in-Err-Cert.ensures.of_told all h).exact) all known
    p in
    absurd (not_unread a.0 c.in-Err-Cert.field-0 c.in-Err-Cert.fault c.in-Err-Cert.field-0-is a.1)

pub returns-in-Err-Check-clause-prints : goal.returns-in-Err-Check-clause-prints
returns-in-Err-Check-clause-prints g c =
    refused_prints (g.F.Folder.told c.args.folder.now) c.args.name.now c.in_ok-reader.reader
    c.in_ok-reader.ensures.begins c.args.script.now c.laws.ensures.spelled c.in-Err-Check.field-0
    c.in-Err-Check.fault c.in-Err-Check.field-0-is
    (λ all h. (c.in-Err-Check.ensures.of_told all h).checks) _
    c.in_ok-check_fault_line-in-Err-Check.ensures

pub returns-in-Err-Check-clause-accepted : goal.returns-in-Err-Check-clause-accepted
returns-in-Err-Check-clause-accepted g c = λ all known p.
    let a =
    answers_accepted c.bytes_are_accepted.ensures.accepted c.script_or_refusal.ensures.once
    (g.F.Folder.told c.args.folder.now) c.args.name.now c.in_ok-reader.reader
    c.in_ok-reader.ensures.begins c.args.script.now c.laws.ensures.spelled
    (Err c.in-Err-Check.field-0) (λ all h. (c.in-Err-Check.ensures.of_told all h).exact) all known
    p in
    absurd
    (not_refused a.0 c.in-Err-Check.field-0 c.in-Err-Check.fault c.in-Err-Check.field-0-is a.1)
