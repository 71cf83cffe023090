use Rattle.std.proofs.Common.{arith, refl, ap}
use Rattle.settler.specs.Answers.{options_from}
use Rattle.cert_writer.specs.Written.{HoldsCertificate, HoldsFront}
use Rattle.prove_command.specs.Certified.{name_of}
use Rattle.prove_command.proofs.Left.{err_options, ok_options, written_by}
use Rattle.prove_command.proofs.certify.write_asked.Goals as goal

pub returns-in-Some : goal.returns-in-Some
returns-in-Some g c =
    let job = c.args.job.now in
    let s = job.script.now in
    let allowed = c.requires.job.allowed in
    let old = g.F.Folder.told c.args.folder.now c.in-Some.name.now in
    let new = g.F.Folder.told c.write_cert.new.folder c.in-Some.name.now in
    let done = c.write_cert.result in
    written_by g.F.Folder (options_from job.options) s c.in-Some.name.now (name_of c.args.cert)
    c.args.folder.now c.write_cert.new.folder done (ap name_of c.in-Some.is)
    (ok_options s job.options allowed (λ lines. HoldsCertificate s lines old new) done
    c.write_cert.ensures.ok)
    (err_options s job.options allowed (λ lines. HoldsFront s lines old new) done
    c.write_cert.ensures.err)
    c.write_cert.ensures.only_writes

pub returns-in-None : goal.returns-in-None
returns-in-None g c =
    let none = ap name_of c.in-None.is in
    record {
      ok = λ name e. absurd (cc (none, e));
      err = λ name e. absurd (cc (none, e));
      named = λ h. absurd h;
      others = λ other n. refl;
      cause = record { later = omega arith; failed = λ e. cc e };
    }
