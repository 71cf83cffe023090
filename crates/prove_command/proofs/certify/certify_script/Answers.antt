use Rattle.std.proofs.Common.{Err, ap, subst}
use Rattle.proof_options.specs.declared.options.Options.{Options}
use Rattle.script_grammar.specs.Spells.{View}
use Rattle.settler.specs.Answers.{options_from}
use Rattle.prove_command.specs.Certified.{IsCertifiedBy, name_of}
use Rattle.prove_command.proofs.Left.{spared_by}
use Rattle.prove_command.proofs.certify.certify_script.Goals as goal

pub certify_job-requires-clause-job : goal.certify_job-requires-clause-job
certify_job-requires-clause-job g c κs within = c.in-Ok.ensures.job

pub unbuilt_line-requires : goal.unbuilt_line-requires
unbuilt_line-requires g c = λ e. c.in-Err.ensures.many (ap Err e)

pub returns-in-Ok : goal.returns-in-Ok
returns-in-Ok g c =
    let request = c.args.request.now in
    subst (λ (v : View). IsCertifiedBy g.F.Folder (options_from request.options) v.text
    (name_of request.cert) c.args.folder.now c.certify_job.new.folder c.certify_job.result)
    c.in-Ok.ensures.script
    (subst (λ (o : Options). IsCertifiedBy g.F.Folder (options_from o)
    c.in-Ok.job.script.now.text (name_of request.cert) c.args.folder.now
    c.certify_job.new.folder c.certify_job.result) c.in-Ok.ensures.options c.certify_job.ensures)

pub returns-in_ok-lines-in-Err : goal.returns-in_ok-lines-in-Err
returns-in_ok-lines-in-Err g c =
    let request = c.args.request.now in
    spared_by g.F.Folder (options_from request.options) c.args.script.now.text
    (name_of request.cert) c.args.folder.now _ (record {
      other = λ e. cc e;
      prints = c.in_ok-lines-in-Err.ensures (options_from request.options);
      done = λ h. h;
    })
