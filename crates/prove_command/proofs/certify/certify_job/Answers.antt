use Rattle.std.proofs.Common.{Ok, ◌∙◌, refl, sym, subst}
use Rattle.rewrite_hints.specs.Marks.{AreMarks}
use Rattle.settler.specs.Answers.{Options, options_from}
use Rattle.settler.proofs.Jobs.{on_new, on_old}
use Rattle.command_runs.specs.declared.status.Status.TheVariants as status
use Rattle.report.specs.Proved.{answer_text}
use Rattle.script_answers.specs.Answers.{IsFound}
use Rattle.cert_writer.specs.Written.{IsProvedWith}
use Rattle.prove_command.specs.Certified.{IsCertifiedBy, name_of}
use Rattle.prove_command.specs.declared.certify.Certified.{Certified}
use Rattle.prove_command.proofs.Left.{IsAnsweredWith, certified_by, spared_by}
use Rattle.prove_command.proofs.certify.certify_job.Goals as goal

-- another answer than that it is proved
pub returns-in-Stopped : goal.returns-in-Stopped
returns-in-Stopped g c =
    let s = c.args.job.now.script.now in
    let o : Options = options_from c.args.job.now.options in
    let found = subst (IsFound o s) c.in-Stopped.is c.in_ok-found.ensures.found in
    spared_by g.F.Folder o s.text (name_of c.args.cert) c.args.folder.now _
    (record { other = found.0; prints = found.1; done = λ h. h })

pub write_asked-written-requires-clause-marks : goal.write_asked-written-requires-clause-marks
write_asked-written-requires-clause-marks g c =
    let s = c.prove_job.new.job.script.now in
    subst (AreMarks s.nodes s.hints.rewrites) (sym c.deref-in-Proved.ensures.value)
    c.in_ok-marks-in-Proved.ensures

pub write_asked-written-requires-clause-proved : goal.write_asked-written-requires-clause-proved
write_asked-written-requires-clause-proved g c =
    let old = c.args.job.now in
    let o : Options = options_from old.options in
    let found = subst (IsFound o old.script.now) c.in-Proved.is c.in_ok-found.ensures.found in
    on_new old c.prove_job.new.job c.in_ok-found.ensures.same
    (λ s a. IsProvedWith s a.rounds a.depth) (
      old.options.boxes,
      c.in-Proved.shown,
      c.requires.job.allowed.boxes.1,
      (c.in-Proved.field-0, found.proved),
    )

pub returns-in_ok-lines-in-Proved : goal.returns-in_ok-lines-in-Proved
returns-in_ok-lines-in-Proved g c =
    let old = c.args.job.now in
    let new = c.prove_job.new.job in
    let same = c.in_ok-found.ensures.same in
    let s = new.script.now in
    let o : Options = options_from new.options in
    let lines = c.in_ok-lines-in-Proved.lines in
    let found : IsFound o s c.in_ok-found.found =
    on_new old new same (λ v a. IsFound (options_from a) v c.in_ok-found.found)
    c.in_ok-found.ensures.found in
    let given : IsAnsweredWith o s lines.items = (
      record {
        script = s;
        boxes = c.in-Proved.field-0;
        shown = c.in-Proved.shown;
        marks = c.in_ok-marks-in-Proved.marks.items;
        proved = subst (IsFound o s) c.in-Proved.is found;
        marked = c.in_ok-marks-in-Proved.ensures;
        printed = c.in_ok-lines-in-Proved.ensures
            ∙ (λ i. answer_text s.text s.tokens s.spans (c.as_slice.ensures i)
            (c.deref.ensures.value i));
      },
      refl,
    ) in
    let done : Certified =
    record { status = status.Answered; lines = lines; written = c.write_asked-written.result } in
    let cert = name_of c.args.cert in
    let before = c.args.folder.now in
    let after = c.write_asked-written.new.folder in
    on_old old new same
    (λ v a. IsCertifiedBy g.F.Folder (options_from a) v.text cert before after (Ok done))
    (certified_by g.F.Folder o s lines.items given before after cert done refl refl
    c.write_asked-written.ensures)
