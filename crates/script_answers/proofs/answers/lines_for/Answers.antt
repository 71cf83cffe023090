use Rattle.std.proofs.Common.{◌∙◌, subst}
use Rattle.report.specs.Proved.{answer_text}
use Rattle.script_answers.specs.Answers.{IsFound}
use Rattle.script_answers.proofs.answers.lines_for.Goals as goal

pub returns-in-Stopped : goal.returns-in-Stopped
returns-in-Stopped c = λ o found.
    (subst (IsFound o c.args.script.now) c.in-Stopped.is found).1

pub returns-in_ok-lines-in-Proved : goal.returns-in_ok-lines-in-Proved
returns-in_ok-lines-in-Proved c = λ o found.
    let s = c.args.script.now in
    record {
      script = s;
      boxes = c.in-Proved.field-0;
      shown = c.in-Proved.shown;
      marks = c.in_ok-marks-in-Proved.marks.items;
      proved = subst (IsFound o s) c.in-Proved.is found;
      marked = c.in_ok-marks-in-Proved.ensures;
      printed = c.in_ok-lines-in-Proved.ensures
          ∙ (λ i. answer_text s.text s.tokens s.spans (c.as_slice.ensures i)
          (c.deref.ensures.value i));
    }
