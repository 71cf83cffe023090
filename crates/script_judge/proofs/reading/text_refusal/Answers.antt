use Rattle.std.proofs.Common.{Some, sym, subst, arith}
use Rattle.script_judge.specs.declared.refusal.RefusalKind.TheVariants as kind
use Rattle.script_judge.specs.Reading.{IsTextRefusal, too_long, not_text, readable, refusal}
use Rattle.script_judge.proofs.reading.text_refusal.Goals as goal

pub returns-then-text-gt-MOST_BYTES : goal.returns-then-text-gt-MOST_BYTES
returns-then-text-gt-MOST_BYTES c = too_long (omega arith)

pub returns-in-Ok : goal.returns-in-Ok
returns-in-Ok c = readable (omega arith, c.in-Ok.ensures.cases.1)

pub returns-in-Err : goal.returns-in-Err
returns-in-Err c =
    subst (λ at. IsTextRefusal c.args.text.now (Some (refusal kind.NotText at)))
    (sym c.valid_up_to.ensures) (not_text (omega arith) c.in-Err.ensures.cases.1)
