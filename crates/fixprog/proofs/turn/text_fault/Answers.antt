use Rattle.std.proofs.Common.{Some, sym, subst, arith}
use Rattle.fixprog.specs.declared.fault.ProgKind.TheVariants as kind
use Rattle.fixprog.specs.First.{IsFirstFault, too_long, not_text, fault}
use Rattle.fixprog.proofs.turn.text_fault.Goals as goal

pub returns-then-text-gt-MOST_BYTES-clause-fault : goal.returns-then-text-gt-MOST_BYTES-clause-fault
returns-then-text-gt-MOST_BYTES-clause-fault c = too_long (omega arith)

pub returns-in-Err-clause-fault : goal.returns-in-Err-clause-fault
returns-in-Err-clause-fault c =
    subst (λ at. IsFirstFault c.args.text.now (Some (fault kind.NotText at)))
    (sym c.valid_up_to.ensures) (not_text (omega arith) c.in-Err.ensures.cases.1)
