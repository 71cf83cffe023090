use Rattle.std.proofs.Common.{◌<◌, sym, subst}
use Rattle.expr_dag.proofs.Faults.{passed}
use Rattle.script_words.specs.Named.{word_of}
use Rattle.script_judge.specs.Front.{front_after}
use Rattle.script_judge.specs.FrontViews.{front_of}
use Rattle.script_judge.proofs.FrontGrows.{count, formula_past}
use Rattle.script_judge.proofs.formula.Front.read.Goals as goal

pub returns-in_err-token-in-Claims-clause-full : goal.returns-in_err-token-in-Claims-clause-full
returns-in_err-token-in-Claims-clause-full c = λ e.
    subst (λ s. 1024 < count (front_after c.args.role (word_of c.args.word) (front_of s)))
    (sym c.in-Claims.is)
    (formula_past c.args.role (word_of c.args.word) c.in-Claims.claims
    (c.in_err-token-in-Claims.ensures.full (passed c.from_residual-in_err-token-in-Claims.result _
    c.from_residual-in_err-token-in-Claims.ensures.1 e)))
