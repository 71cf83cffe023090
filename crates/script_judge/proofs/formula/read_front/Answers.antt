use Rattle.std.proofs.Common.{arith}
use Rattle.expr_dag.proofs.Faults.{passed}
use Rattle.script_words.specs.Named.{word_of}
use Rattle.script_words.specs.Kept.{words_in}
use Rattle.script_judge.specs.FrontViews.{front_of}
use Rattle.script_judge.proofs.FrontGrows.{word_past}
use Rattle.script_judge.proofs.formula.read_front.Goals as goal

pub returns-in_err-front-clause-full : goal.returns-in_err-front-clause-full
returns-in_err-front-clause-full c = λ e.
    word_past c.nodes_only_grow.ensures.definitions
    c.claims_only_grow.ensures c.loop-roles.roles.now _
    (words_in c.in-Some.later_words) _ (word_of c.in-Some.word) (front_of c.loop-roles.front) _
    (omega (arith, c.in-len1-up.len_at_least)) c.in-Some.ensures.words c.loop-roles.invariant
    (c.in_err-front.ensures.full (passed c.from_residual.result _ c.from_residual.ensures.1 e))

pub returns-in_err-stay-clause-full : goal.returns-in_err-stay-clause-full
returns-in_err-stay-clause-full c = λ e.
    word_past c.nodes_only_grow.ensures.definitions
    c.claims_only_grow.ensures c.loop-roles.roles.now _
    (words_in c.in-Some.later_words) _ (word_of c.in-Some.word) (front_of c.loop-roles.front) _
    (omega (arith, c.in-len1-up.len_at_least)) c.in-Some.ensures.words c.loop-roles.invariant
    (c.in_err-stay.ensures.full
    (passed c.from_residual-in_err-stay.result _ c.from_residual-in_err-stay.ensures.1 e))
