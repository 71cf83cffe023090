use Rattle.std.proofs.Common.{arith, ap, sym, ◌∙◌}
use Rattle.expr_dag.proofs.Faults.{passed}
use Rattle.script_words.specs.Named.{word_of}
use Rattle.script_words.specs.Kept.{words_in}
use Rattle.script_grammar.specs.Steps.{behind_hints}
use Rattle.script_grammar.proofs.HintsGrow.{word_past, words_end}
use Rattle.script_grammar.proofs.hints.read_hints.Goals as goal

pub returns-in_err-token-clause-full : goal.returns-in_err-token-clause-full
returns-in_err-token-clause-full c = λ e.
    word_past c.hints_only_grow.ensures c.loop-roles.roles.now _
    (words_in c.in-Some.later_words) _ (word_of c.in-Some.word) c.loop-roles.hints _
    (omega (arith, c.in-len1-up.len_at_least)) c.in-Some.ensures.words c.loop-roles.invariant
    (c.in_err-token.ensures.full (passed c.from_residual.result _ c.from_residual.ensures.1 e))

pub returns-in_default-split_first-clause-read : goal.returns-in_default-split_first-clause-read
returns-in_default-split_first-clause-read c =
    c.into_parts.ensures.parts ∙ ap behind_hints (sym (words_end c.loop-roles.roles.now
    (words_in c.loop-roles.words) c.loop-roles.hints _ c.in_default-split_first.ensures.words
    c.loop-roles.invariant))
