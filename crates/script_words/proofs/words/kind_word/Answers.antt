use Rattle.std.proofs.Common.{sym, ◌∙◌}
use Rattle.script_words.proofs.Marked.{marked, unmarked}
use Rattle.script_words.proofs.words.kind_word.Goals as goal

pub returns-then-is_operator : goal.returns-then-is_operator
returns-then-is_operator c = λ names has. marked names c.args.kind _ _ c.in-Name.is
    c.spelled_of.ensures (sym (c.is_operator.ensures names has) ∙ c.if-is_operator.true)

pub returns-else-is_operator : goal.returns-else-is_operator
returns-else-is_operator c =
    λ names has. unmarked names c.args.kind _ _ c.in-Name.is c.spelled_of-else-is_operator.ensures
    (sym (c.is_operator.ensures names has) ∙ c.if-is_operator.false)
