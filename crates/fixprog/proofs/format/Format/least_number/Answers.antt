use Rattle.std.proofs.Common.{◌∙◌}
use Rattle.fixprog.proofs.FormatValues.{least_value, least_is_zero, kept}
use Rattle.fixprog.proofs.format.Format.least_number.Goals as goal

pub returns-then-self-clause-value : goal.returns-then-self-clause-value
returns-then-self-clause-value c =
    c.binary.ensures.value ∙ least_value c.args.self _ c.if-self.true c.requires.width
    (kept c.least_exponent.result c.least_exponent.type_inv ∙ c.least_exponent.ensures)

pub returns-else-self-clause-value : goal.returns-else-self-clause-value
returns-else-self-clause-value c = c.binary-else-self.ensures.value
    ∙ least_is_zero c.args.self _ c.if-self.false
