use Rattle.std.proofs.Common.{List, ℕ, length, sym, ap, ◌∙◌, true≢false}
use Rattle.std.specs.Prelude.{◌==◌}
use Rattle.literal.proofs.Exponents.{not_numeral}
use Rattle.literal.proofs.scan.is_numeral.Goals as goal

pub returns-else-is_empty : goal.returns-else-is_empty
returns-else-is_empty c = (
  λ t. absurd (true≢false (sym t ∙ c.if-is_empty.false)),
  λ n. absurd (not_numeral c.args.text.now c.split_digits.result.0.now
      c.split_digits.result.1.now c.split_digits.ensures
      (λ e. true≢false (sym (c.is_empty.ensures ∙ ap (λ (l : List ℕ). length l == 0) e)
      ∙ c.if-is_empty.false)) n),
)
