use Rattle.std.proofs.Common.{ap, sym, ◌∙◌, arith}
use Rattle.cert_trim.specs.Trimmed.{number_behind}
use Rattle.cert_trim.proofs.Counts.{behind_more}
use Rattle.cert_trim.proofs.steps.count_steps.Goals as goal

pub loop-item-preserved : goal.loop-item-preserved
loop-item-preserved c = (
  c.number_behind-count.ensures.is
      ∙ ap (λ n. number_behind n c.item-item.result) c.loop-item.invariant.0 ∙ sym (behind_more
      0 c.args.items.now c.loop-item.item-index c.item-item.result (omega arith) c.item-item.is),
  omega arith,
)
