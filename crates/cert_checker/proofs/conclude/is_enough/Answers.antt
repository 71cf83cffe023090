use Rattle.cert_checker.proofs.Enough.{met_enough}
use Rattle.cert_checker.proofs.conclude.is_enough.Goals as goal

pub returns-then-is_given : goal.returns-then-is_given
returns-then-is_given c = (
  λ t. met_enough c.args.given c.args.with c.args.fact.now c.requires (c.is_given.ensures.0 t),
  λ e. c.if-is_given.true,
)
