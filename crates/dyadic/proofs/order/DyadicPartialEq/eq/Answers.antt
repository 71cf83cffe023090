use Rattle.dyadic.proofs.OrderLemmas.{same_test}
use Rattle.dyadic.proofs.order.DyadicPartialEq.eq.Goals as goal

pub returns : goal.returns
returns c = same_test c.args.self.now c.args.other.now c.is_same.result c.is_same.ensures
