use Rattle.dyadic.proofs.OrderLemmas.{same_test}
use Rattle.dyadic.proofs.order.EndPartialEq.eq.Goals as goal

pub returns-in-At-At : goal.returns-in-At-At
returns-in-At-At c = rw (c.in-At-At.is-0, c.in-At-At.is-1)
    (same_test c.in-At-At.a c.in-At-At.b c.is_same.result c.is_same.ensures)
