use Rattle.script_shape.proofs.Next.{next_exact}
use Rattle.script_shape.proofs.shape.next_is_exact.Goals as goal

pub returns : goal.returns
returns c = next_exact
