use Rattle.std.specs.Prelude.{OnOk}
use Rattle.std.proofs.Common.{sym, subst}
use Rattle.std.proofs.lemmas.Result.{on_ok_weaker}
use Rattle.pair_closure.specs.Reached.{Has}
use Rattle.pair_closure.specs.Grown.{IsGrown}
use Rattle.pair_closure.specs.Differences.{sides_of}
use Rattle.pair_closure.proofs.Listed.{grown_one}
use Rattle.pair_closure.proofs.order.add_sides.Goals as goal

pub returns-in-Sub : goal.returns-in-Sub
returns-in-Sub c =
    subst (λ n. OnOk c.add.result (IsGrown c.args.pairs.now c.add.new.self (Has (sides_of n))))
    (sym c.in-Sub.is)
    (on_ok_weaker c.add.result
    (grown_one c.args.pairs.now c.add.new.self (c.in-Sub.a, c.in-Sub.b)) c.add.ensures)
