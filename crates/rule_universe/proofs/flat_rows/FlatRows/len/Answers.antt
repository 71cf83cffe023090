use Rattle.std.proofs.Common.{arith, length, ap}
use Rattle.rule_universe.proofs.Cuts.{rows_count}
use Rattle.rule_universe.proofs.flat_rows.FlatRows.len.Goals as goal

pub returns : goal.returns
returns g c =
    let e = rows_count c.self.inside.items.items c.self.inside.starts.items c.self.invariant.some in
    let l = ap length c.self.view_is in
    omega (arith, e, l, c.len.ensures, c.self.inside.starts.ok.0)
