use Rattle.std.proofs.Common.{◌≡◌, ◌+◌, arith, Some, length, slice_get, ap, sym, subst, ◌∙◌}
use Rattle.std.proofs.Common.{add-one, take, drop, ◌-◌}
use Rattle.rule_universe.proofs.Cuts.{rows_count, row_at, read_at}
use Rattle.rule_universe.proofs.flat_rows.FlatRows.row.Goals as goal

pub index-requires : goal.index-requires
index-requires g c =
    let e = rows_count c.self.inside.items.items c.self.inside.starts.items c.self.invariant.some in
    let l = ap length c.self.view_is in
    omega (arith, e, l, c.requires, c.self.inside.starts.ok.0)

pub overflow_add-k : goal.overflow_add-k
overflow_add-k g c =
    let e = rows_count c.self.inside.items.items c.self.inside.starts.items c.self.invariant.some in
    let l = ap length c.self.view_is in
    omega (arith, e, l, c.requires, c.self.inside.starts.ok.0, c.self.inside.starts.small)

pub index-requires-2 : goal.index-requires-2
index-requires-2 g c =
    let e = rows_count c.self.inside.items.items c.self.inside.starts.items c.self.invariant.some in
    let l = ap length c.self.view_is in
    omega (arith, e, l, c.requires, c.self.inside.starts.ok.0)

pub part-requires-clause-order : goal.part-requires-clause-order
part-requires-clause-order g c =
    let starts = c.self.inside.starts.items in
    let e = rows_count c.self.inside.items.items starts c.self.invariant.some in
    let l = ap length c.self.view_is in
    let a = read_at starts c.args.k c.index.result.now _
    (omega (arith, e, l, c.requires)) c.index.ensures in
    let b = read_at starts (c.args.k + 1) c.index-2.result.now _
    (omega (arith, e, l, c.requires)) c.index-2.ensures in
    c.self.invariant.rising c.args.k c.index.result.now c.index-2.result.now a
    (subst (λ n. slice_get starts n ≡ Some c.index-2.result.now) (add-one c.args.k) b)

pub part-requires-clause-within : goal.part-requires-clause-within
part-requires-clause-within g c =
    let starts = c.self.inside.starts.items in
    let e = rows_count c.self.inside.items.items starts c.self.invariant.some in
    let l = ap length c.self.view_is in
    let b = read_at starts (c.args.k + 1) c.index-2.result.now _
    (omega (arith, e, l, c.requires)) c.index-2.ensures in
    let m = c.self.invariant.most (c.args.k + 1) c.index-2.result.now b in
    omega (arith, m, ap length c.deref.ensures.value)

pub returns : goal.returns
returns g c =
    let items = c.self.inside.items.items in
    let starts = c.self.inside.starts.items in
    let e = rows_count items starts c.self.invariant.some in
    let l = ap length c.self.view_is in
    let a = read_at starts c.args.k c.index.result.now _
    (omega (arith, e, l, c.requires)) c.index.ensures in
    let b = read_at starts (c.args.k + 1) c.index-2.result.now _
    (omega (arith, e, l, c.requires)) c.index-2.ensures in
    subst (λ rows. slice_get rows c.args.k ≡ Some c.part.result.now) c.self.view_is
    (row_at items starts c.args.k c.index.result.now c.index-2.result.now a
    (subst (λ n. slice_get starts n ≡ Some c.index-2.result.now) (add-one c.args.k) b)
    ∙ ap (λ xs. Some (take (c.index-2.result.now - c.index.result.now)
    (drop c.index.result.now xs))) (sym c.deref.ensures.value) ∙ ap Some (sym c.part.ensures))
