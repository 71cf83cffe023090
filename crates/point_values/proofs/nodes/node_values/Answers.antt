use Rattle.std.proofs.Common.{◌≡◌, ap, ◌∙◌, sym, subst, map, arith, Some, ◌+◌}
use Rattle.exact_fractions.specs.Exact.{value_of}
use Rattle.point_values.proofs.Walk.{IsWalked}
use Rattle.point_values.specs.declared.place.Place.TheVariants as place
use Rattle.point_values.proofs.Walks.{walk_wide, walk_step, walk_known, walk_narrow}
use Rattle.point_values.proofs.nodes.node_values.Goals as goal

pub node_value-requires : goal.node_value-requires
node_value-requires c = (c.laws.ensures.lawful _ _ c.node-node.ensures.at).limits

pub loop-number-preserved : goal.loop-number-preserved
loop-number-preserved c =
    let d = c.deref.ensures.value in
    let e = rw d at c.in-Some.ensures in
    subst (λ vs. IsWalked c.args.dag.now (map value_of c.args.entries.now) vs (c.loop-number.number
    + 1)) (sym c.in_ok-push.ensures.items)
    (walk_step c.args.dag.now (map value_of c.args.entries.now) c.loop-number.values.items
    c.loop-number.number c.node-node.result c.in-Some.value c.laws.ensures.ordered
    c.loop-number.invariant (let t = c.loop-number-test.true in let l =
    c.len-number-end.ensures.len in omega arith) (c.node-node.ensures.read _) e.0 e.1)

pub returns-in_default-clause-wide : goal.returns-in_default-clause-wide
returns-in_default-clause-wide c p e =
    let d = c.deref.ensures.value in
    let w = walk_wide c.args.dag.now (map value_of c.args.entries.now) c.loop-number.values.items
    c.loop-number.number c.node-node.result c.laws.ensures.ordered c.loop-number.invariant
    (let t = c.loop-number-test.true in let l = c.len-number-end.ensures.len in
    omega arith) (c.node-node.ensures.read _) (rw d at c.in_default.ensures) in
    w ∙ ap (λ k. Some (place.Node k)) (sym c.from.ensures)
    ∙ (let q : Some (place.Node c.from.result) ≡ Some p = cc in q)

pub returns-clause-values : goal.returns-clause-values
returns-clause-values c = walk_known c.args.dag.now (map value_of c.args.entries.now)
    c.loop-number.values.items c.loop-number.number c.loop-number.invariant (let t =
    c.loop-number-test.false in let l = c.len-number-end.ensures.len in let u =
    c.loop-number.auto.number-end in omega arith)

pub returns-clause-narrow : goal.returns-clause-narrow
returns-clause-narrow c = walk_narrow c.args.dag.now (map value_of c.args.entries.now)
    c.loop-number.values.items c.loop-number.number c.loop-number.invariant (let t =
    c.loop-number-test.false in let l = c.len-number-end.ensures.len in let u =
    c.loop-number.auto.number-end in omega arith)
