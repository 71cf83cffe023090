use Rattle.std.proofs.Common.{◌<◌, ◌≤◌, ◌↔◌, ◌++◌, length, map, arith, sym, ap, ◌∙◌, subst}
use Rattle.fx_model.specs.declared.Node.{Node}
use Rattle.expr_dag.specs.Nodes.{IsAbsent}
use Rattle.pair_closure.specs.Reached.{Has}
use Rattle.pair_closure.specs.Closure.{IsKnownPair, difference_of}
use Rattle.pair_closure.proofs.Behind.{listed_by, behind_known, absent_behind, same_nodes}
use Rattle.pair_closure.proofs.order.in_order.Goals as goal

pub sort-requires : goal.sort-requires
sort-requires c p h =
    let listed = listed_by c.args.all.now c.len.result
    (length c.args.script.now) c.new-pairs.result c.add_behind.new.pairs c.add_behind.new.pairs
    c.new-pairs.ensures c.len.ensures.len c.in_ok-add_behind.ensures (λ q. (λ m. m, λ m. m)) in
    let known =
    behind_known c.args.script.now c.args.all.now c.requires.others p ((listed p).0 h) in
    let first : (p.0).0 < length c.args.script.now = known.0 in
    let second : (p.1).0 < length c.args.script.now = known.1 in
    let short : length c.args.script.now ≤ 1024 = c.len.ensures.short in
    (omega arith, omega arith)

pub add_in_order-requires-clause-known : goal.add_in_order-requires-clause-known
add_in_order-requires-clause-known c p h =
    let listed = listed_by c.args.all.now c.len.result
    (length c.args.script.now) c.new-pairs.result c.add_behind.new.pairs c.sort.new.self
    c.new-pairs.ensures c.len.ensures.len c.in_ok-add_behind.ensures c.sort.ensures.same in
    subst (λ l. IsKnownPair l p) (sym c.in_ok-nodes.ensures)
    (behind_known c.args.script.now c.args.all.now c.requires.others p ((listed p).0 h))

pub add_in_order-requires-clause-absent : goal.add_in_order-requires-clause-absent
add_in_order-requires-clause-absent c p h =
    let listed = listed_by c.args.all.now c.len.result
    (length c.args.script.now) c.new-pairs.result c.add_behind.new.pairs c.sort.new.self
    c.new-pairs.ensures c.len.ensures.len c.in_ok-add_behind.ensures c.sort.ensures.same in
    subst (λ l. IsAbsent l (difference_of p)) (sym c.in_ok-nodes.ensures) (absent_behind
    c.args.script.now c.args.all.now c.requires.begins c.laws.ensures.distinct p ((listed p).0 h))

pub returns-clause-same : goal.returns-clause-same
returns-clause-same c =
    let listed = listed_by c.args.all.now c.len.result
    (length c.args.script.now) c.new-pairs.result c.add_behind.new.pairs c.sort.new.self
    c.new-pairs.ensures c.len.ensures.len c.in_ok-add_behind.ensures c.sort.ensures.same in
    subst (λ l. (n : Node) → Has l n ↔ Has c.args.all.now n) (sym (c.in_ok-add_in_order.ensures
    ∙ ap (λ l. l ++ map difference_of c.sort.new.self) c.in_ok-nodes.ensures))
    (same_nodes c.args.script.now c.args.all.now c.requires.begins
    c.requires.others c.sort.new.self listed)
