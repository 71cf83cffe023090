use Rattle.std.proofs.Common.{◌≡◌, length, ◌≤◌, false, subst, sym, ◌∙◌, arith}
use Rattle.std.specs.List.{list_any}
use Rattle.indexmap.specs.IndexSet.{insert_key}
use Rattle.expr_dag.specs.Nodes.{same_node, IsShared, IsKept}
use Rattle.expr_dag.proofs.Places.{absent_from_test, put_list, put_first, put_placed, put_computes}
use Rattle.expr_dag.proofs.Places.{shared_put, kept_put}
use Rattle.expr_dag.proofs.dag.Dag.add.Goals as goal

pub returns-in_default-clause-memory : goal.returns-in_default-clause-memory
returns-in_default-clause-memory c _ =
    let absent : list_any (same_node c.args.node) c.args.self.now ≡ false = (λ j. list_any
    (same_node (sym c.new.ensures j)) (sym c.self.view_is j)) ∙ c.in_default.ensures.absent in
    let short : length c.args.self.now ≤ 1024 = c.len.ensures.short in
    (absent_from_test c.args.self.now c.args.node absent, omega arith)

pub invariant_of-self-2 : goal.invariant_of-self-2
invariant_of-self-2 c =
    let s : IsShared c.args.self.now = subst IsShared c.self.view_is c.self.invariant in
    subst IsShared (sym (put_list c.self.view_is c.new.ensures c.in-Ok.ensures.keys))
    (shared_put c.args.self.now s c.args.node c.requires (omega arith))

pub returns-clause-placed : goal.returns-clause-placed
returns-clause-placed c = put_placed c.args.self.now c.args.node _ _
    (put_list c.self.view_is c.new.ensures c.in-Ok.ensures.keys)
    (put_first c.self.view_is c.new.ensures c.in-Ok.ensures.index)

pub returns-clause-computes : goal.returns-clause-computes
returns-clause-computes c =
    let list : c.insert_full.new.self.keys ≡ insert_key same_node c.args.self.now c.args.node =
    put_list c.self.view_is c.new.ensures c.in-Ok.ensures.keys in
    let place = put_first c.self.view_is c.new.ensures c.in-Ok.ensures.index in
    (λ j. (list j, record { 0 = place j })) ∙ put_computes c.args.self.now c.args.node

pub returns-clause-kept : goal.returns-clause-kept
returns-clause-kept c =
    let s : IsShared c.args.self.now = subst IsShared c.self.view_is c.self.invariant in
    subst (IsKept c.args.self.now)
    (sym (put_list c.self.view_is c.new.ensures c.in-Ok.ensures.keys))
    (kept_put c.args.self.now s c.args.node c.requires (omega arith))
