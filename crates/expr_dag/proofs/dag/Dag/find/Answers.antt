use Rattle.std.proofs.Common.{◌≡◌, Some, None, List, position, slice_get, true≢false, rules, subst}
use Rattle.std.proofs.Common.{sym, ap, ◌∙◌}
use Rattle.fx_model.specs.declared.Node.{Node}
use Rattle.expr_dag.specs.Nodes.{same_node, IsAbsent}
use Rattle.expr_dag.proofs.Places.{found_at, absent_from_position}
use Rattle.expr_dag.proofs.dag.Dag.find.Goals as goal

pub returns-in_err-place-clause-none : goal.returns-in_err-place-clause-none
returns-in_err-place-clause-none c =
    let k : List Node = c.self.inside.set.keys in
    let none : position (same_node c.args.node) k ≡ None = ap (λ m. position (same_node m) k)
    (sym c.new.ensures) ∙ sym c.get_index_of.ensures.index ∙ c.in_err-place.was in
    let absent : IsAbsent c.args.self.now c.args.node =
    subst (λ l. IsAbsent l c.args.node) c.self.view_is (absent_from_position k c.args.node none) in
    (λ _. absent, λ _. search rules)

pub returns-clause-at : goal.returns-clause-at
returns-clause-at c =
    let k : List Node = c.self.inside.set.keys in
    let at : position (same_node c.args.node) k ≡ Some c.in_ok-place.place =
    ap (λ m. position (same_node m) k) (sym c.new.ensures)
    ∙ sym c.get_index_of.ensures.index ∙ c.in_ok-place.was in
    subst (λ l. slice_get l c.in_ok-place.place ≡ Some c.args.node) c.self.view_is
    (found_at k c.args.node c.in_ok-place.place at)

pub returns-clause-none : goal.returns-clause-none
returns-clause-none c = (
  λ h. absurd (true≢false h),
  λ absent. absurd (absent (record { 0 = c.in_ok-place.place }) (returns-clause-at c)),
)
