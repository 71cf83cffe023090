use Rattle.std.proofs.Common.{◌≡◌, ◌++◌, if◌then◌else◌, [], sym, ◌∙◌, subst}
use Rattle.std.specs.Prelude.{OnOk}
use Rattle.rule_instances.specs.Found.{past_right}
use Rattle.rule_instances.proofs.all.add_one_right.Goals as goal

pub returns-then-are_apart : goal.returns-then-are_apart
returns-then-are_apart c =
    subst (λ t. OnOk c.add_past_right.result (c.add_past_right.new.rows ≡ c.args.rows.now ++ (if t
    then past_right c.args.nodes.now c.args.x c.args.a c.args.c c.args.b else [])))
    (sym c.if-are_apart.true ∙ c.are_apart.ensures) c.add_past_right.ensures
