use Rattle.std.specs.Prelude.{IfOk, List}
use Rattle.std.proofs.Common.{subst, ◌∙◌}
use Rattle.fx_model.specs.declared.Node.{Node}
use Rattle.poly_normal.specs.Mark.{Answers}
use Rattle.poly_normal.proofs.shared.same.Goals as goal

pub returns-clause-answers : goal.returns-clause-answers
returns-clause-answers c =
    subst (λ (nodes : List Node). IfOk c.same.result (Answers nodes c.args.a c.args.b))
    (c.as_slice.ensures.value ∙ c.in_ok-nodes.ensures) c.same.ensures.answers
