use Rattle.std.proofs.Common.{◌++◌, ◌∷◌, [], reverse, ap, ◌∙◌}
use Rattle.script_shape.specs.declared.due.Due.TheVariants as due
use Rattle.script_shape.proofs.shape.script_due.Goals as goal

pub returns : goal.returns
returns c = ap reverse (c.in_ok-push.ensures.items
    ∙ ap (λ l. l ++ (due.Script ∷ [])) c.in_ok-stack.ensures.items)
