use Rattle.std.proofs.Common.{◌≡◌, true, false}
use Rattle.box_trace.proofs.EndsOrder.{high_refl, high_other, high_trans}
use Rattle.box_trace.proofs.ends.upper.Goals as goal

pub returns-else-is_high_by-clause-found : goal.returns-else-is_high_by-clause-found
returns-else-is_high_by-clause-found c = high_refl c.args.found.fact

pub returns-else-is_high_by-clause-before : goal.returns-else-is_high_by-clause-before
returns-else-is_high_by-clause-before c = λ f e d l.
    high_trans f c.args.best.fact c.args.found.fact e d l (high_other c.args.found.fact
    c.args.best.fact (λ w. (let h : false ≡ true = c.if-is_high_by.ensures.1 w in cc)))
