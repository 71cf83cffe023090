use Rattle.std.proofs.Common.{◌≡◌, true, false}
use Rattle.box_trace.proofs.EndsOrder.{low_refl, low_other, low_trans}
use Rattle.box_trace.proofs.ends.lower.Goals as goal

pub returns-else-is_low_by-clause-found : goal.returns-else-is_low_by-clause-found
returns-else-is_low_by-clause-found c = low_refl c.args.found.fact

pub returns-else-is_low_by-clause-before : goal.returns-else-is_low_by-clause-before
returns-else-is_low_by-clause-before c = λ f e d l.
    low_trans f c.args.best.fact c.args.found.fact e d l (low_other c.args.found.fact
    c.args.best.fact (λ w. (let h : false ≡ true = c.if-is_low_by.ensures.1 w in cc)))
