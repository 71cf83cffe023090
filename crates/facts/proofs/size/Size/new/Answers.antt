use Rattle.std.proofs.Common.{sym, subst}
use Rattle.fx_model.specs.Fraction.{zero_ℚ}
use Rattle.fx_model.specs.Grid as grid
use Rattle.fx_model.specs.Enclosure.{BoundLe}
use Rattle.dyadic.specs.Ends.{bound_of}
use Rattle.facts.proofs.Parts.{size_from_self}
use Rattle.facts.specs.Parts.{size_from-none}
use Rattle.facts.proofs.size.Size.new.Goals as goal

pub returns-then-is_from_zero-clause-is : goal.returns-then-is_from_zero-clause-is
returns-then-is_from_zero-clause-is c = size_from_self _

pub returns-else-is_from_zero-clause-is : goal.returns-else-is_from_zero-clause-is
returns-else-is_from_zero-clause-is c = sym (size_from-none c.args.interval
    (λ a. let e = c.is_from_zero.ensures.from.1 (subst (λ e. BoundLe (grid.At zero_ℚ) (bound_of e))
    (sym c.lo.ensures) a) in let f = c.if-is_from_zero.false in cc))
