use Rattle.std.proofs.Common.{sym, subst}
use Rattle.fx_model.specs.Fraction.{neg_ℚ, one_ℚ}
use Rattle.dyadic.specs.Ends.{bound_of}
use Rattle.facts.proofs.Parts.{error_from_self}
use Rattle.facts.specs.Parts.{error_from-none}
use Rattle.facts.specs.Ranges.{IsBelow}
use Rattle.facts.proofs.relative.RelativeError.new.Goals as goal

pub returns-then-is_above_minus_one-clause-is : goal.returns-then-is_above_minus_one-clause-is
returns-then-is_above_minus_one-clause-is c = error_from_self _

pub returns-else-is_above_minus_one-clause-is : goal.returns-else-is_above_minus_one-clause-is
returns-else-is_above_minus_one-clause-is c = sym (error_from-none c.args.interval
    (λ a. let e = c.is_above_minus_one.ensures.1 (subst (λ e. IsBelow (neg_ℚ one_ℚ) (bound_of e))
    (sym c.lo.ensures) a) in let f = c.if-is_above_minus_one.false in cc))
