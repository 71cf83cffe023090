use mir.Syntax.{w16}
use Rattle.std.proofs.Common.{◌≡◌, arith, sym, ◌∙◌, subst, ℤ, to_z, of_z, w32}
use Rattle.std.proofs.lemmas.Int.{ints}
use Rattle.fx_model.specs.Fraction.{Fraction, ◌≤ℚ◌, zero_ℚ, lt_le, le_trans}
use Rattle.fx_model.specs.Powers.{two_to, two_to-positive}
use Rattle.rounding.proofs.Enclosed.{kept_best, rest_best, largest_from, half_from}
use Rattle.rounding.proofs.bounds.error_interval.Goals as goal

-- a power of two is above 0
power_from : (v : Fraction) (l : ℤ) → v ≡ two_to l → zero_ℚ ≤ℚ v
power_from v l e = subst (λ a. zero_ℚ ≤ℚ a) (sym e) (lt_le zero_ℚ (two_to l) (two_to-positive l))

pub spread-requires-clause-unit : goal.spread-requires-clause-unit
spread-requires-clause-unit c = power_from _ _ c.power.ensures

pub spread-requires-clause-half : goal.spread-requires-clause-half
spread-requires-clause-half c = power_from _ _ c.power-then-is_kept.ensures

pub returns-then-is_kept : goal.returns-then-is_kept
returns-then-is_kept c = let best = kept_best c.args.r.dir c.args.r.lsb _ c.args.sign c.args.fix _
    (omega (arith, ints)) (sym c.is_kept.ensures ∙ c.if-is_kept.true) c.spread.ensures in
    record { cases = best.cases; meet = best.meet }

pub spread-requires-2-clause-unit : goal.spread-requires-2-clause-unit
spread-requires-2-clause-unit c = le_trans zero_ℚ _ _
    (largest_from _ c.args.fix (sym c.is_kept.ensures ∙ c.if-is_kept.false)) c.largest_up.ensures.1

pub spread-requires-2-clause-half : goal.spread-requires-2-clause-half
spread-requires-2-clause-half c = le_trans zero_ℚ _ _
    (half_from (to_z w32 (of_z w32 (to_z w16 (of_z w16 c.args.r.lsb))))) c.half_up.ensures.1

pub returns : goal.returns
returns c = let best = rest_best c.args.r.dir c.args.r.lsb _ c.args.sign c.args.fix c.span_of.result
    _ _ _ (omega (arith, ints)) (sym c.is_kept.ensures ∙ c.if-is_kept.false) c.span_of.ensures
    c.largest_up.ensures c.half_up.ensures c.spread-2.ensures in
    record { cases = best.cases; meet = best.meet }
