use Rattle.std.proofs.Common.{◌≡◌, arith, sym, ◌∙◌, subst, pos, refl}
use Rattle.std.proofs.lemmas.Int.{ints}
use Rattle.fx_model.specs.Fraction.{Fraction, ◌≤ℚ◌, neg_ℚ, zero_ℚ, le_refl, neg_down}
use Rattle.fx_model.specs.Powers.{scaled, scaled-zero}
use Rattle.fx_model.specs.Cut.{on_grid}
use Rattle.dyadic.specs.Values.{value_of}
use Rattle.rounding.specs.declared.bounds.Span.TheVariants.{Nowhere, Leftward, Rightward, Sideward}
use Rattle.rounding.specs.declared.bounds.Span.TheVariants.{Near}
use Rattle.rounding.proofs.Enclosed.{spread_by, around_zero}
use Rattle.rounding.proofs.bounds.spread.Goals as goal

-- the number 0
is_zero : (z : Fraction) → z ≡ scaled (pos 0) (pos 0) → z ≡ zero_ℚ
is_zero z e = e ∙ scaled-zero (pos 0)

from_zero : (z u : Fraction) → z ≡ scaled (pos 0) (pos 0) → zero_ℚ ≤ℚ u → z ≤ℚ u
from_zero z u e h = subst (λ a. a ≤ℚ u) (sym (is_zero z e)) h

to_zero : (z n u : Fraction) → z ≡ scaled (pos 0) (pos 0) → n ≡ neg_ℚ u → zero_ℚ ≤ℚ u → n ≤ℚ z
to_zero z n u e f h =
    subst (λ a. n ≤ℚ a) (sym (is_zero z e)) (subst (λ a. a ≤ℚ zero_ℚ) (sym f) (neg_down u h))

around : (n u : Fraction) → n ≡ neg_ℚ u → zero_ℚ ≤ℚ u → n ≤ℚ u
around n u f h = subst (λ a. a ≤ℚ u) (sym f) (around_zero u h)

pub number-zero-requires : goal.number-zero-requires
number-zero-requires c = on_grid 0 (pos 0) (omega arith) (omega (arith, ints)) (omega (arith, ints))

pub between-requires : goal.between-requires
between-requires c = le_refl _

pub between-requires-in-Leftward : goal.between-requires-in-Leftward
between-requires-in-Leftward c = to_zero _ _ _ c.number-zero.ensures c.neg.ensures c.requires.unit

pub between-requires-in-Rightward : goal.between-requires-in-Rightward
between-requires-in-Rightward c = from_zero _ _ c.number-zero.ensures c.requires.unit

pub between-requires-in-Sideward : goal.between-requires-in-Sideward
between-requires-in-Sideward c = around _ _ c.neg-in-Sideward.ensures c.requires.unit

pub between-requires-in-Near : goal.between-requires-in-Near
between-requires-in-Near c = around _ _ c.neg-in-Near.ensures c.requires.half

pub returns-in-Nowhere : goal.returns-in-Nowhere
returns-in-Nowhere c = c.between.ensures ∙ spread_by _ Nowhere _ _ _ _ zero_ℚ zero_ℚ c.in-Nowhere.is
    (is_zero _ c.number-zero.ensures) (is_zero _ c.number-zero.ensures) refl

pub returns-in-Leftward : goal.returns-in-Leftward
returns-in-Leftward c =
    c.between-in-Leftward.ensures ∙ spread_by _ Leftward _ _ _ _ (neg_ℚ (value_of c.args.unit))
    zero_ℚ c.in-Leftward.is c.neg.ensures (is_zero _ c.number-zero.ensures) refl

pub returns-in-Rightward : goal.returns-in-Rightward
returns-in-Rightward c = c.between-in-Rightward.ensures ∙ spread_by _ Rightward _ _ _ _ zero_ℚ
    (value_of c.args.unit) c.in-Rightward.is (is_zero _ c.number-zero.ensures) refl refl

pub returns-in-Sideward : goal.returns-in-Sideward
returns-in-Sideward c =
    c.between-in-Sideward.ensures ∙ spread_by _ Sideward _ _ _ _ (neg_ℚ (value_of c.args.unit))
    (value_of c.args.unit) c.in-Sideward.is c.neg-in-Sideward.ensures refl refl

pub returns-in-Near : goal.returns-in-Near
returns-in-Near c =
    c.between-in-Near.ensures ∙ spread_by _ Near _ _ _ _ (neg_ℚ (value_of c.args.half))
    (value_of c.args.half) c.in-Near.is c.neg-in-Near.ensures refl refl
