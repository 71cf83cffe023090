-- Laws of what specs/Greatest defines.
use Rattle.std.specs.Prelude.{◌≡◌, ℤ, negsuc, ◌≤ℤ◌, Some, None}
use Rattle.std.proofs.Common.{arith}
use Rattle.std.proofs.lemmas.Int.{ints}
use Rattle.fx_model.specs.Fraction.{Fraction}
use Rattle.fx_model.specs.Powers.{IsMultiple}
use Rattle.facts.specs.declared.place.FixPlace.{FixPlace}
use Rattle.theorem_fix.specs.Greatest.{greatest_place, greatest_of_out, IsMost, greatest_of-is}
use Rattle.theorem_fix.specs.Greatest.{greatest_of-none}

-- ---- it is a multiple
pub greatest_place_out : (x : Fraction) (p : FixPlace) → greatest_place x ≡ Some p
    → IsMultiple p.exponent x
greatest_place_out x p e = greatest_of_out 1537 x p e

-- ---- it is the greatest
pub greatest_place-is : (x : Fraction) (p : FixPlace) → IsMultiple p.exponent x → IsMost x p
    → greatest_place x ≡ Some p
greatest_place-is x p m g = let h = p.highest in
    greatest_of-is 1537 x p (omega arith) (omega (arith, ints)) m g

-- ---- there is none
pub greatest_place-none : (x : Fraction) → ((k : ℤ) → negsuc 1023 ≤ℤ k → ¬ IsMultiple k x)
    → greatest_place x ≡ None
greatest_place-none x h = greatest_of-none 1537 x h
