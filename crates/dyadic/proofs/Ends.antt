-- Laws of what specs/Ends defines.
use Rattle.std.specs.Prelude.{◌≡◌, refl}
use Rattle.std.proofs.Common.{ap}
use Rattle.dyadic.specs.declared.number.End.{End}
use Rattle.dyadic.specs.declared.number.End.TheVariants.{Low, At, High}
use Rattle.dyadic.specs.Values.{value_of}
use Rattle.dyadic.proofs.Values.{same_value}
use Rattle.dyadic.specs.Ends.{bound_of}

-- ends that stand for one bound are the same
pub same_bound : (a b : End) → bound_of a ≡ bound_of b → a ≡ b
same_bound Low Low p = refl
same_bound Low (At d) p = cc
same_bound Low High p = cc
same_bound (At c) Low p = cc
same_bound (At c) (At d) p = let v : value_of c ≡ value_of d = cc in ap At (same_value c d v)
same_bound (At c) High p = cc
same_bound High Low p = cc
same_bound High (At d) p = cc
same_bound High High p = refl
