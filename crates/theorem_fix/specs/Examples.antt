-- Worked rows of the rules on roundings and on the multiples in an interval.
use Rattle.std.specs.Prelude.{◌≡◌, ℕ, pos, negsuc, List, [], ◌∷◌, Some, None, refl}
use Rattle.fx_model.specs.Fraction.{Fraction, ◌-ℚ◌, ◌*ℚ◌, neg_ℚ, zero_ℚ, le_refl, mul-mk, neg-mk}
use Rattle.fx_model.specs.Fraction.{floor-mk}
use Rattle.fx_model.specs.Powers.{two_to, whole, whole-mk, two_to-mk, scaled}
use Rattle.fx_model.specs.Grid.{At, Above}
use Rattle.fx_model.specs.Enclosure.{Range}
use Rattle.fx_model.specs.Rounded.{rounded, whole_for}
use Rattle.fx_model.specs.declared.Direction.TheVariants.{Zr, Aw, Dn, Up, Ne}
use Rattle.fx_model.specs.declared.ExprId.{ExprId}
use Rattle.fx_model.specs.declared.Rounding.{Rounding}
use Rattle.fx_model.specs.declared.Node.{Node}
use Rattle.fx_model.specs.declared.Node.TheVariants as node
use Rattle.dyadic.specs.Compared.{BoundLe_out}
use Rattle.rounding.specs.declared.sign.Sign.TheVariants.{Unknown, NotNegative, Zero}
use Rattle.rounding.specs.Errors.{error_range}
use Rattle.theorem_fix.specs.Shapes.{error_rounding_at}
use Rattle.theorem_fix.specs.Roundings.{sign_of}
use Rattle.theorem_fix.specs.Shrunk.{shrunk_range}

abbrev numbered : ℕ → ExprId
numbered n = record { 0 = n }

-- toward zero, to multiples of 8
abbrev eights : Rounding
eights = record { lsb = pos 3; dir = Zr }

-- x, y, x rounded, its error, its error against y, and the other way round
abbrev nodes : List Node
nodes = node.Var 0 ∷ node.Var 1 ∷ node.Round eights (numbered 0) ∷ node.Sub (numbered 2)
    (numbered 0) ∷ node.Sub (numbered 2) (numbered 1) ∷ node.Sub (numbered 0) (numbered 2) ∷ []

-- ---- which node is an error
error_of_x : error_rounding_at nodes (numbered 3) (numbered 0) ≡ Some eights
error_of_x = refl

against_y : error_rounding_at nodes (numbered 4) (numbered 0) ≡ None
against_y = refl

of_y : error_rounding_at nodes (numbered 4) (numbered 1) ≡ None
of_y = refl

turned : error_rounding_at nodes (numbered 5) (numbered 2) ≡ None
turned = refl

-- ---- errors to multiples of 8
abbrev from_to : Fraction → Fraction → Range
from_to a b = record { low = At a; high = At b }

down : error_range Dn (pos 3) Unknown None ≡ from_to (neg_ℚ (two_to (pos 3))) zero_ℚ
down = refl

nearest : error_range Ne (pos 3) Unknown None ≡ from_to (neg_ℚ (two_to (pos 2))) (two_to (pos 2))
nearest = refl

toward_zero_from_above : error_range Zr (pos 3) NotNegative None
    ≡ from_to (neg_ℚ (two_to (pos 3))) zero_ℚ
toward_zero_from_above = refl

away_from_above : error_range Aw (pos 3) NotNegative None ≡ from_to zero_ℚ (two_to (pos 3))
away_from_above = refl

-- of multiples of 2, and of 8
of_even : error_range Dn (pos 3) Unknown (Some (pos 1))
    ≡ from_to (neg_ℚ (two_to (pos 3) -ℚ two_to (pos 1))) zero_ℚ
of_even = refl

of_eights : error_range Dn (pos 3) Unknown (Some (pos 3)) ≡ from_to zero_ℚ zero_ℚ
of_eights = refl

-- ---- signs
zero_has_both : sign_of (from_to zero_ℚ zero_ℚ) ≡ Zero
zero_has_both = let e = BoundLe_out (At zero_ℚ) (At zero_ℚ) (le_refl zero_ℚ) in rw e

from_zero_up : sign_of (record { low = At zero_ℚ; high = Above }) ≡ NotNegative
from_zero_up = let e = BoundLe_out (At zero_ℚ) (At zero_ℚ) (le_refl zero_ℚ) in rw e

-- ---- from 1 to 9 the multiples of 4 go from 4 to 8
one_up : whole_for Up (whole (pos 1) *ℚ two_to (negsuc 1)) ≡ pos 1
unfolding whole_for
one_up = simp (whole-mk, two_to-mk, mul-mk, neg-mk, floor-mk)

nine_down : whole_for Dn (whole (pos 9) *ℚ two_to (negsuc 1)) ≡ pos 2
unfolding whole_for
nine_down = simp (whole-mk, two_to-mk, mul-mk, floor-mk)

one_to_nine : shrunk_range (pos 2) (from_to (whole (pos 1)) (whole (pos 9)))
    ≡ from_to (scaled (pos 1) (pos 2)) (scaled (pos 2) (pos 2))
unfolding rounded
one_to_nine =
    λ k. record { low = At (scaled (one_up k) (pos 2)); high = At (scaled (nine_down k) (pos 2)) }

-- an infinite end stays
one_and_above : shrunk_range (pos 2) (record { low = At (whole (pos 1)); high = Above })
    ≡ record { low = At (scaled (pos 1) (pos 2)); high = Above }
unfolding rounded
one_and_above = λ k. record { low = At (scaled (one_up k) (pos 2)); high = Above }
