-- Worked rows of the directions: 5/2 and -5/2, which lie half way between two whole numbers, and 2.
use Rattle.std.specs.Prelude.{◌≡◌, pos, negsuc}
use Rattle.std.proofs.Common.{lit<}
use Rattle.fx_model.specs.Fraction.{Fraction, of_ratio, zero_ℚ, add-mk, neg-mk, floor-mk, le-mk}
use Rattle.fx_model.specs.Powers.{two_to-mk}
use Rattle.fx_model.specs.Rounded.{whole_for}
use Rattle.fx_model.specs.declared.Direction.TheVariants.{Zr, Aw, Dn, Up, Od, Ne, No, Nz, Na, Nd}
use Rattle.fx_model.specs.declared.Direction.TheVariants.{Nu}

abbrev five_halves : Fraction
five_halves = of_ratio (record { plus = 5; minus = 0; den = 2; positive = lit< tt })

abbrev minus_five_halves : Fraction
minus_five_halves = of_ratio (record { plus = 0; minus = 5; den = 2; positive = lit< tt })

abbrev two : Fraction
two = of_ratio (record { plus = 2; minus = 0; den = 1; positive = lit< tt })

zr_five_halves : whole_for Zr five_halves ≡ pos 2
unfolding whole_for zero_ℚ
zr_five_halves = simp (two_to-mk, neg-mk, add-mk, floor-mk, le-mk)

aw_five_halves : whole_for Aw five_halves ≡ pos 3
unfolding whole_for zero_ℚ
aw_five_halves = simp (two_to-mk, neg-mk, add-mk, floor-mk, le-mk)

dn_five_halves : whole_for Dn five_halves ≡ pos 2
unfolding whole_for zero_ℚ
dn_five_halves = simp (two_to-mk, neg-mk, add-mk, floor-mk, le-mk)

up_five_halves : whole_for Up five_halves ≡ pos 3
unfolding whole_for zero_ℚ
up_five_halves = simp (two_to-mk, neg-mk, add-mk, floor-mk, le-mk)

od_five_halves : whole_for Od five_halves ≡ pos 3
unfolding whole_for zero_ℚ
od_five_halves = simp (two_to-mk, neg-mk, add-mk, floor-mk, le-mk)

ne_five_halves : whole_for Ne five_halves ≡ pos 2
unfolding whole_for zero_ℚ
ne_five_halves = simp (two_to-mk, neg-mk, add-mk, floor-mk, le-mk)

no_five_halves : whole_for No five_halves ≡ pos 3
unfolding whole_for zero_ℚ
no_five_halves = simp (two_to-mk, neg-mk, add-mk, floor-mk, le-mk)

nz_five_halves : whole_for Nz five_halves ≡ pos 2
unfolding whole_for zero_ℚ
nz_five_halves = simp (two_to-mk, neg-mk, add-mk, floor-mk, le-mk)

na_five_halves : whole_for Na five_halves ≡ pos 3
unfolding whole_for zero_ℚ
na_five_halves = simp (two_to-mk, neg-mk, add-mk, floor-mk, le-mk)

nd_five_halves : whole_for Nd five_halves ≡ pos 2
unfolding whole_for zero_ℚ
nd_five_halves = simp (two_to-mk, neg-mk, add-mk, floor-mk, le-mk)

nu_five_halves : whole_for Nu five_halves ≡ pos 3
unfolding whole_for zero_ℚ
nu_five_halves = simp (two_to-mk, neg-mk, add-mk, floor-mk, le-mk)

zr_minus_five_halves : whole_for Zr minus_five_halves ≡ negsuc 1
unfolding whole_for zero_ℚ
zr_minus_five_halves = simp (two_to-mk, neg-mk, add-mk, floor-mk, le-mk)

aw_minus_five_halves : whole_for Aw minus_five_halves ≡ negsuc 2
unfolding whole_for zero_ℚ
aw_minus_five_halves = simp (two_to-mk, neg-mk, add-mk, floor-mk, le-mk)

dn_minus_five_halves : whole_for Dn minus_five_halves ≡ negsuc 2
unfolding whole_for zero_ℚ
dn_minus_five_halves = simp (two_to-mk, neg-mk, add-mk, floor-mk, le-mk)

up_minus_five_halves : whole_for Up minus_five_halves ≡ negsuc 1
unfolding whole_for zero_ℚ
up_minus_five_halves = simp (two_to-mk, neg-mk, add-mk, floor-mk, le-mk)

od_minus_five_halves : whole_for Od minus_five_halves ≡ negsuc 2
unfolding whole_for zero_ℚ
od_minus_five_halves = simp (two_to-mk, neg-mk, add-mk, floor-mk, le-mk)

ne_minus_five_halves : whole_for Ne minus_five_halves ≡ negsuc 1
unfolding whole_for zero_ℚ
ne_minus_five_halves = simp (two_to-mk, neg-mk, add-mk, floor-mk, le-mk)

no_minus_five_halves : whole_for No minus_five_halves ≡ negsuc 2
unfolding whole_for zero_ℚ
no_minus_five_halves = simp (two_to-mk, neg-mk, add-mk, floor-mk, le-mk)

nz_minus_five_halves : whole_for Nz minus_five_halves ≡ negsuc 1
unfolding whole_for zero_ℚ
nz_minus_five_halves = simp (two_to-mk, neg-mk, add-mk, floor-mk, le-mk)

na_minus_five_halves : whole_for Na minus_five_halves ≡ negsuc 2
unfolding whole_for zero_ℚ
na_minus_five_halves = simp (two_to-mk, neg-mk, add-mk, floor-mk, le-mk)

nd_minus_five_halves : whole_for Nd minus_five_halves ≡ negsuc 2
unfolding whole_for zero_ℚ
nd_minus_five_halves = simp (two_to-mk, neg-mk, add-mk, floor-mk, le-mk)

nu_minus_five_halves : whole_for Nu minus_five_halves ≡ negsuc 1
unfolding whole_for zero_ℚ
nu_minus_five_halves = simp (two_to-mk, neg-mk, add-mk, floor-mk, le-mk)

od_two : whole_for Od two ≡ pos 2
unfolding whole_for zero_ℚ
od_two = simp (two_to-mk, neg-mk, add-mk, floor-mk, le-mk)
