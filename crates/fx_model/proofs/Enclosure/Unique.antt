-- Laws of what specs/Enclosure/Unique defines.
use Rattle.std.specs.Prelude.{◌≡◌}
use Rattle.std.proofs.Common.{sym, ap, ◌∙◌, ⊎_elim}
use Rattle.fx_model.specs.Fraction.{Fraction, le_antisymm}
use Rattle.fx_model.specs.Grid.{Bound, Below, At, Above}
use Rattle.fx_model.specs.Enclosure.Sets.{Range, IsInfimum, IsSupremum, IsEnclosure, Products}
use Rattle.fx_model.specs.Enclosure.Sets.{IsProduct, from_ends}
use Rattle.fx_model.specs.Enclosure.Unique.{both_or}

infimum_unique : (S : Fraction → Type 0) (b c : Bound) → IsInfimum S b → IsInfimum S c → b ≡ c
infimum_unique S Below Below i j = cc
infimum_unique S Below (At h) i j = absurd (i h j.0 j.1)
infimum_unique S Below Above i j = absurd j
infimum_unique S (At g) Below i j = absurd (j g i.0 i.1)
infimum_unique S (At g) (At h) i j = ap At (le_antisymm g h (j.2 g i.0 i.1) (i.2 h j.0 j.1))
infimum_unique S (At g) Above i j = absurd j
infimum_unique S Above c i j = absurd i

supremum_unique : (S : Fraction → Type 0) (b c : Bound) → IsSupremum S b → IsSupremum S c → b ≡ c
supremum_unique S Above Above i j = cc
supremum_unique S Above (At h) i j = absurd (i h j.0 j.1)
supremum_unique S Above Below i j = absurd j
supremum_unique S (At g) Above i j = absurd (j g i.0 i.1)
supremum_unique S (At g) (At h) i j = ap At (le_antisymm g h (i.2 h j.0 j.1) (j.2 g i.0 i.1))
supremum_unique S (At g) Below i j = absurd j
supremum_unique S Below c i j = absurd i

pub enclosure_unique : (S : Fraction → Type 0) (r s : Range) → IsEnclosure S r
    → IsEnclosure S s → r ≡ s
enclosure_unique S r s i j = ap (λ b. from_ends b r.high) (infimum_unique S r.low s.low i.low j.low)
    ∙ ap (λ b. from_ends s.low b) (supremum_unique S r.high s.high i.high j.high)

pub product_unique : (r s t u : Range) → IsProduct r s t → IsProduct r s u → t ≡ u
product_unique r s t u i j = ⊎_elim (λ f. enclosure_unique (Products r s) t u (i.finite f.0 f.1)
    (j.finite f.0 f.1)) (λ n. i.infinite n ∙ sym (j.infinite n)) (both_or r s)
