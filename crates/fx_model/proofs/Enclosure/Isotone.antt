-- Laws of what specs/Enclosure/Isotone defines.
use Rattle.fx_model.specs.Fraction.{Fraction}
use Rattle.fx_model.specs.Grid.{Bound, Below, At, Above}
use Rattle.fx_model.specs.Enclosure.Sets.{Range, IsInfimum, IsSupremum, IsEnclosure, Sums, IsSum}
use Rattle.fx_model.specs.Enclosure.Isotone.{BoundLe, Within, within_in}

-- ---- smaller sets have better enclosures
infimum_isotone : (S T : Fraction → Type 0) (b c : Bound) → ((x : Fraction) → T x → S x)
    → IsInfimum S b → IsInfimum T c → BoundLe b c
infimum_isotone S T Below c h i j = tt
infimum_isotone S T (At g) Below h i j = absurd (j g i.0 (λ x t. i.1 x (h x t)))
infimum_isotone S T (At g) (At k) h i j = j.2 g i.0 (λ x t. i.1 x (h x t))
infimum_isotone S T (At g) Above h i j = tt
infimum_isotone S T Above c h i j = absurd i

supremum_isotone : (S T : Fraction → Type 0) (b c : Bound) → ((x : Fraction) → T x → S x)
    → IsSupremum S b → IsSupremum T c → BoundLe c b
supremum_isotone S T b Below h i j = tt
supremum_isotone S T (At g) (At k) h i j = j.2 g i.0 (λ x t. i.1 x (h x t))
supremum_isotone S T Above (At k) h i j = tt
supremum_isotone S T Below (At k) h i j = absurd i
supremum_isotone S T (At g) Above h i j = absurd (j g i.0 (λ x t. i.1 x (h x t)))
supremum_isotone S T Above Above h i j = tt
supremum_isotone S T Below Above h i j = absurd i

pub enclosure_isotone : (S T : Fraction → Type 0) (r s : Range) → ((x : Fraction) → T x → S x)
    → IsEnclosure S r → IsEnclosure T s → Within s r
enclosure_isotone S T r s h i j = (
  infimum_isotone S T r.low s.low h i.low j.low,
  supremum_isotone S T r.high s.high h i.high j.high,
)

pub sum_isotone : (r s t u v w : Range) → Within u r → Within v s → IsSum r s t
    → IsSum u v w → Within w t
sum_isotone r s t u v w a b i j = enclosure_isotone (Sums r s)
    (Sums u v) t w (λ z k. (k.0, k.1, within_in u r k.0 a k.2, within_in v s k.1 b k.3, k.4)) i j
