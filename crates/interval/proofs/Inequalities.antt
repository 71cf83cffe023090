-- The order of fractions and ends.
use Rattle.std.specs.Prelude.{◌≡◌, Bool, true, false, IsTrue}
use Rattle.std.proofs.Common.{sym, ◌∙◌, ⊎_elim}
use Rattle.fx_model.specs.Fraction.{Fraction, ◌≤ℚ◌, le_trans, le_or_lt, lt_le}
use Rattle.fx_model.specs.Grid.{Bound, Below, At, Above, IsDown}
use Rattle.fx_model.specs.Enclosure.{BoundLe}

-- ---- ends
pub bound_total : (b c : Bound) → ¬ (BoundLe b c) → BoundLe c b
bound_total Below c h = absurd (h tt)
bound_total (At g) Below h = tt
bound_total (At g) (At i) h = ⊎_elim (λ l. absurd (h l)) (λ l. lt_le i g l) (le_or_lt g i)
bound_total (At g) Above h = absurd (h tt)
bound_total Above Below h = tt
bound_total Above (At g) h = tt
bound_total Above Above h = absurd (h tt)

-- rounding keeps the order
pub down-le : (x y : Fraction) (b c : Bound) → x ≤ℚ y → IsDown x b → IsDown y c → BoundLe b c
down-le x y Below c l d e = tt
down-le x y (At g) Below l d e = absurd (e g d.0 (le_trans g x y d.1 l))
down-le x y (At g) (At h) l d e = e.2 g d.0 (le_trans g x y d.1 l)
down-le x y (At g) Above l d e = tt
down-le x y Above c l d e = absurd d

-- ---- what a test that failed says
pub below_by : (x y : Fraction) (b : Bool) → (x ≤ℚ y → IsTrue b) → b ≡ false → y ≤ℚ x
below_by x y b f e = ⊎_elim (λ l. let t = f l in
    absurd (let n : true ≡ false = sym t ∙ e in cc)) (λ l. lt_le y x l) (le_or_lt x y)

pub bound_by : (b c : Bound) (t : Bool) → (BoundLe b c → IsTrue t) → t ≡ false → BoundLe c b
bound_by b c t f e = bound_total b c (λ l. let k = f l in let n : true ≡ false = sym k ∙ e in cc)
