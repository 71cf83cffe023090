-- Multiples of 2^k beside a number or an end.
use Rattle.std.specs.Prelude.{◌≡◌, ℤ}
use Rattle.fx_model.specs.Fraction.{Fraction, ◌≤ℚ◌}
use Rattle.fx_model.specs.Powers.{IsMultiple}
use Rattle.fx_model.specs.Grid.{Bound, Below, At, Above}

-- m is the greatest multiple that is at most x
pub record IsMultipleDown (k : ℤ) (x m : Fraction) : Type 0 where
  pub multiple : IsMultiple k m
  pub below : m ≤ℚ x
  pub greatest : (n : Fraction) → IsMultiple k n → n ≤ℚ x → n ≤ℚ m

-- m is the least multiple that is at least x
pub record IsMultipleUp (k : ℤ) (x m : Fraction) : Type 0 where
  pub multiple : IsMultiple k m
  pub above : x ≤ℚ m
  pub least : (n : Fraction) → IsMultiple k n → x ≤ℚ n → m ≤ℚ n

-- the same of a finite end, while an infinite one stays
abbrev pub IsEndDown : ℤ → Bound → Bound → Type 0
IsEndDown k Below b = b ≡ Below
IsEndDown k (At x) Below = ⊥
IsEndDown k (At x) (At m) = IsMultipleDown k x m
IsEndDown k (At x) Above = ⊥
IsEndDown k Above b = b ≡ Above

-- the least multiple of 2^k that isn't below a finite end; an infinite end stays
abbrev pub IsEndUp : ℤ → Bound → Bound → Type 0
IsEndUp k Below b = b ≡ Below
IsEndUp k (At x) Below = ⊥
IsEndUp k (At x) (At m) = IsMultipleUp k x m
IsEndUp k (At x) Above = ⊥
IsEndUp k Above b = b ≡ Above
