-- Ends that make an interval.
use mathlib.Core.HLevel.{⊥_prop, Unit-prop}
use Rattle.std.specs.Prelude.{⊤}
use Rattle.fx_model.specs.Fraction.{Fraction, ◌≤ℚ◌, zero_ℚ, Le-prop, le_trans, le_refl}
use Rattle.fx_model.specs.Grid.{Bound, Below, At, Above}
use Rattle.fx_model.specs.Enclosure.Sets.{IsFrom, IsUpTo}

-- ---- ends that make an interval
abbrev pub IsOrdered : Bound → Bound → Type 0
IsOrdered Below Below = ⊥
IsOrdered Below (At h) = ⊤
IsOrdered Below Above = ⊤
IsOrdered (At g) Below = ⊥
IsOrdered (At g) (At h) = g ≤ℚ h
IsOrdered (At g) Above = ⊤
IsOrdered Above c = ⊥

pub IsOrdered-prop : (b c : Bound) → IsProp (IsOrdered b c)
IsOrdered-prop Below Below = ⊥_prop
IsOrdered-prop Below (At h) = Unit-prop
IsOrdered-prop Below Above = Unit-prop
IsOrdered-prop (At g) Below = ⊥_prop
IsOrdered-prop (At g) (At h) = Le-prop g h
IsOrdered-prop (At g) Above = Unit-prop
IsOrdered-prop Above c = ⊥_prop

-- some fraction lies between them
pub member_of : (b c : Bound) → IsOrdered b c → (x : Fraction) × IsFrom b x × IsUpTo c x
member_of Below Below o = absurd o
member_of Below (At h) o = (h, tt, le_refl h)
member_of Below Above o = (zero_ℚ, tt, tt)
member_of (At g) Below o = absurd o
member_of (At g) (At h) o = (g, le_refl g, o)
member_of (At g) Above o = (g, le_refl g, tt)
member_of Above c o = absurd o

pub ordered_by : (b c : Bound) (x : Fraction) → IsFrom b x → IsUpTo c x → IsOrdered b c
ordered_by Below Below x f u = u
ordered_by Below (At h) x f u = tt
ordered_by Below Above x f u = tt
ordered_by (At g) Below x f u = u
ordered_by (At g) (At h) x f u = le_trans g x h f u
ordered_by (At g) Above x f u = tt
ordered_by Above c x f u = f
