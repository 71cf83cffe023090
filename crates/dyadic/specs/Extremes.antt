-- The greater and the lesser of two ends.
use Rattle.std.specs.Prelude.{◌≡◌, Bool, true, false, if◌then◌else◌, refl}
use Rattle.fx_model.specs.Fraction.{le_refl}
use Rattle.fx_model.specs.Grid.{Bound, Below, At, Above, le_bound}
use Rattle.fx_model.specs.Enclosure.{BoundLe}
use Rattle.dyadic.specs.declared.number.End.{End}
use Rattle.dyadic.specs.Ends.{bound_of}
use Rattle.dyadic.specs.Order.{bound_total}
use Rattle.dyadic.specs.Compared.{BoundLe_in}

-- the greater and the lesser of two ends
abbrev pub greater_end : End → End → End
greater_end a b = if le_bound (bound_of a) (bound_of b) then b else a

-- the lesser of two ends, the first where they are equal
abbrev pub lesser_end : End → End → End
lesser_end a b = if le_bound (bound_of a) (bound_of b) then a else b

pub chosen : (b : Bool) (x y : End) (P : End → Type 0) → (b ≡ true → P x) → (b ≡ false → P y)
    → P (if b then x else y)
chosen true x y P t f = t refl
chosen false x y P t f = f refl

not_le : (b c : Bound) → le_bound b c ≡ false → BoundLe c b
not_le b c e = BoundLe_in c b (bound_total b c e)

pub BoundLe-refl : (b : Bound) → BoundLe b b
BoundLe-refl Below = tt
BoundLe-refl (At g) = le_refl g
BoundLe-refl Above = tt

pub greater_above : (a b : End) → BoundLe (bound_of a) (bound_of (greater_end a b))
    × BoundLe (bound_of b) (bound_of (greater_end a b))
greater_above a b = chosen (le_bound (bound_of a) (bound_of b)) b a
    (λ c. BoundLe (bound_of a) (bound_of c) × BoundLe (bound_of b) (bound_of c))
    (λ t. (BoundLe_in (bound_of a) (bound_of b) t, BoundLe-refl (bound_of b)))
    (λ f. (BoundLe-refl (bound_of a), not_le (bound_of a) (bound_of b) f))

pub lesser_below : (a b : End) → BoundLe (bound_of (lesser_end a b)) (bound_of a)
    × BoundLe (bound_of (lesser_end a b)) (bound_of b)
lesser_below a b = chosen (le_bound (bound_of a) (bound_of b)) a b
    (λ c. BoundLe (bound_of c) (bound_of a) × BoundLe (bound_of c) (bound_of b))
    (λ t. (BoundLe-refl (bound_of a), BoundLe_in (bound_of a) (bound_of b) t))
    (λ f. (not_le (bound_of a) (bound_of b) f, BoundLe-refl (bound_of b)))
