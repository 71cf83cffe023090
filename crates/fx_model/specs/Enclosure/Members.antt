-- What lies in intervals and near their ends, their negatives, and sets with the same members.
use Rattle.std.specs.Prelude.{◌≡◌}
use Rattle.std.proofs.Common.{sym, subst, ⊎_elim}
use Rattle.fx_model.specs.Fraction.{Fraction, ◌≤ℚ◌, neg_ℚ, le_refl, le_trans, le_or_lt, lt_le}
use Rattle.fx_model.specs.Fraction.{neg-le}
use Rattle.fx_model.specs.Grid.{Bound, Below, At, Above, neg_bound, neg_bound-neg}
use Rattle.fx_model.specs.Enclosure.Sets.{Range, IsFrom, IsUpTo, Lies, IsInfimum, IsSupremum}
use Rattle.fx_model.specs.Enclosure.Sets.{IsEnclosure}
use Rattle.fx_model.specs.Enclosure.Attained.{in_enclosure}
use Rattle.fx_model.specs.Enclosure.Isotone.{BoundLe, within_in}
use Rattle.fx_model.specs.Enclosure.Ends.{IsOrdered, member_of, ordered_by}

-- ---- ends
-- ends further out hold more
pub from-le : (b c : Bound) (x : Fraction) → BoundLe b c → IsFrom c x → IsFrom b x
from-le b c x l f = (within_in (record { low = c; high = Above })
    (record { low = b; high = Above }) x (l, tt) (f, tt)).0

pub up_to-le : (b c : Bound) (x : Fraction) → BoundLe b c → IsUpTo b x → IsUpTo c x
up_to-le b c x l f = (within_in (record { low = Below; high = b })
    (record { low = Below; high = c }) x (tt, l) (tt, f)).1

pub lower_up_to : (c : Bound) (x y : Fraction) → x ≤ℚ y → IsUpTo c y → IsUpTo c x
lower_up_to Below x y l u = u
lower_up_to (At h) x y l u = le_trans x y h l u
lower_up_to Above x y l u = tt

pub higher_from : (c : Bound) (x y : Fraction) → y ≤ℚ x → IsFrom c y → IsFrom c x
higher_from Below x y l u = tt
higher_from (At h) x y l u = le_trans h y x u l
higher_from Above x y l u = u

pub end_up_to : (g : Fraction) (c : Bound) → IsOrdered (At g) c → IsUpTo c g
end_up_to g Below o = o
end_up_to g (At h) o = o
end_up_to g Above o = tt

pub end_from : (c : Bound) (g : Fraction) → IsOrdered c (At g) → IsFrom c g
end_from Below g o = tt
end_from (At h) g o = o
end_from Above g o = o

-- ---- members near an end
-- a finite end lies in the interval
pub low_lies : (r : Range) (g : Fraction) → IsOrdered r.low r.high → r.low ≡ At g → Lies r g
low_lies r g o p = (
  subst (λ e. IsFrom e g) (sym p) (le_refl g),
  end_up_to g r.high (subst (λ e. IsOrdered e r.high) p o),
)

pub high_lies : (r : Range) (g : Fraction) → IsOrdered r.low r.high → r.high ≡ At g → Lies r g
high_lies r g o p = (
  end_from r.low g (subst (λ e. IsOrdered r.low e) p o),
  subst (λ e. IsUpTo e g) (sym p) (le_refl g),
)

-- at or below any number there is a member of an interval that has no lower end
pub deep : (r : Range) (x k : Fraction) → r.low ≡ Below → Lies r x
    → (y : Fraction) × Lies r y × (y ≤ℚ k)
deep r x k p i = ⊎_elim (λ h. (x, i, h)) (λ h.
    (k, (subst (λ e. IsFrom e k) (sym p) tt, lower_up_to r.high k x (lt_le k x h) i.1), le_refl k))
    (le_or_lt x k)

-- at or above any number there is a member of an interval that has no upper end
pub far : (r : Range) (x k : Fraction) → r.high ≡ Above → Lies r x
    → (y : Fraction) × Lies r y × (k ≤ℚ y)
far r x k p i = ⊎_elim (λ h. (x, i, h)) (λ h.
    (k, (higher_from r.low k x (lt_le x k h) i.0, subst (λ e. IsUpTo e k) (sym p) tt), le_refl k))
    (le_or_lt k x)

-- ---- the negatives
-- The interval of the negatives.
abbrev pub mirror : Range → Range
mirror r = record { low = neg_bound r.high; high = neg_bound r.low }

pub from_neg : (b : Bound) (x : Fraction) → IsUpTo b x → IsFrom (neg_bound b) (neg_ℚ x)
from_neg Below x h = h
from_neg (At g) x h = neg-le x g h
from_neg Above x h = tt

pub up_to_neg : (b : Bound) (x : Fraction) → IsFrom b x → IsUpTo (neg_bound b) (neg_ℚ x)
up_to_neg Below x h = tt
up_to_neg (At g) x h = neg-le g x h
up_to_neg Above x h = h

pub mirror-mirror : (r : Range) → mirror (mirror r) ≡ r
mirror-mirror r = λ i. record { low = neg_bound-neg r.low i; high = neg_bound-neg r.high i }

pub lies_mirror : (r : Range) (x : Fraction) → Lies r x → Lies (mirror r) (neg_ℚ x)
lies_mirror r x l = (from_neg r.high x l.1, up_to_neg r.low x l.0)

pub lies_mirrored : (r : Range) (x : Fraction) → Lies (mirror r) x → Lies r (neg_ℚ x)
lies_mirrored r x l = subst (λ s. Lies s (neg_ℚ x)) (mirror-mirror r) (lies_mirror (mirror r) x l)

pub mirror_ordered : (r : Range) → IsOrdered r.low r.high
    → IsOrdered (neg_bound r.high) (neg_bound r.low)
mirror_ordered r o = let m = member_of r.low r.high o in let l = lies_mirror r m.0 (m.1, m.2) in
    ordered_by (neg_bound r.high) (neg_bound r.low) (neg_ℚ m.0) l.0 l.1

-- ---- enclosures of sets
-- of a set that has members
pub enclosure_ordered : (S : Fraction → Type 0) (r : Range) (x : Fraction) → S x → IsEnclosure S r
    → IsOrdered r.low r.high
enclosure_ordered S r x s e = let l = in_enclosure S r x e s in ordered_by r.low r.high x l.0 l.1

-- of sets with the same members
pub infimum_same : (S T : Fraction → Type 0) (b : Bound) → ((x : Fraction) → S x → T x)
    → ((x : Fraction) → T x → S x) → IsInfimum S b → IsInfimum T b
infimum_same S T Below f g i = λ h o k. i h o (λ x s. k x (f x s))
infimum_same S T (At a) f g i = (i.0, λ x t. i.1 x (g x t), λ h o k. i.2 h o (λ x s. k x (f x s)))
infimum_same S T Above f g i = i

pub supremum_same : (S T : Fraction → Type 0) (b : Bound) → ((x : Fraction) → S x → T x)
    → ((x : Fraction) → T x → S x) → IsSupremum S b → IsSupremum T b
supremum_same S T Below f g i = i
supremum_same S T (At a) f g i = (i.0, λ x t. i.1 x (g x t), λ h o k. i.2 h o (λ x s. k x (f x s)))
supremum_same S T Above f g i = λ h o k. i h o (λ x s. k x (f x s))

pub enclosure_same : (S T : Fraction → Type 0) (r : Range) → ((x : Fraction) → S x → T x)
    → ((x : Fraction) → T x → S x) → IsEnclosure S r → IsEnclosure T r
enclosure_same S T r f g e =
    record { low = infimum_same S T r.low f g e.low; high = supremum_same S T r.high f g e.high }
