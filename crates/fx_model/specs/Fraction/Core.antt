-- What a fraction is, its operations and its order. Nothing above the modules of `Fraction` opens
-- these definitions.
pub mod Ring
pub mod Order
pub mod Laws
pub mod Floor
pub mod Inverse
use mathlib.Core.Quot.{Quot, mk, sound, ind, lift, Quot-set}
use mathlib.Core.Bool.{Bool-set}
use lib.Dec.{T, leb, le→leb, leb→le}
use Rattle.std.specs.Prelude.{◌≡◌, ℕ, ◌*◌, ◌+◌, ◌-◌, ◌/◌, ◌≤◌, ◌<◌, Bool, true, false, IsTrue}
use Rattle.std.specs.Prelude.{IsFalse, not, refl}
use Rattle.std.proofs.Common.{arith, sym, ap, lit<}
use Rattle.std.proofs.Math.Nat.{mul-le-mul_right}

-- A fraction as it is written, (plus - minus) / den. The numerator is a difference of two natural
-- numbers, so that no sign occurs.
pub record Ratio : Type 0 where
  pub plus : ℕ
  pub minus : ℕ
  pub den : ℕ
  pub positive : 0 < den

-- Two of them are one fraction where the cross products are equal, (p - m) * d' = (p' - m') * d,
-- with the parts subtracted moved over.
abbrev pub Same : Ratio → Ratio → Type 0
Same x y = x.plus * y.den + y.minus * x.den ≡ y.plus * x.den + x.minus * y.den

-- An exact fraction of unbounded whole numbers: ratios with equal cross products are one fraction.
abbrev pub Fraction : Type 0
Fraction = Quot Same

pub positive-mul : (a b : ℕ) → 0 < a → 0 < b → 0 < a * b
positive-mul a b h k = grind arith

-- The sum of two ratios, over the product of their denominators.
abbrev pub add_ratio : Ratio → Ratio → Ratio
add_ratio x y = record {
  plus = x.plus * y.den + y.plus * x.den;
  minus = x.minus * y.den + y.minus * x.den;
  den = x.den * y.den;
  positive = positive-mul x.den y.den x.positive y.positive;
}

-- The product of two ratios, over the product of their denominators.
abbrev pub mul_ratio : Ratio → Ratio → Ratio
mul_ratio x y = record {
  plus = x.plus * y.plus + x.minus * y.minus;
  minus = x.plus * y.minus + x.minus * y.plus;
  den = x.den * y.den;
  positive = positive-mul x.den y.den x.positive y.positive;
}

-- The negative of a ratio: the two parts of its numerator change places.
abbrev pub neg_ratio : Ratio → Ratio
neg_ratio x = record { plus = x.minus; minus = x.plus; den = x.den; positive = x.positive }

-- A function of two fractions, from one of what they are written as that does not depend on how.
module _ {B : Type 0} (set : IsSet B) where
  abbrev lift₂ : (f : Ratio → Ratio → B) → ((a b c : Ratio) → Same a b → f a c ≡ f b c)
      → ((a b c : Ratio) → Same b c → f a b ≡ f a c) → Fraction → Fraction → B
  lift₂ f l r x y = lift set (λ a. lift set (f a) (r a) y)
      (λ a b h. ind {r = Same} {β = λ y. lift set (f a) (r a) y ≡ lift set (f b) (r b) y}
      (λ y. set (lift set (f a) (r a) y) (lift set (f b) (r b) y)) (λ c. l a b c h) y) x

pub add_left : (a b c : Ratio) → Same a b → Same (add_ratio a c) (add_ratio b c)
add_left a b c h = omega (arith, ap (λ n. n * (c.den * c.den)) h)

pub add_right : (a b c : Ratio) → Same b c → Same (add_ratio a b) (add_ratio a c)
add_right a b c h = omega (arith, ap (λ n. n * (a.den * a.den)) h)

pub mul_left : (a b c : Ratio) → Same a b → Same (mul_ratio a c) (mul_ratio b c)
mul_left a b c h =
    omega (arith, ap (λ n. n * (c.den * c.plus)) h, ap (λ n. n * (c.den * c.minus)) h)

pub mul_right : (a b c : Ratio) → Same b c → Same (mul_ratio a b) (mul_ratio a c)
mul_right a b c h =
    omega (arith, ap (λ n. n * (a.den * a.plus)) h, ap (λ n. n * (a.den * a.minus)) h)

pub neg_same : (a b : Ratio) → Same a b → Same (neg_ratio a) (neg_ratio b)
neg_same a b h = omega arith

infixl 6 ◌+ℚ◌
pub ◌+ℚ◌ : Fraction → Fraction → Fraction
x +ℚ y = lift₂ (Quot-set {r = Same}) (λ a b. mk (add_ratio a b)) (λ a b c h. sound {r = Same}
    (add_left a b c h)) (λ a b c h. sound {r = Same} (add_right a b c h)) x y

infixl 7 ◌*ℚ◌
pub ◌*ℚ◌ : Fraction → Fraction → Fraction
x *ℚ y = lift₂ (Quot-set {r = Same}) (λ a b. mk (mul_ratio a b)) (λ a b c h. sound {r = Same}
    (mul_left a b c h)) (λ a b c h. sound {r = Same} (mul_right a b c h)) x y

pub neg_ℚ : Fraction → Fraction
neg_ℚ x = lift (Quot-set {r = Same}) (λ a. mk (neg_ratio a))
    (λ a b h. sound {r = Same} (neg_same a b h)) x

infixl 6 ◌-ℚ◌
-- The difference of two fractions, exactly.
abbrev pub ◌-ℚ◌ : Fraction → Fraction → Fraction
x -ℚ y = x +ℚ neg_ℚ y

-- ---- the order
bool_same : (s t : Bool) → (T s → T t) → (T t → T s) → s ≡ t
bool_same true true f g = refl
bool_same true false f g = absurd (f tt)
bool_same false true f g = absurd (g tt)
bool_same false false f g = refl

leb_same : (a b c d : ℕ) → (a ≤ b → c ≤ d) → (c ≤ d → a ≤ b) → leb a b ≡ leb c d
leb_same a b c d f g = bool_same (leb a b) (leb c d) (λ t. le→leb c d (f (leb→le a b t)))
    (λ t. le→leb a b (g (leb→le c d t)))

pub T_true : (b : Bool) → T b → IsTrue b
T_true true t = refl
T_true false t = absurd t

pub cancel_le : (k a b : ℕ) → 0 < k → k * a ≤ k * b → a ≤ b
cancel_le k a b p h = grind arith

-- Whether the first ratio is at most the second, as a test of the cross products.
abbrev pub le_ratio : Ratio → Ratio → Bool
le_ratio x y = leb (x.plus * y.den + y.minus * x.den) (y.plus * x.den + x.minus * y.den)

-- The first ratio is at most the second, by the cross products.
abbrev pub LeRatio : Ratio → Ratio → Type 0
LeRatio x y = x.plus * y.den + y.minus * x.den ≤ y.plus * x.den + x.minus * y.den

Le_left : (a b c : Ratio) → Same a b → LeRatio a c → LeRatio b c
Le_left a b c h k =
    cancel_le a.den (b.plus * c.den + c.minus * b.den) (c.plus * b.den + b.minus * c.den) a.positive
    (omega (arith, ap (λ n. n * c.den) h, mul-le-mul_right b.den k))

Le_right : (a b c : Ratio) → Same b c → LeRatio a b → LeRatio a c
Le_right a b c h k =
    cancel_le b.den (a.plus * c.den + c.minus * a.den) (c.plus * a.den + a.minus * c.den) b.positive
    (omega (arith, ap (λ n. n * a.den) h, mul-le-mul_right c.den k))

le_left : (a b c : Ratio) → Same a b → le_ratio a c ≡ le_ratio b c
le_left a b c h = leb_same (a.plus * c.den + c.minus * a.den) (c.plus * a.den + a.minus * c.den)
    (b.plus * c.den + c.minus * b.den) (c.plus * b.den + b.minus * c.den)
    (Le_left a b c h) (Le_left b a c (sym h))

le_right : (a b c : Ratio) → Same b c → le_ratio a b ≡ le_ratio a c
le_right a b c h = leb_same (a.plus * b.den + b.minus * a.den) (b.plus * a.den + a.minus * b.den)
    (a.plus * c.den + c.minus * a.den) (c.plus * a.den + a.minus * c.den) (Le_right a b c h)
    (Le_right a c b (sym h))

pub le_ℚ : Fraction → Fraction → Bool
le_ℚ x y = lift₂ Bool-set le_ratio le_left le_right x y

infix 4 ◌≤ℚ◌
-- The fraction x is at most y.
pub record ◌≤ℚ◌ (x y : Fraction) : Type 0 where
  pub le : IsTrue (le_ℚ x y)

infix 4 ◌<ℚ◌
-- The fraction x is less than y: y isn't at most x.
pub record ◌<ℚ◌ (x y : Fraction) : Type 0 where
  pub lt : IsFalse (le_ℚ y x)

-- ---- laws: from what fractions are written as to fractions
pub by_ratio : (P : Fraction → Type 0) → ((x : Fraction) → IsProp (P x))
    → ((a : Ratio) → P (mk a)) → (x : Fraction) → P x
by_ratio P p f x = ind {r = Same} {β = P} p f x

pub Fraction-set : IsSet Fraction
Fraction-set = Quot-set {r = Same}

pub same_1 : (f g : Fraction → Fraction) → ((a : Ratio) → f (mk a) ≡ g (mk a))
    → (x : Fraction) → f x ≡ g x
same_1 f g h = by_ratio (λ x. f x ≡ g x) (λ x. Fraction-set (f x) (g x)) h

pub same_2 : (f g : Fraction → Fraction → Fraction)
    → ((a b : Ratio) → f (mk a) (mk b) ≡ g (mk a) (mk b)) → (x y : Fraction) → f x y ≡ g x y
same_2 f g h x y = same_1 (λ x. f x y) (λ x. g x y) (λ a. same_1 (f (mk a)) (g (mk a)) (h a) y) x

pub same_3 : (f g : Fraction → Fraction → Fraction → Fraction) → ((a b c : Ratio)
    → f (mk a) (mk b) (mk c) ≡ g (mk a) (mk b) (mk c)) → (x y z : Fraction) → f x y z ≡ g x y z
same_3 f g h x y z =
    same_1 (λ x. f x y z) (λ x. g x y z) (λ a. same_2 (f (mk a)) (g (mk a)) (h a) y z) x

-- The fraction that is written as this ratio; other ratios may write it too.
abbrev pub of_ratio : Ratio → Fraction
of_ratio a = mk a

-- The fraction 0, written as 0 / 1.
unfoldable pub zero_ℚ : Fraction
zero_ℚ = mk (record { plus = 0; minus = 0; den = 1; positive = lit< tt })

-- The fraction 1, written as 1 / 1.
unfoldable pub one_ℚ : Fraction
one_ℚ = mk (record { plus = 1; minus = 0; den = 1; positive = lit< tt })

pub add-mk : (a b : Ratio) → of_ratio a +ℚ of_ratio b ≡ of_ratio (add_ratio a b)
unfolding ◌+ℚ◌
add-mk a b = refl

pub mul-mk : (a b : Ratio) → of_ratio a *ℚ of_ratio b ≡ of_ratio (mul_ratio a b)
unfolding ◌*ℚ◌
mul-mk a b = refl

pub neg-mk : (a : Ratio) → neg_ℚ (of_ratio a) ≡ of_ratio (neg_ratio a)
unfolding neg_ℚ
neg-mk a = refl

pub le-mk : (a b : Ratio) → le_ℚ (of_ratio a) (of_ratio b) ≡ le_ratio a b
unfolding le_ℚ
le-mk a b = refl
