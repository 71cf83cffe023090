-- The greatest common divisor, as it is defined and as it is found; powers that pass a limit.
use Rattle.std.specs.Prelude.{◌≡◌, ◌≢◌, ℕ, ◌+◌, ◌-◌, ◌*◌, ◌/◌, ◌%◌, ◌^◌, ◌<◌, ◌≤◌, ◌==◌, ◌&&◌, Bool}
use Rattle.std.specs.Prelude.{true, false, if◌then◌else◌, refl}
use Rattle.std.specs.Int.{IsGcd, ◌∣◌}
use Rattle.std.proofs.Common.{arith, sym, ap, ◌∙◌, zero, suc, subst}
use Rattle.std.proofs.lemmas.Bool.{eq-eqb, false≢true}
use Rattle.std.proofs.lemmas.Nat.{div-add-mod'}
use Rattle.std.proofs.lemmas.Nat.Gcd.{dvd-zero, dvd_trans, dvd_antisymm, le_of_dvd}
use Rattle.std.proofs.lemmas.Nat.Gcd.{dvd_of_mod-eq-zero, mod-eq-zero_of_dvd, le_from_IsGcd}
use Rattle.std.proofs.Math.Nat.{dvd-mul_right, pow-suc, pow-zero, pow-le-pow_right, mul-le-mul_left}
use Rattle.std.proofs.Math.Nat.{one-le-pow, div-le_self}
use Rattle.poly_normal.specs.Form.{common_divisor_to}
use Rattle.poly_normal.proofs.Quotients.{IsDivisor, divides_both, whole_quotient}

-- no common divisor up to n is greater than what is found up to n
at_least : (n a b d : ℕ) → 0 < d → d ≤ n → a % d ≡ 0 → b % d ≡ 0 → d ≤ common_divisor_to n a b
unfolding common_divisor_to
at_least zero a b d p l e f = absurd (omega arith)
at_least (suc n) a b d p l e f =
    by (a % suc n == 0) (b % suc n == 0) refl refl (λ q. at_least n a b d p q e f)
  where
    less : ¬ (d ≡ suc n) → d ≤ suc n → d ≤ n
    less q l = omega arith

    by : (x y : Bool) → (a % suc n == 0) ≡ x
        → (b % suc n == 0) ≡ y → (d ≤ n → d ≤ common_divisor_to n a b)
        → d ≤ (if x && y then suc n else common_divisor_to n a b)
    by true true g h rest = l
    by true false g h rest = rest
        (less (λ q. false≢true (sym h ∙ eq-eqb (b % suc n) 0 (subst (λ k. b % k ≡ 0) q f))) l)
    by false y g h rest = rest
        (less (λ q. false≢true (sym g ∙ eq-eqb (a % suc n) 0 (subst (λ k. a % k ≡ 0) q e))) l)

pub divisor_positive : (b g : ℕ) → 0 < b → g ∣ b → 0 < g
divisor_positive b zero p h = let e : zero ≡ b = dvd_antisymm h (dvd-zero b) in absurd (omega arith)
divisor_positive b (suc g) p h = omega arith

pub divisor_is : (a b g : ℕ) → 0 < b → IsGcd a b g → common_divisor_to b a b ≡ g
divisor_is a b g p h =
    let c : ℕ = common_divisor_to b a b in
    let d : IsDivisor c a b = divides_both b a b in
    let q : 0 < g = divisor_positive b g p h.1 in
    let up : c ≤ g = le_from_IsGcd a b g c h q (dvd_of_mod-eq-zero c d.left)
    (dvd_of_mod-eq-zero c d.right) in
    let down : g ≤ c = at_least b a b g q (le_of_dvd p h.1) (mod-eq-zero_of_dvd g h.0)
    (mod-eq-zero_of_dvd g h.1) in
    omega arith

-- ---- an odd number and a power of two have no common divisor but 1
twice : (e q x : ℕ) → (2 * e + 1) * q ≡ 2 * x → q ≡ 2 * (x - e * q)
twice e q x h = omega arith

half_of : (d r x : ℕ) → d * (2 * r) ≡ 2 * x → x ≡ d * r
half_of d r x h = omega arith

odd_quotient : (d x q : ℕ) → d % 2 ≢ 0 → q * d ≡ 2 * x → d ∣ x
odd_quotient d x q o h =
    let split = div-add-mod' d 2 in
    let odd : d ≡ 2 * (d / 2) + 1 = omega arith in
    let even : q ≡ 2 * (x - (d / 2) * q) = twice (d / 2) q x (ap (λ k. k * q) (sym odd)
    ∙ (let swap : d * q ≡ q * d = omega arith in swap) ∙ h) in
    subst (λ k. d ∣ k) (sym (half_of d (x - (d / 2) * q) x (ap (λ k. d * k) (sym even)
    ∙ (let swap : d * q ≡ q * d = omega arith in swap) ∙ h))) (dvd-mul_right d (x - (d / 2) * q))

divides_power : (k d : ℕ) → d % 2 ≢ 0 → d ∣ 2 ^ k → d ∣ 1
divides_power zero d o h = subst (λ n. d ∣ n) (pow-zero 2) h
divides_power (suc k) d o h = divides_power k d o
    (odd_quotient d (2 ^ k) (2 ^ suc k / d) o (whole_quotient (2 ^ suc k) d (mod-eq-zero_of_dvd d h)
    ∙ pow-suc 2 k ∙ (let swap : 2 ^ k * 2 ≡ 2 * 2 ^ k = omega arith in swap)))

even_from : (n d : ℕ) → d ∣ n → d % 2 ≡ 0 → n % 2 ≡ 0
even_from n d h e = mod-eq-zero_of_dvd 2 (dvd_trans 2 (dvd_of_mod-eq-zero 2 e) h)

one_divides : (n : ℕ) → 1 ∣ n
one_divides n = subst (λ k. 1 ∣ k) (let e : 1 * n ≡ n = omega arith in e) (dvd-mul_right 1 n)

pub odd_divisor : (n k : ℕ) → n % 2 ≢ 0 → common_divisor_to (2 ^ k) n (2 ^ k) ≡ 1
odd_divisor n k o = divisor_is n (2 ^ k) 1 (one-le-pow k 2 (omega arith)) (
  one_divides n,
  one_divides (2 ^ k),
  (λ d a b. divides_power k d (λ e. o (even_from n d a e)) b),
)

pub divisor-one : (a : ℕ) → common_divisor_to 1 a 1 ≡ 1
unfolding common_divisor_to
divisor-one a = by (a % 1 == 0) (1 % 1 == 0)
  where
    by : (x y : Bool) → (if x && y then 1 else common_divisor_to 0 a 1) ≡ 1
    by true true = refl
    by true false = refl
    by false y = refl

-- ---- powers
pub power-step : (num base n m k : ℕ) → n ≡ num * base ^ k → m ≡ n * base → m ≡ num * base ^ (k + 1)
power-step num base n m k e f = let next : base ^ (k + 1) ≡ base ^ k * base = ap (λ j. base ^ j)
    (let s : k + 1 ≡ suc k = omega arith in s) ∙ pow-suc base k in f ∙ ap (λ x. x * base) e
    ∙ (let g : (num * base ^ k) * base ≡ num * (base ^ k * base) = omega arith in g)
    ∙ ap (λ x. num * x) (sym next)

pub power-past : (num base l n k e : ℕ) → 2 ≤ base → l ≤ n * base → n ≡ num * base ^ k
    → k < e → l ≤ num * base ^ e
power-past num base l n k e b h f g =
    let here : n * base ≡ num * base ^ (k + 1) = power-step num base n (n * base) k f refl in
    let more : base ^ (k + 1) ≤ base ^ e = pow-le-pow_right (omega arith) (omega arith) in
    let grown : num * base ^ (k + 1) ≤ num * base ^ e = mul-le-mul_left num more in omega arith

pub quotient_below : (a g : ℕ) → a / g ≤ a
quotient_below a g = div-le_self a g
