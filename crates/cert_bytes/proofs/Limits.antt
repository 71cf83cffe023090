-- Numbers in base 128, read byte by byte.
use Rattle.std.proofs.Common.{◌≡◌, ◌≤◌, ◌<◌, ◌+◌, ◌-◌, ◌*◌, ◌^◌, if◌then◌else◌, ℕ, suc, true, false}
use Rattle.std.proofs.Common.{Option, None, Result, Ok, Err, refl, sym, ap, subst, ◌∙◌, arith, lit<}
use Rattle.std.proofs.Common.{add-one}
use Rattle.std.specs.Prelude.{nat_lt}
use Rattle.std.proofs.Math.Nat.{pow-succ', pow-le-pow_right, mul-le-mul_left}
use Rattle.cert_bytes.specs.declared.fault.CertFault.{CertFault}
use Rattle.cert_bytes.specs.Reading.{Cursor, Read, byte_at, ended_with, digits_at, at_most}
use Rattle.cert_bytes.specs.Reading.{limited_at, ◌>>=◌}
use Rattle.cert_bytes.specs.Widths.{HasBegun}

unfoldable pub limited : ℕ → Option ℕ × Cursor → Read (Option ℕ)
limited most n = Ok (at_most most n.0, n.1)

abbrev found : Option ℕ → Cursor → Read (Option ℕ)
found o c = Ok (o, c)

-- behind one more byte
step_of : (left weight value : ℕ) → ℕ × Cursor → Read (Option ℕ)
step_of left weight value b = if nat_lt b.0 128 then Ok (ended_with weight value b.0, b.1)
    else digits_at left (weight * 128) (value + weight * (b.0 - 128)) b.1

steps : (c : Cursor) (left most weight value : ℕ) → limited_at (suc left) most weight value c
    ≡ (byte_at c >>= step_of left weight value) >>= limited most
unfolding digits_at limited_at limited step_of
steps c left most weight value = refl

pub one_digit : (c next : Cursor) (left most weight value b : ℕ) (total : Read (Option ℕ))
    → limited_at (suc left) most weight value c ≡ total → byte_at c ≡ Ok (b, next) → ¬ (b < 128)
    → limited_at left most (weight * 128) (value + weight * (b - 128)) next ≡ total
unfolding step_of limited_at limited
one_digit c next left most weight value b total e f n =
    let high : nat_lt b 128 ≡ false = grind (arith, n) in
    let here : byte_at c >>= step_of left weight value
    ≡ digits_at left (weight * 128) (value + weight * (b - 128)) next = rw (f, high) refl in
    sym (steps c left most weight value ∙ ap (λ q. q >>= limited most) here) ∙ e

pub digit_ends : (c next : Cursor) (left most weight value b : ℕ) (total : Read (Option ℕ))
    → limited_at (suc left) most weight value c ≡ total → byte_at c ≡ Ok (b, next) → b < 128
    → total ≡ Ok (at_most most (ended_with weight value b), next)
unfolding step_of limited
digit_ends c next left most weight value b total e f l =
    let low : nat_lt b 128 ≡ true = grind (arith, l) in
    let here : byte_at c >>= step_of left weight value
    ≡ found (ended_with weight value b) next = rw (f, low) refl in
    sym e ∙ steps c left most weight value ∙ ap (λ q. q >>= limited most) here

pub digit_stops : (c : Cursor) (left most weight value : ℕ)
    (f : CertFault) (total : Read (Option ℕ)) → limited_at (suc left) most weight value c ≡ total
    → byte_at c ≡ Err f → total ≡ Err f
digit_stops c left most weight value f total e g = sym e ∙ steps c left most weight value ∙ ap
    (λ (r : Result (ℕ × Cursor) CertFault). (r >>= step_of left weight value) >>= limited most) g

pub no_digit : (c : Cursor) (most weight value : ℕ) (total : Read (Option ℕ))
    → limited_at 0 most weight value c ≡ total → total ≡ Ok (None, c)
unfolding digits_at limited_at
no_digit c most weight value total e = sym e

-- ---- room

-- one more digit has room
pub digit_fits : (value weight b : ℕ) → value < weight → b < 256
    → value + weight * (b - 128) < weight * 128
digit_fits value weight b l h = let m : weight * (b - 128) ≤ weight * 127 =
    mul-le-mul_left weight (omega (arith, h)) in omega (arith, l, m)

-- the weight of a digit that isn't the last that there may be
pub weight_fits : (weight left : ℕ) → 1 < left → weight * 128 ^ left ≤ 128 ^ 19
    → weight * 128 ≤ 2 ^ 126
weight_fits weight left l w =
    let p : 128 ^ 2 ≤ 128 ^ left = pow-le-pow_right {n = 128} (lit< tt) {i = 2} {j = left} l in
    let m : weight * 128 ^ 2 ≤ weight * 128 ^ left = mul-le-mul_left weight p in
    omega (arith, m, w)

pub weight_moves : (weight left : ℕ) → 1 < left → weight * 128 ^ left ≤ 128 ^ 19
    → weight * 128 * 128 ^ (left - 1) ≤ 128 ^ 19
weight_moves weight left l w =
    let e : left ≡ suc (left - 1) = omega (arith, l) in
    let p : 128 ^ left ≡ 128 * 128 ^ (left - 1) =
    ap (λ (k : ℕ). 128 ^ k) e ∙ pow-succ' 128 (left - 1) in
    let s : weight * 128 ^ left ≡ weight * (128 * 128 ^ (left - 1)) =
    ap (λ (p : ℕ). weight * p) p in
    let t : weight * (128 * 128 ^ (left - 1)) ≡ weight * 128 * 128 ^ (left - 1) = omega arith in
    omega (arith, w, s, t)

-- of the first nine bytes
pub near_fits : (have : ℕ) → have < 9 → 128 ^ have ≤ 2 ^ 56
near_fits have l = pow-le-pow_right {n = 128} (lit< tt) {i = have} {j = 8} (omega (arith, l))

pub near_moves : (have : ℕ) → 128 ^ have * 128 ≡ 128 ^ (have + 1)
near_moves have = let e = pow-succ' 128 have in rw (add-one have) (omega (arith, e))

pub far_fits : (bytes : ℕ) → 10 ≤ bytes → bytes ≤ 19 → 128 ^ 9 * 128 ^ (bytes - 9) ≤ 128 ^ 19
far_fits bytes l h = let p : 128 ^ (bytes - 9) ≤ 128 ^ 10 = pow-le-pow_right {n = 128} (lit< tt)
    {i = bytes - 9} {j = 10} (omega (arith, l, h)) in omega (arith, p)

-- behind a byte of the first nine so many more may be read
pub one_more : (bytes have most weight value : ℕ) (c : Cursor) (total : Read (Option ℕ))
    → have < 9 → 10 ≤ bytes → limited_at (bytes - have) most weight value c ≡ total
    → limited_at (suc (bytes - (have + 1))) most weight value c ≡ total
one_more bytes have most weight value c total l many =
    let left : bytes - have ≡ suc (bytes - (have + 1)) = omega (arith, l, many) in
    subst (λ (k : ℕ). limited_at k most weight value c ≡ total) left

-- and one more digit has room in 64 bits
pub near_sum : (have weight value b digit : ℕ) → have < 9 → weight ≡ 128 ^ have → value < weight
    → b < 256 → digit ≡ b - 128 → value + weight * digit < 2 ^ 63
near_sum have weight value b digit l w v h e =
    let m = near_fits have l in
    let s = subst (λ (n : ℕ). value + weight * n < weight * 128) (sym e)
    (digit_fits value weight b v h) in omega (arith, m, w, s)

-- behind the nine bytes the others have room
pub far_begun : (bytes have weight value wide sum : ℕ) → 10 ≤ bytes → bytes ≤ 19 → have ≡ 9
    → weight ≡ 128 ^ have → value < weight → wide ≡ weight → sum ≡ value
    → HasBegun (bytes - 9) wide sum
far_begun bytes have weight value wide sum many few nine w v e f =
    let all : wide ≡ 128 ^ 9 = e ∙ w ∙ ap (λ (k : ℕ). 128 ^ k) nine in
    record {
      some = omega (arith, many);
      before = omega (arith, v, e, f);
      room = subst (λ (n : ℕ). n * 128 ^ (bytes - 9) ≤ 128 ^ 19) (sym all)
          (far_fits bytes many few);
    }
