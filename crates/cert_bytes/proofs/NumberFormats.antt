-- Formats of numbers: those of fixed width, those in base 128, and fields by their style.
use mir.Val.{bits, hbits}
use mir.ValLaws.{of_z_fits, to_z-Fits}
use Rattle.std.proofs.Common.{◌≡◌, ◌≤◌, ◌<◌, ◌+◌, ◌-◌, ◌*◌, ◌/◌, ◌%◌, ◌^◌, ◌++◌, ◌∷◌, [], ◌==◌}
use Rattle.std.proofs.Common.{◌&&◌, ◌⊎◌, inl, inr, if◌then◌else◌, ⊎_elim, ℕ, zero, suc, ℤ, pos}
use Rattle.std.proofs.Common.{negsuc, ◌≤ℤ◌}
use Rattle.std.proofs.Common.{Bool, true, false, List, length, Option, Some, None, Ok, Err, refl}
use Rattle.std.proofs.Common.{sym, ap, ap₂, subst, ◌∙◌, arith, lit<, lit≤, ltb-true, leb-true}
use Rattle.std.specs.Prelude.{nat_le, nat_lt}
use Rattle.std.specs.Int.{Width, w16, w64, bytes_high_first, byte_at as digit_at, cast_unsigned}
use Rattle.std.specs.Int.RustNames.{FitsSigned}
use Rattle.std.proofs.Math.Nat.{pow-succ', div-add-mod, div-lt_iff_lt-mul}
use Rattle.std.proofs.Math.Nat.{mod-lt, mod-eq_of_lt, mul-le-mul_right, add-mul-div_left}
use Rattle.std.proofs.Math.Nat.{add-mul-mod_self_right}
use Rattle.std.proofs.lemmas.Nat.{div-mul-add, div-add-mod'}
use Rattle.std.proofs.lemmas.Bool.{cases_lt}
use Rattle.std.proofs.lemmas.Int.{ints, of_z-to_z, to_z-of_z, fits_signed_from_abs}
use Rattle.fx_model.specs.declared.ExprId.{ExprId}
use Rattle.literal.proofs.Tens.{pow_positive}
use Rattle.cert_bytes.specs.declared.style.Style.{Style}
use Rattle.cert_bytes.specs.declared.style.Style.TheVariants.{First, Second}
use Rattle.cert_bytes.specs.Certificates.{IsShort, IsLong}
use Rattle.cert_bytes.specs.ReadBack.{ReadsTo}
use Rattle.cert_bytes.specs.ReadOut.{AreBytes}
use Rattle.cert_bytes.specs.Reading.{Cursor, Read, numbered, byte_at, bytes_at, number_at}
use Rattle.cert_bytes.specs.Reading.{ended_with, digits_at, at_most, limited_at, based_at, sized_by}
use Rattle.cert_bytes.specs.Reading.{sized_at, tiny_at, short_at, long_at, step_by, reference_at}
use Rattle.cert_bytes.specs.Reading.{wide_at, signed_by, signed_short_at, signed_long_at, expr_at}
use Rattle.cert_bytes.specs.Reading.{unzigzag, ◌>>=◌}
use Rattle.cert_bytes.specs.Spelling.{digits, based, zigzag, tiny, short, reference, wide}
use Rattle.cert_bytes.specs.Spelling.{signed_short, signed_long}
use Rattle.cert_bytes.proofs.Digits.{last_digit, first_digit}
use Rattle.cert_bytes.proofs.Zigzag.{zigzag_back, zigzag_out, zigzag_short, zigzag_long}
use Rattle.cert_bytes.proofs.Zigzag.{distance_small, distance_again}
use Rattle.cert_bytes.proofs.Format.{Bytes, Form, plain, whole, Format, IsSame, same_as, Stands}
use Rattle.cert_bytes.proofs.Format.{behind, through, restated, sequence, made_of, nothing, byte}
use Rattle.cert_bytes.proofs.Format.{answer, by_style, placed, if_some, chosen, one, IsByte}

-- ---- numbers of fixed width

pub digit_is : (k n : ℕ) → digit_at k n ≡ n / 256 ^ k % 256
digit_is zero n = omega arith
digit_is (suc k) n = refl

pub length_high : (k n : ℕ) → length (bytes_high_first k n) ≡ k
length_high zero n = refl
length_high (suc k) n = ap suc (length_high k n)

-- the low digits are those of the rest
low_digits : (k c m : ℕ) → bytes_high_first k (c * 256 ^ k + m) ≡ bytes_high_first k m
low_digits zero c m = refl
low_digits (suc k) c m =
    let power : 256 ^ suc k ≡ 256 * 256 ^ k = pow-succ' 256 k in
    let whole : c * 256 ^ suc k + m ≡ m + 256 ^ k * (c * 256) =
    ap (λ p. c * p + m) power ∙ turned (256 ^ k) c m in
    let head : digit_at k (c * 256 ^ suc k + m) ≡ digit_at k m =
    digit_is k (c * 256 ^ suc k + m)
    ∙ ap (λ n. n / 256 ^ k % 256) whole
    ∙ ap (λ n. n % 256) (add-mul-div_left m (c * 256) {y = 256 ^ k} (pow_positive 256 k (lit< tt)))
    ∙ add-mul-mod_self_right (m / 256 ^ k) c 256
    ∙ sym (digit_is k m) in
    let part : c * 256 ^ suc k + m ≡ c * 256 * 256 ^ k + m =
    ap (λ p. c * p + m) power ∙ regrouped (256 ^ k) c m in
    let tail : bytes_high_first k (c * 256 ^ suc k + m) ≡ bytes_high_first k m =
    ap (bytes_high_first k) part ∙ low_digits k (c * 256) m in
    ap₂ (λ d ds. d ∷ ds) head tail
  where
    turned : (p c m : ℕ) → c * (256 * p) + m ≡ m + p * (c * 256)
    turned p c m = omega arith

    regrouped : (p c m : ℕ) → c * (256 * p) + m ≡ c * 256 * p + m
    regrouped p c m = omega arith

high_digit : (k b m : ℕ) → b < 256 → m < 256 ^ k
    → b ∷ bytes_high_first k m ≡ bytes_high_first (suc k) (b * 256 ^ k + m)
high_digit k b m l r =
    let head : digit_at k (b * 256 ^ k + m) ≡ b = digit_is k (b * 256 ^ k + m)
    ∙ ap (λ n. n % 256) (div-mul-add b (256 ^ k) m r) ∙ mod-eq_of_lt l in
    sym (ap₂ (λ d ds. d ∷ ds) head (low_digits k b m))

-- so many bytes behind those that make `value`
abbrev bytes_form : ℕ → ℕ → Form ℕ ℕ
bytes_form k value =
    plain (λ m. value * 256 ^ k + m) (λ m old. bytes_high_first k m) (λ m. m < 256 ^ k)

-- a byte, and so many behind it
abbrev longer_form : ℕ → ℕ → Form (ℕ × ℕ) ℕ
longer_form k value = behind (whole one IsByte) (λ b. bytes_form k (256 * value + b))

-- a number below 256^(k + 1) is its high byte and the rest
high_and_rest : (k value b r : ℕ) → b < 256 → r < 256 ^ k
    → (b * 256 ^ k + r < 256 ^ suc k)
    × IsSame (longer_form k value) (bytes_form (suc k) value) (b, r) (b * 256 ^ k + r)
high_and_rest k value b r l h =
    let power : 256 ^ suc k ≡ 256 * 256 ^ k = pow-succ' 256 k in
    let room : (b + 1) * 256 ^ k ≤ 256 * 256 ^ k = mul-le-mul_right (256 ^ k) (omega (arith, l)) in
    let one : (b + 1) * 256 ^ k ≡ b * 256 ^ k + 256 ^ k = more b (256 ^ k) in (
      omega (arith, power, room, one, h),
      same_as (gather value b (256 ^ k) r ∙ ap (λ p. value * p + (b * 256 ^ k + r)) (sym power))
          (λ old. high_digit k b r l h),
    )
  where
    more : (b p : ℕ) → (b + 1) * p ≡ b * p + p
    more b p = omega arith

    gather : (v d p r : ℕ) → (256 * v + d) * p + r ≡ v * (256 * p) + (d * p + r)
    gather v d p r = omega arith

bytes : (k value : ℕ) → Format (bytes_at k value) (bytes_form k value)
unfolding bytes_at
bytes zero value = restated (nothing value) (bytes_form zero value)
    (λ m i. (tt, tt, alone value m i)) (λ u i. (0, omega arith, alone value 0 (omega arith)))
  where
    alone : (value m : ℕ) → m < 1
        → IsSame (plain (λ (u : Unit {0}). value) (λ u old. []) (λ u. Unit {0}))
        (bytes_form zero value) tt m
    alone value m l =
        same_as (let e : value ≡ value * 256 ^ 0 + m = omega (arith, l) in e) (λ old. refl)
bytes (suc k) value = restated (sequence byte
    (λ at b c. bytes_at k (256 * value + b) c) (λ at b i. bytes k (256 * value + b)))
    (bytes_form (suc k) value) (λ m l.
    let some : 0 < 256 ^ k = pow_positive 256 k (lit< tt) in
    let power : 256 ^ suc k ≡ 256 * 256 ^ k = pow-succ' 256 k in
    let high : m / 256 ^ k < 256 = (div-lt_iff_lt-mul some).1 (omega (arith, l, power)) in
    let low : m % 256 ^ k < 256 ^ k = mod-lt m some in (
      (m / 256 ^ k, m % 256 ^ k),
      (high, low),
      subst (λ (n : ℕ). IsSame (longer_form k value) (bytes_form (suc k) value)
          (m / 256 ^ k, m % 256 ^ k) n) (div-add-mod' m (256 ^ k))
          (high_and_rest k value (m / 256 ^ k) (m % 256 ^ k) high low).1,
    ))
    (λ p i. let q = high_and_rest k value p.0 p.1 i.0 i.1 in
    (p.0 * 256 ^ k + p.1, q.0, q.1))

pub number : (k : ℕ)
    → Format (number_at k) (whole (λ n old. bytes_high_first k n) (λ n. n < 256 ^ k))
number k = restated (bytes k 0) (whole (λ n old. bytes_high_first k n) (λ n. n < 256 ^ k))
    (λ n l. (n, l, same k n)) (λ n l. (n, l, same k n))
  where
    none : (p n : ℕ) → 0 * p + n ≡ n
    none p n = omega arith

    same : (k n : ℕ) → IsSame (bytes_form k 0)
        (whole (λ n old. bytes_high_first k n) (λ n. n < 256 ^ k)) n n
    same k n =
        same_as (none (256 ^ k) n) (λ old. refl)

-- ---- numbers in base 128

-- A number in base 128 of n bytes more at most, behind those that make `value`: it is BadNumber at
-- this byte where there is none, or it is above `most`.
abbrev based_from : ℕ → ℕ → ℕ → ℕ → ℕ → Cursor → Read ℕ
based_from at most n weight value c =
    digits_at n weight value c >>= λ o. numbered at (at_most most o.0) o.1

bind_if : {A B : Type 0} (t : Bool) (o p : Read A) (f : A × Cursor → Read B)
    → ((if t then o else p) >>= f) ≡ (if t then (o >>= f) else (p >>= f))
bind_if true o p f = refl
bind_if false o p f = refl

-- behind one byte more
one_by_one : (at most n weight value : ℕ) (c : Cursor) → based_from at most (suc n) weight value c
    ≡ (byte_at c >>= λ b. if nat_lt b.0 128 then numbered at (at_most most
    (ended_with weight value b.0)) b.1 else based_from at most n (weight * 128)
    (value + weight * (b.0 - 128)) b.1)
unfolding digits_at
one_by_one at most n weight value c = by (byte_at c)
  where
    by : (r : Read ℕ) → ((r >>= λ b. if nat_lt b.0 128 then Ok (ended_with weight value b.0, b.1)
        else digits_at n (weight * 128) (value + weight * (b.0 - 128)) b.1)
        >>= λ o. numbered at (at_most most o.0) o.1)
        ≡ (r >>= λ b. if nat_lt b.0 128 then numbered at (at_most most
        (ended_with weight value b.0)) b.1 else based_from at most n (weight * 128)
        (value + weight * (b.0 - 128)) b.1)
    by (Ok b) = bind_if (nat_lt b.0 128) (Ok (ended_with weight value b.0, b.1))
        (digits_at n (weight * 128) (value + weight * (b.0 - 128)) b.1)
        (λ o. numbered at (at_most most o.0) o.1)
    by (Err e) = refl

-- m behind the digits that make `value`, where the next one counts `weight`
abbrev digits_form : ℕ → ℕ → ℕ → ℕ → ℕ → Form ℕ ℕ
digits_form k left weight value most = plain (λ m. value + weight * m) (λ m old. digits k m)
    (λ m. (m < 128 ^ left) × (1 < weight → 0 < m) × (value + weight * m ≤ most))

-- what stands behind a byte: nothing, or further digits
abbrev tail_form : ℕ → ℕ → ℕ → ℕ → ℕ → ℕ → Bool → Form ℕ ℕ
tail_form k left weight value most b true =
    whole (λ v old. []) (λ v. at_most most (ended_with weight value b) ≡ Some v)
tail_form k left weight value most b false =
    digits_form k left (weight * 128) (value + weight * (b - 128)) most

abbrev longer_digits : ℕ → ℕ → ℕ → ℕ → ℕ → Form (ℕ × ℕ) ℕ
longer_digits k left weight value most =
    behind (whole one IsByte) (λ b. tail_form k left weight value most b (nat_lt b 128))

-- a last digit, and the number
last_is : (weight value b most v : ℕ) → at_most most (ended_with weight value b) ≡ Some v
    → (1 < weight → 0 < b) × (value + weight * b ≡ v) × (value + weight * b ≤ most)
last_is weight value b most v e = by ((b == 0) && nat_lt 1 weight) refl e
  where
    within : (t : Bool) → nat_le (value + weight * b) most ≡ t
        → (if t then Some (value + weight * b) else None) ≡ Some v
        → (value + weight * b ≡ v) × (value + weight * b ≤ most)
    within true t e = (cc, leb-true (value + weight * b) most t)
    within false t e = cc

    by : (t : Bool) → ((b == 0) && nat_lt 1 weight) ≡ t
        → at_most most (if t then None else Some (value + weight * b)) ≡ Some v
        → (1 < weight → 0 < b) × (value + weight * b ≡ v) × (value + weight * b ≤ most)
    by true t e = cc
    by false t e = let w = within (nat_le (value + weight * b) most) refl e in
        (λ h. grind (arith, t, h), w.0, w.1)

last_of : (weight value b most : ℕ) → (1 < weight → 0 < b) → value + weight * b ≤ most
    → at_most most (ended_with weight value b) ≡ Some (value + weight * b)
last_of weight value b most h l =
    let kept : ((b == 0) && nat_lt 1 weight) ≡ false = grind (arith, h) in
    let within : nat_le (value + weight * b) most ≡ true = grind (arith, l) in
    rw (kept, within) refl

more_digits : (value weight n : ℕ)
    → value + weight * (n % 128 + 128 - 128) + weight * 128 * (n / 128) ≡ value + weight * n
more_digits value weight n =
    let e : 128 * (n / 128) + n % 128 ≡ n = div-add-mod n 128 in
    let d : n % 128 + 128 - 128 ≡ n % 128 = omega arith in
    let s : weight * (128 * (n / 128) + n % 128) ≡ weight * n = ap (λ n. weight * n) e in
    ap (λ d. value + weight * d + weight * 128 * (n / 128)) d ∙ omega (arith, s)

-- n is its first digit and what follows it
split : (k left weight value most n : ℕ) → (n < 128 ^ suc left) × (1 < weight → 0 < n)
    × (value + weight * n ≤ most) → (p : ℕ × ℕ) × (longer_digits k left weight value most).Is p
    × IsSame (longer_digits k left weight value most)
    (digits_form (suc k) (suc left) weight value most) p n
split k left weight value most n i = ⊎_elim
    (λ l. let t : nat_lt n 128 ≡ true = grind (arith, l) in (
      (n, value + weight * n),
      (omega (arith, l), rw t (last_of weight value n most i.1 i.2)),
      record {
        gives = rw t refl;
        spells = λ old. rw t (sym (last_digit k n l));
        turns = λ old. rw t refl;
      },
    ))
    (λ h. let t : nat_lt (n % 128 + 128) 128 ≡ false = grind arith in
    let power : 128 ^ suc left ≡ 128 * 128 ^ left = pow-succ' 128 left in
    let below = i.0 in let within = i.2 in let sum = more_digits value weight n in (
      (n % 128 + 128, n / 128),
      (
        omega arith,
        rw t (
          omega (arith, power, below),
          λ w. omega (arith, h),
          omega (arith, sum, within),
        ),
      ),
      record {
        gives = rw t sum;
        spells = λ old. rw t (sym (first_digit k n h));
        turns = λ old. rw t refl;
      },
    ))
    (cases_lt n 128)

-- a digit and what follows it are a number
joined : (k left weight value most b m : ℕ) → 0 < weight → IsByte b → (t : Bool)
    → nat_lt b 128 ≡ t → (tail_form k left weight value most b t).Is m
    → (n : ℕ) × (digits_form (suc k) (suc left) weight value most).Is n
    × IsSame (longer_digits k left weight value most)
    (digits_form (suc k) (suc left) weight value most) (b, m) n
joined k left weight value most b m w byte true t i =
    let l : b < 128 = ltb-true b 128 t in
    let power : 128 ^ suc left ≡ 128 * 128 ^ left = pow-succ' 128 left in
    let some : 0 < 128 ^ left = pow_positive 128 left (lit< tt) in
    let q = last_is weight value b most m i in (
      b,
      (omega (arith, l, power, some), q.0, q.2),
      record {
        gives = rw t (sym q.1);
        spells = λ old. rw t (sym (last_digit k b l));
        turns = λ old. rw t refl;
      },
    )
joined k left weight value most b m w byte false t i =
    let h : 128 ≤ b = grind (arith, t) in
    let some : 0 < m = i.1 (omega (arith, w)) in
    let power : 128 ^ suc left ≡ 128 * 128 ^ left = pow-succ' 128 left in
    let low = i.0 in let within = i.2 in
    let all = sum value weight (b - 128) m in (
      b - 128 + 128 * m,
      (omega (arith, byte, power, low), λ h. omega (arith, some), omega (arith, all, within)),
      record {
        gives = rw t all;
        spells = λ old. rw t (spelled k b m h byte some);
        turns = λ old. rw t refl;
      },
    )
  where
    sum : (value weight d m : ℕ)
        → value + weight * d + weight * 128 * m ≡ value + weight * (d + 128 * m)
    sum value weight d m = omega arith

    spelled : (k b m : ℕ) → 128 ≤ b → b < 256 → 0 < m
        → b ∷ digits k m ≡ digits (suc k) (b - 128 + 128 * m)
    spelled k b m l h some =
        let first : (b - 128 + 128 * m) % 128 + 128 ≡ b = omega (arith, l, h) in
        let rest : (b - 128 + 128 * m) / 128 ≡ m = omega (arith, l, h) in
        ap₂ (λ d m. d ∷ digits k m) (sym first) (sym rest)
        ∙ sym (first_digit k (b - 128 + 128 * m) (omega (arith, some)))

further : (at most k left weight value : ℕ) → left ≤ k → 0 < weight → (1 < weight) ⊎ (0 < left)
    → Format (based_from at most left weight value) (digits_form k left weight value most)
unfolding digits_at
further at most k zero weight value l w (inl h) = record {
  back = λ m i old own rest r. absurd
      (let z : m < 1 = i.0 in let s : 0 < m = i.1 h in omega (arith, z, s));
  out = λ c next y b e. cc;
}
further at most k zero weight value l w (inr h) = absurd (let z : 0 < 0 = h in omega (arith, z))
further at most zero (suc left) weight value l w h =
    absurd (let z : suc left ≤ 0 = l in omega (arith, z))
further at most (suc k) (suc left) weight value l w h =
    through (restated (sequence byte (λ own b c. if nat_lt b 128
    then numbered at (at_most most (ended_with weight value b)) c
    else based_from at most left (weight * 128) (value + weight * (b - 128)) c)
    (λ own b i. chosen (nat_lt b 128) (tail_form k left weight value most b)
    (λ t. if_some at (at_most most (ended_with weight value b)))
    (λ t. further at most k left (weight * 128) (value + weight * (b - 128)) (omega (arith, l))
    (omega (arith, w)) (inl (omega (arith, w))))))
    (digits_form (suc k) (suc left) weight value most) (split k left weight value most)
    (λ p i. joined k left weight value most p.0 p.1 w i.0 (nat_lt p.0 128) refl i.1))
    (one_by_one at most left weight value)

folded : (n most : ℕ) (c : Cursor) → based_at n most c ≡ based_from c.at most n 1 0 c
unfolding based_at limited_at
folded n most c = by (digits_at n 1 0 c)
  where
    by : (r : Read (Option ℕ)) → ((r >>= λ o. answer (at_most most o.0) o.1)
        >>= λ n. numbered c.at n.0 n.1) ≡ (r >>= λ o. numbered c.at (at_most most o.0) o.1)
    by (Ok o) = refl
    by (Err e) = refl

-- ---- numbers by their style

abbrev pub sized_bytes : ℕ → ℕ → Bytes
sized_bytes width n First = bytes_high_first width n
sized_bytes width n (Second seen) = based n

abbrev sized_form : ℕ → ℕ → Form ℕ ℕ
sized_form width most = whole (sized_bytes width) (λ n. n ≤ most)

based_number : (bytes most : ℕ) → 0 < bytes → bytes ≤ 19 → most < 128 ^ bytes
    → Format (based_at bytes most) (whole (λ n old. based n) (λ n. n ≤ most))
based_number bytes most some few small = through (placed (λ at.
    restated (further at most 19 bytes 1 0 few (omega arith) (inr some))
    (whole (λ n old. based n) (λ n. n ≤ most))
    (λ n l. (n, (omega (arith, l, small), λ h. omega (arith, h), omega (arith, l)), same n))
    (λ n i. (n, (let l = i.2 in omega (arith, l)), same n)))) (folded bytes most)
  where
    same : (n : ℕ) → IsSame (digits_form 19 bytes 1 0 most)
        (whole (λ n old. based n) (λ n. n ≤ most)) n n
    same n = same_as (let e : 0 + 1 * n ≡ n = omega arith in e) (λ old. refl)

-- Numbers up to `most`: they have `width` bytes in version 1, and in version 2 so many at most.
pub sized : (width bytes most : ℕ) → 256 ^ width ≡ most + 1 → 0 < bytes → bytes ≤ 19
    → most < 128 ^ bytes → Format (sized_at width bytes most) (sized_form width most)
unfolding sized_at
sized width bytes most room some few small =
    record { back = back; out = λ c next n b e. by c next n b c.style refl e }
  where
    second : Format (based_at bytes most) (whole (λ n old. based n) (λ n. n ≤ most))
    second = based_number bytes most some few small

    back : (n : ℕ) → n ≤ most → (old : Style)
        → ReadsTo old old (sized_at width bytes most) (sized_bytes width n old) n
    back n l First at rest r = (number width).back n (omega (arith, l, room)) First at rest r
    back n l (Second seen) at rest r = second.back n l (Second seen) at rest r

    in_style : {spells : ℕ → Bytes} {P : ℕ → Type 0} (c next : Cursor) (n : ℕ)
        (s : Stands (whole spells P) c next n) → s.value ≤ most
        → spells s.value c.style ≡ sized_bytes width s.value c.style
        → Stands (sized_form width most) c next n
    in_style c next n s l e = record {
      value = s.value;
      is = l;
      given = s.given;
      bytes = s.bytes ∙ ap (λ (bytes : List ℕ). bytes ++ next.rest) e;
      style = s.style;
      behind = s.behind;
    }

    by : (c next : Cursor) (n : ℕ) → AreBytes c.rest → (style : Style) → c.style ≡ style
        → sized_by style width bytes most c ≡ Ok (n, next) → Stands (sized_form width most) c next n
    by c next n b First z e = let s = (number width).out c next n b e in let i = s.is in
        in_style c next n s (omega (arith, i, room))
        (ap (λ (style : Style). sized_bytes width s.value style) (sym z))
    by c next n b (Second seen) z e = let s = second.out c next n b e in
        in_style c next n s s.is (ap (λ (style : Style). sized_bytes width s.value style) (sym z))

-- ---- fields

-- by the name of its spelling
named : {r : Cursor → Read ℕ} (width most : ℕ) (spells : ℕ → Bytes) (Is : ℕ → Type 0)
    → ((n : ℕ) → Is n → n ≤ most) → ((n : ℕ) → n ≤ most → Is n)
    → ((n : ℕ) → n ≤ most → (old : Style) → sized_bytes width n old ≡ spells n old)
    → Format r (sized_form width most) → Format r (whole spells Is)
named width most spells Is of to same f = restated f (whole spells Is)
    (λ n i. (n, of n i, said n (of n i))) (λ n l. (n, to n l, said n l))
  where
    said : (n : ℕ) → n ≤ most → IsSame (sized_form width most) (whole spells Is) n n
    said n l = same_as refl (same n l)

pub a_tiny : Format tiny_at (whole tiny (λ n. n ≤ 255))
unfolding tiny
a_tiny = named 1 255 tiny (λ n. n ≤ 255) (λ n l. l) (λ n l. l) same
    (sized 1 10 255 refl (lit< tt) (lit≤ tt) (lit< tt))
  where
    same : (n : ℕ) → n ≤ 255 → (old : Style) → sized_bytes 1 n old ≡ tiny n old
    same n l First = ap (λ (b : ℕ). b ∷ []) (mod-eq_of_lt (omega (arith, l)))
    same n l (Second seen) = refl

two : Format short_at (sized_form 2 65535)
two = sized 2 10 65535 refl (lit< tt) (lit≤ tt) (lit< tt)

pub a_short : Format short_at (whole short IsShort)
unfolding short
a_short = named 2 65535 short IsShort (λ n l. omega (arith, l)) (λ n l. omega (arith, l)) same two
  where
    same : (n : ℕ) → n ≤ 65535 → (old : Style) → sized_bytes 2 n old ≡ short n old
    same n l First = refl
    same n l (Second seen) = refl

pub a_long : Format long_at (sized_form 8 18446744073709551615)
a_long = sized 8 10 18446744073709551615 refl (lit< tt) (lit≤ tt) (lit< tt)

pub a_wide : Format wide_at (whole wide (λ n. n < 2 ^ 128))
unfolding wide
a_wide = named 16 340282366920938463463374607431768211455 wide (λ n. n < 2 ^ 128)
    (λ n l. omega (arith, l)) (λ n l. omega (arith, l)) same
    (sized 16 19 340282366920938463463374607431768211455 refl (lit< tt) (lit≤ tt) (lit< tt))
  where
    same : (n : ℕ) → n ≤ 340282366920938463463374607431768211455 → (old : Style)
        → sized_bytes 16 n old ≡ wide n old
    same n l First = refl
    same n l (Second seen) = refl

-- ---- fields that say something else in each style

-- the spelling of what a field says, by its name
renamed : {A : Type 0} {r : Cursor → Read A} {Is : A → Type 0} (by spells : A → Bytes)
    → ((x : A) (old : Style) → by x old ≡ spells x old)
    → Format r (whole by Is) → Format r (whole spells Is)
renamed {Is = Is} by spells same f = restated f (whole spells Is)
    (λ x i. (x, i, said x)) (λ x i. (x, i, said x))
  where
    said : (x : _) → IsSame (whole by Is) (whole spells Is) x x
    said x = same_as refl (same x)

-- how far back a step stands, taken twice
step_twice : (old : Style) (n : ℕ) → n < 2 ^ 64
    → (step_by old n ≤ 18446744073709551615) × (step_by old (step_by old n) ≡ n)
step_twice First n l = (omega (arith, l), refl)
step_twice (Second seen) n l = (distance_small seen.steps n, distance_again seen.steps n l)

pub a_reference : Format reference_at (whole reference IsLong)
unfolding reference_at reference
a_reference = renamed (λ n old. sized_bytes 8 (step_by old n) old) reference same
    (by_style a_long step_by step_by IsLong (λ old n l. step_twice old n l)
    (λ old n l. let t = step_twice old n (omega (arith, l)) in let s = t.0 in
    (omega (arith, s), t.1)))
  where
    same : (n : ℕ) (old : Style) → sized_bytes 8 (step_by old n) old ≡ reference n old
    same n First = refl
    same n (Second seen) = refl

-- the number that says a signed one
abbrev number_of : Width → Style → ℤ → ℕ
number_of w First z = cast_unsigned w z
number_of w (Second seen) z = zigzag z

unzigzag_fits : (w : Width) (n : ℕ) → n / 2 < 2 ^ hbits w → FitsSigned w (unzigzag n)
unzigzag_fits w n l = by (n % 2 == 0)
  where
    by : (t : Bool) → FitsSigned w (if t then pos (n / 2) else negsuc (n / 2))
    by true = record { sfits = l }
    by false = record { sfits = l }

a_signed : (w : Width) (most : ℕ) → 2 ^ bits w ≡ most + 1
    → ((z : ℤ) → FitsSigned w z → zigzag z ≤ most)
    → ((n : ℕ) → n ≤ most → FitsSigned w (unzigzag n)) → {r : Cursor → Read ℕ} → (width : ℕ)
    → Format r (sized_form width most)
    → Format (λ c. r c >>= λ n. Ok (signed_by c.style w n.0, n.1))
    (whole (λ z old. sized_bytes width (number_of w old z) old) (FitsSigned w))
a_signed w most room folds unfolds width f =
    by_style f (λ style n. signed_by style w n) (number_of w) (FitsSigned w) there here
  where
    there : (old : Style) (z : ℤ) → FitsSigned w z
        → (number_of w old z ≤ most) × (signed_by old w (number_of w old z) ≡ z)
    there First z i = (let l = (of_z_fits w z i).fits in omega (arith, l, room), to_z-of_z w z i)
    there (Second seen) z i = (folds z i, zigzag_back z)

    here : (old : Style) (n : ℕ) → n ≤ most
        → FitsSigned w (signed_by old w n) × (number_of w old (signed_by old w n) ≡ n)
    here First n l = (
      to_z-Fits w n (record { fits = omega (arith, l, room) }),
      of_z-to_z w n (omega (arith, l, room)),
    )
    here (Second seen) n l = (unfolds n l, zigzag_out n)

pub a_signed_short : Format signed_short_at (whole signed_short (FitsSigned w16))
unfolding signed_short_at signed_short
a_signed_short = renamed (λ z old. sized_bytes 2 (number_of w16 old z) old) signed_short same
    (a_signed w16 65535 refl zigzag_short (λ n l. unzigzag_fits w16 n (omega (arith, l))) 2 two)
  where
    same : (z : ℤ) (old : Style) → sized_bytes 2 (number_of w16 old z) old ≡ signed_short z old
    same z First = refl
    same z (Second seen) = refl

pub a_signed_long : Format signed_long_at (whole signed_long (FitsSigned w64))
unfolding signed_long_at signed_long
a_signed_long = renamed (λ z old. sized_bytes 8 (number_of w64 old z) old) signed_long same
    (a_signed w64 18446744073709551615 refl zigzag_long
    (λ n l. unzigzag_fits w64 n (omega (arith, l))) 8 a_long)
  where
    same : (z : ℤ) (old : Style) → sized_bytes 8 (number_of w64 old z) old ≡ signed_long z old
    same z First = refl
    same z (Second seen) = refl

-- exponents have room in two bytes
pub small_exponent : (z : ℤ) → negsuc 1023 ≤ℤ z → z ≤ℤ pos 1023 → FitsSigned w16 z
small_exponent z l h = fits_signed_from_abs w16 z (omega (arith, ints))

abbrev expr_of : ℕ → ExprId
expr_of n = record { 0 = n }

pub an_expr : Format expr_at (whole (λ x. short x.0) (λ x. IsShort x.0))
unfolding expr_at
an_expr = made_of a_short expr_of (λ x. x.0) (λ x. refl) (λ n. refl)
