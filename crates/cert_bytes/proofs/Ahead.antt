-- The next byte of those that were read ahead.
use Rattle.std.proofs.Common.{◌≡◌, ◌≤◌, ◌<◌, ◌+◌, ◌-◌, ◌*◌, ◌∷◌, ◌==◌, ◌&&◌, ⊎_elim, ℕ, zero, suc}
use Rattle.std.proofs.Common.{true, false, List, [], length, take, drop, slice_range}
use Rattle.std.proofs.Common.{slice_index_or, Ok, refl, sym, ap, subst, arith}
use Rattle.std.specs.Prelude.{nat_lt, nat_le}
use Rattle.std.proofs.lemmas.Bool.{cases_lt}
use Rattle.cert_bytes.specs.Reading.{Cursor, byte_at, digits_at, limited_at, based_at}
use Rattle.cert_bytes.specs.Pieces.{IsFirst, IsLow}

front : (buf : List ℕ) (begin n : ℕ) → 0 < n → begin < length buf
    → IsFirst (slice_index_or buf begin 0) (take n (drop begin buf))
front [] begin n s l = absurd (let z : begin < 0 = l in omega (arith, z))
front (x ∷ buf) begin zero s l = absurd (let z : 0 < 0 = s in omega (arith, z))
front (x ∷ buf) zero (suc n) s l = refl
front (x ∷ buf) (suc begin) (suc n) s l = front buf begin (suc n) s (omega (arith, l))

no_range : (buf : List ℕ) (begin end : ℕ) → end ≤ begin → slice_range buf begin end ≡ []
no_range buf begin end l = let z : end - begin ≡ 0 = omega (arith, l) in
    ap (λ (n : ℕ). take n (drop begin buf)) z

abbrev pub empty : List ℕ
empty = []

pub some_range : (buf : List ℕ) (begin end : ℕ)
    → ¬ (slice_range buf begin end ≡ empty) → begin < end
some_range buf begin end n =
    ⊎_elim (λ l. l) (λ l. absurd (n (no_range buf begin end l))) (cases_lt begin end)

pub range_first : (buf : List ℕ) (begin end : ℕ) → begin < end → end ≤ length buf
    → IsFirst (slice_index_or buf begin 0) (slice_range buf begin end)
range_first buf begin end l h =
    front buf begin (end - begin) (omega (arith, l)) (omega (arith, l, h))

pub first_low : (b : ℕ) (l : List ℕ) → IsFirst b l → b < 128 → IsLow l
first_low b [] f s = f
first_low b (x ∷ l) f s = subst (λ (n : ℕ). n < 128) (sym f) s

pub low_is : (l rest : List ℕ) (b : ℕ) → IsLow l → l ≡ b ∷ rest → b < 128
low_is [] rest b h e = cc
low_is (x ∷ l) rest b h e = let q : x ≡ b = cc in subst (λ (n : ℕ). n < 128) q h

-- a byte below 128 is a number
pub low_number : (c next : Cursor) (bytes most b : ℕ) → 1 ≤ bytes → 127 ≤ most
    → byte_at c ≡ Ok (b, next) → b < 128 → based_at bytes most c ≡ Ok (b, next)
unfolding based_at limited_at digits_at
low_number c next zero most b s m e l = absurd (let z : 1 ≤ 0 = s in omega (arith, z))
low_number c next (suc bytes) most b s m e l =
    let low : nat_lt b 128 ≡ true = grind (arith, l) in
    let alone : ((b == 0) && nat_lt 1 1) ≡ false = grind arith in
    let value : 0 + 1 * b ≡ b = omega arith in
    let within : nat_le b most ≡ true = grind (arith, l, m) in
    rw (e, low, alone, value, within) refl
