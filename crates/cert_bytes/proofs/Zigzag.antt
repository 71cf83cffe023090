-- Signed numbers as ones without a sign, and steps by how far back they stand.
use Rattle.std.proofs.Common.{◌≡◌, ◌≤◌, ◌<◌, ◌+◌, ◌*◌, ◌/◌, ◌%◌, ◌^◌, ◌==◌, ⊎_elim, ℕ, ℤ, pos}
use Rattle.std.proofs.Common.{negsuc, true, false, ap, arith}
use Rattle.std.specs.Int.{w16, w64}
use Rattle.std.specs.Int.RustNames.{FitsSigned}
use Rattle.std.proofs.lemmas.Bool.{cases_lt}
use Rattle.cert_bytes.specs.Reading.{unzigzag}
use Rattle.cert_bytes.specs.Spelling.{zigzag, distance}

-- ---- signed numbers

pub zigzag_back : (z : ℤ) → unzigzag (zigzag z) ≡ z
zigzag_back (pos n) = let even : (2 * n % 2 == 0) ≡ true = grind arith in
    let half : 2 * n / 2 ≡ n = omega arith in rw even (ap pos half)
zigzag_back (negsuc n) = let odd : ((2 * n + 1) % 2 == 0) ≡ false = grind arith in
    let half : (2 * n + 1) / 2 ≡ n = omega arith in rw odd (ap negsuc half)

pub zigzag_out : (n : ℕ) → zigzag (unzigzag n) ≡ n
zigzag_out n = ⊎_elim
    (λ l. let even : (n % 2 == 0) ≡ true = grind (arith, l) in
    rw even (let e : 2 * (n / 2) ≡ n = omega (arith, l) in e))
    (λ l. let odd : (n % 2 == 0) ≡ false = grind (arith, l) in
    rw odd (let e : 2 * (n / 2) + 1 ≡ n = omega (arith, l) in e))
    (cases_lt (n % 2) 1)

pub zigzag_short : (z : ℤ) → FitsSigned w16 z → zigzag z ≤ 65535
zigzag_short (pos n) f = let s = f.sfits in omega (arith, s)
zigzag_short (negsuc n) f = let s = f.sfits in omega (arith, s)

pub zigzag_long : (z : ℤ) → FitsSigned w64 z → zigzag z ≤ 18446744073709551615
zigzag_long (pos n) f = let s = f.sfits in omega (arith, s)
zigzag_long (negsuc n) f = let s = f.sfits in omega (arith, s)

-- ---- steps

pub distance_small : (steps n : ℕ) → distance steps n ≤ 18446744073709551615
distance_small steps n = omega arith

-- how far back it stands, taken twice
pub distance_again : (steps n : ℕ) → n < 2 ^ 64 → distance steps (distance steps n) ≡ n
distance_again steps n l = omega (arith, l)
