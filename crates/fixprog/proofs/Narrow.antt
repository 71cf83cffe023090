-- The width and the places of a format are small, and so are its words.
use Rattle.std.specs.Prelude.{◌≡◌, ℕ, ◌<◌, ◌≤◌, ◌^◌, ◌&&◌, nat_lt, true}
use Rattle.std.proofs.Common.{arith, lit≤}
use Rattle.std.proofs.Math.Nat.{pow-le-pow_right}
use Rattle.std.proofs.lemmas.Bool.{and_parts}
use Rattle.fixprog.specs.declared.format.Format.{Format}
use Rattle.fixprog.specs.Formats.{is_format}

-- the width is at most 60, the places are below 64
pub record IsNarrow (f : Format) : Type 0 where
  pub width : f.width ≤ 60
  pub places : f.places < 64

-- as those of each format are
pub narrow : (f : Format) → is_format f ≡ true → IsNarrow f
narrow f h =
    let a = and_parts (nat_lt 0 f.width && nat_lt f.width 61) (nat_lt f.places 61) h in
    let b = and_parts (nat_lt 0 f.width) (nat_lt f.width 61) a.0 in
    record { width = under f.width b.1; places = few f.places a.1 }
  where
    under : (n : ℕ) → nat_lt n 61 ≡ true → n ≤ 60
    under n h = grind arith

    few : (n : ℕ) → nat_lt n 61 ≡ true → n < 64
    few n h = grind arith

-- a power of two for at most 60 bits
pub power_below : (k : ℕ) → k ≤ 60 → 2 ^ k < 2 ^ 61
power_below k h =
    let p : 2 ^ k ≤ 2 ^ 60 = pow-le-pow_right {n = 2} (lit≤ tt) {i = k} {j = 60} h in omega arith
