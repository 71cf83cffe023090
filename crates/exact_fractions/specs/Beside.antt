-- The whole numbers next to a fraction n / d that isn't below 0, and those next to a fraction with
-- a sign.
use Rattle.std.specs.Prelude.{ℕ, ◌+◌, ◌*◌, ◌^◌, ◌<◌, ◌≤◌}
use Rattle.std.specs.Int.RustNames.{unsigned_abs}
use Rattle.rounding.specs.declared.neighbours.Neighbours.{Neighbours}
use Rattle.exact_fractions.specs.declared.roundings.Sizes.{Sizes}
use Rattle.exact_fractions.specs.declared.roundings.Wholes.{Wholes}

-- floor <= n / d < floor + 1, ceiling - 1 < n / d <= ceiling, and the nearest, the lower and the
-- upper one at a tie; all below 2^127
pub record AreBeside (n d : ℕ) (s : Sizes) : Type 0 where
  pub floor_low : s.floor * d ≤ n
  pub floor_high : n < s.floor * d + d
  pub ceiling_low : s.ceiling * d < n + d
  pub ceiling_high : n ≤ s.ceiling * d
  pub low_low : s.near_low * d * 2 < n * 2 + d
  pub low_high : n * 2 ≤ s.near_low * d * 2 + d
  pub high_low : s.near_high * d * 2 ≤ n * 2 + d
  pub high_high : n * 2 < s.near_high * d * 2 + d
  pub floor_small : s.floor < 2 ^ 127
  pub ceiling_small : s.ceiling < 2 ^ 127
  pub low_small : s.near_low < 2 ^ 127
  pub high_small : s.near_high < 2 ^ 127

-- the same numbers as those of which directions choose
abbrev pub as_neighbours : Wholes → Neighbours
as_neighbours w = record {
  floor = w.floor;
  ceiling = w.ceiling;
  near_low = w.near_low;
  near_high =
      w.near_high;
}

-- all below 2^127 in absolute value
pub record AreSmall (w : Wholes) : Type 0 where
  pub floor : unsigned_abs w.floor < 2 ^ 127
  pub ceiling : unsigned_abs w.ceiling < 2 ^ 127
  pub near_low : unsigned_abs w.near_low < 2 ^ 127
  pub near_high : unsigned_abs w.near_high < 2 ^ 127
