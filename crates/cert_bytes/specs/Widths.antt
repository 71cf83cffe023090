-- How wide the fields of numbers are.
use Rattle.std.specs.Prelude.{◌≤◌, ◌<◌, ◌+◌, ◌*◌, ◌^◌, ℕ}

-- A limit on the bytes of a number in base 128: as many as one of 64 bits has, or more, up to as
-- many as one of 128 bits has.
pub record IsByteLimit (bytes : ℕ) : Type 0 where
  pub many : 10 ≤ bytes
  pub few : bytes ≤ 19

-- Numbers up to `most` have a field of `width` bytes in version 1, and in version 2 one of so many
-- bytes at most.
pub record AreWidths (width bytes most : ℕ) : Type 0 where
  -- there is a byte, and no more than in the widest field
  pub some : 1 ≤ width
  pub short : width ≤ 16
  pub limit : IsByteLimit bytes
  -- each number of `width` bytes is one of them, and so is each of one byte in base 128
  pub room : 256 ^ width ≤ most + 1
  pub low : 127 ≤ most

-- Digits in base 128 make `value`, the next one counts `weight`, and one byte follows at least and
-- so many at most. Whatever they are, the number stays below 128^19.
pub record HasBegun (bytes weight value : ℕ) : Type 0 where
  pub some : 1 ≤ bytes
  pub before : value < weight
  pub room : weight * 128 ^ bytes ≤ 128 ^ 19
