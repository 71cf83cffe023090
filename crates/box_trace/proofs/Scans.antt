-- Laws of what specs/Scans defines.
use Rattle.std.specs.Prelude.{◌+◌, ◌*◌, ◌-◌, min, ℕ}

-- ---- how many steps
-- so many steps at most for the first p places: two for a slot of an interval, and one for another
abbrev pub most_for : ℕ → ℕ → ℕ
most_for n p = p + min p (2 * n) + (p - 4 * n)
