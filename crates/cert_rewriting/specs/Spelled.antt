-- How long what items spell is.
use Rattle.std.specs.Prelude.{◌+◌, ◌^◌, ℕ, List, length, min}

-- a length, as far as it is told from lengths beyond 2^44
abbrev pub told_length : List ℕ → ℕ
told_length bytes = min (length bytes) (2 ^ 44 + 1)
