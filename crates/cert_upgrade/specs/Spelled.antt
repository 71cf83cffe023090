-- How long what items spell may be.
use Rattle.std.specs.Prelude.{◌+◌, ℕ, List, length, min}

-- as many bytes as a certificate may have: 2^44
abbrev pub most : ℕ
most = 17592186044416

-- a length, as far as it is told from longer ones
abbrev pub told_length : List ℕ → ℕ
told_length bytes = min (length bytes) (most + 1)
