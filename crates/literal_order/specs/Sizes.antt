-- What numbers in two halves stand for.
use Rattle.std.specs.Prelude.{ℕ, ◌*◌, ◌+◌, ◌^◌}
use Rattle.literal_order.specs.declared.wide.Wide.{Wide}

-- high * 2^128 + low
abbrev pub size_of : Wide → ℕ
size_of w = w.high * 2 ^ 128 + w.low
