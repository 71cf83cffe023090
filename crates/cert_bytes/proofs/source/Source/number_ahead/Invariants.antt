use Rattle.std.proofs.Common.{◌≡◌, ◌≤◌, ◌+◌, ◌-◌, ◌^◌, ℕ, List, length}
use Rattle.cert_bytes.specs.Reading.{bytes_at, number_at}
use Rattle.cert_bytes.specs.Pieces.{cursor_of, kept_of, Agrees}
use Rattle.cert_bytes.proofs.source.Source.number_ahead.Given as goal

abbrev pub invariant-loop-have : goal.invariant-loop-have
invariant-loop-have l = record {
  within : l.have ≤ l.width;
  small : l.value + 1 ≤ 256 ^ l.have;
  at : l.self.at ≡ l.initial.self.at + l.have;
  left : l.have + length l.self.ahead ≡ length l.initial.self.ahead;
  gives : (all : List ℕ) → Agrees all l.initial.self
      → bytes_at (l.width - l.have) l.value (cursor_of all l.self)
      ≡ number_at l.width (cursor_of all l.initial.self);
  agrees : (all : List ℕ) → Agrees all l.initial.self → Agrees all l.self;
  kept : kept_of l.self ≡ kept_of l.initial.self;
}

abbrev pub decreases-loop-have : goal.decreases-loop-have
decreases-loop-have l = l.width - l.have
