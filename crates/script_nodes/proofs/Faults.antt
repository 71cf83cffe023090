-- A fault that is passed on.
use Rattle.std.proofs.Common.{ℕ, ◌<◌, ◌≤◌, arith}
use Rattle.expr_dag.proofs.Faults.{passed}

pub past : (a b : ℕ) → 1024 < a → a ≤ b → 1024 < b
past a b h k = omega arith
