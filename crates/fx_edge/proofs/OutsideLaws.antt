-- Laws of what specs/Outside defines.
use Rattle.std.specs.Prelude.{◌≤◌, ℕ}
use Rattle.std.proofs.Common.{arith}
use Rattle.fx_edge.specs.Outside.{Rose}

pub rose_later : (before middle now : ℕ) → before ≤ middle → Rose middle now → Rose before now
rose_later before middle now l r = omega (arith, l, r)
