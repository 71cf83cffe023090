-- Laws of what specs/Trees defines.
use Rattle.std.specs.Prelude.{◌≡◌, ℕ, ◌≤◌, List, length, refl}
use Rattle.std.proofs.Common.{arith, ◌<◌}
use Rattle.box_tree.specs.declared.cut.Cut.{Cut}
use Rattle.box_tree.specs.declared.cut.Cut.TheVariants as cut
use Rattle.box_tree.specs.Pieces.{piece_count}
use Rattle.bisect.specs.declared.settler.State.{State}
use Rattle.bisect.specs.declared.settler.State.TheVariants as state
use Rattle.bisect.specs.Trees.{Tree, children, child_count}

-- no box is cut that lies 36 cuts below the root
abbrev pub IsShallow : Tree → Type 0
IsShallow t = (path : List ℕ) → 36 ≤ length path → child_count t path ≡ 0

pub all_pieces : (c : Cut) (s : State) → 0 < children c s → children c s ≡ piece_count c
all_pieces c state.Void h = absurd (omega (arith, h))
all_pieces (cut.Forced x points) (state.Settled facts) h = refl
all_pieces (cut.Forced x points) (state.Open goal) h = refl
all_pieces (cut.Half x m) (state.Settled facts) h = absurd (omega (arith, h))
all_pieces (cut.Half x m) (state.Open goal) h = refl
all_pieces cut.Bottom (state.Settled facts) h = absurd (omega (arith, h))
all_pieces cut.Bottom (state.Open goal) h = absurd (omega (arith, h))
