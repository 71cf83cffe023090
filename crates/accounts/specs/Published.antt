-- What is published.
use Rattle.std.specs.Prelude.{◌≡◌, ℕ, ◌<◌, ◌≤◌, cond, List}
use Rattle.accounts.specs.Weights.{one, times}
use Rattle.accounts.specs.Account.{Account, over_open}
use Rattle.accounts.specs.Tree.{EachOpen}

-- no path is published twice, and a published one is that of just one box in a hand, held or split,
-- and of no settled one
abbrev pub PublishedAreOpen : Account → Type 0
PublishedAreOpen k = (p : List ℕ) → (times p k.published ≤ 1)
    × (0 < times p k.published → (over_open (λ b. one p b.path) k ≡ 1) × (times p k.settled ≡ 0))

-- a box in a hand, held or split says truly whether its path was published
abbrev pub BoxesTell : Account → Type 0
BoxesTell k = EachOpen (λ b. times b.path k.published ≡ cond b.shown 1 0) k
