-- What boxes are settled in.
use Rattle.std.specs.Prelude.{◌<◌, ℕ, List, [], ◌∷◌, ◌++◌, length}
use Rattle.std.specs.Option.{IsSomeAnd}
use Rattle.rule_universe.specs.Worlds.{World}
use Rattle.box_tree.specs.Pieces.{piece_count}
use Rattle.box_tree.specs.Plans.{cut_at, piece_at}
use Rattle.box_tree.specs.Regions.{PlanParts}

-- The universe of a frame that was given none: no expressions, goals, hypotheses or instances.
abbrev pub no_world : World
no_world =
    record { nodes = []; pairs = []; goals = []; hypotheses = []; hints = []; instances = [] }

-- The plan of a frame that was given none: no ranges, and the whole box is never cut.
abbrev pub no_plan : PlanParts
no_plan = record { ranges = []; cuts = []; halves = []; depth = 0 }

-- The plan cuts along expressions of the universe: each piece of a box that is cut is of one.
abbrev pub Fits : World → PlanParts → Type 0
Fits u plan = (path : List ℕ) (i : ℕ) → i < piece_count (cut_at plan path)
    → IsSomeAnd (piece_at plan (path ++ i ∷ [])) (λ p. (p.0).0 < length u.nodes)
