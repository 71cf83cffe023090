-- How large a universe is.
use Rattle.std.specs.Prelude.{◌≤◌, ◌+◌, ◌-◌, ◌^◌, ℕ, List, [], ◌∷◌, length}
use Rattle.facts.specs.declared.instance.Instance.{Instance}
use Rattle.rule_universe.specs.Worlds.{World}

-- how many premises the instances have together beyond four each
abbrev pub beyond_four : List Instance → ℕ
beyond_four [] = 0
beyond_four (i ∷ instances) = (length i.premises - 4) + beyond_four instances

-- The universe is no larger than a script's: no more than 64 hints, and 2^18 constraints of all of
-- them, are behind the last number.
pub record IsSmall (u : World) : Type 0 where
  pub hypotheses : length u.hypotheses ≤ 2 ^ 16
  pub nodes : length u.nodes ≤ 1024
  pub premises : beyond_four u.instances ≤ 1310976
