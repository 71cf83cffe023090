-- What the hints of a script keep to.
use Rattle.std.specs.Prelude.{◌≤◌, length}
use Rattle.script_hints.specs.Few.{HaveFewPieces}
use Rattle.script_hints.specs.declared.hint.HintList.{HintList}

-- 4 unconditional cuts at most, each into few pieces, and 8 split variables
pub record AreFew (hints : HintList) : Type 0 where
  pub cuts : length hints.cuts ≤ 4
  pub pieces : HaveFewPieces hints.cuts
  pub order : length hints.order ≤ 8
