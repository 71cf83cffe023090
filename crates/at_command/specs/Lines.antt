-- The printed lines, as bytes. Each ends with a line feed.
use Rattle.std.specs.Prelude.{ℕ, ◌+◌, ◌++◌, codes, List}
use Rattle.std.specs.Fmt.{decimal}
use Rattle.point_values.specs.declared.place.Place.{Place}
use Rattle.point_values.specs.declared.place.Place.TheVariants as place
use Rattle.point_text.specs.declared.fault.PointKind.{PointKind}
use Rattle.point_text.specs.declared.fault.PointKind.TheVariants as kind
use Rattle.point_text.specs.declared.fault.PointFault.{PointFault}

-- the kind's name
abbrev pub kind_text : PointKind → List ℕ
kind_text kind.NotText = codes "NotText"
kind_text kind.BadToken = codes "BadToken"
kind_text kind.Unexpected = codes "Unexpected"
kind_text kind.Unknown = codes "Unknown"
kind_text kind.Twice = codes "Twice"
kind_text kind.ZeroDivisor = codes "ZeroDivisor"
kind_text kind.LiteralLimit = codes "LiteralLimit"
kind_text kind.Limit = codes "Limit"
kind_text kind.Missing = codes "Missing"

-- of a text that is no point: why, and at which byte, counted from 0
abbrev pub point_line : PointFault → List ℕ
point_line f = codes "point: " ++ kind_text f.kind ++ codes " at " ++ decimal f.at ++ codes "\n"

-- of one of these, with its number
abbrev pub numbered : List ℕ → ℕ → List ℕ
numbered sort number = codes "too wide: " ++ sort ++ codes " " ++ decimal number ++ codes "\n"

-- of a place with a number that is too wide: nodes print from 0, all else from 1
abbrev pub wide_line : Place → List ℕ
wide_line (place.Entry k) = numbered (codes "entry") (k + 1)
wide_line (place.Node k) = numbered (codes "node") k
wide_line (place.Hypothesis k) = numbered (codes "hypothesis") (k + 1)
wide_line (place.Goal k) = numbered (codes "goal") (k + 1)
wide_line (place.Hint k) = numbered (codes "hint") (k + 1)
