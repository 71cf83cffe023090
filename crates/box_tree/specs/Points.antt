-- The points at which a range is cut, and its pieces.
use Rattle.std.specs.Prelude.{ℕ, zero, suc, ◌+◌, ◌-◌, Bool, true, false, ◌==◌, ◌&&◌, ◌||◌, List, []}
use Rattle.std.specs.Prelude.{◌∷◌, ◌++◌, length, slice_index_or, Option, Some, None, if◌then◌else◌}
use Rattle.fx_model.specs.Fraction.{Fraction}
use Rattle.dyadic.specs.declared.number.Dyadic.{Dyadic}
use Rattle.dyadic.specs.declared.number.End.{End}
use Rattle.dyadic.specs.declared.number.End.TheVariants as end
use Rattle.dyadic.specs.Values.{value_of}
use Rattle.dyadic.specs.Middle.{halfway, part_of}
use Rattle.dyadic.specs.Rising.{point_of}
use Rattle.interval.specs.Results.{point_of as nearest}
use Rattle.script_hints.specs.declared.hint.Cutting.{Cutting}
use Rattle.script_hints.specs.declared.hint.Cutting.TheVariants as cutting
use Rattle.script_claims.specs.declared.range.SplitRange.{SplitRange}
use Rattle.script_claims.specs.Ranges.{is_less, is_inside}

-- ---- numbers of the grid near a fraction
abbrev pub number_or : Dyadic → End → Dyadic
number_or other end.Low = other
number_or other (end.At p) = p
number_or other end.High = other

-- the greatest number of the grid that isn't above x, or the other where there is none
abbrev pub down_or : Dyadic → Fraction → Dyadic
down_or other x = number_or other (nearest x).lo

-- the least that isn't below x
abbrev pub up_or : Dyadic → Fraction → Dyadic
up_or other x = number_or other (nearest x).hi

-- ---- points that a cut asks for
-- ((n - i) * low + i * high) / n, rounded down
abbrev pub part_at : SplitRange → ℕ → ℕ → Dyadic
part_at r i n = down_or r.low (part_of (value_of r.low) (value_of r.high) i n)

-- the points of n parts from number i on, of which so many are left
abbrev pub parts_from : SplitRange → ℕ → ℕ → ℕ → List Dyadic
parts_from r n i zero = []
parts_from r n i (suc left) = part_at r i n ∷ parts_from r n (i + 1) left

-- The points that a cutting asks for in a range, before any is dropped: those between n equal
-- parts, or those it lists.
abbrev pub asked_points : SplitRange → Cutting → List Dyadic
asked_points r (cutting.Pieces n) = parts_from r n 1 (n - 1)
asked_points r (cutting.Points points) = points

-- ---- points that stay
-- p is above the last point, if there is one
abbrev pub is_above_last : List Dyadic → Dyadic → Bool
is_above_last points p = length points == 0 || is_less (point_of points (length points - 1)) p

-- A point that isn't strictly inside the range, or isn't above the last that stays, is dropped.
abbrev pub with_point : SplitRange → List Dyadic → Dyadic → List Dyadic
with_point r points p = if is_inside r p && is_above_last points p then points ++ p ∷ [] else points

-- The points that stay once these others have come, one by one in their order.
abbrev pub with_points : SplitRange → List Dyadic → List Dyadic → List Dyadic
with_points r points [] = points
with_points r points (p ∷ ps) = with_points r (with_point r points p) ps

-- The points that stay, found without a list of them: each lies strictly inside what is left
-- of the range above the one before.
abbrev pub staying : SplitRange → List Dyadic → List Dyadic
staying r [] = []
staying r (p ∷ ps) = if is_inside r p then p ∷ staying (record r { low = p }) ps else staying r ps

-- whether there are any
abbrev pub are_any : List Dyadic → Bool
are_any [] = false
are_any (p ∷ ps) = true

-- where the cutting cuts the range
abbrev pub cut_points : SplitRange → Cutting → List Dyadic
cut_points r c = with_points r [] (asked_points r c)

-- ---- halves
-- the middle rounded down, where that is above the lower end, else rounded up
abbrev pub above_or : SplitRange → Dyadic → Dyadic → Dyadic
above_or r down up = if is_less r.low down then down else up

-- The middle of a range on the grid: rounded down where that is above the lower end, else rounded
-- up.
abbrev pub middle : SplitRange → Dyadic
middle r = above_or r (down_or r.low (halfway (value_of r.low) (value_of r.high)))
    (up_or r.high (halfway (value_of r.low) (value_of r.high)))

-- The point at which the range is halved. None where no number of the grid lies strictly inside.
abbrev pub half_point : SplitRange → Option Dyadic
half_point r = if is_inside r (middle r) then Some (middle r) else None

-- ---- pieces
-- The piece number i of a range that is cut at these points: [low, p0], [p0, p1] and so on to
-- [last, high].
abbrev pub piece_of : SplitRange → List Dyadic → ℕ → SplitRange
piece_of r points i = record {
  var = r.var;
  low = slice_index_or (r.low ∷ points) i r.high;
  high = slice_index_or points i r.high;
}
