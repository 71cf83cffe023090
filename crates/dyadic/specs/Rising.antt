-- What is kept of every `Points`: rising numbers, at most 63.
use Rattle.std.specs.Prelude.{◌≡◌, ◌≤◌, ◌<◌, ◌-◌, ◌++◌, ℕ, List, length, take, replicate}
use Rattle.std.specs.Prelude.{slice_index_or}
use Rattle.std.proofs.Common.{sym, ap, ◌∙◌, arith}
use Rattle.std.proofs.lemmas.List.{length-take-le}
use Rattle.fx_model.specs.Fraction.{◌<ℚ◌}
use Rattle.dyadic.specs.declared.number.Dyadic.{Dyadic}
use Rattle.dyadic.specs.Values.{value_of, zero_number}
use Rattle.dyadic.specs.declared.points.Points.TheInside.{Inside}

-- the i-th of the points
abbrev pub point_of : List Dyadic → ℕ → Dyadic
point_of points i = slice_index_or points i zero_number

-- each point is below the later ones
abbrev pub IsRising : List Dyadic → Type 0
IsRising points = (i j : ℕ) → i < j → j < length points
    → value_of (point_of points i) <ℚ value_of (point_of points j)

-- p is above the last point, if there is one
abbrev pub IsAboveLast : List Dyadic → Dyadic → Type 0
IsAboveLast points p = 0 < length points
    → value_of (point_of points (length points - 1)) <ℚ value_of p

-- the points that are in use
abbrev pub points_in : Inside → List Dyadic
points_in p = take p.len p.numbers

-- what isn't used is 0
pub record IsPadded (p : Inside) : Type 0 where
  pub short : p.len ≤ 63
  pub size : length p.numbers ≡ 63
  pub rest : p.numbers ≡ take p.len p.numbers ++ replicate (63 - p.len) zero_number
  pub rising : IsRising (take p.len p.numbers)

-- the list in fields for 63 points, with zeros behind
abbrev pub fields_of : List Dyadic → Inside
fields_of points =
    record { numbers = points ++ replicate (63 - length points) zero_number; len = length points }

abbrev made : List Dyadic → ℕ → Inside
made numbers len = record { numbers = numbers; len = len }

-- the list gives the fields back
pub fields_of_points : (p : Inside) → IsPadded p → fields_of (points_in p) ≡ p
fields_of_points p ok =
    let le : p.len ≤ length p.numbers = omega (arith, ok.size, ok.short) in
    let e : length (take p.len p.numbers) ≡ p.len = length-take-le p.len p.numbers le in
    let n : take p.len p.numbers ++ replicate (63 - length (take p.len p.numbers)) zero_number
    ≡ p.numbers = rw e (sym ok.rest) in
    ap (λ (a : List Dyadic). made a (length (take p.len p.numbers))) n
    ∙ ap (λ (m : ℕ). made p.numbers m) e
