-- Numbers of the grid as they are printed: `m`, or `mbe` for m * 2^e.
use Rattle.std.specs.Prelude.{pos, ◌++◌, List, ℕ, codes, if◌then◌else◌}
use Rattle.std.specs.Ordering.{int_eq}
use Rattle.std.specs.Fmt.{signed_decimal}
use Rattle.dyadic.specs.declared.number.Dyadic.{Dyadic}
use Rattle.dyadic.specs.declared.number.End.{End}
use Rattle.dyadic.specs.declared.number.End.TheVariants.{Low, At, High}

-- the mantissa, with `b` and the exponent behind it where that isn't 0
abbrev pub number_text : Dyadic → List ℕ
number_text d = if int_eq d.exponent (pos 0) then signed_decimal d.mantissa
    else signed_decimal d.mantissa ++ codes "b" ++ signed_decimal d.exponent

-- the end's number, `-inf` or `+inf`
abbrev pub end_text : End → List ℕ
end_text Low = codes "-inf"
end_text (At d) = number_text d
end_text High = codes "+inf"
