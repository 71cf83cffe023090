-- What a `Dyadic` stands for. A number of the grid has one `Dyadic`.
use Rattle.std.specs.Prelude.{pos}
use Rattle.fx_model.specs.Fraction.{Fraction}
use Rattle.fx_model.specs.Powers.{scaled}
use Rattle.dyadic.specs.Canonical.{zero_canonical}
use Rattle.dyadic.specs.declared.number.Dyadic.{Dyadic}

-- mantissa * 2^exponent
abbrev pub value_of : Dyadic → Fraction
value_of d = scaled d.mantissa d.exponent

-- the number 0
abbrev pub zero_number : Dyadic
zero_number = record { mantissa = pos 0; exponent = pos 0; canonical = zero_canonical }
