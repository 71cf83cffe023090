-- Laws of what specs/Numbers defines.
use Rattle.std.specs.Prelude.{◌≡◌, Some}
use Rattle.dyadic.specs.declared.number.Dyadic.{Dyadic}
use Rattle.cert_bytes.specs.Numbers.{number_from, number_from-some}

pub number_from_self : (d : Dyadic) → number_from d.mantissa d.exponent ≡ Some d
number_from_self d = number_from-some d.mantissa d.exponent d.canonical
