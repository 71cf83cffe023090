-- Each operation has one result.
use Rattle.fx_model.specs.Fraction.{Fraction}
use Rattle.fx_model.specs.Enclosure.{Range, IsEnclosure, IsProduct, IsQuotient}
use Rattle.fx_model.proofs.Enclosure.{enclosure_unique, product_unique}
use Rattle.interval.specs.Unique.{IsOnly}
use Rattle.interval.proofs.Results.{quotient_unique}

pub enclosure_only : (S : Fraction → Type 0) → IsOnly (IsEnclosure S)
enclosure_only S t u i j = enclosure_unique S t u i j

pub product_only : (r s : Range) → IsOnly (IsProduct r s)
product_only r s t u i j = product_unique r s t u i j

pub quotient_only : (r s : Range) → IsOnly (IsQuotient r s)
quotient_only r s t u i j = quotient_unique r s t u i j
