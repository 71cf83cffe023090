-- Laws of what specs/Values defines.
use mathlib.Core.HLevel.{is_prop→PathP}
use Rattle.std.specs.Prelude.{◌≡◌}
use Rattle.fx_model.specs.Grid.{IsOnGrid}
use Rattle.dyadic.specs.Canonical.{IsCanonical, IsCanonical-prop}
use Rattle.dyadic.proofs.Canonical.{canonical_on_grid, canonical_same}
use Rattle.dyadic.specs.declared.number.Dyadic.{Dyadic}
use Rattle.dyadic.specs.Values.{value_of}

-- each number is on the grid
pub on_grid : (d : Dyadic) → IsOnGrid (value_of d)
on_grid d = canonical_on_grid d.mantissa d.exponent d.canonical

-- equal parts make one number
pub same_parts : (a b : Dyadic) → a.mantissa ≡ b.mantissa → a.exponent ≡ b.exponent → a ≡ b
same_parts a b p q = λ i. record {
  mantissa = p i;
  exponent = q i;
  canonical = is_prop→PathP (λ i. IsCanonical (p i) (q i))
      (λ i. IsCanonical-prop (p i) (q i)) a.canonical b.canonical i;
}

-- equal values are of one and the same number
pub same_value : (a b : Dyadic) → value_of a ≡ value_of b → a ≡ b
same_value a b p =
    let s = canonical_same a.mantissa a.exponent b.mantissa b.exponent a.canonical b.canonical p in
    same_parts a b s.0 s.1
