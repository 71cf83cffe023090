-- Numbers that are kept in one form.
use Rattle.std.proofs.Common.{◌≡◌, ℤ, Some, None, sym, ap, ap₂, ◌∙◌}
use Rattle.fx_model.specs.Powers.{scaled}
use Rattle.fx_model.specs.Grid.{IsOnGrid}
use Rattle.dyadic.specs.declared.number.Dyadic.{Dyadic}
use Rattle.dyadic.specs.Values.{value_of}
use Rattle.dyadic.proofs.Values.{same_value}
use Rattle.dyadic.proofs.Canonical.{canonical_on_grid}
use Rattle.cert_bytes.specs.Numbers.{number_from, number_from-none}
use Rattle.cert_bytes.proofs.Numbers.{number_from_self}

pub kept_some : (m e : ℤ) (d : Dyadic) → d.mantissa ≡ m → d.exponent ≡ e → Some d ≡ number_from m e
kept_some m e d p q = sym (number_from_self d) ∙ ap₂ number_from p q

pub kept_none : (m e : ℤ) → ¬ IsOnGrid (scaled m e) → None ≡ number_from m e
kept_none m e n = sym (number_from-none m e (λ c. n (canonical_on_grid m e c)))

pub kept_other : (m e : ℤ) (d : Dyadic) → value_of d ≡ scaled m e
    → ¬ ((d.mantissa ≡ m) × (d.exponent ≡ e)) → None ≡ number_from m e
kept_other m e d v n = sym (number_from-none m e (λ c.
    let other : Dyadic = record { mantissa = m; exponent = e; canonical = c } in
    let same = same_value d other v in
    n (ap (λ (x : Dyadic). x.mantissa) same, ap (λ (x : Dyadic). x.exponent) same)))
