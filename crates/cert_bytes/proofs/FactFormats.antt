-- Formats of numbers of the grid, intervals and facts.
use Rattle.std.proofs.Common.{◌==◌, if◌then◌else◌, ℕ, Option, Some, None, Ok, refl, sym}
use Rattle.std.proofs.Common.{arith}
use Rattle.std.specs.Prelude.{⊤}
use Rattle.std.specs.Int.{w16, w64}
use Rattle.std.specs.Int.RustNames.{FitsSigned}
use Rattle.std.proofs.lemmas.Int.{ints, fits_signed_from_abs}
use Rattle.dyadic.specs.declared.number.Dyadic.{Dyadic}
use Rattle.dyadic.specs.declared.number.End.{End}
use Rattle.dyadic.specs.declared.number.End.TheVariants.{Low, At, High}
use Rattle.interval.specs.Meets.{interval_from, interval_from_out}
use Rattle.interval.proofs.Meets.{interval_from_self}
use Rattle.facts.specs.declared.relative.RelativeError.{RelativeError}
use Rattle.facts.specs.declared.place.FixPlace.{FixPlace}
use Rattle.facts.specs.declared.fact.Fact.{Fact}
use Rattle.facts.specs.declared.fact.Fact.TheVariants as fact
use Rattle.facts.specs.Parts.{size_from, size_from_out, error_from, error_from_out}
use Rattle.facts.proofs.Parts.{size_from_self, error_from_self}
use Rattle.facts.specs.Places.{place_from, place_from_self, place_from_out}
use Rattle.cert_bytes.specs.declared.fault.CertKind.TheVariants.{BadTag}
use Rattle.cert_bytes.specs.Certificates.{IsOnShort}
use Rattle.cert_bytes.specs.Numbers.{number_from, number_from_out}
use Rattle.cert_bytes.proofs.Numbers.{number_from_self}
use Rattle.cert_bytes.specs.Reading.{Cursor, Read, fault, numbered, signed_short_at, signed_long_at}
use Rattle.cert_bytes.specs.Reading.{point_at, end_at, interval_at, size_at, relative_at, error_at}
use Rattle.cert_bytes.specs.Reading.{place_at, bnd_at, abs_at, rel_at, fix_at, nzr_at, fact_at}
use Rattle.cert_bytes.specs.Reading.{◌>>=◌}
use Rattle.cert_bytes.specs.Spelling.{signed_short, point, end, interval, error, fact_bytes}
use Rattle.cert_bytes.proofs.Format.{whole, Format, kept, made, both, both_parts, in_turn}
use Rattle.cert_bytes.proofs.Format.{nothing, tags, way, no_way, Told, told}
use Rattle.cert_bytes.proofs.NumberFormats.{a_signed_short, a_signed_long, small_exponent, an_expr}

-- ---- numbers of the grid

mantissa_fits : (d : Dyadic) → FitsSigned w64 d.mantissa
mantissa_fits d = fits_signed_from_abs w64 d.mantissa (let s = d.canonical.size in omega (arith, s))

exponent_fits : (d : Dyadic) → FitsSigned w16 d.exponent
exponent_fits d = let l = d.canonical.lowest in let h = d.canonical.highest in
    small_exponent d.exponent (omega (arith, ints)) (omega (arith, ints))

pub a_point : Format point_at (whole point (λ d. ⊤))
unfolding point_at
a_point = in_turn signed_long_at signed_short_at
    (λ at m e c. numbered at (number_from m e) c)
    (kept (both a_signed_long a_signed_short) (λ p. number_from p.0 p.1)
    (λ d. (d.mantissa, d.exponent)) (λ d. (mantissa_fits d, exponent_fits d)) number_from_self
    (λ p d n. let o = number_from_out p.0 p.1 d n in both_parts o.0 o.1))

-- ---- ends and intervals

abbrev end_by : ℕ → ℕ → Cursor → Read End
end_by at tag c = if tag == 0 then (point_at c >>= λ p. Ok (At p.0, p.1))
    else if tag == 1 then Ok (Low, c)
    else if tag == 2 then Ok (High, c)
    else fault BadTag at

an_end : Format end_at (whole end (λ e. ⊤))
unfolding end_at
an_end = tags end_by back (λ at tag. way 0 (made a_point At) (λ d old. refl) (λ d i. tt)
    (way 1 (nothing Low) (λ u old. refl) (λ u i. tt)
    (way 2 (nothing High) (λ u old. refl) (λ u i. tt) (no_way tag BadTag at))))
  where
    back : (e : End) → ⊤ → Told end_by end e
    back (At d) i = told end_by 0 (λ at. made a_point At) d tt
    back Low i = told end_by 1 (λ at. nothing Low) tt tt
    back High i = told end_by 2 (λ at. nothing High) tt tt

an_interval : Format interval_at (whole interval (λ i. ⊤))
unfolding interval_at
an_interval = in_turn end_at end_at (λ at lo hi c. numbered at (interval_from lo hi) c)
    (kept (both an_end an_end) (λ p. interval_from p.0 p.1) (λ i. (i.lo, i.hi)) (λ i. (tt, tt))
    (λ i. sym (interval_from_self i))
    (λ p i n. let o = interval_from_out p.0 p.1 i n in both_parts o.0 o.1))

-- ---- sizes, errors, exponents of multiples

a_size : Format size_at (whole (λ s. interval s.interval) (λ s. ⊤))
unfolding size_at
a_size = kept an_interval size_from (λ s. s.interval) (λ s. tt) (λ s. sym (size_from_self s))
    size_from_out

a_relative : Format relative_at (whole (λ e. interval e.interval) (λ e. ⊤))
unfolding relative_at
a_relative = kept an_interval error_from (λ e. e.interval) (λ e. tt) (λ e. sym (error_from_self e))
    error_from_out

abbrev error_by : ℕ → ℕ → Cursor → Read (Option RelativeError)
error_by at tag c = if tag == 0 then (relative_at c >>= λ e. Ok (Some e.0, e.1))
    else if tag == 1 then Ok (None, c)
    else fault BadTag at

an_error : Format error_at (whole error (λ e. ⊤))
unfolding error_at
an_error = tags error_by back (λ at tag. way 0 (made a_relative Some) (λ e old. refl) (λ e i. tt)
    (way 1 (nothing None) (λ u old. refl) (λ u i. tt) (no_way tag BadTag at)))
  where
    back : (e : Option RelativeError) → ⊤ → Told error_by error e
    back (Some e) i = told error_by 0 (λ at. made a_relative Some) e tt
    back None i = told error_by 1 (λ at. nothing None) tt tt

a_place : Format place_at (whole (λ p. signed_short p.exponent) (λ p. ⊤))
unfolding place_at
a_place = kept a_signed_short place_from (λ p. p.exponent) fits (λ p. sym (place_from_self p))
    place_from_out
  where
    fits : (p : FixPlace) → FitsSigned w16 p.exponent
    fits p = let l = p.lowest in let h = p.highest in
        small_exponent p.exponent (omega (arith, ints)) (omega (arith, ints))

-- ---- facts

abbrev fact_by : ℕ → ℕ → Cursor → Read Fact
fact_by at tag c = if tag == 1 then bnd_at c
    else if tag == 2 then abs_at c
    else if tag == 3 then rel_at c
    else if tag == 4 then fix_at c
    else if tag == 5 then nzr_at c
    else if tag == 6 then Ok (fact.Void, c)
    else fault BadTag at

pub a_fact : Format fact_at (whole fact_bytes IsOnShort)
unfolding fact_at bnd_at abs_at rel_at fix_at nzr_at
a_fact = tags fact_by back (λ at tag.
    way 1 (made (both an_expr an_interval) (λ v. fact.Bnd v.0 v.1)) (λ v old. refl) (λ v i. i.0)
    (way 2 (made (both an_expr a_size) (λ v. fact.Abs v.0 v.1)) (λ v old. refl) (λ v i. i.0)
    (way 3 (made (both (both an_expr an_expr) an_error) (λ v. fact.Rel v.0.0 v.0.1 v.1))
    (λ v old. refl) (λ v i. i.0)
    (way 4 (made (both an_expr a_place) (λ v. fact.Fix v.0 v.1)) (λ v old. refl) (λ v i. i.0)
    (way 5 (made an_expr fact.Nzr) (λ x old. refl) (λ x i. i)
    (way 6 (nothing fact.Void) (λ u old. refl) (λ u i. tt) (no_way tag BadTag at)))))))
  where
    back : (f : Fact) → IsOnShort f → Told fact_by fact_bytes f
    back (fact.Bnd x i) s = told fact_by 1
        (λ at. made (both an_expr an_interval) (λ v. fact.Bnd v.0 v.1)) (x, i) (s, tt)
    back (fact.Abs x z) s = told fact_by 2
        (λ at. made (both an_expr a_size) (λ v. fact.Abs v.0 v.1)) (x, z) (s, tt)
    back (fact.Rel x y e) s = told fact_by 3
        (λ at. made (both (both an_expr an_expr) an_error) (λ v. fact.Rel v.0.0 v.0.1 v.1))
        ((x, y), e) (s, tt)
    back (fact.Fix x k) s = told fact_by 4
        (λ at. made (both an_expr a_place) (λ v. fact.Fix v.0 v.1)) (x, k) (s, tt)
    back (fact.Nzr x) s = told fact_by 5 (λ at. made an_expr fact.Nzr) x s
    back fact.Void s = told fact_by 6 (λ at. nothing fact.Void) tt tt
