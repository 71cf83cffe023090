-- A fault of the tag, or of what stands behind it, is that of the whole; and so for two ends.
use Rattle.std.proofs.Common.{◌≡◌, ℕ, Ok, Err, refl}
use Rattle.dyadic.specs.declared.number.End.{End}
use Rattle.cert_bytes.specs.declared.fault.CertFault.{CertFault}
use Rattle.cert_bytes.specs.Reading.{Cursor, byte_at, expr_at, pair_at, both_at, end_at}
use Rattle.cert_bytes.specs.Reading.{interval_at, size_at, relative_at, error_at, place_at, bnd_at}
use Rattle.cert_bytes.specs.Reading.{abs_at, rel_at, fix_at, nzr_at, fact_at}

pub error_err : (c next : Cursor) (tag : ℕ) (f : CertFault) → tag ≡ 0 → byte_at c ≡ Ok (tag, next)
    → relative_at next ≡ Err f → error_at c ≡ Err f
unfolding error_at
error_err c next tag f t e g = rw (e, t, g) refl

pub tag_err : (c : Cursor) (f : CertFault) → byte_at c ≡ Err f → fact_at c ≡ Err f
unfolding fact_at
tag_err c f e = rw e refl

pub bnd_err : (c next : Cursor) (tag : ℕ) (f : CertFault) → tag ≡ 1 → byte_at c ≡ Ok (tag, next)
    → both_at expr_at interval_at next ≡ Err f → fact_at c ≡ Err f
unfolding fact_at bnd_at
bnd_err c next tag f t e g = rw (e, t, g) refl

pub abs_err : (c next : Cursor) (tag : ℕ) (f : CertFault) → tag ≡ 2 → byte_at c ≡ Ok (tag, next)
    → both_at expr_at size_at next ≡ Err f → fact_at c ≡ Err f
unfolding fact_at abs_at
abs_err c next tag f t e g = rw (e, t, g) refl

pub rel_err : (c next : Cursor) (tag : ℕ) (f : CertFault) → tag ≡ 3 → byte_at c ≡ Ok (tag, next)
    → both_at pair_at error_at next ≡ Err f → fact_at c ≡ Err f
unfolding fact_at rel_at
rel_err c next tag f t e g = rw (e, t, g) refl

pub fix_err : (c next : Cursor) (tag : ℕ) (f : CertFault) → tag ≡ 4 → byte_at c ≡ Ok (tag, next)
    → both_at expr_at place_at next ≡ Err f → fact_at c ≡ Err f
unfolding fact_at fix_at
fix_err c next tag f t e g = rw (e, t, g) refl

pub nzr_err : (c next : Cursor) (tag : ℕ) (f : CertFault) → tag ≡ 5 → byte_at c ≡ Ok (tag, next)
    → expr_at next ≡ Err f → fact_at c ≡ Err f
unfolding fact_at nzr_at
nzr_err c next tag f t e g = rw (e, t, g) refl

pub high_err : (c next : Cursor) (low : End) (f : CertFault)
    → end_at c ≡ Ok (low, next) → end_at next ≡ Err f → interval_at c ≡ Err f
unfolding interval_at
high_err c next low f e g = rw (e, g) refl
