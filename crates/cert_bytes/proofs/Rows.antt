-- Lists, read one by one.
use Rattle.std.proofs.Common.{◌≡◌, ◌≤◌, ◌<◌, ◌-◌, ◌++◌, ◌∷◌, [], ℕ, zero, suc, Bool, true, false}
use Rattle.std.proofs.Common.{List, length, drop, Result, Ok, Err, refl, sym, ap, subst, ◌∙◌, arith}
use Rattle.std.specs.Prelude.{not}
use Rattle.fx_model.specs.Fraction.{le_ℚ, ◌<ℚ◌}
use Rattle.dyadic.specs.declared.number.Dyadic.{Dyadic}
use Rattle.dyadic.specs.Values.{value_of}
use Rattle.dyadic.specs.Rising.{point_of, IsAboveLast}
use Rattle.facts.specs.declared.fact.Fact.{Fact}
use Rattle.cert_bytes.specs.declared.fault.CertFault.{CertFault}
use Rattle.cert_bytes.specs.declared.fault.CertKind.TheVariants.{BadNumber}
use Rattle.cert_bytes.specs.Reading.{Cursor, cursor, claim_at, cited_at, step_at, point_at}
use Rattle.cert_bytes.specs.Reading.{reference_at, references_at, rising_at, points_at, rises}
use Rattle.cert_bytes.specs.Reading.{more_at, is_some, ◌>>=◌}
use Rattle.cert_bytes.specs.declared.style.Style.{Style}
use Rattle.cert_bytes.specs.Pieces.{Ahead, Agrees, IsReady, IsEnd, cursor_of, kept_of}
use Rattle.cert_bytes.proofs.Filled.{nothing, some_front}
use Rattle.cert_bytes.proofs.Told.{style_in}

pub one_reference : (c next : Cursor) (left x : ℕ) (ns : List ℕ)
    (total : Result (List ℕ × Cursor) CertFault) → references_at (suc left) ns c ≡ total
    → reference_at c ≡ Ok (x, next) → references_at left (ns ++ x ∷ []) next ≡ total
unfolding references_at
one_reference c next left x ns total e f = sym (ap (λ (r : Result (ℕ × Cursor) CertFault). r
    >>= λ x. references_at left (ns ++ x.0 ∷ []) x.1) f) ∙ e

pub references_stop : (c : Cursor) (left : ℕ) (ns : List ℕ) (f : CertFault)
    (total : Result (List ℕ × Cursor) CertFault) → references_at (suc left) ns c ≡ total
    → reference_at c ≡ Err f → total ≡ Err f
unfolding references_at
references_stop c left ns f total e g = sym e ∙ ap (λ (r : Result (ℕ × Cursor) CertFault). r
    >>= λ x. references_at left (ns ++ x.0 ∷ []) x.1) g

pub references_end : (c : Cursor)
    (left : ℕ) (ns : List ℕ) (total : Result (List ℕ × Cursor) CertFault) → left ≡ 0
    → references_at left ns c ≡ total → total ≡ Ok (ns, c)
unfolding references_at
references_end c zero ns total z e = sym e
references_end c (suc left) ns total z e = cc

pub one_point : (c next : Cursor) (left : ℕ) (ds more : List Dyadic)
    (total : Result (List Dyadic × Cursor) CertFault) → points_at (suc left) ds c ≡ total
    → rising_at ds c ≡ Ok (more, next) → points_at left more next ≡ total
unfolding points_at
one_point c next left ds more total e f = sym (ap (λ (r : Result (List Dyadic × Cursor) CertFault).
    r >>= λ more. points_at left more.0 more.1) f) ∙ e

pub points_stop : (c : Cursor) (left : ℕ) (ds : List Dyadic) (f : CertFault)
    (total : Result (List Dyadic × Cursor) CertFault) → points_at (suc left) ds c ≡ total
    → rising_at ds c ≡ Err f → total ≡ Err f
unfolding points_at
points_stop c left ds f total e g = sym e ∙ ap (λ (r : Result (List Dyadic × Cursor) CertFault). r
    >>= λ more. points_at left more.0 more.1) g

pub points_end : (c : Cursor)
    (left : ℕ) (ds : List Dyadic) (total : Result (List Dyadic × Cursor) CertFault) → left ≡ 0
    → points_at left ds c ≡ total → total ≡ Ok (ds, c)
unfolding points_at
points_end c zero ds total z e = sym e
points_end c (suc left) ds total z e = cc

-- ---- points that rise

at_last : (d : Dyadic) (ds : List Dyadic) → length (d ∷ ds) - 1 ≡ length ds
at_last d ds = omega arith

pub rises_above : (ds : List Dyadic) (p : Dyadic) → IsAboveLast ds p → rises ds p ≡ true
rises_above [] p a = refl
rises_above (d ∷ ds) p a =
    let l : value_of (point_of (d ∷ ds) (length ds)) <ℚ value_of p = subst
    (λ (k : ℕ). value_of (point_of (d ∷ ds) k) <ℚ value_of p) (at_last d ds) (a (omega arith)) in
    let f : le_ℚ (value_of p) (value_of (point_of (d ∷ ds) (length ds))) ≡ false = l.lt in rw f refl

pub above_rises : (ds : List Dyadic) (p : Dyadic) → rises ds p ≡ true → IsAboveLast ds p
above_rises [] p e = λ l. absurd (let z : 0 < 0 = l in omega (arith, z))
above_rises (d ∷ ds) p e = λ l.
    let f : le_ℚ (value_of p) (value_of (point_of (d ∷ ds) (length ds))) ≡ false =
    not_true (le_ℚ (value_of p) (value_of (point_of (d ∷ ds) (length ds)))) e in
    subst (λ (k : ℕ). value_of (point_of (d ∷ ds) k) <ℚ value_of p)
    (sym (at_last d ds)) (record { lt = f })
  where
    not_true : (b : Bool) → not b ≡ true → b ≡ false
    not_true true e = cc
    not_true false e = refl

pub rises_not : (ds : List Dyadic) (p : Dyadic) → ¬ IsAboveLast ds p → rises ds p ≡ false
rises_not ds p n = by (rises ds p) refl
  where
    by : (b : Bool) → rises ds p ≡ b → rises ds p ≡ false
    by true e = absurd (n (above_rises ds p e))
    by false e = e

-- ---- whether bytes follow

drop_none : (at : ℕ) → drop at nothing ≡ nothing
drop_none zero = refl
drop_none (suc at) = refl

past : (at : ℕ) (all : List ℕ) → length all ≤ at → drop at all ≡ nothing
past at [] l = drop_none at
past zero (b ∷ all) l = absurd (let z : suc (length all) ≤ 0 = l in omega (arith, z))
past (suc at) (b ∷ all) l = past at all (omega (arith, l))

some_there : (at : ℕ) (all s rest : List ℕ) → drop at all ≡ s ++ rest → ¬ (s ≡ nothing)
    → is_some (drop at all) ≡ true
some_there at all s rest e n = let r = some_front s rest (drop at all) n e in rw r.2 refl

abbrev more_here : Style → List ℕ → ℕ → Result (Bool × Cursor) CertFault
more_here style all k = Ok (is_some (drop k all), cursor style all k)

more_from : (all : List ℕ) (old s : Ahead) (more : Bool) → s.at ≡ old.at → kept_of s ≡ kept_of old
    → is_some (drop s.at all) ≡ more → more_at (cursor_of all old) ≡ Ok (more, cursor_of all s)
unfolding more_at
more_from all old s more q kept e =
    let P : ℕ → Style → Type 0 = λ k style. more_here style all k ≡ Ok (more, cursor_of all s) in
    subst (λ (k : ℕ). P k old.style) q
    (subst (P s.at) (ap style_in kept) (ap (λ (b : Bool). Ok (b, cursor_of all s)) e))

pub more_is : (all : List ℕ) (old s : Ahead) (more : Bool)
    → s.at ≡ old.at → kept_of s ≡ kept_of old → Agrees all s → IsReady s more → IsEnd all s more
    → more_at (cursor_of all old) ≡ Ok (more, cursor_of all s)
more_is all old s true q kept g r e =
    more_from all old s true q kept (some_there s.at all s.ahead g.rest g.ahead r)
more_is all old s false q kept g r e =
    more_from all old s false q kept (ap is_some (past s.at all e))

pub rising_ok : (c next : Cursor) (ds more : List Dyadic) (p : Dyadic) → point_at c ≡ Ok (p, next)
    → IsAboveLast ds p → more ≡ ds ++ p ∷ [] → rising_at ds c ≡ Ok (more, next)
unfolding rising_at
rising_ok c next ds more p e a m = rw (e, rises_above ds p a, m) refl

pub rising_no : (c next : Cursor) (ds : List Dyadic) (p : Dyadic) → point_at c ≡ Ok (p, next)
    → ¬ IsAboveLast ds p → rising_at ds c ≡ Err (record { kind = BadNumber; at = c.at })
unfolding rising_at
rising_no c next ds p e n = rw (e, rises_not ds p n) refl

pub rising_err : (c : Cursor) (ds : List Dyadic) (f : CertFault) → point_at c ≡ Err f
    → rising_at ds c ≡ Err f
unfolding rising_at
rising_err c ds f e = rw e refl

-- ---- steps

pub step_err : (c next : Cursor) (claim : (ℕ × ℕ) × Fact) (f : CertFault)
    → claim_at c ≡ Ok (claim, next) → cited_at next ≡ Err f → step_at c ≡ Err f
unfolding step_at
step_err c next claim f e g = rw (e, g) refl
