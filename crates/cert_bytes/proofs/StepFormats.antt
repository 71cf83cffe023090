-- Formats of steps, of the steps that are named, and of cuts.
use Rattle.std.proofs.Common.{◌≡◌, ◌≤◌, ◌<◌, ◌+◌, ◌-◌, ◌++◌, ◌∷◌, [], ◌==◌, if◌then◌else◌, ℕ, zero}
use Rattle.std.proofs.Common.{suc, List, length, Option, Some, None, Ok, Err, refl}
use Rattle.std.proofs.Common.{sym, ap, subst, ◌∙◌, arith, append_assoc}
use Rattle.std.specs.Prelude.{nat_lt, IfSome}
use Rattle.std.specs.List.{AllByRecursion}
use Rattle.std.proofs.lemmas.Bool.{eqb-false}
use Rattle.std.proofs.lemmas.List.{append-nil, length-append}
use Rattle.fx_model.specs.Fraction.{◌<ℚ◌}
use Rattle.fx_model.specs.declared.ExprId.{ExprId}
use Rattle.dyadic.specs.declared.number.Dyadic.{Dyadic}
use Rattle.dyadic.specs.Values.{value_of}
use Rattle.dyadic.specs.Rising.{point_of, IsRising, IsAboveLast}
use Rattle.dyadic.proofs.Rising.{rising_more}
use Rattle.facts.specs.declared.fact.Fact.{Fact}
use Rattle.cert_bytes.specs.declared.fault.CertKind.TheVariants.{BadNumber, BadTag}
use Rattle.cert_bytes.specs.declared.item.StepRow.{StepRow}
use Rattle.cert_bytes.specs.declared.item.Item.{Item}
use Rattle.cert_bytes.specs.declared.item.Item.TheVariants as item
use Rattle.cert_bytes.specs.Certificates.{IsCounted, IsShort, IsLong, IsOnShort}
use Rattle.cert_bytes.specs.Reading.{Cursor, Read, fault, rises, expr_at, reference_at}
use Rattle.cert_bytes.specs.Reading.{references_at, counted_at, optional_at, claim_at, cited_at}
use Rattle.cert_bytes.specs.Reading.{step_at, rising_at, points_at, count_at, cut_head_at}
use Rattle.cert_bytes.specs.Reading.{cut_at, case_count_at, ◌>>=◌}
use Rattle.cert_bytes.specs.Spelling.{tiny, short, reference, references, counted, optional, point}
use Rattle.cert_bytes.specs.Spelling.{points, cited_bytes, fact_bytes}
use Rattle.cert_bytes.proofs.Rows.{above_rises, rises_above}
use Rattle.cert_bytes.proofs.Format.{answer, Form, plain, whole, Format, same_as, restated}
use Rattle.cert_bytes.proofs.Format.{sequence, made, made_of, tested, between, both, in_turn}
use Rattle.cert_bytes.proofs.Format.{nothing, byte, tags, way, no_way, Told, told, Follow, GoesOn}
use Rattle.cert_bytes.proofs.Format.{many}
use Rattle.cert_bytes.proofs.NumberFormats.{a_tiny, a_short, a_reference, an_expr}
use Rattle.cert_bytes.proofs.FactFormats.{a_point, a_fact}

-- ---- lists of steps

a_list : GoesOn references_at (λ ns c. reference_at c >>= λ x. Ok (ns ++ x.0 ∷ [], x.1)) reference
    (λ ns n. IsLong n)
unfolding references_at
a_list = record {
  none = λ ns c. refl;
  more = λ n ns c. by (reference_at c) n ns;
  each = λ ns. made a_reference (λ x. ns ++ x ∷ []);
}
  where
    by : (r : Read ℕ) (n : ℕ) (ns : List ℕ) → (r >>= λ x. references_at n (ns ++ x.0 ∷ []) x.1)
        ≡ ((r >>= λ x. answer (ns ++ x.0 ∷ []) x.1) >>= λ more. references_at n more.0 more.1)
    by (Ok x) n ns = refl
    by (Err e) n ns = refl

all_long : (before ns : List ℕ) → Follow (λ ns n. IsLong n) before ns → AllByRecursion IsLong ns
all_long before [] f = tt
all_long before (n ∷ ns) f = (f.0, all_long (before ++ n ∷ []) ns f.1)

long_follow : (before ns : List ℕ) → AllByRecursion IsLong ns → Follow (λ ns n. IsLong n) before ns
long_follow before [] a = tt
long_follow before (n ∷ ns) a = (a.0, long_follow (before ++ n ∷ []) ns a.1)

pub a_counted : Format counted_at
    (whole counted (λ ns. IsCounted ns × AllByRecursion IsLong ns))
unfolding counted_at
a_counted = restated (sequence a_short (λ at n c. references_at n [] c)
    (λ at n i. many a_list n [])) (whole counted (λ ns. IsCounted ns × AllByRecursion IsLong ns))
    (λ ns i. let few = i.0 in (
      (length ns, ns),
      (omega (arith, few), (refl, long_follow [] ns i.1)),
      same_as refl (λ old. refl),
    ))
    (λ p i. let size = i.1.0 in let few = i.0 in (
      p.1,
      (omega (arith, size, few), all_long [] p.1 i.1.1),
      same_as refl (λ old. ap (λ (n : ℕ). short n old ++ references p.1 old) (sym size)),
    ))

abbrev optional_by : ℕ → ℕ → Cursor → Read (Option ℕ)
optional_by at flag c = if flag == 0 then Ok (None, c)
    else if flag == 1 then (reference_at c >>= λ p. Ok (Some p.0, p.1))
    else fault BadTag at

an_optional : Format optional_at (whole optional (λ o. IfSome o IsLong))
unfolding optional_at
an_optional = tags optional_by back (λ at tag. way 0 (nothing None) (λ u old. refl) (λ u i. tt)
    (way 1 (made a_reference Some) (λ n old. refl) (λ n i. i) (no_way tag BadTag at)))
  where
    back : (o : Option ℕ) → IfSome o IsLong → Told optional_by optional o
    back None i = told optional_by 0 (λ at. nothing None) tt tt
    back (Some n) i = told optional_by 1 (λ at. made a_reference Some) n i

-- ---- steps

abbrev row : (ℕ × ℕ) × Fact → Option ℕ × List ℕ → StepRow
row claim cited =
    record { rule = claim.0.0; arg = claim.0.1; fact = claim.1; with = cited.0; premises = cited.1 }

-- the numbers of a step have room, and its premises aren't too many
abbrev pub IsStep : StepRow → Type 0
IsStep s = (((s.rule < 256) × IsShort s.arg) × IsOnShort s.fact)
    × (IfSome s.with IsLong × (IsCounted s.premises × AllByRecursion IsLong s.premises))

pub a_step : Format step_at (whole (λ s old. s.rule ∷ (short s.arg old ++ fact_bytes s.fact old)
    ++ cited_bytes s old) IsStep)
unfolding step_at
a_step = in_turn claim_at cited_at (λ at claim cited c. Ok (row claim cited, c))
    (made_of (both (both (both byte a_short) a_fact) (both an_optional a_counted))
    (λ p. row p.0 p.1) (λ s. (((s.rule, s.arg), s.fact), (s.with, s.premises)))
    (λ s. refl) (λ p. refl))

-- ---- points that rise

at_front : (acc ds : List Dyadic) (i : ℕ) → i < length acc
    → point_of (acc ++ ds) i ≡ point_of acc i
at_front [] ds i l = absurd (let z : i < 0 = l in omega (arith, z))
at_front (a ∷ acc) ds zero l = refl
at_front (a ∷ acc) ds (suc i) l = at_front acc ds i (omega (arith, l))

at_next : (acc : List Dyadic) (d : Dyadic) (ds : List Dyadic)
    → point_of (acc ++ d ∷ ds) (length acc) ≡ d
at_next [] d ds = refl
at_next (a ∷ acc) d ds = at_next acc d ds

next_is_above : (acc : List Dyadic) (d : Dyadic) (ds : List Dyadic)
    → IsRising (acc ++ d ∷ ds) → IsAboveLast acc d
next_is_above acc d ds r some =
    let size : length (acc ++ d ∷ ds) ≡ length acc + suc (length ds) = length-append acc (d ∷ ds) in
    let above = r (length acc - 1) (length acc) (omega (arith, some)) (omega (arith, size)) in
    subst (λ (p : Dyadic). value_of (point_of acc (length acc - 1))
    <ℚ value_of p) (at_next acc d ds)
    (subst (λ (p : Dyadic). value_of p <ℚ value_of (point_of (acc ++ d ∷ ds) (length acc)))
    (at_front acc (d ∷ ds) (length acc - 1) (omega (arith, some))) above)

rising_follow : (before ds : List Dyadic) → IsRising (before ++ ds) → Follow IsAboveLast before ds
rising_follow before [] r = tt
rising_follow before (d ∷ ds) r = (
  next_is_above before d ds r,
  rising_follow (before ++ d ∷ []) ds
      (subst IsRising (sym (append_assoc before (d ∷ []) ds)) r),
)

follow_rises : (before ds : List Dyadic) → IsRising before → Follow IsAboveLast before ds
    → IsRising (before ++ ds)
follow_rises before [] r f = subst IsRising (sym (append-nil before)) r
follow_rises before (d ∷ ds) r f = subst IsRising (append_assoc before (d ∷ []) ds)
    (follow_rises (before ++ d ∷ []) ds (rising_more before d r f.0) f.1)

none_rises : IsRising []
none_rises i j l k = absurd (let z : j < 0 = k in omega (arith, z))

points_rise : GoesOn points_at rising_at point IsAboveLast
unfolding points_at rising_at
points_rise = record {
  none = λ ds c. refl;
  more = λ n ds c. refl;
  each = λ ds. tested a_point BadNumber (λ p. rises ds p) (λ p. ds ++ p ∷ []) (λ p. p)
      (λ p. ds ++ p ∷ []) (IsAboveLast ds) (λ p a. (tt, rises_above ds p a, refl))
      (λ p i t. (p, refl, refl, above_rises ds p t));
}

-- ---- cuts

a_count : Format count_at (whole tiny (λ n. (1 ≤ n) × (n ≤ 63)))
unfolding count_at
a_count = between a_tiny BadNumber (λ n. n == 0) (λ n. nat_lt 63 n) (λ n. (1 ≤ n) × (n ≤ 63))
    (λ n i. let some = i.0 in let few = i.1 in
    (omega (arith, few), grind (arith, some), grind (arith, few)))
    (λ n i z h. (let e = eqb-false n 0 z in omega (arith, e), grind (arith, h)))

a_cut_head : Format cut_head_at (whole (λ p old. short p.0.0 old ++ tiny p.1 old)
    (λ p. IsShort p.0.0 × ((1 ≤ p.1) × (p.1 ≤ 63))))
unfolding cut_head_at
a_cut_head = in_turn expr_at count_at (λ at x n c. Ok ((x, n), c))
    (made (both an_expr a_count) (λ p. p))

-- what a cut has: an expression in its field, and from 1 to 63 points, which rise
abbrev pub IsCut : ExprId × List Dyadic → Type 0
IsCut v = IsShort v.0.0 × ((1 ≤ length v.1) × (length v.1 ≤ 63) × IsRising v.1)

abbrev cut_form : Form (ExprId × List Dyadic) Item
cut_form = plain (λ v. item.Cut v.0 v.1)
    (λ v old. short v.0.0 old ++ (tiny (length v.1) old ++ points v.1 old)) IsCut

pub a_cut : Format cut_at cut_form
unfolding cut_at
a_cut = restated (sequence a_cut_head
    (λ at head c. points_at head.1 [] c >>= λ ds. Ok (item.Cut head.0 ds.0, ds.1))
    (λ at head i. made (many points_rise head.1 []) (λ ds. item.Cut head.0 ds))) cut_form
    (λ v i. (
      ((v.0, length v.1), v.1),
      ((i.0, (i.1.0, i.1.1)), (refl, rising_follow [] v.1 i.1.2)),
      same_as refl (λ old. append_assoc (short v.0.0 old) (tiny (length v.1) old) (points v.1 old)),
    ))
    (λ p i. let size = i.1.0 in let some = i.0.1.0 in let few = i.0.1.1 in (
      (p.0.0, p.1),
      (
        i.0.0,
        (
          omega (arith, size, some),
          omega (arith, size, few),
          follow_rises [] p.1 none_rises i.1.1,
        ),
      ),
      same_as refl (λ old. append_assoc (short p.0.0.0 old) (tiny p.0.1 old) (points p.1 old)
          ∙ ap (λ (n : ℕ). short p.0.0.0 old ++ (tiny n old ++ points p.1 old)) (sym size)),
    ))

-- ---- how many cases there are

pub a_case_count : Format case_count_at (whole tiny (λ n. (2 ≤ n) × (n ≤ 64)))
unfolding case_count_at
a_case_count = between a_tiny BadNumber (λ n. nat_lt n 2) (λ n. nat_lt 64 n)
    (λ n. (2 ≤ n) × (n ≤ 64))
    (λ n i. let several = i.0 in let few = i.1 in
    (omega (arith, few), grind (arith, several), grind (arith, few)))
    (λ n i z h. (grind (arith, z), grind (arith, h)))
