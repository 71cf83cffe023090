-- How many bytes each item spells at most, in either version.
use Rattle.std.proofs.Common.{◌≡◌, ◌≤◌, ◌<◌, ◌+◌, ◌^◌, ◌*◌, ◌++◌, ◌∷◌, [], ℕ, ℤ, List, length}
use Rattle.std.proofs.Common.{Option, Some, None, refl, arith}
use Rattle.std.specs.Int.{w16, w64, cast_unsigned}
use Rattle.std.proofs.lemmas.List.{length-append}
use Rattle.fx_model.specs.declared.ExprId.{ExprId}
use Rattle.fx_model.specs.declared.Node.{Node}
use Rattle.fx_model.specs.declared.Node.TheVariants.{Var, Lit, Neg, Add, Sub, Mul, Div, Abs, Round}
use Rattle.dyadic.specs.declared.number.Dyadic.{Dyadic}
use Rattle.dyadic.specs.declared.number.End.{End}
use Rattle.dyadic.specs.declared.number.End.TheVariants.{Low, At, High}
use Rattle.interval.specs.declared.interval.Interval.{Interval}
use Rattle.facts.specs.declared.relative.RelativeError.{RelativeError}
use Rattle.facts.specs.declared.fact.Fact.{Fact}
use Rattle.facts.specs.declared.fact.Fact.TheVariants as fact
use Rattle.cert_bytes.specs.declared.style.Style.{Style}
use Rattle.cert_bytes.specs.declared.style.Style.TheVariants.{First, Second}
use Rattle.cert_bytes.specs.declared.item.StepRow.{StepRow}
use Rattle.cert_bytes.specs.declared.item.Item.{Item}
use Rattle.cert_bytes.specs.declared.item.Item.TheVariants as item
use Rattle.cert_bytes.specs.Certificates.{HasSpelling, Fits}
use Rattle.cert_bytes.specs.Styles.{style_after}
use Rattle.cert_bytes.specs.Sizes.{most_bytes, most_bytes_in, SpellingsAreShort}
use Rattle.cert_bytes.specs.Spelling.{digits, zigzag, distance, tiny, short, reference}
use Rattle.cert_bytes.specs.Spelling.{signed_short, signed_long, wide, references, counted, point}
use Rattle.cert_bytes.specs.Spelling.{points, end, interval, error, fact_bytes, node_bytes}
use Rattle.cert_bytes.specs.Spelling.{optional, claim_bytes, cited_bytes, step_bytes, spelling}
use Rattle.cert_bytes.specs.Spelling.{spelled_from}
use Rattle.cert_bytes.proofs.Digits.{digits_most, digits_some, digits_below}
use Rattle.cert_bytes.proofs.NumberFormats.{length_high}

-- ---- fields

tiny_most : (n : ℕ) (style : Style) → length (tiny n style) ≤ 19
unfolding tiny
tiny_most n First = omega arith
tiny_most n (Second seen) = digits_most 19 n

short_most : (n : ℕ) (style : Style) → length (short n style) ≤ 19
unfolding short
short_most n First = let e = length_high 2 n in omega (arith, e)
short_most n (Second seen) = digits_most 19 n

pub short_some : (n : ℕ) (style : Style) → 1 ≤ length (short n style)
unfolding short
short_some n First = let e = length_high 2 n in omega (arith, e)
short_some n (Second seen) = digits_some 18 n

-- the number of a step is taken modulo 2^64
distance_most : (steps p : ℕ) → distance steps p < 128 ^ 10
distance_most steps p =
    let l : distance steps p < 18446744073709551616 = omega arith in omega (arith, l)

reference_most : (n : ℕ) (style : Style) → length (reference n style) ≤ 10
unfolding reference
reference_most n First = let e = length_high 8 n in omega (arith, e)
reference_most n (Second seen) =
    digits_below 19 9 (distance seen.steps n) (distance_most seen.steps n)

signed_short_most : (z : ℤ) (style : Style) → length (signed_short z style) ≤ 19
unfolding signed_short
signed_short_most z First = let e = length_high 2 (cast_unsigned w16 z) in omega (arith, e)
signed_short_most z (Second seen) = digits_most 19 (zigzag z)

signed_long_most : (z : ℤ) (style : Style) → length (signed_long z style) ≤ 19
unfolding signed_long
signed_long_most z First = let e = length_high 8 (cast_unsigned w64 z) in omega (arith, e)
signed_long_most z (Second seen) = digits_most 19 (zigzag z)

wide_most : (n : ℕ) (style : Style) → length (wide n style) ≤ 19
unfolding wide
wide_most n First = let e = length_high 16 n in omega (arith, e)
wide_most n (Second seen) = digits_most 19 n

two_most : (s t : List ℕ) (m n : ℕ) → length s ≤ m → length t ≤ n → length (s ++ t) ≤ m + n
two_most s t m n p q = let e = length-append s t in omega (arith, e, p, q)

pair_most : (m n : ℕ) (style : Style) → length (short m style ++ short n style) ≤ 38
pair_most m n style =
    two_most (short m style) (short n style) 19 19 (short_most m style) (short_most n style)

-- ---- facts

point_most : (d : Dyadic) (style : Style) → length (point d style) ≤ 38
point_most d style = two_most (signed_long d.mantissa style) (signed_short d.exponent style) 19 19
    (signed_long_most d.mantissa style) (signed_short_most d.exponent style)

end_most : (e : End) (style : Style) → length (end e style) ≤ 39
end_most (At d) style = let p = point_most d style in omega (arith, p)
end_most Low style = omega arith
end_most High style = omega arith

interval_most : (i : Interval) (style : Style) → length (interval i style) ≤ 78
interval_most i style =
    two_most (end i.lo style) (end i.hi style) 39 39 (end_most i.lo style) (end_most i.hi style)

error_most : (e : Option RelativeError) (style : Style) → length (error e style) ≤ 79
error_most (Some e) style = let p = interval_most e.interval style in omega (arith, p)
error_most None style = omega arith

short_behind : (n : ℕ) (style : Style) (s : List ℕ) (m : ℕ) → length s ≤ m
    → length (short n style ++ s) ≤ m + 19
short_behind n style s m p = let e = length-append (short n style) s in
    let q = short_most n style in omega (arith, e, p, q)

fact_most : (f : Fact) (style : Style) → length (fact_bytes f style) ≤ 118
fact_most (fact.Bnd x i) style =
    let p = short_behind x.0 style (interval i style) 78 (interval_most i style) in omega (arith, p)
fact_most (fact.Abs x s) style = let p = short_behind x.0 style (interval s.interval style) 78
    (interval_most s.interval style) in omega (arith, p)
fact_most (fact.Rel x y e) style = let p = two_most (short x.0 style ++ short y.0 style)
    (error e style) 38 79 (pair_most x.0 y.0 style) (error_most e style) in omega (arith, p)
fact_most (fact.Fix x k) style = let p = short_behind x.0 style (signed_short k.exponent style) 19
    (signed_short_most k.exponent style) in omega (arith, p)
fact_most (fact.Nzr x) style = let p = short_most x.0 style in omega (arith, p)
fact_most fact.Void style = omega arith

-- ---- nodes

node_most : (n : Node) (style : Style) → length (node_bytes n style) ≤ 58
node_most (Var n) style = let p = short_most n style in omega (arith, p)
node_most (Lit l) style =
    let e = two_most (signed_short l.two style) (signed_short l.ten style) 19 19
    (signed_short_most l.two style) (signed_short_most l.ten style) in
    let p = two_most (wide l.num style) (signed_short l.two style ++ signed_short l.ten style) 19 38
    (wide_most l.num style) e in omega (arith, p)
node_most (Neg x) style = let p = short_most x.0 style in omega (arith, p)
node_most (Add x y) style = let p = pair_most x.0 y.0 style in omega (arith, p)
node_most (Sub x y) style = let p = pair_most x.0 y.0 style in omega (arith, p)
node_most (Mul x y) style = let p = pair_most x.0 y.0 style in omega (arith, p)
node_most (Div x y) style = let p = pair_most x.0 y.0 style in omega (arith, p)
node_most (Abs x) style = let p = short_most x.0 style in omega (arith, p)
node_most (Round r x) style = let p = two_most (signed_short r.lsb style) (short x.0 style) 19 19
    (signed_short_most r.lsb style) (short_most x.0 style) in omega (arith, p)

node_some : (n : Node) (style : Style) → 1 ≤ length (node_bytes n style)
node_some (Var n) style = omega arith
node_some (Lit l) style = omega arith
node_some (Neg x) style = omega arith
node_some (Add x y) style = omega arith
node_some (Sub x y) style = omega arith
node_some (Mul x y) style = omega arith
node_some (Div x y) style = omega arith
node_some (Abs x) style = omega arith
node_some (Round r x) style = omega arith

-- ---- lists

references_most : (ns : List ℕ) (style : Style) → length (references ns style) ≤ 10 * length ns
references_most [] style = omega arith
references_most (n ∷ ns) style =
    let e = length-append (reference n style) (references ns style) in
    let p = reference_most n style in
    let q = references_most ns style in
    omega (arith, e, p, q)

points_most : (ds : List Dyadic) (style : Style) → length (points ds style) ≤ 38 * length ds
points_most [] style = omega arith
points_most (d ∷ ds) style = let e = length-append (point d style) (points ds style) in
    let p = point_most d style in let q = points_most ds style in omega (arith, e, p, q)

counted_most : (ns : List ℕ) (style : Style) → length (counted ns style) ≤ 10 * length ns + 19
counted_most ns style =
    short_behind (length ns) style (references ns style) (10 * length ns) (references_most ns style)

optional_most : (o : Option ℕ) (style : Style) → length (optional o style) ≤ 11
optional_most (Some n) style = let p = reference_most n style in omega (arith, p)
optional_most None style = omega arith

step_most : (s : StepRow) (style : Style)
    → length (step_bytes s style) ≤ 169 + 10 * length s.premises
step_most s style =
    let p = short_behind s.arg style (fact_bytes s.fact style) 118 (fact_most s.fact style) in
    let claim : length (claim_bytes s style) ≤ 139 = omega (arith, p) in
    let cited = two_most (optional s.with style) (counted s.premises style) 11
    (10 * length s.premises + 19) (optional_most s.with style) (counted_most s.premises style) in
    let whole = two_most (claim_bytes s style) (cited_bytes s style) 139
    (11 + (10 * length s.premises + 19)) claim cited in
    omega (arith, whole)

cut_most : (x : ExprId) (ps : List Dyadic) (style : Style)
    → length (spelling (item.Cut x ps) style) ≤ 39 + 38 * length ps
cut_most x ps style =
    let c = two_most (tiny (length ps) style) (points ps style) 19 (38 * length ps)
    (tiny_most (length ps) style) (points_most ps style) in
    let p = short_behind x.0 style (tiny (length ps) style ++ points ps style)
    (19 + 38 * length ps) c in
    omega (arith, p)

-- ---- items

item_most : (i : Item) (style : Style) → length (spelling i style) ≤ most_bytes i
item_most (item.Nodes n) style = let p = short_most n style in omega (arith, p)
item_most (item.Node n) style = node_most n style
item_most (item.Marks n) style = short_most n style
item_most (item.Mark m) style = omega arith
item_most (item.Cases n) style = let p = tiny_most n style in omega (arith, p)
item_most (item.Step s) style = step_most s style
item_most (item.Cut x ps) style = cut_most x ps style
item_most (item.Leaf refs) style = let p = counted_most refs style in omega (arith, p)
item_most (item.Dead r) style = let p = reference_most r style in omega (arith, p)
item_most item.End First = omega arith
item_most item.End (Second seen) =
    let p = two_most (digits 19 seen.sections) (digits 19 seen.steps) 19 19
    (digits_most 19 seen.sections) (digits_most 19 seen.steps) in
    omega (arith, p)

pub spellings_are_short : SpellingsAreShort
spellings_are_short style [] = omega arith
spellings_are_short style (i ∷ items) =
    let p = item_most i style in
    let q = spellings_are_short (style_after style i) items in
    two_most (spelling i style) (spelled_from (style_after style i) items) (most_bytes i)
    (most_bytes_in items) p q

-- far below what a certificate has room for
pub items_are_short : (i : Item) (style : Style) → HasSpelling i → Fits i
    → length (spelling i style) ≤ 17592186044416
items_are_short i style h f = let p = item_most i style in let q = few i h f in omega (arith, p, q)
  where
    few : (i : Item) → HasSpelling i → Fits i → most_bytes i ≤ 17592186044416
    few (item.Nodes n) h f = omega arith
    few (item.Node n) h f = omega arith
    few (item.Marks n) h f = omega arith
    few (item.Mark m) h f = omega arith
    few (item.Cases n) h f = omega arith
    few (item.Step s) h f = let l : length s.premises ≤ 65535 = h in omega (arith, l)
    few (item.Cut x ps) h f = let l : length ps ≤ 63 = f.1.0 in omega (arith, l)
    few (item.Leaf refs) h f = let l : length refs ≤ 65535 = h in omega (arith, l)
    few (item.Dead r) h f = omega arith
    few item.End h f = omega arith

-- and each but the end has a byte
pub items_have_a_byte : (i : Item) (style : Style) → ¬ (i ≡ item.End)
    → 1 ≤ length (spelling i style)
items_have_a_byte (item.Nodes n) style e = omega arith
items_have_a_byte (item.Node n) style e = node_some n style
items_have_a_byte (item.Marks n) style e = short_some n style
items_have_a_byte (item.Mark m) style e = omega arith
items_have_a_byte (item.Cases n) style e = omega arith
items_have_a_byte (item.Step s) style e = omega arith
items_have_a_byte (item.Cut x ps) style e = omega arith
items_have_a_byte (item.Leaf refs) style e = omega arith
items_have_a_byte (item.Dead r) style e = omega arith
items_have_a_byte item.End style e = absurd (e refl)
