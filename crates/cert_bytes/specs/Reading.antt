-- How bytes are read as items, field by field from the left. The first fault that is met is the
-- fault of the bytes.
use Rattle.std.specs.Prelude.{⊤, ◌+◌, ◌-◌, ◌*◌, ◌/◌, ◌%◌, ◌==◌, ◌&&◌, not, ℕ, zero, suc, ℤ, pos}
use Rattle.std.specs.Prelude.{negsuc, Bool, true, false, List, [], ◌∷◌, ◌++◌, length, drop, nat_lt}
use Rattle.std.specs.Prelude.{nat_le, if◌then◌else◌, Option, Some, None, Result, Ok, Err}
use Rattle.std.specs.Int.{Width, w16, w64, cast_signed}
use Rattle.std.specs.Int.RustNames.{int_lt}
use Rattle.fx_model.specs.Fraction.{le_ℚ}
use Rattle.fx_model.specs.declared.ExprId.{ExprId}
use Rattle.fx_model.specs.declared.Literal.{Literal}
use Rattle.fx_model.specs.declared.Node.{Node}
use Rattle.fx_model.specs.declared.Node.TheVariants as node
use Rattle.fx_model.specs.declared.Rounding.{Rounding}
use Rattle.fx_model.specs.declared.Direction.{Direction}
use Rattle.fx_model.specs.declared.Direction.TheVariants.{Zr, Aw, Dn, Up, Od, Ne, No, Nz, Na, Nd}
use Rattle.fx_model.specs.declared.Direction.TheVariants.{Nu}
use Rattle.dyadic.specs.declared.number.Dyadic.{Dyadic}
use Rattle.dyadic.specs.declared.number.End.{End}
use Rattle.dyadic.specs.declared.number.End.TheVariants.{Low, At, High}
use Rattle.dyadic.specs.Values.{value_of}
use Rattle.dyadic.specs.Rising.{point_of}
use Rattle.interval.specs.declared.interval.Interval.{Interval}
use Rattle.interval.specs.Meets.{interval_from}
use Rattle.facts.specs.declared.relative.RelativeError.{RelativeError}
use Rattle.facts.specs.declared.size.Size.{Size}
use Rattle.facts.specs.declared.place.FixPlace.{FixPlace}
use Rattle.facts.specs.declared.fact.Fact.{Fact}
use Rattle.facts.specs.declared.fact.Fact.TheVariants as fact
use Rattle.facts.specs.declared.hint.HintMark.TheVariants.{Checked, Assumed}
use Rattle.facts.specs.Parts.{size_from, error_from}
use Rattle.facts.specs.Places.{place_from}
use Rattle.cert_bytes.specs.declared.fault.CertFault.{CertFault}
use Rattle.cert_bytes.specs.declared.fault.CertKind.{CertKind}
use Rattle.cert_bytes.specs.declared.fault.CertKind.TheVariants.{BadMagic, BadVersion, Truncated}
use Rattle.cert_bytes.specs.declared.fault.CertKind.TheVariants.{BadTag, BadNumber, TrailingBytes}
use Rattle.cert_bytes.specs.declared.fault.CertKind.TheVariants.{TooLong, BadCount}
use Rattle.cert_bytes.specs.declared.item.StepRow.{StepRow}
use Rattle.cert_bytes.specs.declared.item.Item.{Item}
use Rattle.cert_bytes.specs.declared.item.Item.TheVariants as item
use Rattle.cert_bytes.specs.Numbers.{number_from, is_normal}
use Rattle.cert_bytes.specs.declared.style.Seen.{Seen}
use Rattle.cert_bytes.specs.declared.style.Style.{Style}
use Rattle.cert_bytes.specs.declared.style.Style.TheVariants.{First, Second}
use Rattle.cert_bytes.specs.Styles.{none_seen, style_after}
use Rattle.cert_bytes.specs.Spelling.{distance}
use Rattle.cert_bytes.specs.declared.order.DueItem.{DueItem}
use Rattle.cert_bytes.specs.declared.order.DueItem.TheVariants.{Head, Nodes, Marks, Sections, Done}

-- how numbers are spelled, an offset, and the bytes from there
pub record Cursor : Type 0 where
  pub style : Style
  pub at : ℕ
  pub rest : List ℕ

-- the place in these bytes
abbrev pub cursor : Style → List ℕ → ℕ → Cursor
cursor style all at = record { style = style; at = at; rest = drop at all }

-- the same place, with numbers that are spelled in another way
abbrev pub styled : Style → Cursor → Cursor
styled style c = record { style = style; at = c.at; rest = c.rest }

-- what is read, and where reading stands behind it; or the fault
abbrev pub Read : Type 0 → Type 0
Read A = Result (A × Cursor) CertFault

infixl 10 ◌>>=◌
-- goes on with what was read, or stays at the first fault
abbrev pub ◌>>=◌ : {A B : Type 0} → Result A CertFault
    → (A → Result B CertFault) → Result B CertFault
(Ok x) >>= f = f x
(Err e) >>= f = Err e

-- the fault of this kind at this byte
abbrev pub fault : {A : Type 0} → CertKind → ℕ → Result A CertFault
fault kind at = Err (record { kind = kind; at = at })

-- the value, or BadNumber at the first byte of its field
abbrev pub numbered : {A : Type 0} → ℕ → Option A → Cursor → Read A
numbered at None c = fault BadNumber at
numbered at (Some x) c = Ok (x, c)

-- ---- fields

-- One byte. It is Truncated at the end of the bytes, and TooLong where it is byte 2^44.
abbrev pub next_byte : Style → ℕ → List ℕ → Read ℕ
next_byte style at [] = fault Truncated at
next_byte style at (b ∷ rest) = if nat_le 17592186044416 at then fault TooLong 17592186044416
    else Ok (b, record { style = style; at = at + 1; rest = rest })

-- the next byte
unfoldable pub byte_at : Cursor → Read ℕ
byte_at c = next_byte c.style c.at c.rest

-- n bytes more of a number, the high ones first
unfoldable pub bytes_at : ℕ → ℕ → Cursor → Read ℕ
bytes_at zero value c = Ok (value, c)
bytes_at (suc n) value c = byte_at c >>= λ b. bytes_at n (256 * value + b.0) b.1

-- a number of n bytes, the high ones first
abbrev pub number_at : ℕ → Cursor → Read ℕ
number_at n c = bytes_at n 0 c

-- The number that ends with b, which counts `weight`, behind the digits that make `value`. There is
-- none where b is 0 and not alone, as the number has a shorter spelling.
abbrev pub ended_with : ℕ → ℕ → ℕ → Option ℕ
ended_with weight value b = if (b == 0) && nat_lt 1 weight then None else Some (value + weight * b)

-- A number in base 128, of n bytes more at most. There is none where each of these is 128 or above.
unfoldable pub digits_at : ℕ → ℕ → ℕ → Cursor → Read (Option ℕ)
digits_at zero weight value c = Ok (None, c)
digits_at (suc n) weight value c = byte_at c >>= λ b.
    if nat_lt b.0 128 then Ok (ended_with weight value b.0, b.1) else digits_at n
    (weight * 128) (value + weight * (b.0 - 128)) b.1

-- a number that is there, where it is at most `most`
abbrev pub at_most : ℕ → Option ℕ → Option ℕ
at_most most None = None
at_most most (Some n) = if nat_le n most then Some n else None

-- the same, where it isn't above `most`
unfoldable pub limited_at : ℕ → ℕ → ℕ → ℕ → Cursor → Read (Option ℕ)
limited_at n most weight value c = digits_at n weight value c >>= λ o. Ok (at_most most o.0, o.1)

-- A number in base 128, of so many bytes at most and up to `most`. It is BadNumber where there is
-- none.
unfoldable pub based_at : ℕ → ℕ → Cursor → Read ℕ
based_at bytes most c = limited_at bytes most 1 0 c >>= λ n. numbered c.at n.0 n.1

-- a number of a field by the style: of fixed width in version 1, in base 128 in version 2
abbrev pub sized_by : Style → ℕ → ℕ → ℕ → Cursor → Read ℕ
sized_by First width bytes most c = number_at width c
sized_by (Second seen) width bytes most c = based_at bytes most c

-- A number up to `most`: in version 1 its width is given, in version 2 how many bytes it has at
-- most.
unfoldable pub sized_at : ℕ → ℕ → ℕ → Cursor → Read ℕ
sized_at width bytes most c = sized_by c.style width bytes most c

-- fields of one, two and eight bytes in version 1, with the most that they may say
abbrev pub tiny_at : Cursor → Read ℕ
tiny_at c = sized_at 1 10 255 c

-- up to 2^16 - 1
abbrev pub short_at : Cursor → Read ℕ
short_at c = sized_at 2 10 65535 c

-- up to 2^64 - 1
abbrev pub long_at : Cursor → Read ℕ
long_at c = sized_at 8 10 18446744073709551615 c

-- the number of a literal
abbrev pub wide_at : Cursor → Read ℕ
wide_at c = sized_at 16 19 340282366920938463463374607431768211455 c

-- the number of a step, by its field
abbrev pub step_by : Style → ℕ → ℕ
step_by First n = n
step_by (Second seen) n = distance seen.steps n

-- the number of a step
unfoldable pub reference_at : Cursor → Read ℕ
reference_at c = long_at c >>= λ n. Ok (step_by c.style n.0, n.1)

-- the signed number that is folded into n: even ones from 0 up, odd ones from -1 down
abbrev pub unzigzag : ℕ → ℤ
unzigzag n = if n % 2 == 0 then pos (n / 2) else negsuc (n / 2)

-- a signed number, by its field
abbrev pub signed_by : Style → Width → ℕ → ℤ
signed_by First w n = cast_signed w n
signed_by (Second seen) w n = unzigzag n

-- a signed number that has two bytes in version 1
unfoldable pub signed_short_at : Cursor → Read ℤ
signed_short_at c = short_at c >>= λ n. Ok (signed_by c.style w16 n.0, n.1)

-- a signed number that has eight bytes in version 1
unfoldable pub signed_long_at : Cursor → Read ℤ
signed_long_at c = long_at c >>= λ n. Ok (signed_by c.style w64 n.0, n.1)

-- an expression's number
unfoldable pub expr_at : Cursor → Read ExprId
expr_at c = short_at c >>= λ n. Ok (record { 0 = n.0 }, n.1)

-- one field behind another
unfoldable pub both_at : {A B : Type 0} → (Cursor → Read A)
    → (Cursor → Read B) → Cursor → Read (A × B)
both_at f g c = do
  x ← f c
  y ← g x.1
  Ok ((x.0, y.0), y.1)

-- two expressions, one behind the other
abbrev pub pair_at : Cursor → Read (ExprId × ExprId)
pair_at = both_at expr_at expr_at

-- a mantissa and an exponent, as a number of the grid has them
unfoldable pub point_at : Cursor → Read Dyadic
point_at c = do
  m ← signed_long_at c
  e ← signed_short_at m.1
  numbered c.at (number_from m.0 e.0) e.1

-- an end of an interval: its kind, and the point where it is finite
unfoldable pub end_at : Cursor → Read End
end_at c = do
  tag ← byte_at c
  if tag.0 == 0 then (point_at tag.1 >>= λ p. Ok (At p.0, p.1))
      else if tag.0 == 1 then Ok (Low, tag.1)
      else if tag.0 == 2 then Ok (High, tag.1)
      else fault BadTag c.at

-- an interval: its lower end, and its upper one; BadNumber where no interval has these ends
unfoldable pub interval_at : Cursor → Read Interval
interval_at c = do
  lo ← end_at c
  hi ← end_at lo.1
  numbered c.at (interval_from lo.0 hi.0) hi.1

-- ---- facts

-- the interval of an absolute value; BadNumber where it isn't one
unfoldable pub size_at : Cursor → Read Size
size_at c = interval_at c >>= λ i. numbered c.at (size_from i.0) i.1

-- the interval of a relative error; BadNumber where it isn't one
unfoldable pub relative_at : Cursor → Read RelativeError
relative_at c = interval_at c >>= λ i. numbered c.at (error_from i.0) i.1

-- a tag, and behind a 0 the interval of relative errors; a 1 says that both are 0
unfoldable pub error_at : Cursor → Read (Option RelativeError)
error_at c = do
  tag ← byte_at c
  if tag.0 == 0 then (relative_at tag.1 >>= λ e. Ok (Some e.0, e.1))
      else if tag.0 == 1 then Ok (None, tag.1)
      else fault BadTag c.at

-- the power of two of a FIX fact; BadNumber where it is out of range
unfoldable pub place_at : Cursor → Read FixPlace
place_at c = signed_short_at c >>= λ k. numbered c.at (place_from k.0) k.1

-- a BND fact: its expression, and the interval
unfoldable pub bnd_at : Cursor → Read Fact
bnd_at c = both_at expr_at interval_at c >>= λ v. Ok (fact.Bnd v.0.0 v.0.1, v.1)

-- an ABS fact: its expression, and the interval of the absolute value
unfoldable pub abs_at : Cursor → Read Fact
abs_at c = both_at expr_at size_at c >>= λ v. Ok (fact.Abs v.0.0 v.0.1, v.1)

-- a REL fact: its two expressions, and the relative error
unfoldable pub rel_at : Cursor → Read Fact
rel_at c = both_at pair_at error_at c >>= λ v. Ok (fact.Rel v.0.0.0 v.0.0.1 v.0.1, v.1)

-- a FIX fact: its expression, and the power of two
unfoldable pub fix_at : Cursor → Read Fact
fix_at c = both_at expr_at place_at c >>= λ v. Ok (fact.Fix v.0.0 v.0.1, v.1)

-- an NZR fact: its expression
unfoldable pub nzr_at : Cursor → Read Fact
nzr_at c = expr_at c >>= λ x. Ok (fact.Nzr x.0, x.1)

-- a fact: its tag, from 1 to 6, and its fields
unfoldable pub fact_at : Cursor → Read Fact
fact_at c = do
  tag ← byte_at c
  if tag.0 == 1 then bnd_at tag.1
      else if tag.0 == 2 then abs_at tag.1
      else if tag.0 == 3 then rel_at tag.1
      else if tag.0 == 4 then fix_at tag.1
      else if tag.0 == 5 then nzr_at tag.1
      else if tag.0 == 6 then Ok (fact.Void, tag.1)
      else fault BadTag c.at

-- ---- nodes

-- the rounding direction of a byte; none from 11 on
abbrev pub direction_from : ℕ → Option Direction
direction_from n =
    if n == 0 then Some Zr else (if n == 1 then Some Aw
    else (if n == 2 then Some Dn else (if n == 3 then Some Up
    else (if n == 4 then Some Od
    else (if n == 5 then Some Ne else (if n == 6 then Some No else (if n == 7 then Some Nz
    else (if n == 8 then Some Na
    else (if n == 9 then Some Nd else (if n == 10 then Some Nu else None))))))))))

-- the value, or BadTag at the first byte of its field
abbrev pub tagged : {A : Type 0} → ℕ → Option A → Cursor → Read A
tagged at None c = fault BadTag at
tagged at (Some x) c = Ok (x, c)

-- a rounding direction
unfoldable pub direction_at : Cursor → Read Direction
direction_at c = byte_at c >>= λ b. tagged c.at (direction_from b.0) b.1

-- the power of a rounding, from 2^-512 to 2^512
unfoldable pub lsb_at : Cursor → Read ℤ
lsb_at c = signed_short_at c >>= λ k. if int_lt k.0 (negsuc 511) then fault BadNumber c.at
    else (if int_lt (pos 512) k.0 then fault BadNumber c.at else Ok k)

-- a literal's powers of two and of ten
abbrev pub exponents_at : Cursor → Read (ℤ × ℤ)
exponents_at = both_at signed_short_at signed_short_at

-- a literal in normal form: its number and its powers; else BadNumber
unfoldable pub literal_at : Cursor → Read Literal
literal_at c = do
  num ← wide_at c
  e ← exponents_at num.1
  if is_normal (record { num = num.0; two = e.0.0; ten = e.0.1 })
      then Ok (record { num = num.0; two = e.0.0; ten = e.0.1 }, e.1) else fault BadNumber c.at

-- a node with one operand
unfoldable pub one_at : (ExprId → Node) → Cursor → Read Node
one_at op c = expr_at c >>= λ x. Ok (op x.0, x.1)

-- a node with two operands
unfoldable pub two_at : (ExprId → ExprId → Node) → Cursor → Read Node
two_at op c = pair_at c >>= λ x. Ok (op x.0.0 x.0.1, x.1)

-- a rounding: its direction, and its power
unfoldable pub rounding_at : Cursor → Read Rounding
rounding_at c = do
  dir ← direction_at c
  lsb ← lsb_at dir.1
  Ok (record { lsb = lsb.0; dir = dir.0 }, lsb.1)

-- a rounded expression: the rounding, and the operand
unfoldable pub round_at : Cursor → Read Node
round_at c = both_at rounding_at expr_at c >>= λ v. Ok (node.Round v.0.0 v.0.1, v.1)

-- a variable, by its number
unfoldable pub var_at : Cursor → Read Node
var_at c = short_at c >>= λ n. Ok (node.Var n.0, n.1)

-- a literal as a node
unfoldable pub lit_at : Cursor → Read Node
lit_at c = literal_at c >>= λ l. Ok (node.Lit l.0, l.1)

-- tags from 5 on
unfoldable pub late_node_at : ℕ → ℕ → Cursor → Read Node
late_node_at start tag c =
    if tag == 5 then two_at node.Mul c
    else if tag == 6 then two_at node.Div c
    else if tag == 7 then one_at node.Abs c
    else if tag == 8 then round_at c
    else fault BadTag start

-- a node, by its tag; BadTag at `start` where no node has it
unfoldable pub node_by : ℕ → ℕ → Cursor → Read Node
node_by start tag c =
    if tag == 0 then var_at c
    else if tag == 1 then lit_at c
    else if tag == 2 then one_at node.Neg c
    else if tag == 3 then two_at node.Add c
    else if tag == 4 then two_at node.Sub c
    else late_node_at start tag c

-- a node: its tag, from 0 to 8, and its parts
unfoldable pub node_at : Cursor → Read Node
node_at c = byte_at c >>= λ tag. node_by c.at tag.0 tag.1

-- ---- items of sections

-- so many further numbers behind these
unfoldable pub references_at : ℕ → List ℕ → Cursor → Read (List ℕ)
references_at zero ns c = Ok (ns, c)
references_at (suc n) ns c = reference_at c >>= λ x. references_at n (ns ++ x.0 ∷ []) x.1

-- how many there are, and each
unfoldable pub counted_at : Cursor → Read (List ℕ)
counted_at c = short_at c >>= λ n. references_at n.0 [] n.1

-- a flag, and behind a 1 the number of a step
unfoldable pub optional_at : Cursor → Read (Option ℕ)
optional_at c = do
  flag ← byte_at c
  if flag.0 == 0 then Ok (None, flag.1)
      else if flag.0 == 1 then (reference_at flag.1 >>= λ p. Ok (Some p.0, p.1))
      else fault BadTag c.at

-- the rule, and which hypothesis or hint it is
abbrev pub rule_at : Cursor → Read (ℕ × ℕ)
rule_at = both_at byte_at short_at

-- what a step claims: its rule, what the rule is taken of, and the fact
abbrev pub claim_at : Cursor → Read ((ℕ × ℕ) × Fact)
claim_at = both_at rule_at fact_at

-- what a step rests on: the step that it meets, and its premises
abbrev pub cited_at : Cursor → Read (Option ℕ × List ℕ)
cited_at = both_at optional_at counted_at

-- a step: what it claims, and what it rests on
unfoldable pub step_at : Cursor → Read StepRow
step_at c = do
  claim ← claim_at c
  cited ← cited_at claim.1
  Ok (
    record {
      rule = claim.0.0.0;
      arg = claim.0.0.1;
      fact = claim.0.1;
      with = cited.0.0;
      premises = cited.0.1;
    },
    cited.1,
  )

-- p is above the last of the points, if there is one
abbrev pub rises : List Dyadic → Dyadic → Bool
rises [] p = true
rises (d ∷ ds) p = not (le_ℚ (value_of p) (value_of (point_of (d ∷ ds) (length ds))))

-- the points with one more behind them, which is above the last
unfoldable pub rising_at : List Dyadic → Cursor → Read (List Dyadic)
rising_at ds c =
    point_at c >>= λ p. if rises ds p.0 then Ok (ds ++ p.0 ∷ [], p.1) else fault BadNumber c.at

-- so many further points
unfoldable pub points_at : ℕ → List Dyadic → Cursor → Read (List Dyadic)
points_at zero ds c = Ok (ds, c)
points_at (suc n) ds c = rising_at ds c >>= λ more. points_at n more.0 more.1

-- from 1 to 63
unfoldable pub count_at : Cursor → Read ℕ
count_at c = tiny_at c >>= λ n. if n.0 == 0 then fault BadNumber c.at else
    (if nat_lt 63 n.0 then fault BadNumber c.at else Ok n)

-- the variable, and how many points
unfoldable pub cut_head_at : Cursor → Read (ExprId × ℕ)
cut_head_at c = do
  x ← expr_at c
  n ← count_at x.1
  Ok ((x.0, n.0), n.1)

-- a cut: its variable, and the points, which rise
unfoldable pub cut_at : Cursor → Read Item
cut_at c = do
  head ← cut_head_at c
  ds ← points_at head.0.1 [] head.1
  Ok (item.Cut head.0.0 ds.0, ds.1)

-- a step as an item
unfoldable pub step_item_at : Cursor → Read Item
step_item_at c = step_at c >>= λ s. Ok (item.Step s.0, s.1)

-- a leaf: the steps that it names
unfoldable pub leaf_at : Cursor → Read Item
leaf_at c = counted_at c >>= λ refs. Ok (item.Leaf refs.0, refs.1)

-- a dead end: the step that it names
unfoldable pub dead_at : Cursor → Read Item
dead_at c = reference_at c >>= λ r. Ok (item.Dead r.0, r.1)

-- an item of a section, by its tag; BadTag at `start` where none has it
unfoldable pub section_by : ℕ → ℕ → Cursor → Read Item
section_by start tag c =
    if tag == 1 then step_item_at c
    else if tag == 2 then cut_at c
    else if tag == 3 then leaf_at c
    else if tag == 4 then dead_at c
    else fault BadTag start

-- an item of a section: its tag, from 1 to 4, and its fields
unfoldable pub section_item_at : Cursor → Read Item
section_item_at c = byte_at c >>= λ tag. section_by c.at tag.0 tag.1

-- ---- the first item behind the marks

-- how many cases there are, from 2 to 64
unfoldable pub case_count_at : Cursor → Read ℕ
case_count_at c = tiny_at c >>= λ n. if nat_lt n.0 2 then fault BadNumber c.at else
    (if nat_lt 64 n.0 then fault BadNumber c.at else Ok n)

-- the number of cases as an item
unfoldable pub cases_at : Cursor → Read Item
cases_at c = case_count_at c >>= λ n. Ok (item.Cases n.0, n.1)

-- what follows the marks, by its tag: the number of cases, or an item of the one section
unfoldable pub root_by : ℕ → ℕ → Cursor → Read Item
root_by start tag c = if tag == 5 then cases_at c else section_by start tag c

-- what follows the marks: its tag, from 1 to 5, and its fields
unfoldable pub root_item_at : Cursor → Read Item
root_item_at c = byte_at c >>= λ tag. root_by c.at tag.0 tag.1

-- ---- items

-- four bytes that are "FXPC"
unfoldable pub magic_at : Cursor → Read ⊤
magic_at c = number_at 4 c >>= λ n. if n.0 == 1180192835 then Ok (tt, n.1) else fault BadMagic c.at

-- a version that is known, which says how the numbers behind it are spelled
unfoldable pub version_at : Cursor → Read ⊤
version_at c = do
  n ← byte_at c
  if n.0 == 1 then Ok (tt, styled First n.1)
      else if n.0 == 2 then Ok (tt, styled (Second none_seen) n.1)
      else fault BadVersion c.at

-- what each certificate begins with: the four bytes, and the version
unfoldable pub preamble_at : Cursor → Read ⊤
preamble_at c = do
  magic ← magic_at c
  version ← version_at magic.1
  Ok (tt, version.1)

-- the first item: what each certificate begins with, and the number of nodes
unfoldable pub head_at : Cursor → Read Item
head_at c = do
  preamble ← preamble_at c
  n ← short_at preamble.1
  Ok (item.Nodes n.0, n.1)

-- a node as an item
unfoldable pub node_item_at : Cursor → Read Item
node_item_at c = node_at c >>= λ node. Ok (item.Node node.0, node.1)

-- the number of marks
unfoldable pub marks_at : Cursor → Read Item
marks_at c = short_at c >>= λ n. Ok (item.Marks n.0, n.1)

-- a mark: 0 for checked, 1 for assumed
unfoldable pub mark_at : Cursor → Read Item
mark_at c = do
  b ← byte_at c
  if b.0 == 0 then Ok (item.Mark Checked, b.1)
      else if b.0 == 1 then Ok (item.Mark Assumed, b.1)
      else fault BadTag c.at

-- whether there are bytes
abbrev pub is_some : List ℕ → Bool
is_some [] = false
is_some (b ∷ rest) = true

-- whether bytes follow
unfoldable pub more_at : Cursor → Read Bool
more_at c = Ok (is_some c.rest, c)

-- the end, where no bytes follow; else TrailingBytes
unfoldable pub end_item_at : Cursor → Read Item
end_item_at c = more_at c >>= λ more.
    if more.0 then fault TrailingBytes c.at else Ok (item.End, more.1)

-- a count that is n
unfoldable pub same_count_at : ℕ → Cursor → Read ⊤
same_count_at n c = long_at c >>= λ k. if k.0 == n then Ok (tt, k.1) else fault BadCount c.at

-- the numbers of sections and of steps, which are those that were seen
unfoldable pub counts_at : Seen → Cursor → Read ⊤
counts_at seen c = do
  sections ← same_count_at seen.sections c
  steps ← same_count_at seen.steps sections.1
  Ok (tt, steps.1)

-- how many sections and steps there are
unfoldable pub trailer_at : Seen → Cursor → Read ⊤
trailer_at seen c = byte_at c >>= λ tag.
    if tag.0 == 6 then counts_at seen tag.1 else fault BadTag c.at

-- what ends a certificate, by the style: nothing in version 1, the trailer in version 2
abbrev pub closed_by : Style → Cursor → Read Item
closed_by First c = end_item_at c
closed_by (Second seen) c = trailer_at seen c >>= λ trailer. end_item_at trailer.1

-- behind the last section, and in version 2 behind its trailer, nothing follows
unfoldable pub closed_at : Cursor → Read Item
closed_at c = closed_by c.style c

-- a node, where n more are due; behind the last the number of marks
unfoldable pub node_or_marks_at : ℕ → Cursor → Read Item
node_or_marks_at n c = if n == 0 then marks_at c else node_item_at c

-- a mark, where n more are due; behind the last the first item of the sections
unfoldable pub mark_or_section_at : ℕ → Cursor → Read Item
mark_or_section_at n c = if n == 0 then root_item_at c else mark_at c

-- an item of a section, where n sections are open; behind the last the end
unfoldable pub section_or_end_at : ℕ → Cursor → Read Item
section_or_end_at n c = if n == 0 then closed_at c else section_item_at c

-- the bytes of the item that is due
unfoldable pub entry_at : DueItem → Cursor → Read Item
entry_at Head c = head_at c
entry_at (Nodes n) c = node_or_marks_at n c
entry_at (Marks n) c = mark_or_section_at n c
entry_at (Sections n) c = section_or_end_at n c
entry_at Done c = Ok (item.End, c)

-- the item that is due, and where reading goes on: a step or a section more was seen behind it,
-- where it is one
unfoldable pub item_at : DueItem → Cursor → Read Item
item_at d c = entry_at d c >>= λ v. Ok (v.0, styled (style_after v.1.style v.0) v.1)
