-- What each item spells, in either version. In version 1 numbers have their high byte first, and
-- signed ones are two's complement.
use Rattle.std.specs.Prelude.{◌+◌, ◌-◌, ◌*◌, ◌/◌, ◌%◌, ◌^◌, if◌then◌else◌, nat_lt, zero, suc, ℕ, ℤ}
use Rattle.std.specs.Prelude.{pos, negsuc, List, [], ◌∷◌, ◌++◌, length, Option, Some, None}
use Rattle.std.specs.List.{flat_map}
use Rattle.std.specs.Int.{w16, w64, w128, to_be_bytes, cast_unsigned}
use Rattle.fx_model.specs.declared.Node.{Node}
use Rattle.fx_model.specs.declared.Node.TheVariants.{Var, Lit, Neg, Add, Sub, Mul, Div, Abs, Round}
use Rattle.fx_model.specs.declared.Direction.{Direction}
use Rattle.fx_model.specs.declared.Direction.TheVariants.{Zr, Aw, Dn, Up, Od, Ne, No, Nz, Na, Nd}
use Rattle.fx_model.specs.declared.Direction.TheVariants.{Nu}
use Rattle.dyadic.specs.declared.number.Dyadic.{Dyadic}
use Rattle.dyadic.specs.declared.number.End.{End}
use Rattle.dyadic.specs.declared.number.End.TheVariants.{Low, At, High}
use Rattle.interval.specs.declared.interval.Interval.{Interval}
use Rattle.facts.specs.declared.relative.RelativeError.{RelativeError}
use Rattle.facts.specs.declared.fact.Fact.{Fact}
use Rattle.facts.specs.declared.fact.Fact.TheVariants as fact
use Rattle.facts.specs.declared.hint.HintMark.{HintMark}
use Rattle.facts.specs.declared.hint.HintMark.TheVariants.{Checked, Assumed}
use Rattle.cert_bytes.specs.declared.item.StepRow.{StepRow}
use Rattle.cert_bytes.specs.declared.item.Item.{Item}
use Rattle.cert_bytes.specs.declared.item.Item.TheVariants as item
use Rattle.cert_bytes.specs.declared.style.Seen.{Seen}
use Rattle.cert_bytes.specs.declared.style.Style.{Style}
use Rattle.cert_bytes.specs.declared.style.Style.TheVariants.{First, Second}
use Rattle.cert_bytes.specs.Styles.{none_seen, style_after}

-- ---- version 2

-- A number below 128^k in base 128, in as many bytes as it needs: the low digits first, and 128 is
-- added to each but the last.
unfoldable pub digits : ℕ → ℕ → List ℕ
digits zero n = []
digits (suc k) n = if nat_lt n 128 then n ∷ [] else (n % 128 + 128) ∷ digits k (n / 128)

-- No field has a number of 128^19 or more.
abbrev pub based : ℕ → List ℕ
based n = digits 19 n

-- a signed number as one without a sign
abbrev pub zigzag : ℤ → ℕ
zigzag (pos n) = 2 * n
zigzag (negsuc n) = 2 * n + 1

-- How far behind p the next step stands, modulo 2^64; and back.
abbrev pub distance : ℕ → ℕ → ℕ
distance steps p = (steps + (2 ^ 64 - p)) % 2 ^ 64

-- up to 255
unfoldable pub tiny : ℕ → Style → List ℕ
tiny n First = n ∷ []
tiny n (Second seen) = based n

-- up to 65535
unfoldable pub short : ℕ → Style → List ℕ
short n First = to_be_bytes w16 n
short n (Second seen) = based n

-- the number of a step
unfoldable pub reference : ℕ → Style → List ℕ
reference n First = to_be_bytes w64 n
reference n (Second seen) = based (distance seen.steps n)

-- a signed number that has two bytes in version 1
unfoldable pub signed_short : ℤ → Style → List ℕ
signed_short z First = to_be_bytes w16 (cast_unsigned w16 z)
signed_short z (Second seen) = based (zigzag z)

-- a signed number that has eight bytes in version 1
unfoldable pub signed_long : ℤ → Style → List ℕ
signed_long z First = to_be_bytes w64 (cast_unsigned w64 z)
signed_long z (Second seen) = based (zigzag z)

-- the number of a literal
unfoldable pub wide : ℕ → Style → List ℕ
wide n First = to_be_bytes w128 n
wide n (Second seen) = based n

-- references, one after the other
abbrev pub references : List ℕ → Style → List ℕ
references ns style = flat_map (λ n. reference n style) ns

-- how many there are, and each
abbrev pub counted : List ℕ → Style → List ℕ
counted ns style = short (length ns) style ++ references ns style

-- mantissa and exponent, in the one form in which a number of the grid is kept
abbrev pub point : Dyadic → Style → List ℕ
point d style = signed_long d.mantissa style ++ signed_short d.exponent style

-- points, one after the other
abbrev pub points : List Dyadic → Style → List ℕ
points ds style = flat_map (λ d. point d style) ds

-- an end of an interval: its kind, and the point where it is finite
abbrev pub end : End → Style → List ℕ
end (At d) style = 0 ∷ point d style
end Low style = 1 ∷ []
end High style = 2 ∷ []

-- an interval: its lower end, and its upper one
abbrev pub interval : Interval → Style → List ℕ
interval i style = end i.lo style ++ end i.hi style

-- an interval of relative errors, or that both are 0
abbrev pub error : Option RelativeError → Style → List ℕ
error (Some e) style = 0 ∷ interval e.interval style
error None style = 1 ∷ []

-- a fact: its kind, its expressions, and what is known of them
abbrev pub fact_bytes : Fact → Style → List ℕ
fact_bytes (fact.Bnd x i) style = 1 ∷ (short x.0 style ++ interval i style)
fact_bytes (fact.Abs x s) style = 2 ∷ (short x.0 style ++ interval s.interval style)
fact_bytes (fact.Rel x y e) style = 3 ∷ ((short x.0 style ++ short y.0 style) ++ error e style)
fact_bytes (fact.Fix x k) style = 4 ∷ (short x.0 style ++ signed_short k.exponent style)
fact_bytes (fact.Nzr x) style = 5 ∷ short x.0 style
fact_bytes fact.Void style = 6 ∷ []

-- the byte of a rounding direction
abbrev pub direction_byte : Direction → ℕ
direction_byte Zr = 0
direction_byte Aw = 1
direction_byte Dn = 2
direction_byte Up = 3
direction_byte Od = 4
direction_byte Ne = 5
direction_byte No = 6
direction_byte Nz = 7
direction_byte Na = 8
direction_byte Nd = 9
direction_byte Nu = 10

-- an expression: its kind, and its parts
abbrev pub node_bytes : Node → Style → List ℕ
node_bytes (Var n) style = 0 ∷ short n style
node_bytes (Lit l) style = 1 ∷
    (wide l.num style ++ (signed_short l.two style ++ signed_short l.ten style))
node_bytes (Neg x) style = 2 ∷ short x.0 style
node_bytes (Add x y) style = 3 ∷ (short x.0 style ++ short y.0 style)
node_bytes (Sub x y) style = 4 ∷ (short x.0 style ++ short y.0 style)
node_bytes (Mul x y) style = 5 ∷ (short x.0 style ++ short y.0 style)
node_bytes (Div x y) style = 6 ∷ (short x.0 style ++ short y.0 style)
node_bytes (Abs x) style = 7 ∷ short x.0 style
node_bytes (Round r x) style =
    8 ∷ direction_byte r.dir ∷ (signed_short r.lsb style ++ short x.0 style)

-- the byte of a mark
abbrev pub mark_byte : HintMark → ℕ
mark_byte Checked = 0
mark_byte Assumed = 1

-- a flag, and behind a 1 the step
abbrev pub optional : Option ℕ → Style → List ℕ
optional None style = 0 ∷ []
optional (Some n) style = 1 ∷ reference n style

-- what a step claims: its rule, the number of what the rule is taken of, and the fact
abbrev pub claim_bytes : StepRow → Style → List ℕ
claim_bytes s style = 1 ∷ s.rule ∷ (short s.arg style ++ fact_bytes s.fact style)

-- what a step rests on: the step that it meets, and its premises
abbrev pub cited_bytes : StepRow → Style → List ℕ
cited_bytes s style = optional s.with style ++ counted s.premises style

-- a step: what it claims, and what it rests on
abbrev pub step_bytes : StepRow → Style → List ℕ
step_bytes s style = claim_bytes s style ++ cited_bytes s style

-- the version's number
abbrev pub version_byte : Style → ℕ
version_byte First = 1
version_byte (Second seen) = 2

-- "FXPC", and the version
abbrev pub head : Style → List ℕ
head style = 70 ∷ 88 ∷ 80 ∷ 67 ∷ version_byte style ∷ []

-- nothing, or how many sections and steps there are
abbrev pub trailer : Style → List ℕ
trailer First = []
trailer (Second seen) = 6 ∷ (based seen.sections ++ based seen.steps)

-- What an item spells. The head of a certificate belongs to its first item, the number of nodes,
-- and the trailer to its end.
abbrev pub spelling : Item → Style → List ℕ
spelling (item.Nodes n) style = head style ++ short n style
spelling (item.Node n) style = node_bytes n style
spelling (item.Marks n) style = short n style
spelling (item.Mark m) style = mark_byte m ∷ []
spelling (item.Cases n) style = 5 ∷ tiny n style
spelling (item.Step s) style = step_bytes s style
spelling (item.Cut x ps) style =
    2 ∷ (short x.0 style ++ (tiny (length ps) style ++ points ps style))
spelling (item.Leaf refs) style = 3 ∷ counted refs style
spelling (item.Dead r) style = 4 ∷ reference r style
spelling item.End style = trailer style

-- what items spell, one after the other
abbrev pub spelled_from : Style → List Item → List ℕ
spelled_from style [] = []
spelled_from style (i ∷ items) = spelling i style ++ spelled_from (style_after style i) items

-- ---- items in version 2

-- what an item spells where this stood before it
abbrev pub spelling_of : Seen → Item → List ℕ
spelling_of seen i = spelling i (Second seen)

-- what items spell there, one behind the other
abbrev pub spelled_behind : Seen → List Item → List ℕ
spelled_behind seen items = spelled_from (Second seen) items

-- what a certificate's first items spell
abbrev pub certificate_of : List Item → List ℕ
certificate_of items = spelled_behind none_seen items
