-- Formats of nodes.
use Rattle.std.proofs.Common.{◌≡◌, ◌<◌, ◌^◌, ◌∷◌, ◌++◌, ◌==◌, if◌then◌else◌, pos, negsuc, ℕ, ℤ}
use Rattle.std.proofs.Common.{Bool, true, false, Option, Some, None, Ok, refl, sym, ap, ◌∙◌, arith}
use Rattle.std.proofs.Common.{lit<}
use Rattle.std.specs.Prelude.{⊤, not}
use Rattle.std.specs.Int.{w16}
use Rattle.std.specs.Int.RustNames.{FitsSigned, int_lt}
use Rattle.std.proofs.lemmas.Bool.{eqb-true}
use Rattle.std.proofs.lemmas.Int.{ints}
use Rattle.fx_model.specs.declared.ExprId.{ExprId}
use Rattle.fx_model.specs.declared.Literal.{Literal}
use Rattle.fx_model.specs.declared.Rounding.{Rounding}
use Rattle.fx_model.specs.declared.Direction.{Direction}
use Rattle.fx_model.specs.declared.Direction.TheVariants.{Zr, Aw, Dn, Up, Od, Ne, No, Nz, Na, Nd}
use Rattle.fx_model.specs.declared.Direction.TheVariants.{Nu}
use Rattle.fx_model.specs.declared.Node.{Node}
use Rattle.fx_model.specs.declared.Node.TheVariants as node
use Rattle.literal.specs.Spelling.{IsBetween}
use Rattle.literal.specs.Normal.{IsNormal}
use Rattle.literal.proofs.Limits.{bounded}
use Rattle.expr_dag.specs.Nodes.{IsInLimits}
use Rattle.cert_bytes.specs.declared.fault.CertKind.TheVariants.{BadNumber, BadTag}
use Rattle.cert_bytes.specs.Certificates.{IsShort, HasShortParts}
use Rattle.cert_bytes.specs.Numbers.{is_normal, at_least}
use Rattle.cert_bytes.specs.Reading.{Cursor, fault, tagged, direction_from, wide_at}
use Rattle.cert_bytes.specs.Reading.{direction_at, lsb_at, exponents_at, literal_at, rounding_at}
use Rattle.cert_bytes.specs.Reading.{round_at, one_at, two_at, var_at, lit_at, late_node_at}
use Rattle.cert_bytes.specs.Reading.{node_by, node_at}
use Rattle.cert_bytes.specs.Spelling.{short, signed_short, wide, direction_byte, node_bytes}
use Rattle.cert_bytes.proofs.Normal.{normal_in}
use Rattle.cert_bytes.proofs.NormalOut.{normal_out}
use Rattle.cert_bytes.proofs.Format.{plain, whole, Format, ok_parts, ends, made}
use Rattle.cert_bytes.proofs.Format.{made_of, tested, between, both, in_turn, byte, one, tags, way}
use Rattle.cert_bytes.proofs.Format.{no_way, Told, told}
use Rattle.cert_bytes.proofs.NumberFormats.{a_short, a_wide, a_signed_short, small_exponent}
use Rattle.cert_bytes.proofs.NumberFormats.{an_expr}

-- ---- literals

abbrev literal_of : ℕ → ℤ × ℤ → Literal
literal_of num e = record { num = num; two = e.0; ten = e.1 }

a_literal : Format literal_at (whole (λ l old. wide l.num old
    ++ (signed_short l.two old ++ signed_short l.ten old)) IsNormal)
unfolding literal_at
a_literal = in_turn wide_at exponents_at (λ at num e c. if is_normal (literal_of num e)
    then Ok (literal_of num e, c) else fault BadNumber at)
    (tested (both a_wide (both a_signed_short a_signed_short)) BadNumber
    (λ p. is_normal (literal_of p.0 p.1)) (λ p. literal_of p.0 p.1)
    (λ (l : Literal). (l.num, (l.two, l.ten))) (λ l. l) IsNormal
    (λ l n. (fits l n, normal_out l n, refl))
    (λ p i t. (literal_of p.0 p.1, refl, refl, normal_in (literal_of p.0 p.1) t)))
  where
    fits : (l : Literal) → IsNormal l
        → (l.num < 2 ^ 128) × (FitsSigned w16 l.two × FitsSigned w16 l.ten)
    fits l n =
        let b = bounded l n in
        let num = b.num in let two_low = b.two_low in let two_high = b.two_high in
        let ten_low = b.ten_low in let ten_high = b.ten_high in (
          omega (arith, num),
          (
            small_exponent l.two (omega (arith, ints)) (omega (arith, ints)),
            small_exponent l.ten (omega (arith, ints)) (omega (arith, ints)),
          ),
        )

-- ---- roundings

known : (d : Direction)
    → (direction_byte d < 256) × (direction_from (direction_byte d) ≡ Some d)
known Zr = (lit< tt, refl)
known Aw = (lit< tt, refl)
known Dn = (lit< tt, refl)
known Up = (lit< tt, refl)
known Od = (lit< tt, refl)
known Ne = (lit< tt, refl)
known No = (lit< tt, refl)
known Nz = (lit< tt, refl)
known Na = (lit< tt, refl)
known Nd = (lit< tt, refl)
known Nu = (lit< tt, refl)

-- the direction of k, or one of the rest
picked : (n k : ℕ) (d x : Direction) (rest : Option Direction) → direction_byte d ≡ k
    → (rest ≡ Some x → direction_byte x ≡ n) → (if n == k then Some d else rest) ≡ Some x
    → direction_byte x ≡ n
picked n k d x rest s others e = by (n == k) refl e
  where
    by : (t : Bool) → (n == k) ≡ t → (if t then Some d else rest) ≡ Some x
        → direction_byte x ≡ n
    by true t e = let q : d ≡ x = cc in sym (ap direction_byte q) ∙ s ∙ sym (eqb-true n k t)
    by false t e = others e

direction_is : (n : ℕ) (x : Direction) → direction_from n ≡ Some x → direction_byte x ≡ n
direction_is n x = picked n 0 Zr x _ refl (picked n 1 Aw x _ refl (picked n 2 Dn x _ refl
    (picked n 3 Up x _ refl (picked n 4 Od x _ refl (picked n 5 Ne x _ refl
    (picked n 6 No x _ refl (picked n 7 Nz x _ refl (picked n 8 Na x _ refl
    (picked n 9 Nd x _ refl (picked n 10 Nu x _ refl (λ e. cc)))))))))))

a_direction : Format direction_at (whole (λ d. one (direction_byte d)) (λ d. ⊤))
unfolding direction_at
a_direction = ends byte (λ at b c. tagged at (direction_from b) c) (record {
  fits = λ d i. (known d).0;
  makes = λ d i at c. ap (λ o. tagged at o c) (known d).1;
  only = λ b i at c next d e. let q = some (direction_from b) at c next d e in
      (q.1, d, direction_is b d q.0, refl, tt);
})
  where
    some : (o : Option Direction) (at : ℕ) (c next : Cursor) (d : Direction)
        → tagged at o c ≡ Ok (d, next) → (o ≡ Some d) × (c ≡ next)
    some None at c next d e = cc
    some (Some y) at c next d e = let q = ok_parts y d c next e in (ap (λ d. Some d) q.0, q.1)

an_lsb : Format lsb_at (whole signed_short (IsBetween (negsuc 511) (pos 512)))
unfolding lsb_at
an_lsb = between a_signed_short BadNumber (λ k. int_lt k (negsuc 511)) (λ k. int_lt (pos 512) k)
    (IsBetween (negsuc 511) (pos 512)) passes
    (λ k i l h. (at_least k (negsuc 511) (ap not l), at_least (pos 512) k (ap not h)))
  where
    passes : (k : ℤ) → IsBetween (negsuc 511) (pos 512) k → FitsSigned w16 k
        × (int_lt k (negsuc 511) ≡ false) × (int_lt (pos 512) k ≡ false)
    passes k b = let low = b.0 in let high = b.1 in (
      small_exponent k (omega (arith, ints, low)) (omega (arith, ints, high)),
      grind (arith, ints, low),
      grind (arith, ints, high),
    )

abbrev rounding_of : Direction → ℤ → Rounding
rounding_of d k = record { lsb = k; dir = d }

a_rounding : Format rounding_at (whole (λ r old. direction_byte r.dir ∷ signed_short r.lsb old)
    (λ r. ⊤ × IsBetween (negsuc 511) (pos 512) r.lsb))
unfolding rounding_at
a_rounding = in_turn direction_at lsb_at (λ at d k c. Ok (rounding_of d k, c))
    (made_of (both a_direction an_lsb) (λ p. rounding_of p.0 p.1) (λ r. (r.dir, r.lsb))
    (λ r. refl) (λ p. refl))

-- ---- nodes

an_op : (op : ExprId → ExprId → Node) → Format (two_at op)
    (plain (λ (p : ExprId × ExprId). op p.0 p.1)
    (λ p old. short p.0.0 old ++ short p.1.0 old) (λ p. IsShort p.0.0 × IsShort p.1.0))
unfolding two_at
an_op op = made (both an_expr an_expr) (λ p. op p.0 p.1)

pub a_node : Format node_at (whole node_bytes (λ n. IsInLimits n × HasShortParts n))
unfolding node_at node_by late_node_at var_at lit_at one_at round_at
a_node = tags node_by back (λ at tag.
    way 0 (made a_short node.Var) (λ n old. refl) (λ n i. (tt, i))
    (way 1 (made a_literal node.Lit) (λ l old. refl) (λ l i. (i, tt))
    (way 2 (made an_expr node.Neg) (λ x old. refl) (λ x i. (tt, i))
    (way 3 (an_op node.Add) (λ p old. refl) (λ p i. (tt, i))
    (way 4 (an_op node.Sub) (λ p old. refl) (λ p i. (tt, i))
    (way 5 (an_op node.Mul) (λ p old. refl) (λ p i. (tt, i))
    (way 6 (an_op node.Div) (λ p old. refl) (λ p i. (tt, i))
    (way 7 (made an_expr node.Abs) (λ x old. refl) (λ x i. (tt, i))
    (way 8 (made (both a_rounding an_expr) (λ p. node.Round p.0 p.1)) (λ p old. refl)
    (λ p i. (i.0.1, i.1)) (no_way tag BadTag at))))))))))
  where
    back : (n : Node) → IsInLimits n × HasShortParts n → Told node_by node_bytes n
    back (node.Var n) i = told node_by 0 (λ at. made a_short node.Var) n i.1
    back (node.Lit l) i = told node_by 1 (λ at. made a_literal node.Lit) l i.0
    back (node.Neg x) i = told node_by 2 (λ at. made an_expr node.Neg) x i.1
    back (node.Add x y) i = told node_by 3 (λ at. an_op node.Add) (x, y) i.1
    back (node.Sub x y) i = told node_by 4 (λ at. an_op node.Sub) (x, y) i.1
    back (node.Mul x y) i = told node_by 5 (λ at. an_op node.Mul) (x, y) i.1
    back (node.Div x y) i = told node_by 6 (λ at. an_op node.Div) (x, y) i.1
    back (node.Abs x) i = told node_by 7 (λ at. made an_expr node.Abs) x i.1
    back (node.Round r x) i = told node_by 8
        (λ at. made (both a_rounding an_expr) (λ p. node.Round p.0 p.1)) (r, x) ((tt, i.0), i.1)
