-- Where an expression has a value, it is the quotient of the values of its two polynomials, and the
-- lower one isn't zero.
use borrow.Author.Differences.{up, down}
use Rattle.std.specs.Prelude.{◌≡◌, ℕ, ℤ, pos, negsuc, ◌+ℤ◌, ◌≤ℤ◌, ◌+◌, ◌*◌, ◌^◌, ◌/◌, ◌%◌, ◌<◌, ◌≤◌}
use Rattle.std.specs.Prelude.{◌==◌, ◌&&◌, Bool, true, false, if◌then◌else◌, Option, Some, None}
use Rattle.std.specs.Prelude.{List, slice_index_or, length, unwrap_or, refl}
use Rattle.std.proofs.Common.{arith, sym, ap, ◌∙◌, zero, suc, subst}
use Rattle.std.proofs.lemmas.Bool.{eqb-true}
use Rattle.std.proofs.lemmas.Int.{ints}
use Rattle.std.proofs.lemmas.Nat.{div-add-mod'}
use Rattle.std.proofs.Math.Nat.{mul-pos}
use Rattle.fx_model.specs.Fraction.{Fraction, ◌+ℚ◌, ◌-ℚ◌, ◌*ℚ◌, ◌/ℚ◌, inverse_ℚ, neg_ℚ, zero_ℚ}
use Rattle.fx_model.specs.Fraction.{is_zero_ℚ, ◌≤ℚ◌, le_refl, mul_comm, mul_assoc, neg-mul}
use Rattle.fx_model.specs.Fraction.{mul-inverse}
use Rattle.fx_model.proofs.Fraction.{is_zero_not, mul-one, middle_products}
use Rattle.fx_model.specs.Powers.{whole, two_to, whole-mul, whole-le_out, zero-whole, one-whole}
use Rattle.fx_model.specs.Powers.{two_to-add, two_to-pos}
use Rattle.fx_model.specs.Expression.{Assignment, ten_to, literal_value, lift₁, lift₂, quotient}
use Rattle.fx_model.specs.Expression.{node_value, value, ChildrenBelow, IsOrdered}
use Rattle.fx_model.proofs.Expression.{value_step}
use Rattle.fx_model.specs.declared.Literal.{Literal}
use Rattle.fx_model.specs.declared.ExprId.{ExprId}
use Rattle.fx_model.specs.declared.Node.{Node}
use Rattle.fx_model.specs.declared.Node.TheVariants.{Var, Lit, Neg, Add, Sub, Mul, Div, Abs, Round}
use Rattle.literal.proofs.Tens.{pow_positive}
use Rattle.poly_normal.specs.Polynomial as polynomial
use Rattle.poly_normal.specs.Form.{Form, atom_form, literal_form, literal_top, literal_bottom}
use Rattle.poly_normal.specs.Form.{literal_divisor, common_divisor_to, negation_form, sum_form}
use Rattle.poly_normal.specs.Form.{difference_form, product_form, quotient_form, node_form, form}
use Rattle.poly_normal.specs.Mark.{AreEqual, HaveEqualValues}
use Rattle.poly_normal.proofs.Fractions.{product_not_zero, cancel, sum_over, product_over}
use Rattle.poly_normal.proofs.Fractions.{quotient_over, same_from_cross}
use Rattle.poly_normal.proofs.Values.{polynomial_value, value-atom, value-constant, value-append}
use Rattle.poly_normal.proofs.Values.{value-negation, value-product}
use Rattle.poly_normal.proofs.Likes.{value-equal}
use Rattle.poly_normal.proofs.Steps.{form_step}

-- r is the quotient of the values of the two polynomials
pub record IsQuotient (v : ℕ → Fraction) (r : Fraction) (f : Form) : Type 0 where
  pub divides : ¬ (polynomial_value v f.bottom.polynomial ≡ zero_ℚ)
  pub product : r *ℚ polynomial_value v f.bottom.polynomial ≡ polynomial_value v f.top.polynomial

-- a whole number above zero isn't zero
whole_not_zero : (n : ℕ) → 0 < n → ¬ (whole (pos n) ≡ zero_ℚ)
whole_not_zero n h e = let below : pos n ≤ℤ pos 0 = whole-le_out (pos n)
    (pos 0) (subst (λ u. whole (pos n) ≤ℚ u) (e ∙ zero-whole) (le_refl (whole (pos n)))) in
    absurd (omega (arith, ints))

whole-product : (m n : ℕ) → whole (pos (m * n)) ≡ whole (pos m) *ℚ whole (pos n)
whole-product m n = whole-mul (pos m) (pos n)

-- ---- literals
two_to-down : (t : ℤ) → two_to t *ℚ whole (pos (2 ^ down t)) ≡ whole (pos (2 ^ up t))
two_to-down t = let lifted : t +ℤ pos (down t) ≡ pos (up t) = omega (arith, ints) in
    ap (λ u. two_to t *ℚ u) (sym (two_to-pos (down t))) ∙ sym (two_to-add t (pos (down t)))
    ∙ ap two_to lifted ∙ two_to-pos (up t)

ten_to-down : (t : ℤ) → ten_to t *ℚ whole (pos (10 ^ down t)) ≡ whole (pos (10 ^ up t))
ten_to-down (pos k) =
    ap (λ u. whole (pos (10 ^ k)) *ℚ u) (sym one-whole) ∙ mul-one (whole (pos (10 ^ k)))
ten_to-down (negsuc k) = let next : suc k ≡ k + 1 = omega arith in
    ap (λ j. inverse_ℚ (whole (pos (10 ^ (k + 1)))) *ℚ whole (pos (10 ^ j))) next
    ∙ mul_comm (inverse_ℚ (whole (pos (10 ^ (k + 1))))) (whole (pos (10 ^ (k + 1))))
    ∙ mul-inverse (whole (pos (10 ^ (k + 1))))
    (whole_not_zero (10 ^ (k + 1)) (pow_positive 10 (k + 1) (omega arith))) ∙ one-whole

literal_value-whole : (l : Literal)
    → literal_value l *ℚ whole (pos (literal_bottom l)) ≡ whole (pos (literal_top l))
literal_value-whole l =
    ap (λ u. literal_value l *ℚ u) (whole-product (2 ^ down l.two) (10 ^ down l.ten))
    ∙ middle_products (whole (pos l.num) *ℚ two_to l.two) (ten_to l.ten)
    (whole (pos (2 ^ down l.two))) (whole (pos (10 ^ down l.ten)))
    ∙ ap (λ u. u *ℚ (ten_to l.ten *ℚ whole (pos (10 ^ down l.ten))))
    (mul_assoc (whole (pos l.num)) (two_to l.two) (whole (pos (2 ^ down l.two))) ∙ ap
    (λ u. whole (pos l.num) *ℚ u) (two_to-down l.two) ∙ sym (whole-product l.num (2 ^ up l.two)))
    ∙ ap (λ u. whole (pos (l.num * 2 ^ up l.two)) *ℚ u) (ten_to-down l.ten)
    ∙ sym (whole-product (l.num * 2 ^ up l.two) (10 ^ up l.ten))

-- What is found divides both.
pub record IsDivisor (g a b : ℕ) : Type 0 where
  pub positive : 0 < g
  pub left : a % g ≡ 0
  pub right : b % g ≡ 0

pub divides_both : (n a b : ℕ) → IsDivisor (common_divisor_to n a b) a b
unfolding common_divisor_to
divides_both zero a b = record { positive = omega arith; left = omega arith; right = omega arith }
divides_both (suc n) a b = by (a % suc n == 0) (b % suc n == 0) refl refl (divides_both n a b)
  where
    by : (c d : Bool) → (a % suc n == 0) ≡ c
        → (b % suc n == 0) ≡ d → IsDivisor (common_divisor_to n a b) a b
        → IsDivisor (if c && d then suc n else common_divisor_to n a b) a b
    by true true e f less = record {
      positive = omega arith;
      left = eqb-true (a % suc n) 0 e;
      right = eqb-true (b % suc n) 0 f;
    }
    by true false e f less = less
    by false d e f less = less

pub whole_quotient : (a g : ℕ) → a % g ≡ 0 → (a / g) * g ≡ a
whole_quotient a g e = let split = div-add-mod' a g in omega arith

literal_bottom-positive : (l : Literal) → 0 < literal_bottom l
literal_bottom-positive l =
    mul-pos (pow_positive 2 (down l.two) (omega arith)) (pow_positive 10 (down l.ten) (omega arith))

reduced : (r : Fraction) (top bottom g : ℕ) → IsDivisor g top bottom → 0 < bottom
    → r *ℚ whole (pos bottom) ≡ whole (pos top) → (¬ (whole (pos (bottom / g)) ≡ zero_ℚ))
    × (r *ℚ whole (pos (bottom / g)) ≡ whole (pos (top / g)))
reduced r top bottom g d h e = (
  whole_not_zero (bottom / g) (not_zero (bottom / g) g bottom (whole_quotient bottom g d.right) h),
  cancel (r *ℚ whole (pos (bottom / g))) (whole (pos (top / g))) (whole (pos g))
      (whole_not_zero g d.positive)
      (mul_assoc r (whole (pos (bottom / g))) (whole (pos g)) ∙ ap (λ u. r *ℚ u) (sym
      (whole-product (bottom / g) g) ∙ ap (λ n. whole (pos n)) (whole_quotient bottom g d.right))
      ∙ e ∙ ap (λ n. whole (pos n)) (sym (whole_quotient top g d.left))
      ∙ whole-product (top / g) g),
)
  where
    not_zero : (q g b : ℕ) → q * g ≡ b → 0 < b → 0 < q
    not_zero zero g b e h = absurd (omega arith)
    not_zero (suc q) g b e h = omega arith

module _ (v : ℕ → Fraction) where
  literal_quotient : (l : Literal) → IsQuotient v (literal_value l) (literal_form l)
  literal_quotient l =
      let r = reduced (literal_value l) (literal_top l) (literal_bottom l)
      (literal_divisor l) (divides_both (literal_bottom l) (literal_top l) (literal_bottom l))
      (literal_bottom-positive l) (literal_value-whole l) in
      record {
        divides = subst (λ u. ¬ (u ≡ zero_ℚ))
            (sym (value-constant v (pos (literal_bottom l / literal_divisor l)))) r.0;
        product = ap (λ u. literal_value l *ℚ u)
            (value-constant v (pos (literal_bottom l / literal_divisor l))) ∙ r.1
            ∙ sym (value-constant v (pos (literal_top l / literal_divisor l)));
      }

  atom_quotient : (i : ℕ) (r : Fraction) → v i ≡ r → IsQuotient v r (atom_form i)
  atom_quotient i r e = record {
    divides = subst (λ u. ¬ (u ≡ zero_ℚ)) (sym (value-constant v (pos 1)))
        (whole_not_zero 1 (omega arith));
    product = ap (λ u. r *ℚ u) (value-constant v (pos 1) ∙ sym one-whole) ∙ mul-one r
        ∙ sym e ∙ sym (value-atom v i);
  }

  negation_quotient : (r : Fraction) (f : Form) → IsQuotient v r f
      → IsQuotient v (neg_ℚ r) (negation_form f)
  negation_quotient r f q = record {
    divides = q.divides;
    product = neg-mul r (polynomial_value v f.bottom.polynomial) ∙ ap neg_ℚ q.product
        ∙ sym (value-negation v f.top.polynomial);
  }

  both_divide : (r s : Fraction) (f g : Form) → IsQuotient v r f → IsQuotient v s g
      → ¬ (polynomial_value v (polynomial.product f.bottom.polynomial g.bottom.polynomial) ≡ zero_ℚ)
  both_divide r s f g p q =
      subst (λ u. ¬ (u ≡ zero_ℚ)) (sym (value-product v f.bottom.polynomial g.bottom.polynomial))
      (product_not_zero _ _ p.divides q.divides)

  sum_quotient : (r s : Fraction) (f g : Form) → IsQuotient v r f → IsQuotient v s g
      → IsQuotient v (r +ℚ s) (sum_form f g)
  sum_quotient r s f g p q = record {
    divides = both_divide r s f g p q;
    product = ap (λ u. (r +ℚ s) *ℚ u) (value-product v f.bottom.polynomial g.bottom.polynomial)
        ∙ sum_over r s _ _ _ _ p.product q.product
        ∙ sym (value-append v (polynomial.product f.top.polynomial g.bottom.polynomial)
        (polynomial.product g.top.polynomial f.bottom.polynomial)
        ∙ ap (λ u. u +ℚ polynomial_value v (polynomial.product g.top.polynomial
        f.bottom.polynomial)) (value-product v f.top.polynomial g.bottom.polynomial)
        ∙ ap (λ u. (polynomial_value v f.top.polynomial *ℚ polynomial_value v g.bottom.polynomial)
        +ℚ u) (value-product v g.top.polynomial f.bottom.polynomial));
  }

  difference_quotient : (r s : Fraction) (f g : Form) → IsQuotient v r f → IsQuotient v s g
      → IsQuotient v (r -ℚ s) (difference_form f g)
  difference_quotient r s f g p q =
      let n = negation_quotient s g q in
      record {
        divides = both_divide r s f g p q;
        product = ap (λ u. (r -ℚ s) *ℚ u) (value-product v f.bottom.polynomial g.bottom.polynomial)
            ∙ sum_over r (neg_ℚ s) _ _ _ _ p.product n.product
            ∙ sym (value-append v (polynomial.product f.top.polynomial g.bottom.polynomial)
            (polynomial.negation (polynomial.product g.top.polynomial f.bottom.polynomial))
            ∙ ap (λ u. u +ℚ polynomial_value v
            (polynomial.negation (polynomial.product g.top.polynomial f.bottom.polynomial)))
            (value-product v f.top.polynomial g.bottom.polynomial)
            ∙ ap (λ u. (polynomial_value v f.top.polynomial
            *ℚ polynomial_value v g.bottom.polynomial) +ℚ u)
            (value-negation v (polynomial.product g.top.polynomial f.bottom.polynomial)
            ∙ ap neg_ℚ (value-product v g.top.polynomial f.bottom.polynomial)
            ∙ sym (neg-mul (polynomial_value v g.top.polynomial)
            (polynomial_value v f.bottom.polynomial)) ∙ ap (λ u. u
            *ℚ polynomial_value v f.bottom.polynomial) (sym (value-negation v g.top.polynomial))));
      }

  product_quotient : (r s : Fraction) (f g : Form) → IsQuotient v r f → IsQuotient v s g
      → IsQuotient v (r *ℚ s) (product_form f g)
  product_quotient r s f g p q = record {
    divides = both_divide r s f g p q;
    product = ap (λ u. (r *ℚ s) *ℚ u) (value-product v f.bottom.polynomial g.bottom.polynomial)
        ∙ product_over r s _ _ _ _ p.product q.product
        ∙ sym (value-product v f.top.polynomial g.top.polynomial);
  }

  quotient_quotient : (r s : Fraction) (f g : Form) → ¬ (s ≡ zero_ℚ) → IsQuotient v r f
      → IsQuotient v s g → IsQuotient v (r /ℚ s) (quotient_form f g)
  quotient_quotient r s f g z p q = record {
    divides = subst (λ u. ¬ (u ≡ zero_ℚ))
        (sym (value-product v f.bottom.polynomial g.top.polynomial)) (product_not_zero _ _ p.divides
        (subst (λ u. ¬ (u ≡ zero_ℚ)) q.product (product_not_zero _ _ z q.divides)));
    product = ap (λ u. (r /ℚ s) *ℚ u) (value-product v f.bottom.polynomial g.top.polynomial)
        ∙ quotient_over r s _ _ _ _ z p.product q.product
        ∙ sym (value-product v f.top.polynomial g.bottom.polynomial);
  }

-- ---- what a result with a value was made of
pub record Made₂ (f : Fraction → Fraction → Fraction) (u w : Option Fraction)
    (r : Fraction) : Type 0 where
  pub x : Fraction
  pub y : Fraction
  pub left : u ≡ Some x
  pub right : w ≡ Some y
  pub value : f x y ≡ r

made₁ : (f : Fraction → Fraction) (u : Option Fraction) (r : Fraction) → lift₁ f u ≡ Some r
    → (x : Fraction) × (u ≡ Some x) × (f x ≡ r)
made₁ f None r h = absurd (let k : None ≡ Some r = h in cc)
made₁ f (Some x) r h = (x, refl, let k : Some (f x) ≡ Some r = h in cc)

made₂ : (f : Fraction → Fraction → Fraction) (u w : Option Fraction) (r : Fraction)
    → lift₂ f u w ≡ Some r → Made₂ f u w r
made₂ f None w r h = absurd (let k : None ≡ Some r = h in cc)
made₂ f (Some x) None r h = absurd (let k : None ≡ Some r = h in cc)
made₂ f (Some x) (Some y) r h = record {
  x = x;
  y = y;
  left = refl;
  right = refl;
  value = let k : Some (f x y) ≡ Some r = h in cc;
}

made_quotient : (u w : Option Fraction) (r : Fraction) → quotient u w ≡ Some r
    → (m : Made₂ ◌/ℚ◌ u w r) × (¬ (m.y ≡ zero_ℚ))
made_quotient u None r h = absurd (let k : None ≡ Some r = h in cc)
made_quotient u (Some y) r h = by (is_zero_ℚ y) refl h
  where
    by : (b : Bool) → is_zero_ℚ y ≡ b → (if b then None else lift₁ (λ x. x /ℚ y) u) ≡ Some r
        → (m : Made₂ ◌/ℚ◌ u (Some y) r) × (¬ (m.y ≡ zero_ℚ))
    by true e k = absurd (let k : None ≡ Some r = k in cc)
    by false e k = let m = made₁ (λ x. x /ℚ y) u r k in
        (record { x = m.0; y = y; left = m.1; right = refl; value = m.2 }, is_zero_not y e)

-- ---- one node, from its parts
node_quotient : (a : Assignment) (v : ℕ → Fraction) (w : ExprId → Option Fraction)
    (f : ExprId → Form) (i : ℕ) (n : Node) → ChildrenBelow i n
    → ((z : ExprId) → z.0 < i → (s : Fraction) → w z ≡ Some s → IsQuotient v s (f z))
    → (r : Fraction) → v i ≡ r → node_value a w n ≡ Some r → IsQuotient v r (node_form i f n)
node_quotient a v w f i (Var n) b parts r e h = atom_quotient v i r e
node_quotient a v w f i (Lit l) b parts r e h =
    let same : literal_value l ≡ r = (let k : Some (literal_value l) ≡ Some r = h in cc) in
    subst (λ u. IsQuotient v u (literal_form l)) same (literal_quotient v l)
node_quotient a v w f i (Neg x) b parts r e h = let m = made₁ neg_ℚ (w x) r h in
    subst (λ u. IsQuotient v u (negation_form (f x))) m.2
    (negation_quotient v m.0 (f x) (parts x b m.0 m.1))
node_quotient a v w f i (Add x y) b parts r e h = let m = made₂ ◌+ℚ◌ (w x) (w y) r h in
    subst (λ u. IsQuotient v u (sum_form (f x) (f y))) m.value
    (sum_quotient v m.x m.y (f x) (f y) (parts x b.0 m.x m.left) (parts y b.1 m.y m.right))
node_quotient a v w f i (Sub x y) b parts r e h = let m = made₂ ◌-ℚ◌ (w x) (w y) r h in
    subst (λ u. IsQuotient v u (difference_form (f x) (f y))) m.value
    (difference_quotient v m.x m.y (f x) (f y) (parts x b.0 m.x m.left) (parts y b.1 m.y m.right))
node_quotient a v w f i (Mul x y) b parts r e h = let m = made₂ ◌*ℚ◌ (w x) (w y) r h in
    subst (λ u. IsQuotient v u (product_form (f x) (f y))) m.value
    (product_quotient v m.x m.y (f x) (f y) (parts x b.0 m.x m.left) (parts y b.1 m.y m.right))
node_quotient a v w f i (Div x y) b parts r e h =
    let m = made_quotient (w x) (w y) r h in let k = m.0 in
    subst (λ u. IsQuotient v u (quotient_form (f x) (f y))) k.value
    (quotient_quotient v k.x k.y (f x) (f y) m.1 (parts x b.0 k.x k.left) (parts y b.1 k.y k.right))
node_quotient a v w f i (Abs x) b parts r e h = atom_quotient v i r e
node_quotient a v w f i (Round d x) b parts r e h = atom_quotient v i r e

-- ---- the whole list: an atom has whatever value it has
abbrev atom_values : List Node → Assignment → ℕ → Fraction
atom_values nodes a i = unwrap_or (value nodes a (record { 0 = i })) zero_ℚ

quotient_of : (nodes : List Node) (a : Assignment) → IsOrdered nodes → (k : ℕ) (x : ExprId)
    → x.0 < k → x.0 < length nodes → (r : Fraction) → value nodes a x ≡ Some r
    → IsQuotient (atom_values nodes a) r (form nodes x)
quotient_of nodes a o zero x below inside r h = absurd (omega arith)
quotient_of nodes a o (suc k) x below inside r h =
    let here : value nodes a x ≡ node_value a (value nodes a) (slice_index_or nodes x.0 (Var 0)) =
    value_step nodes a x (Var 0) o inside in
    subst (IsQuotient (atom_values nodes a) r) (sym (form_step nodes x (Var 0) o inside))
    (node_quotient a (atom_values nodes a) (value nodes a)
    (form nodes) x.0 (slice_index_or nodes x.0 (Var 0)) (o x.0 (Var 0) inside)
    (λ z l s e. quotient_of nodes a o k z (omega arith) (omega arith) s e) r
    (ap (λ u. unwrap_or u zero_ℚ) h) (sym here ∙ h))

-- Equal cross products give equal values.
pub same_values : (nodes : List Node) (a b : ExprId) → IsOrdered nodes → a.0 < length nodes
    → b.0 < length nodes → AreEqual nodes a b → HaveEqualValues nodes a b
same_values nodes a b o h k e v r s p q =
    let atoms : ℕ → Fraction = atom_values nodes v in
    let left : IsQuotient atoms r (form nodes a) = quotient_of nodes v o (length nodes) a h h r p in
    let right : IsQuotient atoms s (form nodes b) =
    quotient_of nodes v o (length nodes) b k k s q in
    same_from_cross r s _ _ _ _ left.divides right.divides left.product right.product
    (sym (value-product atoms (form nodes a).top.polynomial (form nodes b).bottom.polynomial)
    ∙ value-equal atoms _ _ e
    ∙ value-product atoms (form nodes b).top.polynomial (form nodes a).bottom.polynomial)
