-- An expression whose divisors have values other than 0 has a value.
use Rattle.std.specs.Prelude.{◌≡◌, ◌≢◌, ◌<◌, ℕ, zero, suc, Bool, true, false, if◌then◌else◌, Option}
use Rattle.std.specs.Prelude.{Some, None, List, map, slice_index_or, length, refl}
use Rattle.std.specs.Option.{IsSomeAnd}
use Rattle.std.specs.List.{AllByRecursion}
use Rattle.std.proofs.Common.{inl, inr, arith, ap, sym, ◌∙◌, subst}
use Rattle.std.proofs.lemmas.Option.{slice_get_within, slice_get-get_or, get_or_from_slice_get}
use Rattle.fx_model.specs.Fraction.{Fraction, ◌+ℚ◌, ◌-ℚ◌, ◌*ℚ◌, ◌/ℚ◌, neg_ℚ, abs_ℚ, zero_ℚ}
use Rattle.fx_model.specs.Fraction.{is_zero_ℚ, is_zero_out}
use Rattle.fx_model.specs.Rounded.{rounded}
use Rattle.fx_model.specs.Expression.{Assignment, ChildrenBelow, IsOrdered, node_value, value}
use Rattle.fx_model.specs.Expression.{lift₁, lift₂, quotient}
use Rattle.fx_model.specs.declared.ExprId.{ExprId}
use Rattle.fx_model.specs.declared.Node.{Node}
use Rattle.fx_model.specs.declared.Node.TheVariants.{Var, Lit, Neg, Add, Sub, Mul, Div, Abs, Round}
use Rattle.expr_dag.specs.Nodes.{IsAt}
use Rattle.expr_dag.proofs.Shapes.{node_at-value}
use Rattle.facts.specs.Rows.{IsMet}
use Rattle.facts.proofs.Rows.{row_by_values}
use Rattle.facts.proofs.Known.{some_out}
use Rattle.facts.proofs.CommonParts.{all_at}
use Rattle.script_hints.specs.Needs.{need_of}
use Rattle.script_hints.specs.Meets.{MetSidesAreEqual}
use Rattle.rewrite_hints.specs.Divisors.{Occurs, IsDivisor, IsMadeOf}
use Rattle.rewrite_hints.specs.Divisors.Occurs.{itself, inside}
use Rattle.rewrite_hints.specs.Rows.{RowsAreTrue, EqualSidesAreMet}

abbrev HasValue : Option Fraction → Type 0
HasValue o = (r : Fraction) × (o ≡ Some r)

lifted₁ : (f : Fraction → Fraction) (u : Option Fraction) → HasValue u → HasValue (lift₁ f u)
lifted₁ f u h = (f h.0, ap (lift₁ f) h.1)

lifted₂ : (f : Fraction → Fraction → Fraction) (u v : Option Fraction) → HasValue u → HasValue v
    → HasValue (lift₂ f u v)
lifted₂ f u v h k = (f h.0 k.0, (λ i. lift₂ f (h.1 i) (k.1 i)))

not_zero : (y : Fraction) → y ≢ zero_ℚ → (b : Bool) → is_zero_ℚ y ≡ b → b ≡ false
not_zero y ne true e = absurd (ne (is_zero_out y e))
not_zero y ne false e = refl

divided : (u v : Option Fraction) → HasValue u → IsSomeAnd v (λ y. y ≢ zero_ℚ)
    → HasValue (quotient u v)
divided u v h k =
    let w = some_out v (λ y. y ≢ zero_ℚ) k in (
      h.0 /ℚ w.0,
      (λ i. quotient (h.1 i) (w.1 i))
          ∙ ap (λ b. if b then None else Some (h.0 /ℚ w.0)) (not_zero w.0 w.2 (is_zero_ℚ w.0) refl),
    )

module _ (nodes : List Node) (o : IsOrdered nodes)
    (a : Assignment) (root : ExprId) (nonzero : (d : ExprId) → IsDivisor nodes root d
    → IsSomeAnd (value nodes a d) (λ y. y ≢ zero_ℚ)) where
  children : (x : ExprId) (n : Node) → IsAt nodes x n → ChildrenBelow x.0 n
  children x n e = subst (ChildrenBelow x.0) (get_or_from_slice_get nodes x.0 n n e)
      (o x.0 n (slice_get_within nodes x.0 n e))

  -- a node's value is made of those of its parts
  here : (y : ExprId) (n : Node) → IsAt nodes y n → HasValue (node_value a (value nodes a) n)
      → HasValue (value nodes a y)
  here y n e h = (h.0, node_at-value nodes a y n o e ∙ h.1)

  node_of : (x : ExprId) → x.0 < length nodes → IsAt nodes x (slice_index_or nodes x.0 (Var 0))
  node_of x l = slice_get-get_or nodes x.0 (Var 0) l

  -- where all that occurs before y has a value, a node that stands at y has one
  module _ (y : ExprId) (c : Occurs nodes root y) (before : (x : ExprId) → x.0 < y.0
      → Occurs nodes root x → HasValue (value nodes a x)) where
    part : (x : ExprId) (n : Node) → IsAt nodes y n → x.0 < y.0 → IsMadeOf n x
        → HasValue (value nodes a x)
    part x n e b m = before x b (inside y x n c e m)

    made : (n : Node) → IsAt nodes y n → HasValue (node_value a (value nodes a) n)
    made (Var m) e = (slice_index_or a m zero_ℚ, refl)
    made (Lit m) e = (_, refl)
    made (Neg x) e = lifted₁ neg_ℚ (value nodes a x) (part x (Neg x) e (children y (Neg x) e) refl)
    made (Add x z) e = let b = children y (Add x z) e in lifted₂ ◌+ℚ◌ (value nodes a x)
        (value nodes a z) (part x (Add x z) e b.0 (inl refl)) (part z (Add x z) e b.1 (inr refl))
    made (Sub x z) e = let b = children y (Sub x z) e in lifted₂ ◌-ℚ◌ (value nodes a x)
        (value nodes a z) (part x (Sub x z) e b.0 (inl refl)) (part z (Sub x z) e b.1 (inr refl))
    made (Mul x z) e = let b = children y (Mul x z) e in lifted₂ ◌*ℚ◌ (value nodes a x)
        (value nodes a z) (part x (Mul x z) e b.0 (inl refl)) (part z (Mul x z) e b.1 (inr refl))
    made (Div x z) e = let b = children y (Div x z) e in divided (value nodes a x) (value nodes a z)
        (part x (Div x z) e b.0 (inl refl)) (nonzero z (y, x, c, e))
    made (Abs x) e = lifted₁ abs_ℚ (value nodes a x) (part x (Abs x) e (children y (Abs x) e) refl)
    made (Round r x) e = lifted₁ (rounded r.dir r.lsb) (value nodes a x)
        (part x (Round r x) e (children y (Round r x) e) refl)

  valued : (k : ℕ) (y : ExprId) → y.0 < k → y.0 < length nodes → Occurs nodes root y
      → HasValue (value nodes a y)
  valued zero y l w c = absurd (omega arith)
  valued (suc k) y l w c =
      let n : Node = slice_index_or nodes y.0 (Var 0) in
      let at = node_of y w in
      here y n at (made y c (λ x b d. valued k x (omega arith) (omega arith) d) n at)

  pub root_valued : root.0 < length nodes → HasValue (value nodes a root)
  root_valued l = valued (suc root.0) root (omega arith) l itself

-- ---- rows
pub rows_are_true : MetSidesAreEqual → RowsAreTrue
rows_are_true enough nodes a h row o known r m = row_by_values nodes a row
    (λ n.
    let zero_free : (d : ExprId) → IsDivisor nodes h.left d
    → IsSomeAnd (value nodes a d) (λ y. y ≢ zero_ℚ) =
    (λ d i. (let at = ((r.divisors).exactly d).1 i in all_at
    (λ (e : ExprId). IsSomeAnd (value nodes a e) (λ y. y ≢ zero_ℚ)) row.divisors at.0 d n at.1)) in
    let left = root_valued nodes o a h.left zero_free known in
    (left.0, ap (value nodes a) r.left ∙ left.1))
    (λ needs u v p q.
    let all : AllByRecursion (IsMet nodes a) (map need_of h.constraints) =
    subst (AllByRecursion (IsMet nodes a)) r.needs needs in
    enough nodes a h m all u v (ap (value nodes a) (sym r.left) ∙ p)
    (ap (value nodes a) (sym r.right) ∙ q))

pub equal_sides_are_met : EqualSidesAreMet
equal_sides_are_met nodes a h e needs r s p q = e a r s p q
