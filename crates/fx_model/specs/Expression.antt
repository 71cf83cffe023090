-- Expressions and their values.
pub mod Examples
use Rattle.std.specs.Prelude.{◌≡◌, ℕ, ℤ, pos, negsuc, ◌^◌, ◌+◌, ◌<◌, if◌then◌else◌, Option, Some}
use Rattle.std.specs.Prelude.{None, List, [], ◌∷◌, ◌++◌, slice_index_or, length, ⊤, refl}
use Rattle.std.proofs.Common.{zero, suc, ap, sym, ◌∙◌, arith, length-append}
use Rattle.std.proofs.lemmas.List.{get_or_append_left}
use Rattle.std.proofs.Math.Seq.{get_or-append_seam}
use Rattle.fx_model.specs.Fraction.{Fraction, ◌+ℚ◌, ◌-ℚ◌, ◌*ℚ◌, ◌/ℚ◌, inverse_ℚ, neg_ℚ, abs_ℚ}
use Rattle.fx_model.specs.Fraction.{is_zero_ℚ, zero_ℚ}
use Rattle.fx_model.specs.Powers.{whole, two_to}
use Rattle.fx_model.specs.Rounded.{rounded}
use Rattle.fx_model.specs.declared.Literal.{Literal}
use Rattle.fx_model.specs.declared.ExprId.{ExprId}
use Rattle.fx_model.specs.declared.Node.{Node}
use Rattle.fx_model.specs.declared.Node.TheVariants.{Var, Lit, Neg, Add, Sub, Mul, Div, Abs, Round}

-- A fraction for each variable.
abbrev pub Assignment : Type 0
Assignment = List Fraction

-- 10^k
abbrev pub ten_to : ℤ → Fraction
ten_to (pos k) = whole (pos (10 ^ k))
ten_to (negsuc k) = inverse_ℚ (whole (pos (10 ^ (k + 1))))

-- num * 2^two * 10^ten
abbrev pub literal_value : Literal → Fraction
literal_value l = (whole (pos l.num) *ℚ two_to l.two) *ℚ ten_to l.ten

-- A result of parts that may have no value has none where one of them has none.
abbrev pub lift₁ : (Fraction → Fraction) → Option Fraction → Option Fraction
lift₁ f None = None
lift₁ f (Some x) = Some (f x)

-- the result of two values; none where either is none
abbrev pub lift₂ : (Fraction → Fraction → Fraction) → Option Fraction
    → Option Fraction → Option Fraction
lift₂ f None y = None
lift₂ f (Some x) None = None
lift₂ f (Some x) (Some y) = Some (f x y)

-- A quotient by zero has no value.
abbrev pub quotient : Option Fraction → Option Fraction → Option Fraction
quotient x None = None
quotient x (Some y) = if is_zero_ℚ y then None else lift₁ (λ x. x /ℚ y) x

-- The value of a node, from the values of the nodes before it.
abbrev pub node_value : Assignment → (ExprId → Option Fraction) → Node → Option Fraction
node_value a v (Var n) = Some (slice_index_or a n zero_ℚ)
node_value a v (Lit l) = Some (literal_value l)
node_value a v (Neg x) = lift₁ neg_ℚ (v x)
node_value a v (Add x y) = lift₂ ◌+ℚ◌ (v x) (v y)
node_value a v (Sub x y) = lift₂ ◌-ℚ◌ (v x) (v y)
node_value a v (Mul x y) = lift₂ ◌*ℚ◌ (v x) (v y)
node_value a v (Div x y) = quotient (v x) (v y)
node_value a v (Abs x) = lift₁ abs_ℚ (v x)
node_value a v (Round r x) = lift₁ (rounded r.dir r.lsb) (v x)

-- The values of a list of nodes, one after another, with those of `done` before them.
pub values_after : Assignment → List (Option Fraction) → List Node → List (Option Fraction)
values_after a done [] = done
values_after a done (n ∷ ns) =
    values_after a (done ++ (node_value a (λ x. slice_index_or done x.0 None) n ∷ [])) ns

-- The value of expression x of a list of nodes, or none. A number outside the list has none.
abbrev pub value : List Node → Assignment → ExprId → Option Fraction
value nodes a x = slice_index_or (values_after a [] nodes) x.0 None

-- ---- one step of the value
-- the nodes that a node is made of come before it
abbrev pub ChildrenBelow : ℕ → Node → Type 0
ChildrenBelow k (Var n) = ⊤
ChildrenBelow k (Lit l) = ⊤
ChildrenBelow k (Neg x) = x.0 < k
ChildrenBelow k (Add x y) = (x.0 < k) × (y.0 < k)
ChildrenBelow k (Sub x y) = (x.0 < k) × (y.0 < k)
ChildrenBelow k (Mul x y) = (x.0 < k) × (y.0 < k)
ChildrenBelow k (Div x y) = (x.0 < k) × (y.0 < k)
ChildrenBelow k (Abs x) = x.0 < k
ChildrenBelow k (Round r x) = x.0 < k

-- every node of the list is made of earlier ones
abbrev pub IsOrdered : List Node → Type 0
IsOrdered nodes = (i : ℕ) (n : Node) → i < length nodes → ChildrenBelow i (slice_index_or nodes i n)

-- a node's value is made of the values of what it is made of
pub same_children : (a : Assignment) (v w : ExprId → Option Fraction) (k : ℕ) (n : Node)
    → ChildrenBelow k n → ((x : ExprId) → x.0 < k → v x ≡ w x) → node_value a v n ≡ node_value a w n
same_children a v w k (Var n) h e = refl
same_children a v w k (Lit l) h e = refl
same_children a v w k (Neg x) h e = ap (lift₁ neg_ℚ) (e x h)
same_children a v w k (Add x y) h e =
    ap (λ u. lift₂ ◌+ℚ◌ u (v y)) (e x h.0) ∙ ap (lift₂ ◌+ℚ◌ (w x)) (e y h.1)
same_children a v w k (Sub x y) h e =
    ap (λ u. lift₂ ◌-ℚ◌ u (v y)) (e x h.0) ∙ ap (lift₂ ◌-ℚ◌ (w x)) (e y h.1)
same_children a v w k (Mul x y) h e =
    ap (λ u. lift₂ ◌*ℚ◌ u (v y)) (e x h.0) ∙ ap (lift₂ ◌*ℚ◌ (w x)) (e y h.1)
same_children a v w k (Div x y) h e =
    ap (λ u. quotient u (v y)) (e x h.0) ∙ ap (quotient (w x)) (e y h.1)
same_children a v w k (Abs x) h e = ap (lift₁ abs_ℚ) (e x h)
same_children a v w k (Round r x) h e = ap (lift₁ (rounded r.dir r.lsb)) (e x h)

abbrev at_value : List (Option Fraction) → ℕ → Option Fraction
at_value vs i = slice_index_or vs i None

at_front : (done rest : List (Option Fraction)) (i : ℕ) → i < length done
    → at_value (done ++ rest) i ≡ at_value done i
at_front done rest i h = get_or_append_left done rest None i h

at_last : (done : List (Option Fraction)) (v : Option Fraction)
    → at_value (done ++ (v ∷ [])) (length done) ≡ v
at_last done v = get_or-append_seam done v [] None

longer : (done : List (Option Fraction)) (v : Option Fraction)
    → length (done ++ (v ∷ [])) ≡ length done + 1
longer done v = length-append done (v ∷ [])

-- what is done stays
kept : (a : Assignment) (done : List (Option Fraction)) (ns : List Node) (i : ℕ) → i < length done
    → at_value (values_after a done ns) i ≡ at_value done i
unfolding values_after
kept a done [] i h = refl
kept a done (n ∷ ns) i h =
    let v : Option Fraction = node_value a (λ x. slice_index_or done x.0 None) n in
    let m : i < length (done ++ (v ∷ [])) = omega (arith, longer done v) in
    kept a (done ++ (v ∷ [])) ns i m ∙ at_front done (v ∷ []) i h

pub step : (a : Assignment) (done : List (Option Fraction)) (ns : List Node) (i j : ℕ) (d : Node)
    → j ≡ length done + i → i < length ns
    → ((k l : ℕ) → l ≡ length done + k → k < length ns → ChildrenBelow l (slice_index_or ns k d))
    → at_value (values_after a done ns) j
    ≡ node_value a (λ x. at_value (values_after a done ns) x.0) (slice_index_or ns i d)
unfolding values_after
step a done [] i j d e h o = absurd (omega arith)
step a done (n ∷ ns) zero j d e h o =
    let v : Option Fraction = node_value a (λ x. slice_index_or done x.0 None) n in
    let here : length done ≡ length done + 0 = omega arith in
    let c : ChildrenBelow (length done) n = o zero (length done) here (omega arith) in
    let m : length done < length (done ++ (v ∷ [])) = omega (arith, longer done v) in
    let at : j ≡ length done = omega arith in
    ap (at_value (values_after a (done ++ (v ∷ [])) ns)) at
    ∙ kept a (done ++ (v ∷ [])) ns (length done) m ∙ at_last done v
    ∙ same_children a (λ x. at_value done x.0)
    (λ x. at_value (values_after a (done ++ (v ∷ [])) ns) x.0) (length done) n c
    (λ x l. sym (kept a (done ++ (v ∷ [])) ns x.0 (omega (arith, longer done v))
    ∙ at_front done (v ∷ []) x.0 l))
step a done (n ∷ ns) (suc i) j d e h o =
    let v : Option Fraction = node_value a (λ x. slice_index_or done x.0 None) n in
    step a (done ++ (v ∷ [])) ns i j d (omega (arith, longer done v)) (omega arith)
    (λ k l f m. o (suc k) l (omega (arith, longer done v)) (omega arith))
