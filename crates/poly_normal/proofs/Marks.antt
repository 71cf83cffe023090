-- Marks on the subexpressions of some expressions: from the last node down, the operands of marked
-- nodes get marked.
use Rattle.std.specs.Prelude.{◌≡◌, ◌⊎◌, ℕ, ◌≤◌, ◌<◌, Bool, true, false, List, slice_index_or}
use Rattle.std.specs.Prelude.{slice_get, Some, ◌+◌, length, refl}
use Rattle.std.proofs.Common.{arith, sym, ap, ◌∙◌, suc, subst, inl, inr}
use Rattle.std.proofs.lemmas.List.{get_or_default}
use Rattle.std.proofs.Math.Nat.{eq-or-lt_of_le}
use Rattle.std.proofs.lemmas.Bool.{false≢true, cases_lt}
use Rattle.std.proofs.lemmas.Option.{slice_get_within}
use Rattle.fx_model.specs.Expression.{IsOrdered, ChildrenBelow}
use Rattle.fx_model.specs.declared.ExprId.{ExprId}
use Rattle.fx_model.specs.declared.Node.{Node}
use Rattle.fx_model.specs.declared.Node.TheVariants.{Var, Lit, Neg, Add, Sub, Mul, Div, Abs, Round}
use Rattle.poly_normal.specs.Mark.{IsOperand, IsPart}
use Rattle.poly_normal.specs.Mark.IsPart.{itself, operand}
use Rattle.poly_normal.specs.Parts.{marked, AreParts, IsMarking, IsSide, IsPartOfSide}

abbrev at_node : List Node → ℕ → Node
at_node nodes i = slice_index_or nodes i (Var 0)

-- whoever is marked is a part, and the operands of marked nodes from i on are marked
pub record IsMarkedFrom (nodes : List Node) (sides : List ExprId) (i : ℕ)
    (marks : List Bool) : Type 0 where
  pub each : length marks ≡ length nodes
  pub inside : i ≤ length nodes
  pub only : (x : ExprId) → marked marks x ≡ true → IsPartOfSide nodes sides x
  pub roots : (x : ExprId) → IsSide sides x → marked marks x ≡ true
  pub closed : (y z : ExprId) → i ≤ y.0 → y.0 < length nodes → marked marks y ≡ true
      → IsOperand (slice_index_or nodes y.0 (Var 0)) z → marked marks z ≡ true

-- ---- the sides, one after another
-- one of the first k sides
abbrev pub IsSideBelow : List ExprId → ℕ → ExprId → Type 0
IsSideBelow sides k x = (j : ℕ) × (j < k) × (slice_get sides j ≡ Some x)

some_one : (x y : ExprId) → Some x ≡ Some y → x ≡ y
some_one x y e = cc

pub sides_none : (sides : List ExprId) (marks : List Bool)
    → IsMarking marks marks (IsSideBelow sides 0)
sides_none sides marks = record {
  lengths = refl;
  marks = λ x. (
    λ h. inl h,
    λ h. elim h [ inl m ↦ m | inr w ↦ (let l : w.0 < 0 = w.1 in absurd (omega arith)) ],
  );
}

pub sides_more : (sides : List ExprId) (k : ℕ) (s : ExprId) (first before after : List Bool)
    → slice_get sides k ≡ Some s → IsMarking first before (IsSideBelow sides k)
    → IsMarking before after (λ z. z ≡ s) → IsMarking first after (IsSideBelow sides (k + 1))
sides_more sides k s first before after at f m = record {
  lengths = m.lengths ∙ f.lengths;
  marks = λ x. (
    λ h. elim ((m.marks x).0 h) [
      | inl g ↦ elim ((f.marks x).0 g) [
        | inl u ↦ inl u
        | inr w ↦ (let l : w.0 < k = w.1 in inr (w.0, omega arith, w.2))
      ]
      | inr e ↦ inr (k, omega arith, at ∙ ap Some (sym e))
    ],
    λ h. elim h [
      | inl u ↦ (m.marks x).1 (inl ((f.marks x).1 (inl u)))
      | inr w ↦ elim (cases_lt w.0 k) [
        | inl l ↦ (m.marks x).1 (inl ((f.marks x).1 (inr (w.0, l, w.2))))
        | inr l ↦ (let b : w.0 < k + 1 = w.1 in let e : w.0 ≡ k = omega arith in
            (m.marks x).1 (inr (some_one x s (sym w.2 ∙ ap (slice_get sides) e ∙ at))))
      ]
    ],
  );
}

pub sides_all : (sides : List ExprId) (k : ℕ) (first after : List Bool) → length sides ≤ k
    → IsMarking first after (IsSideBelow sides k) → IsMarking first after (IsSide sides)
sides_all sides k first after l f = record {
  lengths = f.lengths;
  marks = λ x. (
    λ h. elim ((f.marks x).0 h) [ inl u ↦ inl u | inr w ↦ inr (w.0, w.2) ],
    λ h. elim h [
      | inl u ↦ (f.marks x).1 (inl u)
      | inr w ↦ (let b = slice_get_within sides w.0 x w.1 in
          (f.marks x).1 (inr (w.0, omega arith, w.1)))
    ],
  );
}

pub start : (nodes : List Node) (sides : List ExprId) (before after : List Bool)
    → length before ≡ length nodes → ((x : ExprId) → marked before x ≡ false)
    → IsMarking before after (IsSide sides) → IsMarkedFrom nodes sides (length nodes) after
start nodes sides before after e none m = record {
  each = m.lengths ∙ e;
  inside = omega arith;
  only = λ x h. elim ((m.marks x).0 h) [
    | inl g ↦ absurd (false≢true (sym (none x) ∙ g))
    | inr w ↦ (x, w, itself)
  ];
  roots = λ x h. (m.marks x).1 (inr h);
  closed = λ y z low high g o. absurd (let l : length nodes ≤ y.0 = low in
      let h : y.0 < length nodes = high in omega arith);
}

pub operand_below : (k : ℕ) (n : Node) (z : ExprId) → ChildrenBelow k n → IsOperand n z → z.0 < k
operand_below k (Var n) z h o = absurd o
operand_below k (Lit l) z h o = absurd o
operand_below k (Neg x) z h o = subst (λ (w : ExprId). w.0 < k) (sym o) h
operand_below k (Add x y) z h o = elim o [
  | inl e ↦ subst (λ (w : ExprId). w.0 < k) (sym e) h.0
  | inr e ↦ subst (λ (w : ExprId). w.0 < k) (sym e) h.1
]
operand_below k (Sub x y) z h o = elim o [
  | inl e ↦ subst (λ (w : ExprId). w.0 < k) (sym e) h.0
  | inr e ↦ subst (λ (w : ExprId). w.0 < k) (sym e) h.1
]
operand_below k (Mul x y) z h o = elim o [
  | inl e ↦ subst (λ (w : ExprId). w.0 < k) (sym e) h.0
  | inr e ↦ subst (λ (w : ExprId). w.0 < k) (sym e) h.1
]
operand_below k (Div x y) z h o = elim o [
  | inl e ↦ subst (λ (w : ExprId). w.0 < k) (sym e) h.0
  | inr e ↦ subst (λ (w : ExprId). w.0 < k) (sym e) h.1
]
operand_below k (Abs x) z h o = absurd o
operand_below k (Round r x) z h o = absurd o

pub step_marked : (nodes : List Node) (sides : List ExprId) (i j : ℕ) (n : Node)
    (before after : List Bool) → IsOrdered nodes → i ≡ suc j
    → IsMarkedFrom nodes sides i before → slice_index_or before j false ≡ true → n ≡ at_node nodes j
    → IsMarking before after (IsOperand n)
    → IsMarkedFrom nodes sides j after
step_marked nodes sides i j n before after o e m here at k = record {
  each = k.lengths ∙ m.each;
  inside = let p = m.inside in omega arith;
  only = λ x h. elim ((k.marks x).0 h)
      [ inl g ↦ m.only x g | inr q ↦ reached x q (m.only (record { 0 = j }) here) ];
  roots = λ x h. (k.marks x).1 (inl (m.roots x h));
  closed = λ y z low high t q. elim ((k.marks y).0 t) [
    | inl g ↦ old y z low high g q (same_or_later j y.0 low)
    | inr w ↦ absurd (not_below j y.0 low
        (operand_below j n y (subst (ChildrenBelow j) (sym at) (o j (Var 0) inside)) w))
  ];
}
  where
    inside : j < length nodes
    inside = let p = m.inside in omega arith

    reached : (x : ExprId) → IsOperand n x → IsPartOfSide nodes sides (record { 0 = j })
        → IsPartOfSide nodes sides x
    reached x q p = (
      p.0,
      p.1,
      operand (record { 0 = j }) x (Var 0) p.2 (subst (λ w. IsOperand w x) at q),
    )

    not_below : (j y : ℕ) → j ≤ y → y < j → ⊥
    not_below j y l h = omega arith

    same_or_later : (j y : ℕ) → j ≤ y → (y ≡ j) ⊎ (suc j ≤ y)
    same_or_later j y l = elim (eq-or-lt_of_le l) [ inl e ↦ inl (sym e) | inr h ↦ inr h ]

    old : (y z : ExprId) → j ≤ y.0 → y.0 < length nodes → marked before y ≡ true
        → IsOperand (at_node nodes y.0) z → (y.0 ≡ j) ⊎ (suc j ≤ y.0) → marked after z ≡ true
    old y z low high g q (inl s) =
        (k.marks z).1 (inr (subst (λ w. IsOperand w z) (ap (at_node nodes) s ∙ sym at) q))
    old y z low high g q (inr l) =
        (k.marks z).1 (inl (m.closed y z (subst (λ w. w ≤ y.0) (sym e) l) high g q))

pub step_unmarked : (nodes : List Node) (sides : List ExprId) (i j : ℕ) (marks : List Bool)
    → i ≡ suc j → IsMarkedFrom nodes sides i marks → slice_index_or marks j false ≡ false
    → IsMarkedFrom nodes sides j marks
step_unmarked nodes sides i j marks e m here = record {
  each = m.each;
  inside = let p = m.inside in omega arith;
  only = m.only;
  roots = m.roots;
  closed = λ y z low high t q. by y z low high t q (same_or_later j y.0 low);
}
  where
    same_or_later : (j y : ℕ) → j ≤ y → (y ≡ j) ⊎ (suc j ≤ y)
    same_or_later j y l = elim (eq-or-lt_of_le l) [ inl e ↦ inl (sym e) | inr h ↦ inr h ]

    by : (y z : ExprId) → j ≤ y.0 → y.0 < length nodes → marked marks y ≡ true
        → IsOperand (at_node nodes y.0) z → (y.0 ≡ j) ⊎ (suc j ≤ y.0) → marked marks z ≡ true
    by y z low high t q (inl s) =
        absurd (false≢true (sym here ∙ ap (λ w. slice_index_or marks w false) (sym s) ∙ t))
    by y z low high t q (inr l) = m.closed y z (subst (λ w. w ≤ y.0) (sym e) l) high t q

-- all parts are marked
module _ (nodes : List Node) (sides : List ExprId) (marks : List Bool)
    (m : IsMarkedFrom nodes sides 0 marks) (o : IsOrdered nodes) where
  all_marked : (root : ExprId) → marked marks root ≡ true → root.0 < length nodes → (x : ExprId)
      → IsPart nodes root x → (marked marks x ≡ true) × (x.0 < length nodes)
  all_marked root h k x itself = (h, k)
  all_marked root h k x (operand y z d p q) =
      let r = all_marked root h k y p in
      let at : slice_index_or nodes y.0 d ≡ slice_index_or nodes y.0 (Var 0) =
      get_or_default nodes y.0 d (Var 0) r.1 in
      let s : IsOperand (slice_index_or nodes y.0 (Var 0)) x = subst (λ n. IsOperand n x) at q in
      let below : x.0 < y.0 =
      operand_below y.0 (slice_index_or nodes y.0 (Var 0)) x (o y.0 (Var 0) r.1) s in
      let less = r.1 in
      (m.closed y x (omega arith) r.1 r.0 s, omega arith)

  pub marked_parts : ((x : ExprId) → IsSide sides x → x.0 < length nodes)
      → AreParts nodes sides marks
  marked_parts h = record {
    each = m.each;
    parts = λ x. (
      m.only x,
      (λ p. (all_marked p.0 (m.roots p.0 p.1) (h p.0 p.1) x p.2).0),
    );
  }
