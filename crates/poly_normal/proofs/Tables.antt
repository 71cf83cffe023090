-- The table of forms, entry by entry, and what it comes to at the end.
use Rattle.std.specs.Prelude.{◌≡◌, ◌⊎◌, ◌&&◌, ℕ, ◌+◌, ◌<◌, Bool, true, false, Option, Some, None}
use Rattle.std.specs.Prelude.{List, [], ◌∷◌, ◌++◌, take, length, slice_index_or, refl, is_some}
use Rattle.std.specs.Prelude.{IfOk, Result, Ok}
use Rattle.std.proofs.Common.{arith, sym, ap, ◌∙◌, subst, inl, inr, length-append, true≢false}
use Rattle.std.proofs.lemmas.List.{get_or_append_left, get_or_default}
use Rattle.std.proofs.Math.Seq.{get_or-append_seam}
use Rattle.std.proofs.lemmas.Bool.{cases_lt, false≢true}
use Rattle.std.proofs.Math.ListN.{get_or-eq_default}
use Rattle.std.specs.declared.alloc.AllocError.{AllocError}
use Rattle.std.proofs.lemmas.Result.{IfOk-weaker}
use Rattle.fx_model.specs.Expression.{IsOrdered, ChildrenBelow}
use Rattle.fx_model.specs.declared.ExprId.{ExprId}
use Rattle.fx_model.specs.declared.Node.{Node}
use Rattle.fx_model.specs.declared.Node.TheVariants.{Var}
use Rattle.poly_normal.specs.Form.{Side, Form, form, product}
use Rattle.poly_normal.specs.Mark.{IsOperand, IsPart, IsTooLarge, HasTooLarge, PassesLimit}
use Rattle.poly_normal.specs.Mark.{AreEqual, Answers, left_product, right_product}
use Rattle.poly_normal.specs.Mark.IsPart.{itself, operand}
use Rattle.poly_normal.specs.Parts.{is_atom_node, marked, AreParts, IsSide}
use Rattle.poly_normal.specs.Places.{places, trues, count_of, spread}
use Rattle.poly_normal.specs.Limited.{IsLike, side_of}
use Rattle.poly_normal.specs.Quotients.{quotient_of, HasRows, IsFormOf, IsKnown, known_form}
use Rattle.poly_normal.specs.Quotients.{form_at, row_form, IsRowed}
use Rattle.poly_normal.specs.Table.{IsClosed, IsBarred, IsEntry, Stands, AreKnown, IsCompared}
use Rattle.poly_normal.specs.Table.{AreThere, IsMissing, IsNext, AreCompared}
use Rattle.poly_normal.specs.declared.forms.Quotient.{Quotient}
use Rattle.poly_normal.specs.declared.sameness.Sameness.{Sameness}
use Rattle.poly_normal.specs.declared.sameness.Sameness.TheVariants.{Same, Differs, TooLarge}
use Rattle.poly_normal.specs.Polynomial.{IsEqual}
use Rattle.poly_normal.specs.TermsOf.{polynomial_of}
use Rattle.poly_normal.specs.declared.limited.Limited.{Limited}
use Rattle.poly_normal.proofs.Steps.{form_step}
use Rattle.poly_normal.proofs.Marks.{operand_below}
use Rattle.poly_normal.proofs.Placed.{IsPlaced, placed-product, placed-large}
use Rattle.poly_normal.proofs.NodeForms.{IsPlacedForm, large_form, placed_node, placed_found}
use Rattle.poly_normal.proofs.NodeForms.{placed_small, limited_width, limited_small}
use Rattle.poly_normal.proofs.Trues.{place_at, place_more, place_below}
use Rattle.poly_normal.proofs.Weights.{renamed-equal}
use Rattle.poly_normal.proofs.Spread.{spread_back}

-- ---- arms of one node
pub binary_form : (w : ℕ) (o p r : Option Quotient) (f g : Quotient) (F : Form → Form → Form)
    → o ≡ Some f → p ≡ Some g → IsKnown w o
    → IsFormOf f.top.terms.width (F (quotient_of f) (quotient_of g)) r
    → IsFormOf w (F (known_form o) (known_form p)) r
binary_form w o p r f g F e h k s =
    subst (λ u. IsFormOf w (F (known_form u) (known_form p)) r) (sym e)
    (subst (λ u. IsFormOf w (F (quotient_of f) (known_form u)) r) (sym h)
    (subst (λ v. IsFormOf v (F (quotient_of f) (quotient_of g)) r) (subst (IsKnown w) e k).0 s))

pub unary_form : (w : ℕ) (o r : Option Quotient) (f : Quotient) (F : Form → Form)
    → o ≡ Some f → IsKnown w o → IsFormOf f.top.terms.width (F (quotient_of f)) r
    → IsFormOf w (F (known_form o)) r
unary_form w o r f F e k s = subst (λ u. IsFormOf w (F (known_form u)) r) (sym e)
    (subst (λ v. IsFormOf v (F (quotient_of f)) r) (subst (IsKnown w) e k).0 s)

pub own_rows : (w : ℕ) (o p : Option Quotient) (f g : Quotient) → o ≡ Some f → p ≡ Some g
    → IsKnown w o → IsKnown w p → HasRows f.top.terms.width g
own_rows w o p f g e h k l = let a = subst (IsKnown w) e k in let b = subst (IsKnown w) h l in
    (b.0 ∙ sym a.0, b.1 ∙ sym a.0)

-- ---- one entry more
stands_known : (bs : List Bool) (f : Form) (o : Option Quotient)
    → Stands bs f o → IsKnown (trues bs) o
stands_known bs f None s = s
stands_known bs f (Some q) s = s.0

stands_placed : (bs : List Bool) (f : Form) (o : Option Quotient) → Stands bs f o
    → IsPlacedForm bs (known_form o) f
stands_placed bs f None s = absurd s
stands_placed bs f (Some q) s = record {
  top = record { rows = limited_width q.top (trues bs) s.0.0; like = s.1 };
  bottom = record { rows = limited_width q.bottom (trues bs) s.0.1; like = s.2 };
}

-- ---- parts of a node and of its operands
below_operand : (nodes : List Node) (r x y : ExprId)
    → IsOperand (slice_index_or nodes r.0 (Var 0)) x → IsPart nodes x y → IsPart nodes r y
below_operand nodes r x y h itself = operand r x (Var 0) itself h
below_operand nodes r x y h (operand u v d p q) = operand u y d (below_operand nodes r x u h p) q

first_operand : (nodes : List Node) (r y : ExprId) → r.0 < length nodes → IsPart nodes r y
    → (y ≡ r) ⊎ ((x : ExprId) × IsOperand (slice_index_or nodes r.0 (Var 0)) x × IsPart nodes x y)
first_operand nodes r y h itself = inl refl
first_operand nodes r y h (operand u v d p q) = elim (first_operand nodes r u h p) [
  | inl e ↦ inr (
    y,
    subst (λ n. IsOperand n y) (get_or_default nodes r.0 d (Var 0) h)
        (subst (λ (w : ExprId). IsOperand (slice_index_or nodes w.0 d) y) e q),
    itself,
  )
  | inr w ↦ inr (w.0, w.1, operand u y d w.2 q)
]

entry_stands : (nodes : List Node) (marks : List Bool) (x : ExprId) (o : Option Quotient)
    → is_some o ≡ true → IsEntry nodes marks x o → Stands (places nodes marks) (form nodes x) o
entry_stands nodes marks x None e h = absurd (false≢true e)
entry_stands nodes marks x (Some q) e h = h.1

entry_free : (nodes : List Node) (marks : List Bool) (x : ExprId) (o : Option Quotient)
    → is_some o ≡ true → IsEntry nodes marks x o → ¬ IsBarred nodes x
entry_free nodes marks x None e h = absurd (false≢true e)
entry_free nodes marks x (Some q) e h = h.0

entry_barred : (nodes : List Node) (marks : List Bool) (x : ExprId) (o : Option Quotient)
    → is_some o ≡ false → IsEntry nodes marks x o → IsBarred nodes x
entry_barred nodes marks x None e h = h
entry_barred nodes marks x (Some q) e h = absurd (true≢false e)

pub entry_rowed : (nodes : List Node) (marks : List Bool) (x : ExprId) (o : Option Quotient)
    → IsEntry nodes marks x o → IsRowed (trues (places nodes marks)) o
entry_rowed nodes marks x None h = tt
entry_rowed nodes marks x (Some q) h = h.1.0

pub rowed_known : (w : ℕ) (o : Option Quotient) → IsRowed w o → is_some o ≡ true → IsKnown w o
rowed_known w None r e = absurd (false≢true e)
rowed_known w (Some q) r e = r

module _ (nodes : List Node) (marks : List Bool)
    (o : IsOrdered nodes) (closed : IsClosed nodes marks) (each : length marks ≡ length nodes)
    (i : ℕ) (inside : i < length nodes) (forms : List (Option Quotient))
    (known : AreKnown nodes marks i forms) where
  abbrev here : Node
  here = slice_index_or nodes i (Var 0)

  abbrev self : ExprId
  self = record { 0 = i }

  parts_entered : slice_index_or marks i false ≡ true → (x : ExprId) → IsOperand here x
      → IsEntry nodes marks x (slice_index_or forms x.0 None)
  parts_entered m x h = known x (operand_below i here x (o i (Var 0) inside) h)
      (closed (record { 0 = i }) x inside m h)

  pub operands_rowed : slice_index_or marks i false ≡ true → (x : ExprId) → IsOperand here x
      → IsRowed (trues (places nodes marks)) (slice_index_or forms x.0 None)
  operands_rowed m x h = entry_rowed nodes marks x
      (slice_index_or forms x.0 None) (parts_entered m x h)

  placed_here : (place : ℕ) → place ≡ trues (take i (places nodes marks))
      → slice_index_or marks i false ≡ true → AreThere forms here
      → IsPlacedForm (places nodes marks) (row_form
      (trues (places nodes marks)) place (form_at forms) here) (form nodes self)
  placed_here place e m all = subst (IsPlacedForm (places nodes marks)
      (row_form (trues (places nodes marks)) place (form_at forms) here))
      (sym (form_step nodes (record { 0 = i }) (Var 0) o inside))
      (placed_node (places nodes marks) i place (form_at forms)
      (form nodes) here e (λ a. place_at nodes marks i inside each ∙ both m a)
      (λ x h. stands_placed (places nodes marks) (form nodes x)
      (slice_index_or forms x.0 None)
      (entry_stands nodes marks x (slice_index_or forms x.0 None) (all x h) (parts_entered m x h))))
    where
      both : {a b : Bool} → a ≡ true → b ≡ true → (a && b) ≡ true
      both {a} {b} p q = ap (λ x. x && b) p ∙ q

  missing_here : slice_index_or marks i false ≡ true → IsMissing forms here → IsBarred nodes self
  missing_here m w =
      let b : IsBarred nodes w.0 = entry_barred nodes marks w.0 (slice_index_or forms (w.0).0 None)
      w.2 (parts_entered m w.0 w.1) in
      (b.0, below_operand nodes self w.0 b.0 w.1 b.1, b.2)

  free_here : slice_index_or marks i false ≡ true → AreThere forms here
      → ¬ HasTooLarge (form nodes self) → ¬ IsBarred nodes self
  free_here m all n b = elim (first_operand nodes self b.0 inside b.1) [
    | inl e ↦ n (subst (λ x. HasTooLarge (form nodes x)) e b.2)
    | inr w ↦ entry_free nodes marks w.0 (slice_index_or forms (w.0).0 None) (all w.0 w.1)
        (parts_entered m w.0 w.1) (b.0, w.2, b.2)
  ]

  pub entered_here : (place : ℕ) (q : Option Quotient)
      → place ≡ trues (take i (places nodes marks)) → slice_index_or marks i false ≡ true
      → IsNext (trues (places nodes marks)) place forms here q → IsEntry nodes marks self q
  entered_here place None e m h = elim h [
    | inl w ↦ missing_here m w
    | inr l ↦ (
      self,
      itself,
      large_form (places nodes marks) (row_form
          (trues (places nodes marks)) place (form_at forms) here) (form nodes self)
          (placed_here place e m l.0) l.1,
    )
  ]
  entered_here place (Some q) e m h =
      let p = placed_found (places nodes marks) (trues (places nodes marks)) (row_form
      (trues (places nodes marks)) place (form_at forms) here) (form nodes self) q refl h.1
      (placed_here place e m h.0) in (
        free_here m h.0 (placed_small (places nodes marks) q (form nodes self) p),
        (h.1.0, p.top.like, p.bottom.like),
      )

get_new : (forms : List (Option Quotient)) (new : Option Quotient)
    → slice_index_or (forms ++ (new ∷ [])) (length forms) None ≡ new
get_new forms new = get_or-append_seam forms new [] None

-- one entry more
pub known_more : (nodes : List Node) (marks : List Bool) (i : ℕ) (forms : List (Option Quotient))
    (new : Option Quotient) → length forms ≡ i → AreKnown nodes marks i forms
    → (slice_index_or marks i false ≡ true → IsEntry nodes marks (record { 0 = i }) new)
    → AreKnown nodes marks (i + 1) (forms ++ (new ∷ []))
known_more nodes marks i forms new e known here x below m = elim (cases_lt x.0 i) [
  | inl l ↦ subst (IsEntry nodes marks x)
      (sym (get_or_append_left forms (new ∷ []) None x.0 (omega arith))) (known x l m)
  | inr l ↦ (let at : x.0 ≡ i = omega arith in last at)
]
  where
    last : x.0 ≡ i → IsEntry nodes marks x (slice_index_or (forms ++ (new ∷ [])) x.0 None)
    last at = subst (IsEntry nodes marks x) (sym
        (ap (λ k. slice_index_or (forms ++ (new ∷ [])) k None) (at ∙ sym e) ∙ get_new forms new))
        (subst (λ k. IsEntry nodes marks (record { 0 = k }) new) (sym at)
        (here (subst (λ k. slice_index_or marks k false ≡ true) at m)))

-- ---- the two cross products
no_limit : (l r : Limited) (s t : Side) → IsLike (side_of l) s → IsLike (side_of r) t
    → ¬ (IsTooLarge s ⊎ IsTooLarge t)
no_limit l r s t a b h = elim h [ inl k ↦ limited_small l s a k | inr k ↦ limited_small r t b k ]

pub compared_same : (l r : Limited) (s t : Side) → IsLike (side_of l) s → IsLike (side_of r) t
    → IsEqual (polynomial_of l.terms) (polynomial_of r.terms) → IsCompared s t Same
compared_same l r s t a b e = (no_limit l r s t a b, (λ m. sym (a.equal m) ∙ e m ∙ b.equal m))

pub compared_differs : (l r : Limited) (s t : Side) → IsLike (side_of l) s → IsLike (side_of r) t
    → ¬ IsEqual (polynomial_of l.terms) (polynomial_of r.terms) → IsCompared s t Differs
compared_differs l r s t a b n =
    (no_limit l r s t a b, (λ e. n (λ m. a.equal m ∙ e m ∙ sym (b.equal m))))

-- ---- the marks
pub closed_parts : (nodes : List Node) (sides : List ExprId) (marks : List Bool)
    → AreParts nodes sides marks → IsClosed nodes marks
closed_parts nodes sides marks p y z h m o =
    let q = (p.parts y).0 m in (p.parts z).1 (q.0, q.1, operand y z (Var 0) q.2 o)

pub side_marked : (nodes : List Node) (sides : List ExprId) (marks : List Bool)
    → AreParts nodes sides marks → (x : ExprId) → IsSide sides x → marked marks x ≡ true
side_marked nodes sides marks p x h = (p.parts x).1 (x, h, itself)

pub marked_below : (marks : List Bool) (n : ℕ) → length marks ≡ n → (x : ExprId)
    → marked marks x ≡ true → x.0 < n
marked_below marks n e x m = elim (cases_lt x.0 (length marks)) [
  | inl l ↦ omega arith
  | inr l ↦ absurd (false≢true (sym (get_or-eq_default marks false l) ∙ m))
]

-- ---- the loop that fills the table
pub record IsTable (nodes : List Node) (marks : List Bool) (i place : ℕ)
    (forms : List (Option Quotient)) : Type 0 where
  pub here : place ≡ trues (take i (places nodes marks))
  pub each : length forms ≡ i
  pub known : AreKnown nodes marks i forms

length-more : (forms : List (Option Quotient))
    (new : Option Quotient) (more : List (Option Quotient)) (i : ℕ) → length forms ≡ i
    → more ≡ forms ++ (new ∷ []) → length more ≡ i + 1
length-more forms new more i e h = ap length h ∙ length-append forms (new ∷ [])
    ∙ (let s : length forms + 1 ≡ i + 1 = omega arith in s)

pub table_unmarked : (nodes : List Node) (marks : List Bool) (i place : ℕ)
    (forms more : List (Option Quotient)) → i < length nodes → length marks ≡ length nodes
    → IsTable nodes marks i place forms → slice_index_or marks i false ≡ false
    → more ≡ forms ++ (None ∷ [])
    → IsTable nodes marks (i + 1) place more
table_unmarked nodes marks i place forms more h l t m e = record {
  here = t.here ∙ (let s : trues (take i (places nodes marks)) ≡ trues (take i (places nodes marks))
      + 0 = omega arith in s) ∙ sym (place_more nodes marks i false h l m);
  each = length-more forms None more i t.each e;
  known = subst (AreKnown nodes marks (i + 1)) (sym e) (known_more nodes marks i forms None t.each
      t.known (λ k. absurd (false≢true (sym m ∙ k))));
}

module _ (nodes : List Node) (marks : List Bool)
    (o : IsOrdered nodes) (closed : IsClosed nodes marks) (l : length marks ≡ length nodes)
    (i place w : ℕ) (forms read : List (Option Quotient)) (h : i < length nodes)
    (t : IsTable nodes marks i place forms)
    (m : slice_index_or marks i false ≡ true) (width : w ≡ trues (places nodes marks))
    (same : read ≡ forms) where
  abbrev at_i : Node
  at_i = slice_index_or nodes i (Var 0)

  pub table_before : ChildrenBelow (length read) at_i
  table_before = subst (λ k. ChildrenBelow k at_i) (sym (ap length same ∙ t.each)) (o i (Var 0) h)

  pub table_rows : (x : ExprId) → IsOperand at_i x → IsRowed w (slice_index_or read x.0 None)
  table_rows x q = subst (λ r. IsRowed w (slice_index_or r x.0 None))
      (sym same) (subst (λ v. IsRowed v (slice_index_or forms x.0 None)) (sym width)
      (operands_rowed nodes marks o closed l i h forms t.known m x q))

  pub table_place : is_atom_node at_i ≡ true → place < w
  table_place a = subst (λ v. place < v) (sym width)
      (subst (λ k. k < trues (places nodes marks)) (sym t.here) (place_below nodes marks i h l m a))

  moved : (q : Option Quotient) → IsNext w place read at_i q
      → IsNext (trues (places nodes marks)) place forms at_i q
  moved q f = subst (λ v. IsNext v place forms at_i q) width
      (subst (λ r. IsNext w place r at_i q) same f)

  pub table_marked : (q : Option Quotient) (n : ℕ) (more : List (Option Quotient))
      → IsNext w place read at_i q
      → n ≡ count_of (is_atom_node at_i) → more ≡ forms ++ (q ∷ [])
      → IsTable nodes marks (i + 1) (place + n) more
  table_marked q n more f e g = record {
    here = ap (λ k. k + n) t.here ∙ ap (λ k. trues (take i (places nodes marks)) + k) e
        ∙ sym (place_more nodes marks i true h l m);
    each = length-more forms q more i t.each g;
    known = subst (AreKnown nodes marks (i + 1)) (sym g)
        (known_more nodes marks i forms q t.each t.known
        (λ k. entered_here nodes marks o closed l i h forms t.known place q t.here m (moved q f)));
  }

-- ---- the answer, from how the two quotients compare
module _ (nodes : List Node) (a b : ExprId) (marks : List Bool) where
  module _ (f g : Quotient) (left_entry : IsEntry nodes marks a (Some f))
      (right_entry : IsEntry nodes marks b (Some g)) where
    placed_left : IsPlacedForm (places nodes marks) (quotient_of f) (form nodes a)
    placed_left = stands_placed (places nodes marks) (form nodes a) (Some f) left_entry.1

    placed_right : IsPlacedForm (places nodes marks) (quotient_of g) (form nodes b)
    placed_right = stands_placed (places nodes marks) (form nodes b) (Some g) right_entry.1

    cross_left : IsPlaced (places nodes marks) (product (side_of f.top) (side_of g.bottom))
        (left_product nodes a b)
    cross_left = placed-product (places nodes marks) (side_of f.top) (form nodes a).top
        (side_of g.bottom) (form nodes b).bottom placed_left.top placed_right.bottom

    cross_right : IsPlaced (places nodes marks) (product (side_of g.top) (side_of f.bottom))
        (right_product nodes a b)
    cross_right = placed-product (places nodes marks) (side_of g.top) (form nodes b).top
        (side_of f.bottom) (form nodes a).bottom placed_right.top placed_left.bottom

    no_pass : ¬ (IsTooLarge (product (side_of f.top) (side_of g.bottom))
        ⊎ IsTooLarge (product (side_of g.top) (side_of f.bottom))) → ¬ PassesLimit nodes a b
    no_pass n h = elim h [
      | inl r ↦ elim r.1 [
        | inl p ↦ left_entry.0 (r.0, p, r.2)
        | inr p ↦ right_entry.0 (r.0, p, r.2)
      ]
      | inr r ↦ elim r [
        | inl u ↦ n (inl ((placed-large (places nodes marks)
            (product (side_of f.top) (side_of g.bottom)) (left_product nodes a b) cross_left).1 u))
        | inr u ↦ n (inr ((placed-large (places nodes marks) (product (side_of g.top)
            (side_of f.bottom)) (right_product nodes a b) cross_right).1 u))
      ]
    ]

    both_answered : (s : Sameness) → IsCompared (product (side_of f.top) (side_of g.bottom))
        (product (side_of g.top) (side_of f.bottom)) s → Answers nodes a b s
    both_answered Same h = (
      no_pass h.0,
      (λ m. sym (cross_left.like.equal m) ∙ renamed-equal (spread (places nodes marks)) _ _ h.1 m
          ∙ cross_right.like.equal m),
    )
    both_answered Differs h = (
      no_pass h.0,
      (λ r. h.1 (spread_back (places nodes marks) _ _ cross_left.rows cross_right.rows
          (λ m. cross_left.like.equal m ∙ r m ∙ sym (cross_right.like.equal m)))),
    )
    both_answered TooLarge h = inr (elim h [
      | inl u ↦ inl ((placed-large (places nodes marks) (product (side_of f.top) (side_of g.bottom))
          (left_product nodes a b) cross_left).0 u)
      | inr u ↦ inr ((placed-large (places nodes marks) (product (side_of g.top) (side_of f.bottom))
          (right_product nodes a b) cross_right).0 u)
    ])

  -- where one entry is none, a limit is passed in a part of it
  pub answered : (o p : Option Quotient) → IsEntry nodes marks a o → IsEntry nodes marks b p
      → (s : Sameness) → AreCompared o p s → Answers nodes a b s
  answered None p h k s c = subst (Answers nodes a b) (sym c) (inl (h.0, inl h.1, h.2))
  answered (Some f) None h k s c = subst (Answers nodes a b) (sym c) (inl (k.0, inr k.1, k.2))
  answered (Some f) (Some g) h k s c = both_answered f g h k s c

  module _ (forms : List (Option Quotient)) (known : AreKnown nodes marks (length nodes) forms)
      (ha : a.0 < length nodes) (hb : b.0 < length nodes) (ma : marked marks a ≡ true)
      (mb : marked marks b ≡ true) where
    table_compares : (width : ℕ) × IsRowed width (slice_index_or forms a.0 None)
        × IsRowed width (slice_index_or forms b.0 None)
    table_compares = (
      trues (places nodes marks),
      entry_rowed nodes marks a (slice_index_or forms a.0 None) (known a ha ma),
      entry_rowed nodes marks b (slice_index_or forms b.0 None) (known b hb mb),
    )

    table_answers : (s : Sameness)
        → AreCompared (slice_index_or forms a.0 None) (slice_index_or forms b.0 None) s
        → Answers nodes a b s
    table_answers = answered (slice_index_or forms a.0 None) (slice_index_or forms b.0 None)
        (known a ha ma) (known b hb mb)

    -- as read
    module _ (read : List (Option Quotient)) (same : read ≡ forms) where
      pub read_compares : (width : ℕ) × IsRowed width (slice_index_or read a.0 None)
          × IsRowed width (slice_index_or read b.0 None)
      read_compares = subst (λ (l : List (Option Quotient)). (width : ℕ)
          × IsRowed width (slice_index_or l a.0 None)
          × IsRowed width (slice_index_or l b.0 None)) (sym same) table_compares

      pub read_answers : (r : Result Sameness AllocError)
          → IfOk r (AreCompared (slice_index_or read a.0 None) (slice_index_or read b.0 None))
          → IfOk r (Answers nodes a b)
      read_answers r h = IfOk-weaker r
          (AreCompared (slice_index_or read a.0 None) (slice_index_or read b.0 None))
          (Answers nodes a b)
          (λ s k. table_answers s (subst (λ (l : List (Option Quotient)). AreCompared
          (slice_index_or l a.0 None) (slice_index_or l b.0 None) s) same k)) h

-- the law, from the answer
pub law_from : (nodes : List Node) (a b : ExprId) (r : Result Sameness AllocError)
    → IfOk r (Answers nodes a b) → r ≡ Ok Same → AreEqual nodes a b
law_from nodes a b r h e = (subst (λ x. IfOk x (Answers nodes a b)) e h).1
