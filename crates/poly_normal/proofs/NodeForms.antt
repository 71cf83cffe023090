-- The form of a node over rows stands for its form, so limits are passed by both or by neither.
use Rattle.std.specs.Prelude.{◌≡◌, ℕ, Bool, true, false, Some, List, [], ◌∷◌, take, length}
use Rattle.std.specs.Prelude.{slice_index_or, refl}
use Rattle.std.proofs.Common.{arith, ◌∙◌, inl, inr}
use Rattle.fx_model.specs.declared.ExprId.{ExprId}
use Rattle.fx_model.specs.declared.Node.{Node}
use Rattle.fx_model.specs.declared.Node.TheVariants.{Var, Lit, Neg, Add, Sub, Mul, Div, Abs, Round}
use Rattle.poly_normal.specs.Polynomial.{Polynomial, term_count}
use Rattle.poly_normal.specs.Rows.{AllRows}
use Rattle.poly_normal.specs.Form.{Side, Form, product, negation, node_form}
use Rattle.poly_normal.specs.Mark.{IsOperand, IsTooLarge, HasTooLarge}
use Rattle.poly_normal.specs.Parts.{is_atom_node}
use Rattle.poly_normal.specs.Places.{trues}
use Rattle.poly_normal.specs.Ratio.{reduced_top, reduced_bottom}
use Rattle.poly_normal.specs.TermsOf.{polynomial_of}
use Rattle.poly_normal.specs.Limited.{IsLike, side_of}
use Rattle.poly_normal.specs.Quotients.{quotient_of, IsFormOf, row_form}
use Rattle.poly_normal.specs.declared.limited.Limited.{Limited}
use Rattle.poly_normal.specs.declared.forms.Quotient.{Quotient}
use Rattle.poly_normal.proofs.Joined.{term_count-rising}
use Rattle.poly_normal.proofs.Spread.{HasWidth}
use Rattle.poly_normal.proofs.Placed.{IsPlaced, placed-like, placed-large, placed-product}
use Rattle.poly_normal.proofs.Placed.{placed-sum, placed-negation, placed-constant, placed-atom}

pub record IsPlacedForm (bs : List Bool) (r f : Form) : Type 0 where
  pub top : IsPlaced bs r.top f.top
  pub bottom : IsPlaced bs r.bottom f.bottom

pub large_form : (bs : List Bool) (r f : Form) → IsPlacedForm bs r f → HasTooLarge r → HasTooLarge f
large_form bs r f p h = elim h [
  | inl k ↦ inl ((placed-large bs r.top f.top p.top).0 k)
  | inr k ↦ inr ((placed-large bs r.bottom f.bottom p.bottom).0 k)
]

pub large_form_back : (bs : List Bool) (r f : Form) → IsPlacedForm bs r f
    → HasTooLarge f → HasTooLarge r
large_form_back bs r f p h = elim h [
  | inl k ↦ inl ((placed-large bs r.top f.top p.top).1 k)
  | inr k ↦ inr ((placed-large bs r.bottom f.bottom p.bottom).1 k)
]

-- one node, from its parts
pub placed_node : (bs : List Bool) (i place : ℕ) (f g : ExprId → Form) (n : Node)
    → place ≡ trues (take i bs) → (is_atom_node n ≡ true → slice_index_or bs i false ≡ true)
    → ((x : ExprId) → IsOperand n x → IsPlacedForm bs (f x) (g x))
    → IsPlacedForm bs (row_form (trues bs) place f n) (node_form i g n)
placed_node bs i place f g (Var v) e a p =
    record { top = placed-atom bs i place e (a refl); bottom = placed-constant bs 1 }
placed_node bs i place f g (Lit l) e a p = record {
  top = placed-constant bs (reduced_top l);
  bottom = placed-constant bs (reduced_bottom l);
}
placed_node bs i place f g (Neg x) e a p = record {
  top = placed-negation bs (f x).top (g x).top (p x refl).top;
  bottom = (p x refl).bottom;
}
placed_node bs i place f g (Add x y) e a p = let q = p x (inl refl) in
    let r = p y (inr refl) in record {
      top = placed-sum bs (product (f x).top (f y).bottom) (product (g x).top (g y).bottom)
          (product (f y).top (f x).bottom) (product (g y).top (g x).bottom)
          (placed-product bs _ _ _ _ q.top r.bottom) (placed-product bs _ _ _ _ r.top q.bottom);
      bottom = placed-product bs _ _ _ _ q.bottom r.bottom;
    }
placed_node bs i place f g (Sub x y) e a p = let q = p x (inl refl) in
    let r = p y (inr refl) in record {
      top = placed-sum bs (product (f x).top (f y).bottom) (product (g x).top (g y).bottom)
          (negation (product (f y).top (f x).bottom)) (negation (product (g y).top (g x).bottom))
          (placed-product bs _ _ _ _ q.top r.bottom)
          (placed-negation bs (product (f y).top (f x).bottom) (product (g y).top (g x).bottom)
          (placed-product bs _ _ _ _ r.top q.bottom));
      bottom = placed-product bs _ _ _ _ q.bottom r.bottom;
    }
placed_node bs i place f g (Mul x y) e a p = let q = p x (inl refl) in
    let r = p y (inr refl) in record {
      top = placed-product bs _ _ _ _ q.top r.top;
      bottom = placed-product bs _ _ _ _ q.bottom r.bottom;
    }
placed_node bs i place f g (Div x y) e a p = let q = p x (inl refl) in
    let r = p y (inr refl) in record {
      top = placed-product bs _ _ _ _ q.top r.bottom;
      bottom = placed-product bs _ _ _ _ q.bottom r.top;
    }
placed_node bs i place f g (Abs x) e a p =
    record { top = placed-atom bs i place e (a refl); bottom = placed-constant bs 1 }
placed_node bs i place f g (Round d x) e a p =
    record { top = placed-atom bs i place e (a refl); bottom = placed-constant bs 1 }

-- ---- from a quotient that was found
rows_width : (v w d : ℕ) (p : Polynomial) → v ≡ w → AllRows v d p → HasWidth w p
rows_width v w d [] e a = a
rows_width v w d (t ∷ p) e a = (a.0.0 ∙ e, rows_width v w d p e a.1)

pub limited_width : (l : Limited) (w : ℕ) → l.terms.width ≡ w → HasWidth w (polynomial_of l.terms)
limited_width l w e = rows_width l.terms.width w l.degree (polynomial_of l.terms) e l.joined.rows

-- what is within the limits passes none
pub limited_small : (l : Limited) (s : Side) → IsLike (side_of l) s → ¬ IsTooLarge s
limited_small l s k h = elim h [
  | inl a ↦ (let b = k.weight in let c = l.light in absurd (omega arith))
  | inr r ↦ elim r [
    | inl a ↦ (let b = k.degree in let c = l.low in absurd (omega arith))
    | inr a ↦ (let b : length (polynomial_of l.terms) ≡ term_count s.polynomial =
        term_count-rising (polynomial_of l.terms) s.polynomial l.joined.rising k.equal in
        let c = l.few in absurd (omega arith))
  ]
]

pub placed_found : (bs : List Bool) (w : ℕ) (r f : Form) (q : Quotient) → w ≡ trues bs
    → IsFormOf w r (Some q) → IsPlacedForm bs r f → IsPlacedForm bs (quotient_of q) f
placed_found bs w r f q e h p = record {
  top = placed-like bs (side_of q.top) r.top f.top
      (limited_width q.top (trues bs) (h.0.0 ∙ e)) h.1 p.top;
  bottom = placed-like bs (side_of q.bottom) r.bottom f.bottom
      (limited_width q.bottom (trues bs) (h.0.1 ∙ e)) h.2 p.bottom;
}

pub placed_small : (bs : List Bool) (q : Quotient) (f : Form)
    → IsPlacedForm bs (quotient_of q) f → ¬ HasTooLarge f
placed_small bs q f p h = elim (large_form_back bs (quotient_of q) f p h) [
  | inl k ↦ limited_small q.top (side_of q.top)
      (record { equal = λ m. refl; weight = refl; degree = refl }) k
  | inr k ↦ limited_small q.bottom (side_of q.bottom)
      (record { equal = λ m. refl; weight = refl; degree = refl }) k
]
