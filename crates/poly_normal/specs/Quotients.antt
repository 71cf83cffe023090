-- Quotients of the code, and the forms that they stand for.
use Rattle.std.specs.Prelude.{◌≡◌, ℕ, Option, Some, None, List, slice_index_or, ⊤}
use Rattle.fx_model.specs.declared.ExprId.{ExprId}
use Rattle.fx_model.specs.declared.Node.{Node}
use Rattle.fx_model.specs.declared.Node.TheVariants.{Var, Lit, Neg, Add, Sub, Mul, Div, Abs, Round}
use Rattle.poly_normal.specs.Form.{Form, negation_form, sum_form, difference_form, product_form}
use Rattle.poly_normal.specs.Form.{quotient_form}
use Rattle.poly_normal.specs.Mark.{HasTooLarge}
use Rattle.poly_normal.specs.Ratio.{reduced_top, reduced_bottom}
use Rattle.poly_normal.specs.Limited.{IsLike, side_of, constant_side, atom_side}
use Rattle.poly_normal.specs.declared.forms.Quotient.{Quotient}

-- the form that a quotient stands for, with rows as monomials
abbrev pub quotient_of : Quotient → Form
quotient_of q = record { top = side_of q.top; bottom = side_of q.bottom }

-- rows of this width above and below
abbrev pub HasRows : ℕ → Quotient → Type 0
HasRows width q = (q.top.terms.width ≡ width) × (q.bottom.terms.width ≡ width)

-- the form f within the limits, or none exactly where a part of f passes one
abbrev pub IsFormOf : ℕ → Form → Option Quotient → Type 0
IsFormOf width f None = HasTooLarge f
IsFormOf width f (Some q) = HasRows width q × IsLike (side_of q.top) f.top
    × IsLike (side_of q.bottom) f.bottom

-- a quotient is there
abbrev pub IsKnown : ℕ → Option Quotient → Type 0
IsKnown width None = ⊥
IsKnown width (Some q) = HasRows width q

-- rows of this width, where a quotient is there
abbrev pub IsRowed : ℕ → Option Quotient → Type 0
IsRowed width None = ⊤
IsRowed width (Some q) = HasRows width q

-- The fraction of two whole numbers, over rows of `width` powers.
abbrev pub constant_form : ℕ → ℕ → ℕ → Form
constant_form width top bottom =
    record { top = constant_side width top; bottom = constant_side width bottom }

-- The atom at this place over 1, in rows of `width` powers.
abbrev pub atom_row_form : ℕ → ℕ → Form
atom_row_form width place = record { top = atom_side width place; bottom = constant_side width 1 }

-- what is known; where nothing is, any form serves
abbrev pub known_form : Option Quotient → Form
known_form None = atom_row_form 0 0
known_form (Some q) = quotient_of q

-- the form at expression x of a list
abbrev pub form_at : List (Option Quotient) → ExprId → Form
form_at forms x = known_form (slice_index_or forms x.0 None)

-- The form of a node over rows, where its atom has this place.
abbrev pub row_form : ℕ → ℕ → (ExprId → Form) → Node → Form
row_form width place f (Var n) = atom_row_form width place
row_form width place f (Lit l) = constant_form width (reduced_top l) (reduced_bottom l)
row_form width place f (Neg x) = negation_form (f x)
row_form width place f (Add x y) = sum_form (f x) (f y)
row_form width place f (Sub x y) = difference_form (f x) (f y)
row_form width place f (Mul x y) = product_form (f x) (f y)
row_form width place f (Div x y) = quotient_form (f x) (f y)
row_form width place f (Abs x) = atom_row_form width place
row_form width place f (Round r x) = atom_row_form width place
