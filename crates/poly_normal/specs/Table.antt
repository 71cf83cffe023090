-- The table of forms: an entry for each marked node.
use Rattle.std.specs.Prelude.{◌≡◌, ◌⊎◌, ℕ, ◌<◌, Bool, true, false, Option, Some, None, List}
use Rattle.std.specs.Prelude.{slice_index_or, is_some, length}
use Rattle.fx_model.specs.declared.ExprId.{ExprId}
use Rattle.fx_model.specs.declared.Node.{Node}
use Rattle.fx_model.specs.declared.Node.TheVariants.{Var}
use Rattle.poly_normal.specs.Polynomial.{IsEqual}
use Rattle.poly_normal.specs.Form.{Side, Form, form, product}
use Rattle.poly_normal.specs.Mark.{IsOperand, IsPart, IsTooLarge, HasTooLarge}
use Rattle.poly_normal.specs.Parts.{marked}
use Rattle.poly_normal.specs.Places.{places, trues, spread_side}
use Rattle.poly_normal.specs.Limited.{IsLike, side_of}
use Rattle.poly_normal.specs.Quotients.{HasRows, IsFormOf, form_at, row_form}
use Rattle.poly_normal.specs.declared.forms.Quotient.{Quotient}
use Rattle.poly_normal.specs.declared.shared.Forms.{Forms}
use Rattle.poly_normal.specs.declared.sameness.Sameness.{Sameness}
use Rattle.poly_normal.specs.declared.sameness.Sameness.TheVariants.{Same, Differs, TooLarge}

-- what a marked node is made of is marked
abbrev pub IsClosed : List Node → List Bool → Type 0
IsClosed nodes marks = (y z : ExprId) → y.0 < length nodes → marked marks y ≡ true
    → IsOperand (slice_index_or nodes y.0 (Var 0)) z → marked marks z ≡ true

-- a subexpression of x passes a limit
abbrev pub IsBarred : List Node → ExprId → Type 0
IsBarred nodes x = (y : ExprId) × IsPart nodes x y × HasTooLarge (form nodes y)

-- a quotient over the rows of the marked atoms, which spread is the form f
abbrev pub Stands : List Bool → Form → Option Quotient → Type 0
Stands bs f None = ⊥
Stands bs f (Some q) = HasRows (trues bs) q × IsLike (spread_side bs (side_of q.top)) f.top
    × IsLike (spread_side bs (side_of q.bottom)) f.bottom

-- the entry of x: its form, where no subexpression of x passes a limit, and none where one does
abbrev pub IsEntry : List Node → List Bool → ExprId → Option Quotient → Type 0
IsEntry nodes marks x None = IsBarred nodes x
IsEntry nodes marks x (Some q) =
    (¬ IsBarred nodes x) × Stands (places nodes marks) (form nodes x) (Some q)

-- each marked node below n has its entry in the table
abbrev pub AreKnown : List Node → List Bool → ℕ → List (Option Quotient) → Type 0
AreKnown nodes marks n forms = (x : ExprId) → x.0 < n → marked marks x ≡ true
    → IsEntry nodes marks x (slice_index_or forms x.0 None)

-- all operands of a node have a form in the table
abbrev pub AreThere : List (Option Quotient) → Node → Type 0
AreThere forms n = (x : ExprId) → IsOperand n x → is_some (slice_index_or forms x.0 None) ≡ true

-- an operand of a node has none
abbrev pub IsMissing : List (Option Quotient) → Node → Type 0
IsMissing forms n =
    (x : ExprId) × IsOperand n x × (is_some (slice_index_or forms x.0 None) ≡ false)

-- The form of a node from the table, or none just where an operand has none or it passes a limit.
abbrev pub IsNext : ℕ → ℕ → List (Option Quotient) → Node → Option Quotient → Type 0
IsNext width place forms n None =
    IsMissing forms n
    ⊎ (AreThere forms n × HasTooLarge (row_form width place (form_at forms) n))
IsNext width place forms n (Some q) =
    AreThere forms n × IsFormOf width (row_form width place (form_at forms) n) (Some q)

-- how two cross products compare
abbrev pub IsCompared : Side → Side → Sameness → Type 0
IsCompared l r Same = (¬ (IsTooLarge l ⊎ IsTooLarge r)) × IsEqual l.polynomial r.polynomial
IsCompared l r Differs = (¬ (IsTooLarge l ⊎ IsTooLarge r)) × (¬ IsEqual l.polynomial r.polynomial)
IsCompared l r TooLarge = IsTooLarge l ⊎ IsTooLarge r

-- how two entries compare; where one is none, a limit is passed
abbrev pub AreCompared : Option Quotient → Option Quotient → Sameness → Type 0
AreCompared None p s = s ≡ TooLarge
AreCompared (Some f) None s = s ≡ TooLarge
AreCompared (Some f) (Some g) s = IsCompared (product (side_of f.top) (side_of g.bottom))
    (product (side_of g.top) (side_of f.bottom)) s

-- A table of these nodes: it is as long as their list, and each marked one has its entry.
pub record AreFormsOf (nodes : List Node) (t : Forms) : Type 0 where
  pub each : length t.marks.items ≡ length nodes
  pub size : length t.forms.items ≡ length nodes
  pub known : AreKnown nodes t.marks.items (length nodes) t.forms.items

-- an expression has its entry in the table
abbrev pub HasEntry : Forms → ExprId → Type 0
HasEntry t x = marked t.marks.items x ≡ true
