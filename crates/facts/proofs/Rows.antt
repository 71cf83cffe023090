-- Laws of what specs/Rows defines.
use Rattle.std.specs.Prelude.{◌≡◌, List, Some}
use Rattle.std.proofs.Common.{ap, ◌∙◌}
use Rattle.fx_model.specs.Fraction.{Fraction}
use Rattle.fx_model.specs.Expression.{Assignment, value}
use Rattle.fx_model.specs.declared.Node.{Node}
use Rattle.facts.specs.declared.hint.HintRow.{HintRow}
use Rattle.facts.specs.Rows.{AreNonzero, AreMet, RowIsTrue}

-- It is true where the divisors give the left side a value, and both sides, where they have values
-- and the constraints hold, the same.
pub row_by_values : (nodes : List Node) (a : Assignment) (row : HintRow)
    → (AreNonzero nodes a row → (u : Fraction) × (value nodes a row.left ≡ Some u))
    → (AreMet nodes a row → (u v : Fraction) → value nodes a row.left ≡ Some u
    → value nodes a row.right ≡ Some v → u ≡ v) → RowIsTrue nodes a row
row_by_values nodes a row left same n m v r = let u = left n in u.1 ∙ ap Some (same m u.0 v u.1 r)
