-- The slots of instances are slots of the nodes and pairs that they are of.
use Rattle.std.specs.Prelude.{◌<◌, ℕ}
use Rattle.std.specs.List.{AllByRecursion}
use Rattle.fx_model.specs.declared.ExprId.{ExprId}
use Rattle.facts.specs.declared.hint.Need.{Need}
use Rattle.facts.specs.declared.hint.Need.TheVariants.{NotZero, Below, Above}
use Rattle.facts.specs.declared.hint.HintRow.{HintRow}

-- the expression of a constraint is one of the first n
abbrev pub NeedIsKnown : ℕ → Need → Type 0
NeedIsKnown n (NotZero x) = x.0 < n
NeedIsKnown n (Below x end apart) = x.0 < n
NeedIsKnown n (Above x end apart) = x.0 < n

-- all expressions of a hint's row are among the first n
pub record RowIsKnown (n : ℕ) (row : HintRow) : Type 0 where
  pub left : row.left.0 < n
  pub right : row.right.0 < n
  pub divisors : AllByRecursion (λ (d : ExprId). d.0 < n) row.divisors
  pub needs : AllByRecursion (NeedIsKnown n) row.needs
