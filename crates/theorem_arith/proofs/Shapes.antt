-- Laws of what specs/Shapes defines.
use Rattle.std.specs.Prelude.{◌≡◌, true, List}
use Rattle.std.proofs.lemmas.Bool.{and_parts}
use Rattle.fx_model.specs.declared.Node.{Node}
use Rattle.fx_model.specs.declared.ExprId.{ExprId}
use Rattle.facts.specs.Order.{is_same}
use Rattle.facts.proofs.CommonParts.{expr_same}
use Rattle.theorem_arith.specs.Shapes.{is_one}

pub one_same : (nodes : List Node) (x y : ExprId) → is_one nodes x y ≡ true → x ≡ y
one_same nodes x y e = expr_same x y (and_parts (is_same x y) _ e).0
