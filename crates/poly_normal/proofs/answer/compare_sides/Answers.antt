use Rattle.std.proofs.Common.{sym, ◌∙◌}
use Rattle.std.proofs.lemmas.Bool.{false≢true}
use Rattle.poly_normal.proofs.Tables.{compared_same, compared_differs}
use Rattle.poly_normal.proofs.answer.compare_sides.Goals as goal

pub returns-then-is_equal : goal.returns-then-is_equal
returns-then-is_equal c s t a b =
    compared_same c.args.left.now c.args.right.now s t a b (c.is_equal.ensures.0 c.if-is_equal.true)

pub returns-else-is_equal : goal.returns-else-is_equal
returns-else-is_equal c s t a b = compared_differs c.args.left.now c.args.right.now s t a b
    (λ e. false≢true (sym c.if-is_equal.false ∙ c.is_equal.ensures.1 e))
