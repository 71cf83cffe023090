use Rattle.std.proofs.Common.{arith, pos, subst, sym}
use Rattle.std.proofs.lemmas.Int.{ints}
use Rattle.fx_model.specs.Grid.{IsDown, At}
use Rattle.fx_model.specs.Cut.{on_grid, down_beyond}
use Rattle.dyadic.proofs.NumberLemmas.{down_at}
use Rattle.dyadic.proofs.rounding.toward_zero.Goals as goal

pub canonical-requires : goal.canonical-requires
canonical-requires c =
    on_grid 1152921504606846975 (pos 512) (omega arith) (omega (arith, ints)) (omega (arith, ints))

pub canonical-requires-else-cut-gt512 :
    goal.canonical-requires-else-cut-gt512
canonical-requires-else-cut-gt512 c = on_grid c.narrowed-cut.result.digits _
    c.narrowed-cut.ensures.few (omega (arith, ints)) (omega (arith, ints))

pub returns-then-cut-gt512 : goal.returns-then-cut-gt512
returns-then-cut-gt512 c = λ x h. subst (λ y. IsDown x (At y)) (sym c.canonical.ensures)
    (down_beyond x c.narrowed-cut.result.digits
    c.narrowed-cut.result.two c.narrowed-cut.result.inexact
    (c.narrowed-cut.ensures.cuts x h) c.narrowed-cut.ensures.full (omega (arith, ints)))

pub returns-else-cut-gt512 : goal.returns-else-cut-gt512
returns-else-cut-gt512 c = λ x h. down_at x c.narrowed-cut.result.digits c.narrowed-cut.result.two
    c.narrowed-cut.result.inexact (c.narrowed-cut.ensures.cuts x h) c.narrowed-cut.ensures.full
    c.narrowed-cut.ensures.few c.narrowed-cut.ensures.low
    (omega (arith, ints)) _ _ c.canonical-else-cut-gt512.ensures (omega (arith, ints))
