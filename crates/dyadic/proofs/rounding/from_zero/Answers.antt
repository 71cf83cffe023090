use Rattle.std.proofs.Common.{arith, inl, inr, true, false}
use Rattle.std.proofs.lemmas.Int.{ints}
use Rattle.fx_model.specs.Cut.{on_grid, next_grid, up_beyond, up_top}
use Rattle.dyadic.proofs.NumberLemmas.{up_exact_at, up_next_at, known_cut}
use Rattle.dyadic.proofs.rounding.from_zero.Goals as goal
use Rattle.dyadic.proofs.rounding.from_zero.Goals.{else-digits-eq1152921504606846975-via-then-digits-eq1152921504606846975+else-cut-eq512}
use Rattle.dyadic.proofs.rounding.from_zero.Goals.{else-digits-eq1152921504606846975-via-else-digits-eq1152921504606846975}

pub returns-then-cut-gt512 : goal.returns-then-cut-gt512
returns-then-cut-gt512 c = λ x h.
    up_beyond x c.narrowed-cut.result.digits c.narrowed-cut.result.two c.narrowed-cut.result.inexact
    (c.narrowed-cut.ensures.cuts x h) c.narrowed-cut.ensures.full (omega (arith, ints))

pub returns-then-cut-eq512 : goal.returns-then-cut-eq512
returns-then-cut-eq512 c = λ x h. up_top x c.narrowed-cut.result.two 1152921504606846976
    (omega arith) (omega (arith, ints)) c.narrowed-cut.result.digits (omega arith)
    (known_cut x c.narrowed-cut.result.digits c.narrowed-cut.result.two
    c.narrowed-cut.result.inexact true (c.narrowed-cut.ensures.cuts x h) c.if-cut.true)

pub canonical-requires : goal.canonical-requires
canonical-requires c = next_grid c.narrowed-cut.result.digits _ c.narrowed-cut.ensures.few
    (omega (arith, ints)) (omega (arith, ints))
    (elim c.else-digits-eq1152921504606846975.branch [
      | else-digits-eq1152921504606846975-via-then-digits-eq1152921504606846975+else-cut-eq512
          w ↦ inr (omega (arith, ints))
      | else-digits-eq1152921504606846975-via-else-digits-eq1152921504606846975 w ↦ inl
          (let f = c.narrowed-cut.ensures.few in omega arith)
    ])

pub canonical-requires-else-cut : goal.canonical-requires-else-cut
canonical-requires-else-cut c = on_grid c.narrowed-cut.result.digits _ c.narrowed-cut.ensures.few
    (omega (arith, ints)) (omega (arith, ints))

pub returns-else-digits-eq1152921504606846975 : goal.returns-else-digits-eq1152921504606846975
returns-else-digits-eq1152921504606846975 c =
    λ x h. up_next_at x c.narrowed-cut.result.digits c.narrowed-cut.result.two
    (known_cut x c.narrowed-cut.result.digits c.narrowed-cut.result.two
    c.narrowed-cut.result.inexact true (c.narrowed-cut.ensures.cuts x h) c.if-cut.true)
    c.narrowed-cut.ensures.full _ (omega (arith, ints)) (next_grid c.narrowed-cut.result.digits _
    c.narrowed-cut.ensures.few (omega (arith, ints)) (omega (arith, ints))
    (elim c.else-digits-eq1152921504606846975.branch [
      | else-digits-eq1152921504606846975-via-then-digits-eq1152921504606846975+else-cut-eq512
          w ↦ inr (omega (arith, ints))
      | else-digits-eq1152921504606846975-via-else-digits-eq1152921504606846975 w ↦ inl
          (let f = c.narrowed-cut.ensures.few in omega arith)
    ])) _ c.canonical.ensures

pub returns-else-cut : goal.returns-else-cut
returns-else-cut c = λ x h. up_exact_at x c.narrowed-cut.result.digits c.narrowed-cut.result.two
    (known_cut x c.narrowed-cut.result.digits c.narrowed-cut.result.two
    c.narrowed-cut.result.inexact false (c.narrowed-cut.ensures.cuts x h) c.if-cut.false)
    c.narrowed-cut.ensures.few c.narrowed-cut.ensures.low
    (omega (arith, ints)) _ _ c.canonical-else-cut.ensures (omega (arith, ints))
