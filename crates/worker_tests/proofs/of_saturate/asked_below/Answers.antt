use Rattle.std.proofs.Common.{[], ◌∷◌, sym, subst, refl}
use Rattle.derivation.specs.Known.{IsTableAt}
use Rattle.saturate.specs.Tables.{fact_at}
use Rattle.saturate.specs.Universes.{setting_of}
use Rattle.saturate.specs.Closed.{IsMarked}
use Rattle.worker_tests.proofs.of_saturate.asked_below.Goals as goal

pub settle_counted-requires-in-Some-clause-given : goal.settle_counted-requires-in-Some-clause-given
settle_counted-requires-in-Some-clause-given g c = (
  (c.args.x, c.in-Some.range) ∷ [],
  (
    [],
    refl,
    subst (λ t. IsTableAt (setting_of c.args.uni.now) 64 [] (fact_at t))
        (sym c.table_in-root.ensures) (c.in_ok-top.ensures.table [] refl),
  ),
)

pub settle_counted-requires-in-Some-clause-marked :
    goal.settle_counted-requires-in-Some-clause-marked
settle_counted-requires-in-Some-clause-marked g c =
    subst (IsMarked (setting_of c.args.uni.now)) (sym c.table_in-root.ensures)
    c.in_ok-top.ensures.marked

pub settle_pieces-requires-clause-given : goal.settle_pieces-requires-clause-given
settle_pieces-requires-clause-given g c =
    let u = setting_of c.args.uni.now in
    let top = subst (λ t. IsTableAt u 64 [] (fact_at t)) (sym c.table_in-root.ensures)
    (c.in_ok-top.ensures.table [] refl) in
    let pieces = (c.args.x, c.in-Some.range) ∷ [] in (
      pieces,
      subst (λ t. IsTableAt u 64 pieces (fact_at t)) (sym c.table_in-parent.ensures)
          (c.in_ok-upper.ensures.table pieces ([], refl, top)),
    )

pub settle_pieces-requires-clause-marked : goal.settle_pieces-requires-clause-marked
settle_pieces-requires-clause-marked g c =
    subst (IsMarked (setting_of c.args.uni.now)) (sym c.table_in-parent.ensures)
    c.in_ok-upper.ensures.marked
