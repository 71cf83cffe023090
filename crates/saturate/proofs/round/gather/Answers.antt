use Rattle.std.proofs.Common.{◌+◌, ◌<◌, true, false, Some, length, sym, ap, subst, ◌∙◌, arith}
use Rattle.std.proofs.lemmas.Option.{slice_get-get_or}
use Rattle.std.proofs.lemmas.List.Sums.{count_by_more_yes, count_by_more_no}
use Rattle.saturate.specs.Keeping.{InTurn}
use Rattle.saturate.proofs.round.gather.Goals as goal
use Rattle.saturate.proofs.round.gather.Goals.{then-due-k+in_ok-void+else-void, else-due-k}

pub loop-k-init : goal.loop-k-init
loop-k-init g c = record {
  going = subst (λ l. g.K.Keeps.going c.args.uni.now c.args.kept.now c.begin.new.self l 0)
      (sym c.clear.ensures.items) c.in_ok-begin.ensures;
  cost = omega arith;
}

pub returns-then-void-clause-gathered : goal.returns-then-void-clause-gathered
returns-then-void-clause-gathered g c =
    let u = c.args.uni.now in
    let first = c.args.kept.now in
    let new = c.visit.new.kept in
    let changed = c.visit.new.changed.items in
    subst (λ b. InTurn b (g.K.Keeps.gathered u first new changed)
    (g.K.Keeps.going u first new changed (c.loop-k.k + 1))) c.if-void.true
    (c.in_ok-void.ensures.visited first c.loop-k.invariant.going)

pub loop-k-preserved : goal.loop-k-preserved
loop-k-preserved g c =
    let u = c.args.uni.now in
    let first = c.args.kept.now in
    let long : c.loop-k.k < length c.args.due.now =
    omega (arith, c.requires.due, ap length c.instances-k-end.ensures, c.loop-k-test.true) in
    elim c.if-due-k.branch [
      | then-due-k+in_ok-void+else-void w ↦
          (let new = w.visit.new.kept in
          let changed = w.visit.new.changed.items in
          rw (w.kept-is, w.changed-is) (record {
            going = subst (λ b. InTurn b (g.K.Keeps.gathered u first new changed)
                (g.K.Keeps.going u first new changed (c.loop-k.k + 1))) w.if-void.false
                (w.in_ok-void.ensures.visited first c.loop-k.invariant.going);
            cost =
                (let n = count_by_more_yes
                (λ b. b) c.args.due.now c.loop-k.k false long w.if-due-k.true in
                omega (
                  arith,
                  n,
                  ap g.C.Concludes.asked w.steps-is,
                  w.visit.ensures.cost,
                  c.loop-k.invariant.cost,
                ));
          }))
      | else-due-k w ↦
          rw (w.kept-is, w.changed-is) (record {
            going = c.rounds_are_whole.ensures.idle u first c.loop-k.kept c.loop-k.changed.items
                c.loop-k.k c.loop-k.invariant.going
                (λ i f there e. c.requires.quiet c.loop-k.k i f there (slice_get-get_or
                c.args.due.now c.loop-k.k false long ∙ ap Some w.if-due-k.false) e);
            cost =
                (let n = count_by_more_no
                (λ b. b) c.args.due.now c.loop-k.k false long w.if-due-k.false in
                omega (arith, n, ap g.C.Concludes.asked w.steps-is, c.loop-k.invariant.cost));
          })
    ]

pub returns-clause-gathered : goal.returns-clause-gathered
returns-clause-gathered g c = c.rounds_are_whole.ensures.all c.args.uni.now c.args.kept.now
    c.loop-k.kept c.loop-k.changed.items c.loop-k.k
    (omega (arith, ap length c.instances-k-end.ensures, c.loop-k-test.false, c.loop-k.auto.k-end))
    c.loop-k.invariant.going
