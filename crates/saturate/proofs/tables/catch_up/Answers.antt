use Rattle.std.proofs.Common.{◌≡◌, ◌+◌, sym, ap, subst, ◌∙◌, drop}
use Rattle.std.proofs.lemmas.List.Elements.{Contains-get_or}
use Rattle.facts.specs.Order.{slot_of}
use Rattle.rule_universe.proofs.InTurn.{none_left, here, rest_is}
use Rattle.rule_universe.specs.Placed.{slots_of}
use Rattle.saturate.specs.Tables.{fact_at, HasPlace, IsFoundAt}
use Rattle.saturate.proofs.Places.{fact_at_proper}
use Rattle.saturate.proofs.Slots.{shaped_none, shaped_both, shaped_place, shaped_found}
use Rattle.saturate.proofs.Caught.{IsCatching, catching_start, catching_put, catching_skip}
use Rattle.saturate.proofs.tables.catch_up.Goals as goal
use Rattle.saturate.proofs.tables.catch_up.Goals.{in-Some, in_default}

pub loop-p-init : goal.loop-p-init
loop-p-init c = record {
  catching = catching_start (slots_of c.args.changed.now) (fact_at c.args.now.now)
      (fact_at c.args.next.now) c.requires.listed;
  shape = shaped_none c.args.now.now;
}

pub strongest_at-requires : goal.strongest_at-requires
strongest_at-requires c = (c.requires.found (here c.args.changed.now c.loop-p.p-index)
    (Contains-get_or c.args.changed.now c.loop-p.p-index none_left c.loop-p-test.true)).1

pub put-requires-clause-there : goal.put-requires-clause-there
put-requires-clause-there c =
    let p = here c.args.changed.now c.loop-p.p-index in
    let e : slot_of c.in-Some.f ≡ p.slot =
    fact_at_proper c.args.next.now p.slot c.in-Some.f (sym c.strongest_at.ensures ∙ c.in-Some.is) in
    subst (HasPlace c.loop-p.now) (sym e)
    (shaped_place c.args.now.now c.loop-p.now c.loop-p.invariant.shape p.slot (c.requires.there p
    (Contains-get_or c.args.changed.now c.loop-p.p-index none_left c.loop-p-test.true)))

pub put-requires-clause-found : goal.put-requires-clause-found
put-requires-clause-found c =
    let p = here c.args.changed.now c.loop-p.p-index in
    let e : slot_of c.in-Some.f ≡ p.slot =
    fact_at_proper c.args.next.now p.slot c.in-Some.f (sym c.strongest_at.ensures ∙ c.in-Some.is) in
    subst (λ s. IsFoundAt c.loop-p.now s p.place) (sym e)
    (shaped_found c.args.now.now
    c.loop-p.now c.loop-p.invariant.shape p.slot p.place (c.requires.found p
    (Contains-get_or c.args.changed.now c.loop-p.p-index none_left c.loop-p-test.true)).0)

pub loop-p-preserved : goal.loop-p-preserved
loop-p-preserved c =
    let p = here c.args.changed.now c.loop-p.p-index in
    let s = p.slot in
    let rest = slots_of (drop (c.loop-p.p-index + 1) c.args.changed.now) in
    let old = fact_at c.args.now.now in
    let now = fact_at c.loop-p.now in
    let next = fact_at c.args.next.now in
    let inv = subst (λ l. IsCatching (slots_of l) old now next)
    (rest_is c.args.changed.now c.loop-p.p-index c.loop-p-test.true) c.loop-p.invariant.catching in
    elim c.match-strongest_at.branch [
      | in-Some w ↦
          let e : slot_of w.in-Some.f ≡ s = fact_at_proper c.args.next.now s w.in-Some.f
          (sym c.strongest_at.ensures ∙ w.in-Some.is) in
          rw w.now-is (record {
            catching = catching_put s rest old now next inv (fact_at w.put.new.self)
                (ap (fact_at w.put.new.self) (sym e) ∙ w.put.ensures.here ∙ sym w.in-Some.is
                ∙ c.strongest_at.ensures)
                (λ t d. w.put.ensures.others t (λ q. d (q ∙ e)));
            shape = shaped_both c.args.now.now c.loop-p.now w.put.new.self
                c.loop-p.invariant.shape w.put.ensures.shape;
          })
      | in_default w ↦
          rw w.now-is (record {
            catching = catching_skip s rest old now next inv c.requires.grows
                (sym c.strongest_at.ensures ∙ w.in_default.is);
            shape = c.loop-p.invariant.shape;
          })
    ]
