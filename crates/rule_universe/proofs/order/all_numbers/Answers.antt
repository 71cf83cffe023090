use Rattle.std.proofs.Common.{◌≡◌, ◌<◌, arith, ap, subst, sym, inl, inr, length}
use Rattle.std.specs.List.{Contains}
use Rattle.std.proofs.lemmas.List.Elements.{Contains-push_cases}
use Rattle.rule_universe.proofs.order.all_numbers.Goals as goal

pub loop-k-init : goal.loop-k-init
loop-k-init c = λ k w. absurd (omega (arith, w.1, ap length c.new-numbers.ensures.items))

pub loop-k-preserved : goal.loop-k-preserved
loop-k-preserved c = λ k w.
    elim (Contains-push_cases c.loop-k.numbers.items c.loop-k.k k
    (subst (λ l. Contains l k) c.in_ok-push.ensures.items w)) [
      | inl h ↦ c.loop-k.invariant k h
      | inr e ↦ subst (λ j. j < length c.args.instances.now) e (omega (arith, c.loop-k-test.true))
    ]
