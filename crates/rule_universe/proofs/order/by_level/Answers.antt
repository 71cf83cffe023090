use Rattle.std.proofs.Common.{◌≡◌, ◌<◌, arith, ap, subst, sym, inl, inr, length, slice_index_or}
use Rattle.std.specs.List.{Contains}
use Rattle.std.proofs.lemmas.List.Elements.{Contains-get_or}
use Rattle.rule_universe.specs.Ordered.{AreNumbersOf}
use Rattle.rule_universe.proofs.order.by_level.Goals as goal

pub loop-k-preserved : goal.loop-k-preserved
loop-k-preserved c = λ k w.
    elim (c.write_at.ensures k w) [
      | inl h ↦ c.loop-k.invariant k h
      | inr e ↦ subst (λ j. j < length c.args.instances.now) (sym e)
          (c.requires (slice_index_or c.args.numbers.now c.loop-k.k-index 0)
          (Contains-get_or c.args.numbers.now c.loop-k.k-index 0 c.loop-k-test.true))
    ]

pub loop-k-init : goal.loop-k-init
loop-k-init c = subst (λ l. AreNumbersOf c.args.instances.now l)
    (sym c.in_ok-sorted.ensures.items) c.requires
