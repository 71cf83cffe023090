use Rattle.std.proofs.Common.{arith, ◌≡◌, sym, subst, ap, length}
use Rattle.derivation.specs.Changes.{IsQuiet}
use Rattle.saturate.specs.Universes.{setting_by}
use Rattle.saturate.proofs.Lists.{written_back}
use Rattle.saturate.proofs.sweep.sweep_below.Goals as goal

pub returns-then-is_empty-clause-came : goal.returns-then-is_empty-clause-came
returns-then-is_empty-clause-came g c =
    c.sweeps_are_whole.ensures.none c.args.uni.now c.args.kept.now

pub sweep-requires-clause-quiet : goal.sweep-requires-clause-quiet
sweep-requires-clause-quiet g c =
    let u = setting_by g.C.Concludes.rules c.args.uni.now in
    let old = c.begin.new.self.due in
    let long : length c.mark_from.new.due ≡ length old.items =
    omega (arith, c.mark_from.auto.due, ap length c.deref_mut.ensures.value) in
    let len : old.len ≡ length old.items =
    omega (arith, c.deref_mut.ensures.len, ap length c.deref_mut.ensures.value) in
    subst (λ l. IsQuiet u l (g.K.Sweeps.facts c.args.uni.now c.args.kept.now))
    (sym (written_back c.mark_from.new.due old.items old.len long len))
    (c.requires.quiet c.mark_from.new.due c.mark_from.ensures.marked)
