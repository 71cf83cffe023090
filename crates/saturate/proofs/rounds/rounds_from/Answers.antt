use Rattle.std.proofs.Common.{arith, ◌≡◌, refl, sym, subst, ap, length}
use Rattle.derivation.specs.Changes.{IsQuiet}
use Rattle.saturate.specs.Tables.{fact_at}
use Rattle.saturate.specs.Universes.{setting_by}
use Rattle.saturate.proofs.Lists.{written_back}
use Rattle.saturate.proofs.Closed.{void_best}
use Rattle.saturate.proofs.rounds.rounds_from.Goals as goal

pub returns-then-start-clause-best : goal.returns-then-start-clause-best
returns-then-start-clause-best g c =
    void_best (setting_by g.C.Concludes.rules c.args.uni.now) c.args.start c.args.change.height
    c.if-start.true

pub settle_due-requires-clause-quiet : goal.settle_due-requires-clause-quiet
settle_due-requires-clause-quiet g c =
    let u = setting_by g.C.Concludes.rules c.args.uni.now in
    let old = c.begin.new.self.due in
    let long : length c.mark_from.new.due ≡ length old.items =
    omega (arith, c.mark_from.auto.due, ap length c.deref_mut.ensures.value) in
    let len : old.len ≡ length old.items =
    omega (arith, c.deref_mut.ensures.len, ap length c.deref_mut.ensures.value) in
    subst (λ l. IsQuiet u l (fact_at c.args.start))
    (sym (written_back c.mark_from.new.due old.items old.len long len))
    (c.requires.quiet (rw c.if-start.false refl) c.mark_from.new.due c.mark_from.ensures.marked)
