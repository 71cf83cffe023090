use Rattle.std.proofs.Common.{arith, ◌≡◌, ◌≤◌, sym, subst, ap, length, count_by}
use Rattle.std.proofs.lemmas.Grind.{common_steps}
use Rattle.std.proofs.lemmas.List.Sums.{count_by-le-length}
use Rattle.derivation.specs.Changes.{IsQuiet}
use Rattle.saturate.specs.Universes.{setting_by}
use Rattle.saturate.proofs.Lists.{written_back}
use Rattle.saturate.proofs.rounds.rounds_below.Goals as goal

pub rounds_in-requires-clause-quiet : goal.rounds_in-requires-clause-quiet
rounds_in-requires-clause-quiet g c =
    let u = setting_by g.C.Concludes.rules c.args.uni.now in
    let old = c.begin.new.self.due in
    let long : length c.mark_from.new.due ≡ length old.items =
    omega (arith, c.mark_from.auto.due, ap length c.deref_mut.ensures.value) in
    let len : old.len ≡ length old.items =
    omega (arith, c.deref_mut.ensures.len, ap length c.deref_mut.ensures.value) in
    subst (λ l. IsQuiet u l (g.K.Keeps.facts c.args.uni.now c.args.kept.now))
    (sym (written_back c.mark_from.new.due old.items old.len long len))
    (c.requires.quiet c.mark_from.new.due c.mark_from.ensures.marked)

-- no more are due than there are
pub returns-clause-cost : goal.returns-clause-cost
returns-clause-cost g c = λ rising best b.
    let old = c.begin.new.self.due in
    let due = c.mark_from.new.due in
    let long : length due ≡ length old.items =
    omega (arith, c.mark_from.auto.due, ap length c.deref_mut.ensures.value) in
    let len : old.len ≡ length old.items =
    omega (arith, c.deref_mut.ensures.len, ap length c.deref_mut.ensures.value) in
    let back = written_back due old.items old.len long len in
    let all = subst (λ l. count_by (λ b. b) l ≤ length l) (sym back)
    (count_by-le-length (λ b. b) due) in
    let h = c.rounds_in.ensures.cost rising best b in
    let begun : length old.items ≡ length c.args.uni.now.instances =
    grind (arith, common_steps) in
    omega (arith, all, h, long, ap length back, begun)
