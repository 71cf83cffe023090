use Rattle.std.proofs.Common.{arith, ◌≡◌, None, suc, ◌+◌, ◌-◌, ◌<◌, ◌≤◌, length, sym, ap, subst}
use Rattle.std.proofs.Common.{◌∙◌, add-one, refl, count_by, List, Bool, take, drop, ◌++◌}
use Rattle.std.proofs.lemmas.Bool.{eqb-true}
use Rattle.std.proofs.lemmas.List.{length-map}
use Rattle.facts.specs.declared.fact.Slot.TheVariants as slot
use Rattle.facts.specs.declared.fact.Fact.TheVariants as fact
use Rattle.derivation.specs.Derivations.{At, IsBest}
use Rattle.derivation.specs.Rounds.{InTable}
use Rattle.derivation.proofs.Best.{next_best}
use Rattle.derivation.proofs.Heights.{best_start, best_void, best_same}
use Rattle.derivation.specs.Changes.{IsQuiet, AreDue, AreUsers}
use Rattle.derivation.proofs.Changes.{quiet_after}
use Rattle.derivation.specs.Counted.{touched}
use Rattle.derivation.proofs.Counts.{due_touched}
use Rattle.rule_universe.specs.declared.placed.Placed.{Placed}
use Rattle.rule_universe.specs.Placed.{slots_of}
use Rattle.saturate.specs.Universes.{setting_by}
use Rattle.saturate.specs.Closed.{IsClosedUnder}
use Rattle.saturate.specs.Keeping.{IsSaid, HaveCome}
use Rattle.saturate.proofs.Counted.{spent_by, cost_by, spent_within, spent_next, spent_last}
use Rattle.saturate.proofs.Closed.{closed_same}
use Rattle.saturate.proofs.Lists.{written_back, listed_none}
use Rattle.saturate.proofs.rounds.rounds_in.Goals as goal

pub loop-init : goal.loop-init
loop-init g c = record {
  best = best_start (setting_by g.C.Concludes.rules c.args.uni.now)
      (g.K.Keeps.facts c.args.uni.now c.args.kept.now)
      (c.rounds_are_whole.ensures.proper c.args.uni.now c.args.height c.args.kept.now
      c.requires.fits);
  no_void = c.requires.no_void;
  due = c.requires.due;
  quiet = c.requires.quiet;
  fits =
      (let e : c.args.height ≡ c.args.height - 0 = omega arith in
      subst (λ n. g.K.Keeps.fits c.args.uni.now n c.args.kept.now) e c.requires.fits);
  come = refl;
  due_few = λ rising best b l. omega arith;
  cost = λ rising best b. omega arith;
}

pub round-requires-clause-fits : goal.round-requires-clause-fits
round-requires-clause-fits g c =
    let n = c.args.height - c.loop.counter - 1 in
    let e : c.args.height - c.loop.counter ≡ suc n = omega (arith, c.loop-test.true) in
    (n, subst (λ m. g.K.Keeps.fits c.args.uni.now m c.loop.kept) e c.loop.invariant.fits)

-- ---- VOID is known
pub returns-then-void-clause-best : goal.returns-then-void-clause-best
returns-then-void-clause-best g c =
    let w = c.args.uni.now in
    let u = setting_by g.C.Concludes.rules w in
    let at = g.K.Keeps.facts w c.loop.kept in
    let new = g.K.Keeps.facts w c.round.new.kept in
    let G = InTable (g.K.Keeps.facts w c.args.kept.now) in
    let whole = c.rounds_are_whole.ensures.whole w c.loop.kept c.round.new.kept
    c.round.new.changed.items c.in_ok-void.ensures.came in
    best_void u G (suc c.loop.counter) c.args.height new fact.Void
    (next_best u (c.rules_are_lawful.ensures w.nodes w.hints) c.laws.ensures.universe.closed G
    c.loop.counter at new c.loop.invariant.best c.loop.invariant.no_void whole.ahead)
    (subst (λ b. IsSaid b (new slot.Void)) c.if-void.true c.in_ok-void.ensures.said)
    (omega (arith, c.loop-test.true))

pub returns-then-void-clause-come : goal.returns-then-void-clause-come
returns-then-void-clause-come g c =
    let w = c.args.uni.now in
    let n = c.args.height - c.loop.counter - 1 in
    let e : c.args.height - c.loop.counter ≡ suc n = omega (arith, c.loop-test.true) in
    let came = c.in_ok-void.ensures.came in (
      suc c.loop.counter,
      omega (arith, c.loop-test.true),
      (c.loop.kept, c.round.new.changed.items, c.loop.invariant.come, came),
      (
        n,
        c.rounds_are_whole.ensures.fits w c.loop.kept c.round.new.kept
            c.round.new.changed.items n came
            (subst (λ m. g.K.Keeps.fits w m c.loop.kept) e c.loop.invariant.fits),
      ),
    )

pub returns-then-void-clause-cost : goal.returns-then-void-clause-cost
returns-then-void-clause-cost g c = λ rising best b.
    let same_due = ap (count_by (λ b. b)) c.deref.ensures.value in
    spent_last c.args.uni.now.instances best c.loop.counter c.args.height c.loop-test.true _ _ _ _ _
    (c.loop.invariant.due_few rising best b c.loop-test.true) (c.loop.invariant.cost rising best b)
    (omega (arith, same_due, c.round.ensures.cost))

-- ---- nothing changed
pub returns-then-is_empty-clause-best : goal.returns-then-is_empty-clause-best
returns-then-is_empty-clause-best g c =
    let w = c.args.uni.now in
    let u = setting_by g.C.Concludes.rules w in
    let at = g.K.Keeps.facts w c.loop.kept in
    let new = g.K.Keeps.facts w c.round.new.kept in
    let G = InTable (g.K.Keeps.facts w c.args.kept.now) in
    let changed = c.round.new.changed in
    let whole = c.rounds_are_whole.ensures.whole w c.loop.kept c.round.new.kept
    changed.items c.in_ok-void.ensures.came in
    let no_void : new slot.Void ≡ None =
    subst (λ b. IsSaid b (new slot.Void)) c.if-void.false c.in_ok-void.ensures.said in
    let e : length changed.items ≡ 0 = sym changed.ok.0 ∙ eqb-true changed.len 0
    (sym c.is_empty.ensures ∙ c.if-is_empty.true) in
    let same = listed_none (slots_of changed.items) at new
    (length-map changed.items (λ (q : Placed). q.slot) ∙ e) (whole.listed no_void) in
    let both : at ≡ new = (λ k s. sym (same s) k) in
    subst (IsBest u G c.args.height) both
    (best_same u (c.rules_are_lawful.ensures w.nodes w.hints) c.laws.ensures.universe.closed G
    c.loop.counter c.args.height at new c.loop.invariant.best c.loop.invariant.no_void whole.ahead
    same (omega (arith, c.loop-test.true)))

pub returns-then-is_empty-clause-come : goal.returns-then-is_empty-clause-come
returns-then-is_empty-clause-come g c =
    let w = c.args.uni.now in
    let n = c.args.height - c.loop.counter - 1 in
    let e : c.args.height - c.loop.counter ≡ suc n = omega (arith, c.loop-test.true) in
    let came = c.in_ok-void.ensures.came in (
      suc c.loop.counter,
      omega (arith, c.loop-test.true),
      (c.loop.kept, c.round.new.changed.items, c.loop.invariant.come, came),
      (
        n,
        c.rounds_are_whole.ensures.fits w c.loop.kept c.round.new.kept
            c.round.new.changed.items n came
            (subst (λ m. g.K.Keeps.fits w m c.loop.kept) e c.loop.invariant.fits),
      ),
    )

pub returns-then-is_empty-clause-closed : goal.returns-then-is_empty-clause-closed
returns-then-is_empty-clause-closed g c = λ said.
    let w = c.args.uni.now in
    let u = setting_by g.C.Concludes.rules w in
    let at = g.K.Keeps.facts w c.loop.kept in
    let new = g.K.Keeps.facts w c.round.new.kept in
    let changed = c.round.new.changed in
    let whole = c.rounds_are_whole.ensures.whole w c.loop.kept c.round.new.kept
    changed.items c.in_ok-void.ensures.came in
    let no_void : new slot.Void ≡ None =
    subst (λ b. IsSaid b (new slot.Void)) c.if-void.false c.in_ok-void.ensures.said in
    let e : length changed.items ≡ 0 = sym changed.ok.0 ∙ eqb-true changed.len 0
    (sym c.is_empty.ensures ∙ c.if-is_empty.true) in
    let same = listed_none (slots_of changed.items) at new
    (length-map changed.items (λ (q : Placed). q.slot) ∙ e) (whole.listed no_void) in
    let both : at ≡ new = (λ k s. sym (same s) k) in
    subst (IsClosedUnder u) both (closed_same u at new whole.ahead same c.loop.invariant.no_void)

pub returns-then-is_empty-clause-cost : goal.returns-then-is_empty-clause-cost
returns-then-is_empty-clause-cost g c = λ rising best b.
    let same_due = ap (count_by (λ b. b)) c.deref.ensures.value in
    spent_last c.args.uni.now.instances best c.loop.counter c.args.height c.loop-test.true _ _ _ _ _
    (c.loop.invariant.due_few rising best b c.loop-test.true) (c.loop.invariant.cost rising best b)
    (omega (arith, same_due, c.round.ensures.cost))

pub returns-in_err-void-clause-cost : goal.returns-in_err-void-clause-cost
returns-in_err-void-clause-cost g c = λ rising best b.
    let same_due = ap (count_by (λ b. b)) c.deref.ensures.value in
    spent_last c.args.uni.now.instances best c.loop.counter c.args.height c.loop-test.true _ _ _ _ _
    (c.loop.invariant.due_few rising best b c.loop-test.true) (c.loop.invariant.cost rising best b)
    (omega (arith, same_due, c.round.ensures.cost))

-- ---- the next round
pub loop-preserved : goal.loop-preserved
loop-preserved g c =
    let w = c.args.uni.now in
    let u = setting_by g.C.Concludes.rules w in
    let G = InTable (g.K.Keeps.facts w c.args.kept.now) in
    let at = g.K.Keeps.facts w c.loop.kept in
    let new = g.K.Keeps.facts w c.round.new.kept in
    let changed = c.round.new.changed.items in
    let came = c.in_ok-void.ensures.came in
    let whole = c.rounds_are_whole.ensures.whole w c.loop.kept c.round.new.kept changed came in
    let no_void : new slot.Void ≡ None =
    subst (λ b. IsSaid b (new slot.Void)) c.if-void.false c.in_ok-void.ensures.said in
    let marked = subst (λ l. AreDue w.instances (slots_of l) c.mark.new.due)
    c.deref-in-loop.ensures.value c.mark.ensures.marked in
    let only = subst (λ l. AreUsers w.instances (slots_of l) c.mark.new.due)
    c.deref-in-loop.ensures.value c.mark.ensures.only in
    let after_best = next_best u (c.rules_are_lawful.ensures w.nodes w.hints)
    c.laws.ensures.universe.closed G c.loop.counter at new c.loop.invariant.best
    c.loop.invariant.no_void whole.ahead in
    let n = c.args.height - c.loop.counter - 1 in
    let before_n : c.args.height - c.loop.counter ≡ suc n = omega (arith, c.loop-test.true) in
    let after_n : n ≡ c.args.height - (c.loop.counter + 1) = omega arith in
    let old_due = c.loop.work.due in
    let long : length c.mark.new.due ≡ length old_due.items =
    omega (arith, c.mark.auto.due, ap length c.deref_mut.ensures.value) in
    let len : old_due.len ≡ length old_due.items =
    omega (arith, c.deref_mut.ensures.len, ap length c.deref_mut.ensures.value) in
    let due : List Bool = take old_due.len
    (c.mark.new.due ++ drop (length c.mark.new.due) old_due.items) in
    let back : due ≡ c.mark.new.due =
    written_back c.mark.new.due old_due.items old_due.len long len in
    record {
      best = subst (λ m. IsBest u G m new) (sym (add-one c.loop.counter)) after_best;
      no_void = no_void;
      due = ap length back ∙ (long ∙ c.loop.invariant.due);
      quiet = subst (λ l. IsQuiet u l new) (sym back)
          (quiet_after u c.mark.new.due (slots_of changed) at new whole.ahead no_void
          (whole.listed no_void) marked);
      fits = subst (λ m. g.K.Keeps.fits w m c.round.new.kept) after_n
          (c.rounds_are_whole.ensures.fits w c.loop.kept c.round.new.kept changed n came
          (subst (λ m. g.K.Keeps.fits w m c.loop.kept) before_n c.loop.invariant.fits));
      come = subst (λ m. HaveCome (g.K.Keeps.came w) m c.args.kept.now c.round.new.kept)
          (sym (add-one c.loop.counter)) (c.loop.kept, changed, c.loop.invariant.come, came);
      due_few = λ rising best b l.
          (let more : suc c.loop.counter < c.args.height = omega (arith, l) in
          let before : at ≡ best c.loop.counter = (λ k s. sym (b c.loop.counter at
          (omega (arith, l)) c.loop.invariant.best c.loop.invariant.no_void s) k) in
          let after : new ≡ best (suc c.loop.counter) =
          (λ k s. sym (b (suc c.loop.counter) new more after_best no_void s) k) in
          let few = due_touched w.instances (slots_of changed) c.mark.new.due at new
          (long ∙ c.loop.invariant.due) only
          (rising c.loop.kept c.round.new.kept changed came no_void) in
          let there : count_by (λ b. b) c.mark.new.due
          ≤ touched w.instances (best c.loop.counter) (best (suc c.loop.counter)) =
          subst (λ (x : At). count_by (λ b. b) c.mark.new.due
          ≤ touched w.instances x (best (suc c.loop.counter))) before
          (subst (λ (x : At). count_by (λ b. b) c.mark.new.due
          ≤ touched w.instances at x) after few) in
          subst (λ m. count_by (λ b. b) due
          ≤ cost_by (count_by (λ b. b) c.args.work.now.due.items) w.instances best m)
          (sym (add-one c.loop.counter))
          (subst (λ l. count_by (λ b. b) l ≤ touched w.instances (best c.loop.counter)
          (best (suc c.loop.counter))) (sym back) there));
      cost = λ rising best b.
          (let same_due = ap (count_by (λ b. b)) c.deref.ensures.value in
          subst (λ m. g.C.Concludes.asked c.round.new.steps
          ≤ g.C.Concludes.asked c.args.steps.now
          + spent_by (count_by (λ b. b) c.args.work.now.due.items) w.instances best m)
          (sym (add-one c.loop.counter))
          (spent_next w.instances best c.loop.counter c.args.height c.loop-test.true _ _ _ _ _
          (c.loop.invariant.due_few rising best b c.loop-test.true)
          (c.loop.invariant.cost rising best b) (omega (arith, same_due, c.round.ensures.cost))));
    }

-- ---- all rounds came
pub returns-clause-best : goal.returns-clause-best
returns-clause-best g c =
    let w = c.args.uni.now in
    let e : c.loop.counter ≡ c.args.height =
    omega (arith, c.loop-test.false, c.loop.auto.counter-end) in
    subst (λ n. IsBest (setting_by g.C.Concludes.rules w)
    (InTable (g.K.Keeps.facts w c.args.kept.now)) n (g.K.Keeps.facts w c.loop.kept)) e
    c.loop.invariant.best

pub returns-clause-cost : goal.returns-clause-cost
returns-clause-cost g c = λ rising best b.
    let so_far = c.loop.invariant.cost rising best b in
    let all = spent_within (count_by (λ b. b) c.args.work.now.due.items) c.args.uni.now.instances
    best c.loop.counter c.args.height (omega (arith, c.loop.auto.counter-end)) in
    omega (arith, so_far, all)
