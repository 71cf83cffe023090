use Rattle.std.proofs.Common.{◌≡◌, Some, true, arith, sym, ap, subst, suc, length, slice_get}
use Rattle.std.proofs.Common.{slice_set}
use Rattle.std.proofs.lemmas.Option.{slice_get_within}
use Rattle.derivation.specs.Derivations.{At}
use Rattle.derivation.specs.Rounds.{Improves}
use Rattle.rule_universe.proofs.OnePlace.{place_within}
use Rattle.saturate.specs.Universes.{setting_by}
use Rattle.saturate.specs.Keeping.{IsTaken}
use Rattle.saturate.specs.Sweeping.{IsSweeping}
use Rattle.saturate.proofs.Lists.{written_back}
use Rattle.saturate.proofs.Strong.{got}
use Rattle.saturate.proofs.Swept.{concluded_place, sweeping_same, sweeping_more, swept_void}
use Rattle.saturate.proofs.sweep.take.Goals as goal

-- what was known was as strong
pub returns-in-Same-clause-taken : goal.returns-in-Same-clause-taken
returns-in-Same-clause-taken g c = λ first w d apart.
    let u = c.args.uni.now in
    let f = c.args.found in
    let s = setting_by g.C.Concludes.rules u in
    let at = g.K.Sweeps.facts u c.args.kept.now in
    let new = g.K.Sweeps.facts u c.take.new.self in
    let i = c.requires.concluded in
    let heights = c.args.work.now.heights.items in
    let due = c.args.work.now.due.items in
    let come = subst (λ t. IsTaken t at new f.fact) c.in-Same.is c.in_ok-taken.ensures.taken in
    subst (λ (x : At). IsSweeping s u first c.args.height x heights due) (sym come.0)
    (sweeping_same s u c.laws.ensures.universe.once
    (c.rules_are_lawful.ensures u.nodes u.hints).on_target first c.args.height at heights w
    f.instance i.0 i.1 f.fact i.2 due apart c.requires.long come.1.0
    (subst (λ (x : At). Improves at x f.fact come.1.0) come.0 come.1.1))

pub index-old-requires : goal.index-old-requires
index-old-requires g c =
    let u = c.args.uni.now in
    let f = c.args.found in
    let w = c.requires.concluded in
    let l = place_within (length u.nodes) u.pairs (w.0).target f.place w.3 in
    let n = (c.requires.swept.1).count in
    let o = c.args.work.now.heights.ok.0 in
    omega (arith, l, n, o)

pub index_mut-requires : goal.index_mut-requires
index_mut-requires g c =
    let u = c.args.uni.now in
    let f = c.args.found in
    let w = c.requires.concluded in
    let l = place_within (length u.nodes) u.pairs (w.0).target f.place w.3 in
    let n = (c.requires.swept.1).count in
    let o = c.args.work.now.heights.ok.0 in
    omega (arith, l, n, o)

pub height_now-requires-clause-placed : goal.height_now-requires-clause-placed
height_now-requires-clause-placed g c =
    let u = c.args.uni.now in
    let f = c.args.found in
    let w = c.requires.concluded in
    let at = g.K.Sweeps.facts u c.args.kept.now in
    let new = g.K.Sweeps.facts u c.take.new.self in
    let come = subst (λ t. IsTaken t at new f.fact) c.in-More.is c.in_ok-taken.ensures.taken in
    concluded_place (g.C.Concludes.rules u.nodes u.hints)
    (c.rules_are_lawful.ensures u.nodes u.hints).on_target at new w.0 f.fact come.1.0 w.2
    come.1.1 come.0 (length u.nodes) u.pairs f.place w.3

pub mark_users-requires : goal.mark_users-requires
mark_users-requires g c = λ k x.
    let w = c.requires.concluded in
    let users = c.users_at.ensures (w.0).target w.3 in
    let n = (users.exactly k).0 x in
    let h = slice_get_within c.args.uni.now.instances k n.0 n.1 in
    omega (arith, h, c.requires.long, ap length c.deref_mut.ensures.value)

-- it came
pub returns-else-top-height-clause-taken : goal.returns-else-top-height-clause-taken
returns-else-top-height-clause-taken g c = λ first w d apart.
    let u = c.args.uni.now in
    let f = c.args.found in
    let s = setting_by g.C.Concludes.rules u in
    let at = g.K.Sweeps.facts u c.args.kept.now in
    let new = g.K.Sweeps.facts u c.take.new.self in
    let i = c.requires.concluded in
    let come = subst (λ t. IsTaken t at new f.fact) c.in-More.is c.in_ok-taken.ensures.taken in
    let due = c.args.work.now.due in
    let heights = c.args.work.now.heights.items in
    let after = c.mark_users.new.due in
    let long : length after ≡ length due.items =
    omega (arith, c.mark_users.auto.due, ap length c.deref_mut.ensures.value) in
    let inside = place_within (length u.nodes) u.pairs (i.0).target f.place i.3 in
    let n = w.count in
    let there : slice_get heights f.place ≡ Some c.index-old.result.now =
    got heights f.place c.index-old.result.now (omega (arith, inside, n))
    c.index-old.ensures in
    subst (λ l. IsSweeping s u first c.args.height new
    (slice_set heights f.place c.height_now.result) l)
    (sym (written_back after due.items due.len long due.ok.0))
    (sweeping_more s u c.laws.ensures.universe.once
    (c.rules_are_lawful.ensures u.nodes u.hints).on_target first c.args.height at heights w
    f.instance i.0 i.1 f.fact i.2 due.items apart c.requires.long new come.1.0 come.1.1 come.0
    f.place (suc c.args.top) c.index-old.result.now c.height_now.result i.3 there d
    (omega (arith, c.if-top-height.false)) (omega (arith, c.height_now.ensures.above))
    c.height_now.ensures.old after long
    (λ j e. c.mark_users.ensures.kept j
    (subst (λ l. slice_get l j ≡ Some true) (sym c.deref_mut.ensures.value) e))
    (λ x at_x j user. c.mark_users.ensures.marked j
    (((c.users_at.ensures x at_x).exactly j).1 user)))

-- VOID came
pub returns-then-top-height-2-clause-taken : goal.returns-then-top-height-2-clause-taken
returns-then-top-height-2-clause-taken g c = λ first w d apart.
    let u = c.args.uni.now in
    let f = c.args.found in
    let at = g.K.Sweeps.facts u c.args.kept.now in
    let new = g.K.Sweeps.facts u c.take.new.self in
    let come = subst (λ t. IsTaken t at new f.fact) c.in-Void.is c.in_ok-taken.ensures.taken in
    swept_void (setting_by g.C.Concludes.rules u) u first c.args.height at new
    c.args.work.now.heights.items w f.fact come.1.0 come.1.1
    (c.sweeps_are_whole.ensures.proper u c.take.new.self c.in_ok-taken.ensures.fits) come.0
    (suc c.args.top) d (omega arith)
