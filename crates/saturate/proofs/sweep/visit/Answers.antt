use Rattle.std.proofs.Common.{◌≡◌, ◌≤◌, ◌∙◌, ℕ, Some, arith, sym, ap, subst, length, slice_get}
use Rattle.std.specs.List.{Contains}
use Rattle.derivation.specs.Rounds.{InTable, all_at, conclusion}
use Rattle.rule_universe.specs.declared.placed.Placed.{Placed}
use Rattle.rule_universe.specs.Placed.{slots_of}
use Rattle.rule_universe.proofs.OnePlace.{place_within}
use Rattle.saturate.specs.Universes.{setting_by}
use Rattle.saturate.specs.Sweeping.{IsRead, AreAtMost}
use Rattle.saturate.proofs.Answered.{ok_map}
use Rattle.saturate.proofs.Swept.{read_none, read_some, sweeping_none, concluded_within}
use Rattle.saturate.proofs.Swept.{premises_within, quiet_apart}
use Rattle.saturate.proofs.sweep.visit.Goals as goal

pub read-requires-clause-within : goal.read-requires-clause-within
read-requires-clause-within g c = λ p w.
    let u = c.args.uni.now in
    let placed = c.premises-placed.ensures c.instance_at-instance.result.now
    c.instance_at-instance.ensures in
    let l = place_within (length u.nodes) u.pairs p.slot p.place (placed.places p w) in
    let n = (c.requires.sweeping.1).swept.count in
    omega (arith, l, n, ap length c.deref.ensures.value)

pub read-requires-clause-placed : goal.read-requires-clause-placed
read-requires-clause-placed g c =
    (c.premises-placed.ensures c.instance_at-instance.result.now
    c.instance_at-instance.ensures).places

-- a premise is missing
pub returns-in_default-clause-visited : goal.returns-in_default-clause-visited
returns-in_default-clause-visited g c = λ first w.
    let u = c.args.uni.now in
    let s = setting_by g.C.Concludes.rules u in
    let at = g.K.Sweeps.facts u c.args.kept.now in
    let i = c.instance_at-instance.result.now in
    let row = c.premises-placed.result.now in
    let placed = c.premises-placed.ensures i c.instance_at-instance.ensures in
    sweeping_none s u first c.args.height at c.args.work.now.heights.items
    c.args.work.now.due.items w c.args.k i c.instance_at-instance.ensures
    (read_none s.rules at i row placed.slots
    (subst (λ o. IsRead o (all_at at (slots_of row)) c.read.new.premises.items)
    c.in_default.is c.in_ok-read.ensures.read))

-- the rule concludes nothing
pub returns-in-None-clause-visited : goal.returns-in-None-clause-visited
returns-in-None-clause-visited g c = λ first w.
    let u = c.args.uni.now in
    let s = setting_by g.C.Concludes.rules u in
    let at = g.K.Sweeps.facts u c.args.kept.now in
    let i = c.instance_at-instance.result.now in
    let row = c.premises-placed.result.now in
    let placed = c.premises-placed.ensures i c.instance_at-instance.ensures in
    let ps = c.read.new.premises.items in
    let found : all_at at (slots_of row) ≡ Some ps =
    subst (λ o. IsRead o (all_at at (slots_of row)) ps) c.in-Some.is
    c.in_ok-read.ensures.read in
    let by =
    rw (c.dag.ensures, c.hints.ensures, c.deref-2.ensures.value) at c.conclude.ensures.is in
    sweeping_none s u first c.args.height at c.args.work.now.heights.items
    c.args.work.now.due.items w c.args.k i c.instance_at-instance.ensures
    (read_some s.rules at i row ps placed.slots found ∙ (sym by ∙ c.in-None.is))

pub take-requires-clause-swept : goal.take-requires-clause-swept
take-requires-clause-swept g c = (c.requires.sweeping.0, (c.requires.sweeping.1).swept)

-- it concludes a fact
pub returns-in-Some-conclude-clause-visited : goal.returns-in-Some-conclude-clause-visited
returns-in-Some-conclude-clause-visited g c =
    ok_map c.take.result c.take.ensures.taken (λ course taken first w.
    let u = c.args.uni.now in
    let s = setting_by g.C.Concludes.rules u in
    let at = g.K.Sweeps.facts u c.args.kept.now in
    let proper = c.sweeps_are_whole.ensures.proper u c.args.kept.now c.requires.fits in
    let i = c.instance_at-instance.result.now in
    let row = c.premises-placed.result.now in
    let placed = c.premises-placed.ensures i c.instance_at-instance.ensures in
    let ps = c.read.new.premises.items in
    let heights = c.args.work.now.heights.items in
    let found : all_at at (slots_of row) ≡ Some ps =
    subst (λ o. IsRead o (all_at at (slots_of row)) ps) c.in-Some.is
    c.in_ok-read.ensures.read in
    let by =
    rw (c.dag.ensures, c.hints.ensures, c.deref-2.ensures.value) at c.conclude.ensures.is in
    let is : conclusion s.rules at i ≡ Some c.in-Some-conclude.c =
    read_some s.rules at i row ps placed.slots found
    ∙ (sym by ∙ c.in-Some-conclude.is) in
    let most : (p : Placed) (h : ℕ) → Contains row p → slice_get heights p.place ≡ Some h
    → h ≤ c.in-Some.top =
    subst (λ l. AreAtMost (Some c.in-Some.top) l row) c.deref.ensures.value
    (subst (λ o. AreAtMost o c.deref.result.now row) c.in-Some.is c.in_ok-read.ensures.heights) in
    taken first w.swept
    (concluded_within s (InTable first) c.in-Some.top at proper c.args.k i
    c.in-Some-conclude.c c.instance_at-instance.ensures is
    (premises_within s u first c.args.height at heights w.swept i.premises row placed c.in-Some.top
    most))
    (quiet_apart s c.args.k c.args.work.now.due.items at w.quiet))
