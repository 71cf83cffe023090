use Rattle.std.proofs.Common.{◌≡◌, ◌∙◌, sym, subst, length}
use Rattle.facts.specs.declared.fact.Slot.TheVariants as slot
use Rattle.derivation.specs.Derivations.{At}
use Rattle.derivation.specs.Changes.{IsQuiet}
use Rattle.derivation.specs.Rounds.{IsBestFrom}
use Rattle.saturate.specs.Tables.{fact_at}
use Rattle.saturate.specs.Universes.{setting_by}
use Rattle.saturate.proofs.Answered.{ok_map}
use Rattle.saturate.proofs.Places.{copy_same}
use Rattle.saturate.proofs.Slots.{copy_room}
use Rattle.saturate.proofs.table_sweep.sweep_from.Goals as goal

pub sweep-requires-clause-fits : goal.sweep-requires-clause-fits
sweep-requires-clause-fits g c =
    let u = c.args.uni.now in
    copy_room (length u.nodes) u.pairs c.args.start.now c.copy_to.new.other
    c.in_ok-copy_to.ensures c.requires.places

pub sweep-requires-clause-no_void : goal.sweep-requires-clause-no_void
sweep-requires-clause-no_void g c =
    copy_same c.args.start.now c.copy_to.new.other c.in_ok-copy_to.ensures slot.Void
    ∙ c.requires.no_void

pub sweep-requires-clause-quiet : goal.sweep-requires-clause-quiet
sweep-requires-clause-quiet g c =
    let s = setting_by g.C.Concludes.rules c.args.uni.now in
    let copy = c.copy_to.new.other in
    let same : fact_at copy ≡ fact_at c.args.start.now =
    (λ k x. copy_same c.args.start.now copy c.in_ok-copy_to.ensures x k) in
    subst (λ l. IsQuiet s l (fact_at copy))
    (sym (c.in_ok-begin_with.ensures.due ∙ c.deref.ensures.value))
    (subst (IsQuiet s c.args.area.now.work.due.items) (sym same) c.requires.quiet)

pub returns-clause-best : goal.returns-clause-best
returns-clause-best g c =
    let s = setting_by g.C.Concludes.rules c.args.uni.now in
    let copy = c.copy_to.new.other in
    let last = fact_at c.sweep.new.kept in
    let same : fact_at copy ≡ fact_at c.args.start.now =
    (λ k x. copy_same c.args.start.now copy c.in_ok-copy_to.ensures x k) in
    ok_map c.sweep.result c.sweep.ensures.best (λ best h said.
    subst (λ (x : At). IsBestFrom s x c.args.height last) same (h said))
