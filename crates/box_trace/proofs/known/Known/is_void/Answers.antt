use Rattle.std.specs.Prelude.{◌≡◌, Some, None, refl}
use Rattle.std.proofs.Common.{sym, ap, ◌∙◌}
use Rattle.facts.specs.declared.fact.Fact.TheVariants as fact
use Rattle.facts.specs.declared.fact.Slot.TheVariants as slot
use Rattle.facts.proofs.CommonParts.{void_is}
use Rattle.derivation.proofs.Parts.{none_some}
use Rattle.box_trace.specs.Tables.{fact_of, known_at}
use Rattle.box_trace.proofs.Rows.{read_at}
use Rattle.box_trace.proofs.known.Known.is_void.Goals as goal

pub returns-in-Some : goal.returns-in-Some
returns-in-Some c =
    let u = c.args.uni.now in
    let k = c.args.self.now in
    let here : known_at u k slot.Void ≡ Some c.in-Some.field-0.fact =
    ap fact_of (sym (read_at u c.laws.ensures.universe.once k slot.Void c.place.result
    c.place.ensures) ∙ (sym c.at.ensures ∙ c.in-Some.is)) in (
      λ h. here ∙ ap Some (void_is c.in-Some.field-0.fact
          (c.requires.proper slot.Void c.in-Some.field-0.fact here)),
      λ e. refl,
    )

pub returns-in-None : goal.returns-in-None
returns-in-None c =
    let u = c.args.uni.now in
    let k = c.args.self.now in
    let here : known_at u k slot.Void ≡ None =
    ap fact_of (sym (read_at u c.laws.ensures.universe.once k slot.Void c.place.result
    c.place.ensures) ∙ (sym c.at.ensures ∙ c.in-None.is)) in
    (λ h. cc, λ e. absurd (none_some fact.Void (known_at u k slot.Void) here e))
