use Rattle.std.proofs.Common.{◌≡◌, ◌<◌, length, sym, subst, ap, ◌∙◌, Some}
use Rattle.cert_checker.specs.Open.{Numbered}
use Rattle.cert_checker.specs.Steps.{step_fact}
use Rattle.cert_checker.proofs.Find.{found_at, row_is}
use Rattle.cert_checker.proofs.open.OpenSteps.at.Goals as goal

pub returns-then-row-number : goal.returns-then-row-number
returns-then-row-number c =
    let rows = c.self.inside.rows.items in
    let inside : c.args.index < length rows =
    subst (λ (s : Numbered). c.args.index < length s.rows) (sym c.self.view_is) c.requires in
    let at = row_is rows c.args.index c.index-row.result.now inside c.index-row.ensures in
    let e = found_at rows c.self.inside.next c.args.number c.args.index c.index-row.result.now.fact
    c.self.invariant inside (ap (λ x. x.number) at ∙ c.if-row-number.true) (ap (λ x. x.fact) at) in
    let P : Numbered → Type 0 =
    λ s. step_fact s.rows c.args.number ≡ Some c.index-row.result.now.fact in
    subst P c.self.view_is e
