use Rattle.std.proofs.Common.{◌≡◌, ◌+◌, ◌-◌, ◌/◌, ◌<◌, arith, sym, subst, ap, ◌∙◌, Some, None}
use Rattle.std.proofs.Common.{length}
use Rattle.cert_checker.specs.Open.{Numbered}
use Rattle.cert_checker.specs.Steps.{step_fact}
use Rattle.cert_checker.proofs.Find.{found_at, narrows_up, narrowed, row_is}
use Rattle.cert_checker.proofs.open.OpenSteps.search.Goals as goal

pub returns-then-row-number : goal.returns-then-row-number
returns-then-row-number c =
    let rows = c.self.inside.rows.items in
    let middle = c.loop-low.low + (c.loop-low.high - c.loop-low.low) / 2 in
    let w = c.loop-low.invariant.within in
    let o = c.loop-low-test.true in
    let inside : middle < length rows = omega (arith, w, o) in
    let at = row_is rows middle c.index-row.result.now inside c.index-row.ensures in
    let e = found_at rows c.self.inside.next c.args.number middle c.index-row.result.now.fact
    c.self.invariant inside (ap (λ x. x.number) at ∙ c.if-row-number.true) (ap (λ x. x.fact) at) in
    let P : Numbered → Type 0 =
    λ s. Some c.index-row.result.now.fact ≡ step_fact s.rows c.args.number in
    subst P c.self.view_is (sym e)

pub loop-low-preserved-then-row-number-2 : goal.loop-low-preserved-then-row-number-2
loop-low-preserved-then-row-number-2 c =
    let rows = c.self.inside.rows.items in
    let middle = c.loop-low.low + (c.loop-low.high - c.loop-low.low) / 2 in
    let w = c.loop-low.invariant.within in
    let o = c.loop-low-test.true in
    let inside : middle < length rows = omega (arith, w, o) in
    let at = row_is rows middle c.index-row.result.now inside c.index-row.ensures in
    narrows_up rows c.self.inside.next c.args.number c.loop-low.low c.loop-low.high middle
    c.self.invariant c.loop-low.invariant (omega (arith, o)) (omega (arith, o))
    (let n = ap (λ x. x.number) at in let t = c.if-row-number-2.true in omega (arith, n, t))

pub returns : goal.returns
returns c =
    let P : Numbered → Type 0 = λ s. None ≡ step_fact s.rows c.args.number in
    subst P c.self.view_is (sym (narrowed c.self.inside.rows.items c.args.number c.loop-low.low
    c.loop-low.high c.loop-low.invariant c.loop-low-test.false))
