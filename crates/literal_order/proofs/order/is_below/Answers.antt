use Rattle.std.proofs.Common.{◌≡◌, IsTrue, ◌↔◌, sym, subst, arith}
use Rattle.fx_model.specs.Expression.{literal_value}
use Rattle.fx_model.specs.Fraction.{◌<ℚ◌}
use Rattle.fx_model.specs.Grid.{signed}
use Rattle.literal_order.proofs.Ratios.{chained}
use Rattle.literal_order.proofs.Signs.{both_down, apart}
use Rattle.literal_order.proofs.order.is_below.Goals as goal

pub returns-then-a_negative : goal.returns-then-a_negative
returns-then-a_negative c =
    chained c.is_less.ensures (both_down c.args.a_negative c.args.b_negative
    (literal_value c.args.a.now) (literal_value c.args.b.now) (grind arith) (grind arith))

pub returns : goal.returns
returns c =
    let x = literal_value c.args.a.now in
    let y = literal_value c.args.b.now in
    let other : ¬ (c.args.a_negative ≡ c.args.b_negative) = λ e. grind (arith, e) in
    subst (λ r. IsTrue r ↔ signed c.args.a_negative x <ℚ signed c.args.b_negative y)
    (sym c.is_one.ensures)
    (apart x y c.is_some-first.ensures.from_zero c.is_some-second.ensures.from_zero
    c.args.a_negative c.args.b_negative c.is_some-first.result c.is_some-second.result other
    c.is_some-first.ensures.some c.is_some-second.ensures.some)
