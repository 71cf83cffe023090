use Rattle.fx_model.specs.Expression.{literal_value}
use Rattle.literal_order.proofs.Ratios.{IsRatio, from_zero, some_size, tested}
use Rattle.literal_order.proofs.order.is_some.Goals as goal

pub returns : goal.returns
returns c =
    let l = c.args.lit.now in
    let r = c.ratio_of.result in
    let a : IsRatio (literal_value l) r.number r.divisor l.two =
    record { value = c.ratio_of.ensures.value; some = c.ratio_of.ensures.some } in
    record {
      some = tested r.number _ (some_size _ r.number r.divisor l.two a);
      from_zero = from_zero _ r.number r.divisor l.two a;
    }
