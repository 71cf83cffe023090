use Rattle.std.specs.Prelude.{◌≡◌, Option, Some, None, IfSome}
use Rattle.std.proofs.Common.{sym, subst, ap, ◌∙◌}
use Rattle.dyadic.specs.Extremes.{greater_end}
use Rattle.dyadic.specs.declared.number.End.{End}
use Rattle.interval.specs.Meets.{interval_from}
use Rattle.interval.specs.declared.interval.Interval.{Interval}
use Rattle.interval.specs.Ends.{range_from}
use Rattle.interval.specs.Intervals.{range_of}
use Rattle.interval.specs.Pairs.{IsCommon}
use Rattle.interval.proofs.Pairs.{one_bound, meet_common, apart_by, apart_out}
use Rattle.interval.proofs.interval.Interval.meet.Goals as goal

pub returns-clause-apart : goal.returns-clause-apart
returns-clause-apart c = let t = range_from c.greater.result c.lesser.result in (
  λ n. apart_by (range_of c.args.self)
      (range_of c.args.other) t c.greater.ensures.first c.greater.ensures.second
      c.lesser.ensures.first c.lesser.ensures.second (one_bound _ _ _ c.greater.ensures.one)
      (one_bound _ _ _ c.lesser.ensures.one) (c.new.ensures.refused.0 n),
  λ a. c.new.ensures.refused.1 (apart_out (range_of c.args.self)
      (range_of c.args.other) t c.greater.ensures.first c.greater.ensures.second
      c.lesser.ensures.first c.lesser.ensures.second (one_bound _ _ _ c.greater.ensures.one)
      (one_bound _ _ _ c.lesser.ensures.one) a),
)

made_common : (i j : Interval) (lo hi : End) (made : Option Interval)
    → IfSome made (λ m. (m.lo ≡ lo) × (m.hi ≡ hi))
    → IsCommon (range_of i) (range_of j) (range_from lo hi)
    → IfSome made (λ m. IsCommon (range_of i) (range_of j) (range_of m))
made_common i j lo hi None e k = tt
made_common i j lo hi (Some m) e k =
    subst (λ a. IsCommon (range_of i) (range_of j) (range_from a m.hi)) (sym e.0)
    (subst (λ b. IsCommon (range_of i) (range_of j) (range_from lo b)) (sym e.1) k)

pub returns-clause-common : goal.returns-clause-common
returns-clause-common c = let t = range_from c.greater.result c.lesser.result in
    made_common c.args.self c.args.other c.greater.result c.lesser.result
    c.new.result c.new.ensures.ends
    (meet_common (range_of c.args.self) (range_of c.args.other) t
    c.greater.ensures.first c.greater.ensures.second c.lesser.ensures.first c.lesser.ensures.second
    (one_bound _ _ _ c.greater.ensures.one) (one_bound _ _ _ c.lesser.ensures.one))

pub returns-clause-is : goal.returns-clause-is
returns-clause-is c =
    c.new.ensures.is ∙ ap (λ lo. interval_from lo c.lesser.result) c.greater.ensures.is
    ∙ ap (interval_from (greater_end c.args.self.lo c.args.other.lo)) c.lesser.ensures.is
