use Rattle.std.specs.Prelude.{◌≡◌, Option, Some, None, IfSome}
use Rattle.std.proofs.Common.{sym, subst, arith, to_z, of_z, w32}
use Rattle.std.proofs.lemmas.Int.{ints}
use Rattle.fx_model.specs.Fraction.{Fraction}
use Rattle.fx_model.specs.Enclosure.{MultiplesIn, IsEnclosure}
use Rattle.dyadic.specs.declared.number.End.{End}
use Rattle.dyadic.proofs.Made.{grid_bound}
use Rattle.interval.specs.declared.interval.Interval.{Interval}
use Rattle.interval.specs.Ends.{AreEnds, range_from}
use Rattle.interval.specs.Intervals.{range_of}
use Rattle.interval.specs.Multiples.{IsEndUp, IsEndDown}
use Rattle.interval.proofs.ShrunkLaws.{shrunk_ordered, some_multiple, shrunk_is}
use Rattle.interval.proofs.interval.Interval.shrink.Goals as goal

pub returns-clause-none : goal.returns-clause-none
returns-clause-none c =
    let k : to_z w32 (of_z w32 c.args.k) ≡ c.args.k = omega (arith, ints) in
    let r = range_of c.args.self in
    let t = range_from c.end_up.result c.end_down.result in
    let u = subst (λ k. IsEndUp k r.low t.low) k c.end_up.ensures in
    let v = subst (λ k. IsEndDown k r.high t.high) k c.end_down.ensures in (
      λ n x m. c.new.ensures.refused.0 n (shrunk_ordered c.args.k r t c.args.self.ordered u v x m),
      λ a. c.new.ensures.refused.1
          (λ i. let s = some_multiple c.args.k r t c.args.self.ordered u v i in a s.0 s.1),
    )

made_enclosure : (S : Fraction → Type 0) (lo hi : End) (made : Option Interval)
    → IfSome made (λ m. (m.lo ≡ lo) × (m.hi ≡ hi)) → (AreEnds lo hi
    → IsEnclosure S (range_from lo hi)) → IfSome made (λ m. IsEnclosure S (range_of m))
made_enclosure S lo hi None e f = tt
made_enclosure S lo hi (Some m) e f =
    let o : AreEnds lo hi = subst (λ a. AreEnds a hi) e.0
    (subst (λ b. AreEnds m.lo b) e.1 m.ordered) in
    subst (λ a. IsEnclosure S (range_from a m.hi)) (sym e.0)
    (subst (λ b. IsEnclosure S (range_from lo b)) (sym e.1) (f o))

pub returns-clause-best : goal.returns-clause-best
returns-clause-best c =
    let k : to_z w32 (of_z w32 c.args.k) ≡ c.args.k = omega (arith, ints) in
    let r = range_of c.args.self in
    let t = range_from c.end_up.result c.end_down.result in
    let u = subst (λ k. IsEndUp k r.low t.low) k c.end_up.ensures in
    let v = subst (λ k. IsEndDown k r.high t.high) k c.end_down.ensures in
    made_enclosure (MultiplesIn c.args.k r) c.end_up.result c.end_down.result
    c.new.result c.new.ensures.ends (λ i. shrunk_is c.args.k r t c.args.self.ordered u v i
    (grid_bound c.end_up.result) (grid_bound c.end_down.result))
