use Rattle.std.proofs.Common.{◌≡◌, arith, subst, to_z, of_z, w32}
use Rattle.std.proofs.lemmas.Int.{ints}
use Rattle.dyadic.specs.Ends.{bound_of}
use Rattle.interval.specs.Multiples.{IsEndDown}
use Rattle.interval.proofs.Shrunk.{end_up_by}
use Rattle.interval.proofs.multiples.end_up.Goals as goal

pub returns : goal.returns
returns c =
    let k : to_z w32 (of_z w32 c.args.k) ≡ c.args.k = omega (arith, ints) in
    end_up_by c.args.k (bound_of c.args.end) (bound_of c.opposite.result)
    (bound_of c.end_down.result) (bound_of c.opposite-2.result) c.opposite.ensures
    (subst (λ k. IsEndDown k (bound_of c.opposite.result)
    (bound_of c.end_down.result)) k c.end_down.ensures) c.opposite-2.ensures
