use mir.Val.{to_z, of_z}
use Rattle.std.proofs.Common.{arith, ◌<◌, ◌^◌, rules, refl, w32}
use Rattle.std.proofs.lemmas.Int.{ints}
use Rattle.dyadic.proofs.CutLemmas.{lengthened_by, lengthened_last, scaled_longer, zero_at}
use Rattle.dyadic.proofs.cut.LeadingDigits.lengthened.Goals as goal

pub returns-then-self-eq0-clause-value : goal.returns-then-self-eq0-clause-value
returns-then-self-eq0-clause-value c =
    zero_at c.args.self.digits c.args.self.two _ c.if-self-eq0.true

pub returns-clause-value : goal.returns-clause-value
returns-clause-value c =
    let f : c.args.self.digits < 2 ^ 128 = search rules in
    let l = lengthened_by c.args.self.digits c.min-shift.result _ c.places_above_last-above.result
    (omega arith) f refl c.min-shift.ensures in
    scaled_longer c.args.self.digits c.min-shift.result c.args.self.two _ _ l.0
    (omega (arith, ints, c.min-shift.ensures))

pub returns-clause-long : goal.returns-clause-long
returns-clause-long c =
    let f : c.args.self.digits < 2 ^ 128 = search rules in
    let l = lengthened_by c.args.self.digits c.min-shift.result _ c.places_above_last-above.result
    (omega arith) f refl c.min-shift.ensures in
    lengthened_last c.args.self.digits
    c.min-shift.result c.places_above_last-above.result _ c.args.self.two
    (to_z w32 (of_z w32 c.args.self.two)) _ l.0 l.1 c.places_above_last-above.ensures
    (omega (arith, ints)) (omega (arith, ints, c.min-shift.ensures))
