use Rattle.std.proofs.Common.{arith, ◌<◌, ◌^◌, rules}
use Rattle.std.proofs.lemmas.Int.{ints}
use Rattle.std.proofs.lemmas.Nat.{leading_length, shl_whole}
use Rattle.dyadic.proofs.CutLemmas.{scaled_longer}
use Rattle.dyadic.proofs.cut.LeadingDigits.raised.Goals as goal

pub returns-clause-value : goal.returns-clause-value
returns-clause-value c =
    let f : c.args.self.digits < 2 ^ 128 = search rules in
    let l = leading_length 128 c.args.self.digits f in
    scaled_longer c.args.self.digits c.min-shift.result c.args.self.two _ _
    (shl_whole c.args.self.digits l.0 c.min-shift.result 128 l.2
    (omega (arith, l.1, c.min-shift.ensures, c.saturating_sub-room.ensures)))
    (omega (arith, ints, c.min-shift.ensures))
