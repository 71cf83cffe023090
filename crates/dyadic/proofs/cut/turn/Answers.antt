use Rattle.std.proofs.Common.{arith, refl, ⊎_elim}
use Rattle.std.proofs.lemmas.Int.{ints}
use Rattle.dyadic.proofs.CutLemmas.{room_of}
use Rattle.dyadic.proofs.cut.turn.Goals as goal

pub returns-clause-some : goal.returns-clause-some
returns-clause-some c =
    let r = room_of c.args.divisor _ 0 c.requires.not_zero c.requires.small refl (omega arith) in
    ⊎_elim (λ t. absurd (let a = t.1 in omega (arith, ints)))
    (λ t. omega (arith, ints, c.min.ensures, c.min-2.ensures, r.0)) c.places_above_last.ensures

pub returns-clause-room : goal.returns-clause-room
returns-clause-room c = (room_of c.args.divisor _ c.min-2.result c.requires.not_zero
    c.requires.small refl (omega (arith, c.min.ensures, c.min-2.ensures))).1
