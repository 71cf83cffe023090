use Rattle.std.proofs.Common.{arith, ◌≤◌, ◌^◌, ◌<◌, lit≤, rules, sym}
use Rattle.std.proofs.Math.Nat.{pow-le-pow_right}
use Rattle.std.proofs.lemmas.Nat.{mod_below, pow_pos, shr_split, shr_le}
use Rattle.dyadic.proofs.GridLemmas.{room_out}
use Rattle.dyadic.proofs.CutLemmas.{shifted_back}
use Rattle.dyadic.proofs.cut.split.Goals as goal

pub returns-then-lost-gt127-clause-rest : goal.returns-then-lost-gt127-clause-rest
returns-then-lost-gt127-clause-rest c =
    let p : 2 ^ 128 ≤ 2 ^ c.args.lost =
    pow-le-pow_right {n = 2} (lit≤ tt) {i = 128} {j = c.args.lost} (omega arith) in
    let f : c.args.number < 2 ^ 128 = search rules in omega arith

pub returns-then-lost-gt127-clause-kept : goal.returns-then-lost-gt127-clause-kept
returns-then-lost-gt127-clause-kept c =
    let p : 2 ^ 128 ≤ 2 ^ c.args.lost =
    pow-le-pow_right {n = 2} (lit≤ tt) {i = 128} {j = c.args.lost} (omega arith) in
    let f : c.args.number < 2 ^ 128 = search rules in
    sym (room_out c.args.number c.args.lost (omega arith))

pub returns-else-lost-gt127-clause-whole : goal.returns-else-lost-gt127-clause-whole
returns-else-lost-gt127-clause-whole c = let f : c.args.number < 2 ^ 128 = search rules in rw
    (shifted_back c.args.number c.args.lost f) (omega (arith, shr_split c.args.number c.args.lost))

pub returns-else-lost-gt127-clause-rest : goal.returns-else-lost-gt127-clause-rest
returns-else-lost-gt127-clause-rest c = let f : c.args.number < 2 ^ 128 = search rules in
    rw (shifted_back c.args.number c.args.lost f) (omega (
      arith,
      shr_split c.args.number c.args.lost,
      mod_below c.args.number (2 ^ c.args.lost) (pow_pos c.args.lost),
    ))

pub returns-else-lost-gt127-clause-small : goal.returns-else-lost-gt127-clause-small
returns-else-lost-gt127-clause-small c = shr_le c.args.number c.args.lost
