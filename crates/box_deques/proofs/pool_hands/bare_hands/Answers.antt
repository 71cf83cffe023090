use Rattle.std.proofs.Common.{◌≡◌, length, refl, arith, rules}
use Rattle.box_deques.specs.Seen as seen
use Rattle.box_deques.specs.Seen.{IsBareHand}
use Rattle.box_deques.proofs.Lists.{each_push}
use Rattle.box_deques.proofs.pool_hands.bare_hands.Goals as goal

pub loop-number-preserved : goal.loop-number-preserved
loop-number-preserved g c =
    let long : length c.loop-number.hands.items ≡ c.loop-number.number = search rules in
    let old = c.loop-number.invariant.2 in
    let h : seen.Hand =
    record { number = c.loop-number.number; seats = c.in_ok-seats.seats.items } in
    let item : IsBareHand c.loop-number.number c.args.count c.args.room h =
    (refl, search rules, c.in_ok-seats.ensures.1) in
    let each = each_push (λ k x. IsBareHand k c.args.count c.args.room x) c.loop-number.hands.items
    h (λ k d b. old k d (omega arith)) (rw long item) in (
      omega (arith, c.push_reserved.ensures.len),
      omega (arith, c.push_reserved.ensures.capacity),
      (λ k d b. rw c.push_reserved.ensures.items (each k d (omega arith))),
    )
