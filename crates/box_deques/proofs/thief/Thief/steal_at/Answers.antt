use Rattle.std.proofs.Common.{◌+◌, ap, ◌∙◌, rules}
use Rattle.crossbeam_deque.specs.Handles.{view}
use Rattle.box_deques.specs.Seen as seen
use Rattle.box_deques.proofs.Moments.{IsSeats, takes_first}
use Rattle.box_deques.proofs.thief.Thief.steal_at.Goals as goal

pub returns-in-Some-take_first-clause-first : goal.returns-in-Some-take_first-clause-first
returns-in-Some-take_first-clause-first g c =
    let r = c.in-Some-take_first.ensures.some in
    let i = rw c.in-Some.is at c.seat.invariant in
    let own : IsSeats (view c.in-Some.pass) c.args.seat.now = record {
      party = i.0.1 ∙ ap (λ (s : seen.Seat). s.hand + 1) c.seat.view_is;
      takes = i.0.2 ∙ ap (λ (s : seen.Seat). s.takes) c.seat.view_is;
    } in
    takes_first _ (view c.in-Some.pass) c.args.seat.now _ c.in-Some-take_first.placed.place _
    own r.3 r.4 (search rules)
