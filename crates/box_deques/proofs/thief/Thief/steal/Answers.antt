use Rattle.std.proofs.Common.{◌≡◌, length, ap, ◌∙◌, subst, arith}
use Rattle.box_deques.specs.Seen as seen
use Rattle.box_deques.specs.Seen.{seat_at, no_seat, hand_with, with_empty}
use Rattle.box_deques.specs.Moments.{Steals, SamePasses}
use Rattle.box_deques.proofs.Lists.{or_same}
use Rattle.box_deques.proofs.Passes.{new_hand, passes_stay, some_then, none_then, steals}
use Rattle.box_deques.proofs.Passes.{finds_none}
use Rattle.box_deques.proofs.thief.Thief.steal.Goals as goal
use Rattle.box_deques.proofs.thief.Thief.steal.Goals.{After-by-1}
use Rattle.box_deques.proofs.thief.Thief.steal.Given.{Over}

-- the hand and the lane's number, as the code has them
abbrev hand_of : (g : Over) → After-by-1 g → seen.Hand
hand_of g c = record { number = c.by.inside.number; seats = c.by.inside.seats.items }

number_is : (g : Over) (c : After-by-1 g) → c.self.inside.number ≡ c.args.self.now.number
number_is g c = ap (λ (t : seen.Thief). t.number) c.self.view_is

-- the seat is the hand's for this lane
seat_is : (g : Over) (c : After-by-1 g)
    → c.index_mut-seat.result.now ≡ seat_at c.by.inside.seats.items c.self.inside.number
seat_is g c =
    let n = number_is g c in
    let long : length c.by.inside.seats.items ≡ length c.args.by.now.seats =
    ap (λ (h : seen.Hand). length h.seats) c.by.view_is in
    let there = c.requires.pass.0 in
    c.index_mut-seat.ensures.value ∙ or_same c.by.inside.seats.items c.self.inside.number
    c.index_mut-seat.result.now no_seat (omega arith)

pub returns-clause-passes : goal.returns-clause-passes
returns-clause-passes g c =
    let p = c.steal_at.ensures.pass in
    let is = seat_is g c in
    let n = number_is g c in
    let number : c.by.inside.number ≡ c.args.by.now.number =
    ap (λ (h : seen.Hand). h.number) c.by.view_is in
    let other = c.requires.other in
    subst (λ h. SamePasses h
    (new_hand (hand_of g c) c.self.inside.number c.steal_at.new.seat)) c.by.view_is
    (passes_stay (hand_of g c) c.self.inside.number c.steal_at.new.seat (p.lane
    ∙ ap (λ (s : seen.Seat). s.lane) is) (p.hand ∙ ap (λ (s : seen.Seat). s.hand) is)
    (p.room ∙ ap (λ (s : seen.Seat). s.room) is) (omega arith))

pub returns-clause-first : goal.returns-clause-first
returns-clause-first g c =
    let new : seen.Hand = new_hand (hand_of g c) c.self.inside.number c.steal_at.new.seat in
    some_then _ _ c.steal_at.result
    (λ t took. subst (λ n. Steals g.Q.Naming.capacity n c.args.by.now new (g.T.Task.path_of t))
    (number_is g c)
    (subst (λ h. Steals g.Q.Naming.capacity c.self.inside.number h new
    (g.T.Task.path_of t)) c.by.view_is
    (steals g.Q.Naming.capacity (hand_of g c) c.self.inside.number c.index_mut-seat.result.now
    c.steal_at.new.seat (g.T.Task.path_of t) (seat_is g c) took)))
    c.steal_at.ensures.first

pub returns-clause-none : goal.returns-clause-none
returns-clause-none g c =
    let new : seen.Hand = new_hand (hand_of g c) c.self.inside.number c.steal_at.new.seat in
    none_then _ _ c.steal_at.result
    (λ found. subst (λ n. new ≡ hand_with c.args.by.now n with_empty) (number_is g c)
    (subst (λ h. new ≡ hand_with h c.self.inside.number with_empty) c.by.view_is
    (finds_none (hand_of g c) c.self.inside.number c.index_mut-seat.result.now
    c.steal_at.new.seat (seat_is g c) found)))
    c.steal_at.ensures.none
