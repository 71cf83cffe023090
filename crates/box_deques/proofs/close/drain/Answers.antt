use Rattle.std.proofs.Common.{◌≡◌, ℕ, ◌+◌, List, [], ◌∷◌, ◌++◌, length, length-append, take, drop}
use Rattle.std.proofs.Common.{sym, ap, ◌∙◌, rules, arith}
use Rattle.std.specs.List.{sum_by}
use Rattle.crossbeam_deque.specs.Handles.{worker_view, worker_port}
use Rattle.std.proofs.lemmas.List.Elements.{All-push}
use Rattle.box_deques.specs.declared.rule.View.{View}
use Rattle.box_deques.specs.Rule.{Belongs}
use Rattle.box_deques.proofs.Steps.{takes, finds}
use Rattle.box_deques.proofs.Lists.{map_snoc}
use Rattle.box_deques.proofs.Emptied.{at_end, at_take}
use Rattle.box_deques.proofs.close.drain.Goals as goal

pub pop_as-requires-clause-fifo : goal.pop_as-requires-clause-fifo
pop_as-requires-clause-fifo g c = λ _. takes _ _ _ _ (worker_port c.loop-i.deque)
    (worker_view c.loop-i.deque) c.loop-i.invariant.live

pub pop_as-requires-clause-empty : goal.pop_as-requires-clause-empty
pop_as-requires-clause-empty g c =
    finds _ _ _ _ (worker_port c.loop-i.deque) (worker_view c.loop-i.deque) c.loop-i.invariant.live

pub unreachable-requires : goal.unreachable-requires
unreachable-requires g c =
    let inv = c.loop-i.invariant in
    let v : View = worker_view c.loop-i.deque in
    let v0 : View = worker_view c.args.deque.now in
    let all : v.made ≡ length v.back = inv.made ∙ c.requires.owner.2 ∙ ap length (sym inv.back) in
    let e = at_end v inv.boss all c.in_default.ensures.rule.1 in
    let p : length v.pushed ≡ length v0.pushed = ap length inv.pushed in
    let b : sum_by length v.back ≡ sum_by length v0.back = ap (λ l. sum_by length l) inv.back in
    let t = inv.takes in
    let n = c.requires.count in
    let lt = c.loop-i-test.true in
    omega arith

pub loop-i-preserved : goal.loop-i-preserved
loop-i-preserved g c =
    let inv = c.loop-i.invariant in
    let v : View = worker_view c.loop-i.deque in
    let w : View = worker_view c.pop_as.new.self in
    let v0 : View = worker_view c.args.deque.now in
    let r = c.in-Some.ensures.rule in
    let p : List ℕ = g.T.Task.path_of c.in-Some.placed.task in
    let all : v.made ≡ length v.back = inv.made ∙ c.requires.owner.2 ∙ ap length (sym inv.back) in
    let more : length w.takes ≡ length v.takes + 1 = ap (λ (u : View). length u.takes) r.0
    ∙ length-append v.takes ((c.in-Some.placed.place, p) ∷ []) in
    let b : ℕ = length v0.takes + sum_by length v0.back in
    let s : sum_by length v.back ≡ sum_by length v0.back = ap (λ l. sum_by length l) inv.back in
    let i : ℕ = c.loop-i.i in
    let sum : length v.takes + sum_by length v.back ≡ b + i = (let t = inv.takes in omega arith) in
    let next : take (i + 1) (drop b v0.pushed) ≡ take i (drop b v0.pushed) ++ p ∷ [] =
    at_take v p r.4.1 b i v0.pushed r.4.3.told inv.boss all inv.pushed sum in
    record {
      fifo = search rules;
      live = ap (λ (u : View). u.live) r.0 ∙ inv.live;
      boss = ap (λ (u : View). u.party) r.0 ∙ inv.boss;
      made = ap (λ (u : View). u.made) r.0 ∙ inv.made;
      back = ap (λ (u : View). u.back) r.0 ∙ inv.back;
      pushed = ap (λ (u : View). u.pushed) r.0 ∙ inv.pushed;
      takes = (let t = inv.takes in omega arith);
      long = search rules;
      long' = search rules;
      room = search rules;
      room' = search rules;
      tasks = rw
          (c.push_reserved-in-loop-i.ensures.items, c.push_reserved.ensures.items, c.path.ensures)
          (map_snoc g.T.Task.path_of c.loop-i.left.items c.in-Some.placed.task
          ∙ ap (λ l. l ++ p ∷ []) inv.tasks);
      world = rw c.push_reserved-in-loop-i.ensures.items (All-push (λ t. Belongs (g.T.Task.world t)
          g.Q.Naming.world) c.loop-i.left.items c.in-Some.placed.task inv.world r.1);
      paths = rw (c.push_reserved.ensures.items, c.path.ensures)
          (ap (λ l. l ++ p ∷ []) inv.paths ∙ sym next);
    }
