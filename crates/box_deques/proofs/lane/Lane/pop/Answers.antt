use Rattle.std.proofs.Common.{ap, ◌∙◌, rules}
use Rattle.crossbeam_deque.specs.Handles.{worker_view, worker_port}
use Rattle.box_deques.specs.Seen as seen
use Rattle.box_deques.proofs.Moments.{IsOwners, pops, none_waits}
use Rattle.box_deques.proofs.Steps.{takes, finds}
use Rattle.box_deques.proofs.lane.Lane.pop.Goals as goal

pub pop_as-requires-clause-fifo : goal.pop_as-requires-clause-fifo
pop_as-requires-clause-fifo g c = λ _. takes _ _ _ _ (worker_port c.self.inside.deque)
    (worker_view c.self.inside.deque) c.self.invariant.1

pub pop_as-requires-clause-empty : goal.pop_as-requires-clause-empty
pop_as-requires-clause-empty g c = finds _ _ _ _ (worker_port c.self.inside.deque)
    (worker_view c.self.inside.deque) c.self.invariant.1

pub returns-in-Some-clause-first : goal.returns-in-Some-clause-first
returns-in-Some-clause-first g c =
    let r = c.in-Some.ensures.rule in
    let i = c.self.invariant in
    let is = c.self.view_is in
    let own : IsOwners (worker_view c.self.inside.deque) c.args.self.now = record {
      boss = i.2;
      takes = i.5 ∙ ap (λ (l : seen.Lane). l.takes) is;
      pushed = i.4 ∙ ap (λ (l : seen.Lane). l.pushed) is;
      made = ap (λ (l : seen.Lane). l.hands) is;
    } in
    pops _ (worker_view c.self.inside.deque) c.args.self.now _ c.in-Some.placed.place _
    own r.3 r.4 (search rules)

pub returns-in-None-clause-none : goal.returns-in-None-clause-none
returns-in-None-clause-none g c =
    let i = c.self.invariant in
    let is = c.self.view_is in
    let own : IsOwners (worker_view c.self.inside.deque) c.args.self.now = record {
      boss = i.2;
      takes = i.5 ∙ ap (λ (l : seen.Lane). l.takes) is;
      pushed = i.4 ∙ ap (λ (l : seen.Lane). l.pushed) is;
      made = ap (λ (l : seen.Lane). l.hands) is;
    } in (
      none_waits (worker_view c.self.inside.deque) c.args.self.now own c.in-None.ensures.rule.1,
      search rules,
    )
