use Rattle.std.proofs.Common.{◌≡◌, ℕ, ◌+◌, List, ◌++◌, length, map, drop, take, sym, ap, subst, ◌∙◌}
use Rattle.std.proofs.Common.{rules, arith}
use Rattle.std.specs.List.{sum_by}
use Rattle.crossbeam_deque.specs.Handles.{worker_view, worker_port}
use Rattle.std.proofs.lemmas.List.{length-map}
use Rattle.box_deques.specs.declared.rule.View.{View}
use Rattle.box_deques.specs.Rule.{Gone}
use Rattle.box_deques.specs.Seen as seen
use Rattle.box_deques.specs.Seen.{AllPasses, GaveBack, takes_on}
use Rattle.box_deques.proofs.Steps.{tells}
use Rattle.box_deques.proofs.Emptied.{takes_on_length}
use Rattle.box_deques.proofs.Ended.{own_below, all_below, counted, history_is, gave_back}
use Rattle.box_deques.proofs.Ended.{back_whole, is_ledger}
use Rattle.box_deques.specs.declared.rule.PlacedTask.{PlacedTask}
use Rattle.box_deques.specs.Close.{writes, writes_all}
use Rattle.box_deques.proofs.Fill.{ledger_of}
use Rattle.box_deques.proofs.lane.Lane.close.Goals as goal

pub len_as-n-requires : goal.len_as-n-requires
len_as-n-requires g c =
    let v : View = worker_view c.collect.new.deque in
    let is = c.collect.ensures.view in
    let hands : (worker_view c.self.inside.deque).made ≡ length c.args.hands.now =
    ap (λ (l : seen.Lane). l.hands) c.self.view_is ∙ sym c.requires.all.0 in
    let back : length v.back ≡ length c.args.hands.now =
    ap (λ (x : View). length x.back) is ∙ takes_on_length c.self.inside.number c.args.hands.now in
    tells _ _ _ _ (worker_port c.collect.new.deque) v (ap (λ (x : View). x.live) is
    ∙ c.self.invariant.1) (ap (λ (x : View). x.party) is ∙ c.self.invariant.2)
    (ap (λ (x : View). x.made) is ∙ hands ∙ sym back)

pub drain-requires-clause-count : goal.drain-requires-clause-count
drain-requires-clause-count g c =
    let items = c.len_as-n.ensures.rule.0 in
    let waiting : List (List ℕ) =
    map (λ (x : PlacedTask g.row.T.Denot). g.T.Task.path_of x.task) items in
    let n : length waiting ≡ c.len_as-n.result = length-map items
    (λ (x : PlacedTask g.row.T.Denot). g.T.Task.path_of x.task) ∙ c.len_as-n.ensures.rule.1 in
    let e = counted (worker_view c.collect.new.deque) waiting c.len_as-n.ensures.rule.2 in
    rw c.len_as-n.ensures.same.2 (omega arith)

pub write_all-requires-clause-own : goal.write_all-requires-clause-own
write_all-requires-clause-own g c =
    let is = c.collect.ensures.view in
    let rule = c.len_as-n.ensures.rule in
    let all : length c.self.inside.pushed.items ≡ c.len.result = search rules in
    own_below (worker_view c.collect.new.deque) _ rule.2 c.as_slice.result.now
    (length c.as_mut_slice.result.now)
    (c.as_slice.ensures.value ∙ sym c.self.invariant.5 ∙ sym (ap (λ (x : View). x.takes) is))
    (history_is _ rule.0 (worker_view c.collect.new.deque) rule.2 c.self.inside.pushed.items
    c.len.result c.len_as-n.result (length c.as_mut_slice.result.now)
    (ap (λ (x : View). x.pushed) is ∙ c.self.invariant.4) all rule.1
    (ap length c.as_mut_slice.ensures.value ∙ c.fill.ensures))

pub write_all-requires-clause-places : goal.write_all-requires-clause-places
write_all-requires-clause-places g c =
    let is = c.collect.ensures.view in
    let rule = c.len_as-n.ensures.rule in
    let all : length c.self.inside.pushed.items ≡ c.len.result = search rules in
    let num : c.self.inside.number ≡ c.args.self.number =
    ap (λ (l : seen.Lane). l.number) c.self.view_is in
    all_below (worker_view c.collect.new.deque) _ rule.2
    (takes_on c.self.inside.number c.collect.new.hands) (length c.as_mut_slice.result.now)
    (gave_back c.self.inside.number c.args.self.name c.args.hands.now c.collect.new.hands
    (worker_view c.collect.new.deque) (ap (λ (x : View). x.back) is) c.collect.auto.hands
    (subst (λ n. AllPasses n c.args.self.name c.args.hands.now) (sym num) c.requires.passes)
    c.collect.ensures.hands)
    (history_is _ rule.0 (worker_view c.collect.new.deque) rule.2 c.self.inside.pushed.items
    c.len.result c.len_as-n.result (length c.as_mut_slice.result.now)
    (ap (λ (x : View). x.pushed) is ∙ c.self.invariant.4) all rule.1
    (ap length c.as_mut_slice.ensures.value ∙ c.fill.ensures))

pub returns-clause-ledger : goal.returns-clause-ledger
returns-clause-ledger g c =
    let v : View = worker_view c.collect.new.deque in
    let is = c.collect.ensures.view in
    let rule = c.len_as-n.ensures.rule in
    let t = rule.2 in
    let all : length c.self.inside.pushed.items ≡ c.len.result = search rules in
    let same : length c.as_mut_slice.result.now ≡ length t.history =
    history_is _ rule.0 v t c.self.inside.pushed.items c.len.result c.len_as-n.result
    (length c.as_mut_slice.result.now) (ap (λ (x : View). x.pushed) is ∙ c.self.invariant.4) all
    rule.1 (ap length c.as_mut_slice.ensures.value ∙ c.fill.ensures) in
    let lane : seen.Lane = c.args.self in
    let num : c.self.inside.number ≡ lane.number =
    ap (λ (l : seen.Lane). l.number) c.self.view_is in
    let back : v.back ≡ takes_on lane.number c.args.hands.now = ap (λ (x : View). x.back) is
    ∙ ap (λ n. takes_on n c.args.hands.now) num in
    let gave : takes_on lane.number c.collect.new.hands ≡ v.back = gave_back lane.number lane.name
    c.args.hands.now c.collect.new.hands v back c.collect.auto.hands c.requires.passes
    (subst (λ n. GaveBack n c.args.hands.now c.collect.new.hands) num c.collect.ensures.hands) in
    let takes : c.as_slice.result.now ≡ v.takes =
    c.as_slice.ensures.value ∙ sym c.self.invariant.5 ∙ sym (ap (λ (x : View). x.takes) is) in
    let into : List Gone = c.write_all.new.into in
    let xs : List Gone = c.as_mut_slice.result.now in
    let wrote : into ≡ writes_all 0 v.back (writes lane.number v.takes xs) = c.write_all.ensures
    ∙ ap (λ n. writes_all 0 (takes_on n c.collect.new.hands)
    (writes n c.as_slice.result.now xs)) num
    ∙ ap (λ l. writes_all 0 l (writes lane.number c.as_slice.result.now xs)) gave
    ∙ ap (λ l. writes_all 0 v.back (writes lane.number l xs)) takes in
    let held : c.fill.new.takes.len ≡ length into = (let a = c.write_all.auto.into in let b :
    length xs ≡ c.fill.new.takes.len = search rules in omega arith) in
    let ys : List Gone = drop (length into) c.fill.new.takes.items in
    let final : take c.fill.new.takes.len (into ++ ys) ≡ into =
    back_whole into ys c.fill.new.takes.len held in
    let left : c.drain.new.paths.items ≡ drop (length v.takes + sum_by length v.back) v.pushed =
    c.drain.ensures.paths ∙ ap (λ (x : View).
    drop (length x.takes + sum_by length x.back) x.pushed) c.len_as-n.ensures.same.2 in
    is_ledger lane c.args.hands.now v _ t _
    (ap (λ (x : View). x.pushed) is ∙ c.self.invariant.4
    ∙ ap (λ (l : seen.Lane). l.pushed) c.self.view_is)
    (ap (λ (x : View). x.takes) is ∙ c.self.invariant.5
    ∙ ap (λ (l : seen.Lane). l.takes) c.self.view_is)
    back c.requires.own (c.of.ensures.pushes ∙ ap (λ (l : seen.Lane). l.pushed) c.self.view_is)
    (c.of.ensures.takes ∙ final ∙ ledger_of lane.number v _ t xs into same wrote)
    (c.of.ensures.paths ∙ left)
