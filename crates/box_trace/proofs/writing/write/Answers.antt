use Rattle.std.proofs.Common.{◌≡◌, ◌≤◌, ◌<◌, ◌+◌, ◌*◌, ◌++◌, [], ◌∷◌, true, false, Some, None}
use Rattle.std.proofs.Common.{length, ap, subst, ◌∙◌, inr, arith, refl}
use Rattle.std.specs.List.{Contains}
use Rattle.std.proofs.lemmas.Option.{slice_get_read}
use Rattle.facts.specs.declared.fact.Slot.TheVariants as slot
use Rattle.facts.specs.Order.{slot_of}
use Rattle.rule_universe.specs.Sizes.{beyond_four}
use Rattle.saturate.proofs.Lists.{none_in}
use Rattle.box_trace.specs.Tables.{known_at}
use Rattle.box_trace.specs.Scans.{held, ends_in}
use Rattle.box_trace.proofs.Scanned.{IsWritten, written_none, written_all}
use Rattle.box_trace.proofs.Came.{begin_ahead, written_ahead, written_listed, written_placed}
use Rattle.box_trace.proofs.Came.{written_few, written_adds, goes_on_both, most_bound, most_more}
use Rattle.box_trace.proofs.Came.{not_void, round_void}
use Rattle.box_trace.proofs.Added.{adds_none, adds_slack}
use Rattle.box_trace.proofs.Beyond.{beyond_below, beyond_most, beyond_next}
use Rattle.box_trace.proofs.writing.write.Goals as goal
use Rattle.box_trace.proofs.writing.write.Goals.{in-Some+in_ok-write_slot+else-is_void+in_ok-push}
use Rattle.box_trace.proofs.writing.write.Goals.{in_default}

pub loop-p-init : goal.loop-p-init
loop-p-init c =
    let u = c.args.uni.now in
    let at = known_at u c.args.now.now in
    let from = known_at u c.args.log.now.known in
    record {
      ahead = begin_ahead u at from (IsWritten u at c.args.ends.now 0) c.requires.same
          c.requires.rows.proper (λ k y. (let l : y.0 < 0 = y.2 in omega arith));
      listed = λ s. inr (c.requires.same s);
      placed = λ x w. absurd (none_in x (subst (λ l. Contains l x) c.clear.ensures.items w));
      goes_on = λ writable cut s i can. (i, can);
      rows = c.requires.rows;
      adds = adds_none u c.args.now.now c.args.log.now;
      first = refl;
      few = omega arith;
    }

pub write_slot-requires-clause-ends : goal.write_slot-requires-clause-ends
write_slot-requires-clause-ends c =
    let ends = c.args.ends.now in
    let long : c.loop-p.p < length ends =
    omega (arith, c.requires.count, c.place-p-end.ensures, c.loop-p-test.true) in
    c.requires.scanned.ends c.loop-p.p c.in-Some.found (ap held (slice_get_read ends
    (length ends) c.loop-p.p c.index-ends-p.result refl long c.index-ends-p.is) ∙ c.in-Some.is)

pub returns-then-is_void : goal.returns-then-is_void
returns-then-is_void c =
    let u = c.args.uni.now in
    let now = c.args.now.now in
    let ends = c.args.ends.now in
    let long : c.loop-p.p < length ends =
    omega (arith, c.requires.count, c.place-p-end.ensures, c.loop-p-test.true) in
    let here : ends_in ends c.loop-p.p ≡ Some c.in-Some.found = ap held (slice_get_read ends
    (length ends) c.loop-p.p c.index-ends-p.result refl long c.index-ends-p.is) ∙ c.in-Some.is in
    let at = known_at u now in
    let ae = c.requires.scanned.ends c.loop-p.p c.in-Some.found here in
    let old = c.loop-p.log in
    let new = c.write_slot.new.log in
    let w = c.in_ok-write_slot.ensures in
    let few = written_few u at now c.loop-p.p c.in-Some.found ae old new w
    (length c.args.log.now.steps.items) c.loop-p.invariant.few in
    let inside : c.loop-p.p < 4 * length u.nodes + length u.pairs =
    omega (arith, c.place-p-end.ensures, c.loop-p-test.true) in
    let b = most_bound (length u.nodes) (length u.pairs) (c.loop-p.p + 1) c.laws.ensures.short
    c.laws.ensures.universe.few (omega (arith, c.place-p-end.ensures, c.loop-p-test.true)) in
    round_void u now c.args.log.now new c.loop-p.changed.items
    (IsWritten u at ends (c.loop-p.p + 1)) (written_ahead u at now c.loop-p.p c.in-Some.found ae old
    new w ends here c.loop-p.invariant.ahead)
    (c.if-is_void.ensures.0 refl)
    (λ writable. goes_on_both u now c.args.log.now old new (c.loop-p.invariant.goes_on writable)
    (w.goes_on writable))
    w.rows
    (adds_slack u now (2 * beyond_below u (c.loop-p.p + 1)) (2 * beyond_four u.instances)
    c.args.log.now new (let m = beyond_most u (c.loop-p.p + 1) in omega (arith, m))
    (written_adds u c.laws.ensures.universe.once
    (c.rules_are_lawful.ensures u.nodes u.hints).on_target now c.loop-p.p inside c.in-Some.found ae
    c.args.log.now old new c.loop-p.invariant.first c.loop-p.invariant.adds w.adds))
    (w.first ∙ c.loop-p.invariant.first) (omega (arith, few, b))

pub loop-p-preserved : goal.loop-p-preserved
loop-p-preserved c =
    let u = c.args.uni.now in
    let now = c.args.now.now in
    let ends = c.args.ends.now in
    let at = known_at u now in
    let p = c.loop-p.p in
    let old = c.loop-p.log in
    let long : p < length ends =
    omega (arith, c.requires.count, c.place-p-end.ensures, c.loop-p-test.true) in
    let inside : p < 4 * length u.nodes + length u.pairs =
    omega (arith, c.place-p-end.ensures, c.loop-p-test.true) in
    let read = ap held (slice_get_read ends
    (length ends) p c.index-ends-p.result refl long c.index-ends-p.is) in
    elim c.match-here.branch [
      | in-Some+in_ok-write_slot+else-is_void+in_ok-push w ↦
          (let e = w.in-Some.found in
          let here : ends_in ends p ≡ Some e = read ∙ w.in-Some.is in
          let ae = c.requires.scanned.ends p e here in
          let new = w.write_slot.new.log in
          let s = w.in_ok-write_slot.ensures in
          let nv : known_at u new.known slot.Void ≡ None = not_void (known_at u new.known)
          s.rows.proper (λ h. (let z : false ≡ true = w.if-is_void.ensures.1 h in cc)) in
          let before = c.loop-p.changed.items in
          let changed = w.push.new.self.items in
          let pushed : changed ≡ before ++ record { slot = slot_of e.low.fact; place = p } ∷ [] =
          w.in_ok-push.ensures.items
          ∙ ap (λ t. before ++ record { slot = t; place = p } ∷ []) w.slot.ensures in
          rw (w.log-is, w.changed-is) (record {
            ahead = written_ahead u at now p e ae old new s ends here c.loop-p.invariant.ahead;
            listed = written_listed u at now p e ae old new s before changed nv pushed
                c.loop-p.invariant.listed;
            placed = written_placed u at now p e ae old new s before changed pushed
                c.loop-p.invariant.placed;
            goes_on = λ writable. goes_on_both u now c.args.log.now old new
                (c.loop-p.invariant.goes_on writable) (s.goes_on writable);
            rows = s.rows;
            adds = written_adds u c.laws.ensures.universe.once
                (c.rules_are_lawful.ensures u.nodes u.hints).on_target now p inside e ae
                c.args.log.now old new c.loop-p.invariant.first c.loop-p.invariant.adds s.adds;
            first = s.first ∙ c.loop-p.invariant.first;
            few = written_few u at now p e ae old new s
                (length c.args.log.now.steps.items) c.loop-p.invariant.few;
          }))
      | in_default w ↦
          (let none : ends_in ends p ≡ None = read ∙ w.in_default.is in
          let m = most_more (length u.nodes) p in
          rw (w.log-is, w.changed-is) (record {
            ahead = written_none u at ends p (known_at u old.known) none c.loop-p.invariant.ahead;
            listed = c.loop-p.invariant.listed;
            placed = c.loop-p.invariant.placed;
            goes_on = c.loop-p.invariant.goes_on;
            rows = c.loop-p.invariant.rows;
            adds = adds_slack u now (2 * beyond_below u p) (2 * beyond_below u (p + 1))
                c.args.log.now old (let m = beyond_next u p in omega (arith, m))
                c.loop-p.invariant.adds;
            first = c.loop-p.invariant.first;
            few = (let l = c.loop-p.invariant.few in omega (arith, l, m));
          }))
    ]

pub returns : goal.returns
returns c =
    let u = c.args.uni.now in
    let at = known_at u c.args.now.now in
    let log = c.loop-p.log in
    let all : 4 * length u.nodes + length u.pairs ≤ c.loop-p.p =
    omega (arith, c.place-p-end.ensures, c.loop-p-test.false) in
    let b = most_bound (length u.nodes) (length u.pairs) c.loop-p.p c.laws.ensures.short
    c.laws.ensures.universe.few (omega (arith, c.place-p-end.ensures, c.loop-p.auto.p-end)) in
    record {
      ahead = written_all u at c.args.ends.now c.loop-p.p
          (known_at u log.known) all c.requires.scanned c.loop-p.invariant.ahead;
      listed = λ v. c.loop-p.invariant.listed;
      placed = λ v. c.loop-p.invariant.placed;
      goes_on = c.loop-p.invariant.goes_on;
      rows = c.loop-p.invariant.rows;
      adds = adds_slack u c.args.now.now (2 * beyond_below u c.loop-p.p)
          (2 * beyond_four u.instances) c.args.log.now log
          (let m = beyond_most u c.loop-p.p in omega (arith, m)) c.loop-p.invariant.adds;
      first = c.loop-p.invariant.first;
      few = (let l = c.loop-p.invariant.few in omega (arith, l, b));
    }
