use Rattle.std.proofs.Common.{rules, subst, refl, arith, ◌≡◌, add-one}
use Rattle.std.specs.Prelude.{slice_index_or}
use Rattle.cert_checker.proofs.Judged.{SettledTo, settled_next, missing_at, all_settled}
use Rattle.cert_checker.proofs.Judged.{missing_behind}
use Rattle.cert_checker.proofs.judge.first_missing.Goals as goal

pub returns-then-not-is_settled-clause-first : goal.returns-then-not-is_settled-clause-first
returns-then-not-is_settled-clause-first c =
    let t = c.loop-k-test.true in let m = c.min-partners.ensures in
    missing_at c.args.steps.now.rows c.args.goals.now c.args.refs.now c.loop-k.k
    c.index-goals-k.result (slice_index_or c.args.refs.now c.loop-k.k 0) (omega (arith, t, m))
    (omega (arith, t, m)) c.index-goals-k.is refl
    (search rules) c.loop-k.invariant

pub loop-k-preserved : goal.loop-k-preserved
loop-k-preserved c =
    let t = c.loop-k-test.true in let m = c.min-partners.ensures in
    rw add-one (settled_next c.args.steps.now.rows c.args.goals.now c.args.refs.now c.loop-k.k
    c.index-goals-k.result (slice_index_or c.args.refs.now c.loop-k.k 0) (omega (arith, t, m))
    (omega (arith, t, m)) c.index-goals-k.is refl
    (search rules) c.loop-k.invariant)

pub returns-then-goals-refs-clause-first : goal.returns-then-goals-refs-clause-first
returns-then-goals-refs-clause-first c =
    let t = c.loop-k-test.false in let m = c.min-partners.ensures in let e = c.if-goals-refs.true in
    all_settled c.args.steps.now.rows c.args.goals.now c.args.refs.now c.loop-k.k (omega (arith, e))
    (omega (arith, t, m, e, c.loop-k.auto.k-end)) c.loop-k.invariant

pub returns-else-goals-refs-clause-first : goal.returns-else-goals-refs-clause-first
returns-else-goals-refs-clause-first c =
    let t = c.loop-k-test.false in let m = c.min-partners.ensures in
    let e = c.if-goals-refs.false in
    let k : c.loop-k.k ≡ c.min-partners.result = omega (arith, t, c.loop-k.auto.k-end) in
    missing_behind c.args.steps.now.rows c.args.goals.now c.args.refs.now
    c.min-partners.result (search rules) m
    (subst (SettledTo c.args.steps.now.rows c.args.goals.now c.args.refs.now) k c.loop-k.invariant)
