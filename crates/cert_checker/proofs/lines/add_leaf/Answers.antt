use Rattle.std.proofs.Common.{refl, rules, arith, ◌∙◌, sym, ap, add-one}
use Rattle.cert_checker.specs.After.{with_cited}
use Rattle.cert_checker.proofs.Leaves.{none_yet, one_more, all_done}
use Rattle.cert_checker.proofs.lines.add_leaf.Goals as goal

pub loop-k-init : goal.loop-k-init
loop-k-init c = record {
  lines = none_yet c.args.steps.now.rows c.args.lines.now.items c.args.refs.now;
  same = refl;
}

pub loop-k-preserved : goal.loop-k-preserved
loop-k-preserved c =
    let t = c.loop-k-test.true in let m = c.min-partners.ensures in
    let q = c.loop-k.invariant.same in let n = c.len.ensures in
    let e = c.with_cited.ensures ∙ ap (with_cited c.index.result.now) c.find.ensures in
    record {
      lines = rw add-one (one_more c.args.steps.now.rows c.loop-k.lines.items c.args.refs.now
          c.loop-k.k c.index.result.now c.with_cited.result (omega (arith, t, m, q, n))
          (omega (arith, t, m, n)) c.index.ensures e ∙ c.loop-k.invariant.lines);
      same = search (rules, c.loop-k.invariant.same);
    }

pub returns : goal.returns
returns c =
    let t = c.loop-k-test.false in let m = c.min-partners.ensures in
    let q = c.loop-k.invariant.same in let n = c.len.ensures in
    sym (all_done c.args.steps.now.rows c.loop-k.lines.items c.args.refs.now c.loop-k.k
    (omega (arith, t, m, q, n))) ∙ c.loop-k.invariant.lines
