use Rattle.std.proofs.Common.{◌≡◌, ◌<◌, map, vec_len, arith, sym, ◌∙◌, subst, take}
use Rattle.pair_closure.specs.Rows.{IsIndexed}
use Rattle.pair_closure.proofs.PairSets.{copied_more, taken_all}
use Rattle.pair_closure.proofs.index.rows_of.Goals as goal

pub put-requires : goal.put-requires
put-requires c =
    let below : (c.pair.result.0).0 < c.args.n =
    (c.requires c.pair.result (c.loop-i.i, c.pair.ensures)).0 in
    let count : vec_len c.loop-i.rows ≡ c.args.n = c.loop-i.invariant.0 in
    omega arith

pub loop-i-preserved : goal.loop-i-preserved
loop-i-preserved c = (
  c.put.ensures.count ∙ c.loop-i.invariant.0,
  subst (λ ps. IsIndexed ps (map (λ row. row.items) c.put.new.rows.items))
      (sym (copied_more c.args.pairs.now c.loop-i.i c.pair.result c.pair.ensures))
      (c.in_ok-put.ensures.put (take c.loop-i.i c.args.pairs.now) c.loop-i.invariant.1),
)

pub returns : goal.returns
returns c = subst (λ ps. IsIndexed ps (map (λ row. row.items) c.loop-i.rows.items))
    (taken_all c.args.pairs.now c.loop-i.i
    (omega (arith, c.loop-i-test.false, c.len-i-end.ensures))) c.loop-i.invariant.1
