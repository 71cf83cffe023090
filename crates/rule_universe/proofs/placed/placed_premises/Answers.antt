use Rattle.std.proofs.Common.{◌≡◌, ◌+◌, ◌++◌, ◌∷◌, [], arith, length, take, ap, sym, subst, ◌∙◌}
use Rattle.std.proofs.Common.{length-append, slice_index_or}
use Rattle.std.specs.List.{Contains}
use Rattle.std.proofs.lemmas.Option.{slice_get-get_or}
use Rattle.rule_universe.specs.Flat.{rows_in}
use Rattle.rule_universe.specs.Placed.{ArePremises, ArePlaced}
use Rattle.rule_universe.proofs.Cuts.{IsFull, full_more, rows_more}
use Rattle.rule_universe.proofs.PlacedMore.{premises_next, premises_done}
use Rattle.rule_universe.proofs.placed.placed_premises.Goals as goal

pub add_placed-requires-clause-slots : goal.add_placed-requires-clause-slots
add_placed-requires-clause-slots c = λ s w.
    c.requires.slots c.loop-k.k
    (slice_index_or c.args.instances.now c.loop-k.k c.index-instances-k.result)
    (slice_get-get_or c.args.instances.now c.loop-k.k c.index-instances-k.result
    (omega (arith, c.loop-k-test.true))) s (subst (λ l. Contains l s) c.as_slice.ensures w)

pub loop-k-preserved : goal.loop-k-preserved
loop-k-preserved c =
    let n = length c.args.nodes.now in
    let pairs = c.args.pairs.now in
    let old = c.loop-k.items.items in
    let starts = c.loop-k.starts.items in
    let new = c.add_placed.new.items.items in
    let adds = c.in_ok-add_placed.ensures in
    let row = adds.0 in
    let m = c.len.result in
    let count : m ≡ length new = omega (arith, c.len.ensures, c.add_placed.new.items.ok.0) in
    let sum : length new ≡ length old + length row = ap length adds.1 ∙ length-append old row in
    let rows : rows_in new c.end_row.new.starts.items ≡ rows_in old starts ++ row ∷ [] =
    ap (rows_in new) c.in_ok-end_row.ensures ∙ ap (λ l. rows_in l (starts ++ m ∷ [])) adds.1
    ∙ rows_more old row starts m (count ∙ sum) c.loop-k.invariant.full in
    record {
      full = subst (IsFull (length new)) (sym c.in_ok-end_row.ensures)
          (subst (λ k. IsFull (length new) (starts ++ k ∷ [])) (sym count) (full_more (length old)
          (length new) starts c.loop-k.invariant.full (omega (arith, sum))));
      rows = subst (ArePremises n pairs (take (c.loop-k.k + 1) c.args.instances.now)) (sym rows)
          (premises_next n pairs c.args.instances.now c.loop-k.k
          (rows_in old starts) row c.index-instances-k.result (omega (arith, c.loop-k-test.true))
          (subst (λ ss. ArePlaced n pairs ss row) c.as_slice.ensures adds.2)
          c.loop-k.invariant.rows);
    }

pub returns : goal.returns
returns c =
    subst (ArePremises (length c.args.nodes.now) c.args.pairs.now c.args.instances.now)
    (sym c.from_parts.ensures)
    (premises_done (length c.args.nodes.now) c.args.pairs.now c.args.instances.now c.loop-k.k
    (rows_in c.loop-k.items.items c.loop-k.starts.items)
    (omega (arith, c.loop-k-test.false, c.loop-k.auto.k-end)) c.loop-k.invariant.rows)
