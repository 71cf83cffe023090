use Rattle.std.proofs.Common.{arith, ◌≡◌, ◌≤◌, ◌-◌, List, ℕ, length, sym, ap, subst, ◌∙◌}
use Rattle.box_tree.specs.Pieces.{piece_count}
use Rattle.box_tree.specs.Paths.{IsPathOf}
use Rattle.bisect.specs.Trees.{tree_of}
use Rattle.bisect.specs.Walks.{seen_by}
use Rattle.bisect.proofs.Paths.{child_path}
use Rattle.bisect.proofs.Walks.{above_bottom, walk_begin, walk_on, walk_over, walk_done}
use Rattle.bisect.proofs.Walks.{boxes_positive}
use Rattle.bisect.proofs.alone.+visit.Goals as goal

pub returns-then-walk-clause-over : goal.returns-then-walk-clause-over
returns-then-walk-clause-over g t c = λ _.
    let p = boxes_positive (tree_of g.S.Entry.Posted.cut_at g.S.Entry.Posted.state_at)
    (36 - length c.args.path) c.args.path in
    omega (arith, p, c.if-walk.true)

pub loop-i-init : goal.loop-i-init
loop-i-init g t c =
    let tree = tree_of g.S.Entry.Posted.cut_at g.S.Entry.Posted.state_at in
    let cut = c.in_ok-entry.field-0.cut in
    let e = c.in_ok-entry.ensures.cut in
    record {
      seen =
          walk_begin tree c.args.path
          (seen_by c.args.walk.now.boxes c.args.walk.now.first c.args.walk.now.leaves.items)
          (seen_by c.see.new.self.boxes c.see.new.self.first c.see.new.self.leaves.items)
          cut c.in_ok-entry.field-0.state c.children-count.result
          (above_bottom tree c.args.path cut
          (λ deep. ap piece_count e ∙ c.requires.bottom c.args.path deep) e)
          c.in_ok-see.ensures.seen c.in_ok-entry.ensures.state c.children-count.ensures.count e;
      room = c.see.ensures.within.room;
      limit = c.see.ensures.within.limit;
    }

pub visit-requires-clause-path : goal.visit-requires-clause-path
visit-requires-clause-path g t c κs within =
    let pieces : List ℕ → ℕ = λ p. piece_count (g.S.Entry.Posted.cut_at p) in
    let n : piece_count c.in_ok-entry.field-0.cut ≡ pieces c.args.path =
    ap piece_count c.in_ok-entry.ensures.cut in
    let few = c.children-count.ensures.pieces in
    let below = c.loop-i-test.true in
    subst (IsPathOf pieces) (sym c.child.ensures)
    (child_path pieces c.args.path c.loop-i.i c.requires.path (omega (arith, n, few, below)))

pub returns-then-not-branch-clause-over : goal.returns-then-not-branch-clause-over
returns-then-not-branch-clause-over g t c = λ _.
    let l = c.loop-i.invariant.limit in
    walk_over (tree_of g.S.Entry.Posted.cut_at g.S.Entry.Posted.state_at) c.args.path
    (seen_by c.args.walk.now.boxes c.args.walk.now.first c.args.walk.now.leaves.items)
    (seen_by c.loop-i.walk.boxes c.loop-i.walk.first c.loop-i.walk.leaves.items)
    c.loop-i.i c.children-count.result c.child.result
    c.loop-i.invariant.seen c.loop-i-test.true c.child.ensures c.args.walk.now.limit
    (let o = c.in_ok-visit.ensures.over c.if-not-branch.true in omega (arith, o, l))

pub loop-i-preserved : goal.loop-i-preserved
loop-i-preserved g t c = record {
  seen =
      walk_on (tree_of g.S.Entry.Posted.cut_at g.S.Entry.Posted.state_at) c.args.path
      (seen_by c.args.walk.now.boxes c.args.walk.now.first c.args.walk.now.leaves.items)
      (seen_by c.loop-i.walk.boxes c.loop-i.walk.first c.loop-i.walk.leaves.items)
      c.loop-i.i c.children-count.result c.child.result
      c.loop-i.invariant.seen c.loop-i-test.true c.child.ensures
      (seen_by c.visit.new.walk.boxes c.visit.new.walk.first c.visit.new.walk.leaves.items)
      (c.in_ok-visit.ensures.seen c.if-not-branch.false);
  room = c.visit.ensures.within.room;
  limit = c.visit.ensures.within.limit ∙ c.loop-i.invariant.limit;
}

pub returns-clause-seen : goal.returns-clause-seen
returns-clause-seen g t c = λ _.
    walk_done (tree_of g.S.Entry.Posted.cut_at g.S.Entry.Posted.state_at) c.args.path
    (seen_by c.args.walk.now.boxes c.args.walk.now.first c.args.walk.now.leaves.items)
    (seen_by c.loop-i.walk.boxes c.loop-i.walk.first c.loop-i.walk.leaves.items)
    c.loop-i.i c.children-count.result c.loop-i.invariant.seen c.loop-i-test.false
