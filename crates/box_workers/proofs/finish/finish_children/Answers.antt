use Rattle.std.proofs.Common.{ℕ, List, arith, sym, subst, ◌∙◌}
use Rattle.box_tree.specs.Paths.{IsPathOf}
use Rattle.box_tree.specs.Pieces.{piece_count}
use Rattle.bisect.specs.Trees.{tree_of}
use Rattle.box_workers.proofs.Paths.{child_path}
use Rattle.box_workers.proofs.Finishing.{child_step, child_over}
use Rattle.box_workers.proofs.finish.finish_children.Goals as goal

pub visit-requires-clause-path : goal.visit-requires-clause-path
visit-requires-clause-path g c κs within =
    let cuts : List ℕ → ℕ = λ p. piece_count (g.S.Entry.Posted.cut_at p) in
    subst (IsPathOf cuts) (sym c.child.ensures) (child_path cuts c.args.path c.loop-piece.piece
    c.requires.path (omega (arith, c.requires.count.2)))

pub returns-then-not-branch-clause-over : goal.returns-then-not-branch-clause-over
returns-then-not-branch-clause-over g c = λ _.
    child_over (tree_of g.S.Entry.Posted.cut_at g.S.Entry.Posted.state_at)
    c.args.path c.child.result c.args.first c.loop-piece.piece c.args.count
    c.child.ensures c.loop-piece-test.true
    _ _ c.loop-piece.walk.limit _ _ _ c.loop-piece.invariant.0 c.loop-piece.invariant.2
    (c.in_ok-visit.ensures.over c.if-not-branch.true)

pub loop-piece-preserved : goal.loop-piece-preserved
loop-piece-preserved g c = (
  child_step (tree_of g.S.Entry.Posted.cut_at g.S.Entry.Posted.state_at) c.args.path c.child.result
      c.args.first c.loop-piece.piece c.args.count c.child.ensures c.loop-piece-test.true
      _ c.loop-piece.walk.boxes _ _ c.loop-piece.walk.leaves.items _ c.loop-piece.invariant.0
      (c.in_ok-visit.ensures.all c.if-not-branch.false),
  c.in_ok-visit.ensures.within.room,
  c.in_ok-visit.ensures.within.limit ∙ c.loop-piece.invariant.2,
)
