use Rattle.std.proofs.Common.{◌≡◌, ℕ, List, [], ◌∷◌, ◌++◌, subst, sym, ap, ◌∙◌}
use Rattle.box_tree.specs.Paths.{IsPathOf}
use Rattle.box_tree.specs.Pieces.{piece_count}
use Rattle.box_workers.proofs.Paths.{child_path}
use Rattle.box_workers.proofs.task.BoxTask.piece.Goals as goal

pub invariant_of-result : goal.invariant_of-result
invariant_of-result g c =
    let e : c.args.path ++ c.args.piece ∷ [] ≡ c.child.result = sym c.child.ensures in (
      subst (IsPathOf (λ (p : List ℕ). piece_count (g.E.Posted.cut_at p))) e
          (child_path (λ (p : List ℕ). piece_count (g.E.Posted.cut_at p)) c.args.path c.args.piece
          c.requires.path c.requires.piece.1),
      (
        c.args.piece,
        c.child.ensures ∙ ap (λ (p : List ℕ). p ++ c.args.piece ∷ []) (sym c.requires.parent),
      ),
    )
