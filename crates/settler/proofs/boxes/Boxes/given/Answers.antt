use Rattle.std.proofs.Common.{subst, MatchOption, ◌≡◌, [], ◌∷◌, ◌++◌}
use Rattle.box_tree.specs.Paths.{IsChild}
use Rattle.box_tree.specs.Plans.{pieces_at, piece_at, with_last}
use Rattle.settler.proofs.Along.{child_box, root_pieces}
use Rattle.settler.proofs.boxes.Boxes.given.Goals as goal

pub returns-in-Some-clause-is : goal.returns-in-Some-clause-is
returns-in-Some-clause-is g c =
    let path = c.args.path.now in
    let child = subst (λ o. MatchOption o (path ≡ [])
    (λ e. IsChild e.now path)) c.in-Some.is c.requires.parent in
    let more = subst (λ p. pieces_at p (c.in-Some.entry.now ++ child.0 ∷ []) ≡ with_last (piece_at p
    (c.in-Some.entry.now ++ child.0 ∷ [])) (pieces_at p c.in-Some.entry.now)) c.self.invariant.1
    (c.covers.ensures.one_more c.in-Some.entry.now child.0) in
    child_box g.F.Frame.universe g.F.Frame.plan g.F.Frame.rounds path c.in-Some.entry.now child.0
    c.piece.result c.table.result child.1 c.piece.ensures.piece more c.table.ensures.right

pub returns-in-None-clause-is : goal.returns-in-None-clause-is
returns-in-None-clause-is g c =
    root_pieces g.F.Frame.plan c.args.path.now (subst (λ o. MatchOption o (c.args.path.now ≡ [])
    (λ e. IsChild e.now c.args.path.now)) c.in-None.is c.requires.parent)
