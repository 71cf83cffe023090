-- The pieces of a box that is cut are of the cut's variable.
use Rattle.std.specs.Prelude.{◌≡◌, ℕ, Option, Some}
use Rattle.std.proofs.Common.{sym, ap, subst}
use Rattle.fx_model.specs.declared.ExprId.{ExprId}
use Rattle.derivation.specs.Known.{Piece}
use Rattle.box_tree.specs.declared.next.Next.{Next}
use Rattle.box_tree.specs.declared.next.Next.TheVariants as next
use Rattle.box_tree.specs.Regions.{PlanParts, Region, next_of, piece_by, region_at}
use Rattle.box_tree.specs.Plans.{cut_by, cut_at, last_piece}
use Rattle.answer_certificates.specs.Boxes.{range_of_piece, variable_of}
use Rattle.answer_certificates.specs.Laws.{PiecesAreOfCuts}
use Rattle.answer_certificates.proofs.Known.{piece_there}

-- It is the variable, with its range there.
abbrev IsPieceOf : ExprId → Option Piece → Type 0
IsPieceOf x o = o ≡ Some (x, range_of_piece o)

of_next : (plan : PlanParts) (g : Region) (n : Next) (x : ExprId) (k : ℕ)
    → variable_of (cut_by n) ≡ Some x → IsPieceOf x (last_piece (piece_by plan n g k))
of_next plan g (next.Force y points done) x k e =
    let same : y ≡ x = cc in
    let o : Option Piece = last_piece (piece_by plan (next.Force y points done) g k) in
    ap (λ (z : ExprId). Some (z, range_of_piece o)) same
of_next plan g (next.Halve y m) x k e =
    let same : y ≡ x = cc in
    let o : Option Piece = last_piece (piece_by plan (next.Halve y m) g k) in
    ap (λ (z : ExprId). Some (z, range_of_piece o)) same
of_next plan g next.Rest x k e = cc

pub pieces_are_of_cuts : (plan : PlanParts) → PiecesAreOfCuts plan
unfolding cut_at
pieces_are_of_cuts plan path x e k =
    subst (IsPieceOf x) (sym (piece_there plan path k))
    (of_next plan (region_at plan path) (next_of plan (region_at plan path)) x k e)
