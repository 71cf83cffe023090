-- Facts over the frame, from those over what a settler has.
use Rattle.std.specs.Prelude.{◌≡◌, ℕ, List, [], ◌∷◌, ◌++◌, Option, Some, Result, Ok, Err, IfOk}
use Rattle.std.specs.Borrow.{Bor}
use Rattle.std.proofs.Common.{sym, ◌∙◌, ap, subst}
use Rattle.derivation.specs.Known.{Piece, IsTableAt}
use Rattle.derivation.specs.Settled.{IsState}
use Rattle.rule_universe.specs.Worlds.{World}
use Rattle.saturate.specs.declared.kept.Table.{Table}
use Rattle.saturate.specs.Tables.{fact_at}
use Rattle.saturate.specs.Universes.{setting_of}
use Rattle.saturate.specs.declared.settled.Settled.{Settled}
use Rattle.saturate.specs.Boxes.{IsBox, IsItsTable, IsItsState, table_of, state_of}
use Rattle.box_tree.specs.Regions.{PlanParts}
use Rattle.box_tree.specs.Plans.{piece_at, pieces_at, with_last}

-- with another universe and another height that are the same
pub in_frame : (P : World → ℕ → Type 0) (u v : World) (h k : ℕ) → u ≡ v → h ≡ k → P u h → P v k
in_frame P u v h k e f x = subst (λ n. P v n) f (subst (λ w. P w h) e x)

-- What a call is promised over the settler's universe and rounds holds over the frame's, of the
-- frame's box.
module _ (u v : World) (h k : ℕ) (e : u ≡ v) (f : h ≡ k) (piece : Option Piece)
    (parent : Option (Bor Table)) (pieces : List Piece) (is : IsBox v k piece parent pieces) where
  pub same_box : IsBox u h piece parent pieces
  same_box = in_frame (λ w n. IsBox w n piece parent pieces) v u k h (sym e) (sym f) is

  pub its_table : {E : Type 0} (r : Result Settled E)
      → IfOk r (λ s. IsItsTable u h piece parent (table_of s))
      → IfOk r (λ s. IsTableAt (setting_of v) k pieces (fact_at (table_of s)))
  its_table (Ok s) t = in_frame (λ w n.
      IsTableAt (setting_of w) n pieces (fact_at (table_of s))) u v h k e f (t pieces same_box)
  its_table (Err x) t = tt

  pub its_state : {E : Type 0} (r : Result Settled E)
      → IfOk r (λ s. IsItsState u h piece parent (state_of s))
      → IfOk r (λ s. IsState (setting_of v) v.goals k pieces (state_of s))
  its_state (Ok s) t = in_frame
      (λ w n. IsState (setting_of w) w.goals n pieces (state_of s)) u v h k e f (t pieces same_box)
  its_state (Err x) t = tt

-- the box of a piece of another
pub child_box : (u : World) (plan : PlanParts) (height : ℕ) (path p : List ℕ) (i : ℕ)
    (piece : Piece) (parent : Bor Table) → path ≡ p ++ i ∷ [] → piece_at plan path ≡ Some piece
    → pieces_at plan (p ++ i ∷ []) ≡ with_last (piece_at plan (p ++ i ∷ [])) (pieces_at plan p)
    → IsTableAt (setting_of u) height (pieces_at plan p) (fact_at parent.now)
    → IsBox u height (Some piece) (Some parent) (pieces_at plan path)
child_box u plan height path p i piece parent c s o t =
    let q : pieces_at plan path ≡ piece ∷ pieces_at plan p = ap (pieces_at plan) c ∙ o
    ∙ ap (λ x. with_last x (pieces_at plan p)) (ap (piece_at plan) (sym c) ∙ s) in
    (pieces_at plan p, q, t)

-- the root has no piece
pub root_pieces : (plan : PlanParts) (path : List ℕ) → path ≡ [] → pieces_at plan path ≡ []
unfolding pieces_at
root_pieces plan path e = ap (pieces_at plan) e
