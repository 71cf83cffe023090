-- From what a call on a box is given to what holds of the box.
use Rattle.std.specs.Prelude.{◌≡◌, ◌⊎◌, ℕ, List, [], ◌∷◌, Option, Some, None}
use Rattle.std.specs.Borrow.{Bor}
use Rattle.std.proofs.Common.{sym, subst, inl, inr}
use Rattle.derivation.specs.Known.{Piece, IsTableAt}
use Rattle.rule_universe.specs.Worlds.{World}
use Rattle.saturate.specs.Universes.{setting_of}
use Rattle.box_trace.specs.declared.known.Known.{Known}
use Rattle.box_trace.specs.Tables.{known_at}
use Rattle.box_trace.specs.Boxes.{IsBox}

module _ (u : World) (h : ℕ) (piece : Option Piece) (parent : Option (Bor Known))
    (P : List Piece → Type 0) where
  pub child_box : (p : Piece) (t : Bor Known) → piece ≡ Some p → parent ≡ Some t
      → ((above : List Piece) → IsTableAt (setting_of u) h above (known_at u t.now) → P (p ∷ above))
      → (pieces : List Piece) → IsBox u h piece parent pieces → P pieces
  child_box p t e f g pieces b =
      let w : (above : List Piece)
      × (pieces ≡ p ∷ above) × IsTableAt (setting_of u) h above (known_at u t.now) =
      subst (λ o. IsBox u h (Some p) o pieces) f (subst (λ o. IsBox u h o parent pieces) e b) in
      subst P (sym w.1) (g w.0 w.2)

  pub root_box : (piece ≡ None) ⊎ (parent ≡ None) → P [] → (pieces : List Piece)
      → IsBox u h piece parent pieces → P pieces
  root_box n g pieces b = subst P (sym (no_pieces piece parent n b)) g
    where
      no_pieces : (piece : Option Piece) (parent : Option (Bor Known))
          → (piece ≡ None) ⊎ (parent ≡ None) → IsBox u h piece parent pieces → pieces ≡ []
      no_pieces None None n b = b
      no_pieces (Some p) None n b = absurd b
      no_pieces None (Some t) n b = absurd b
      no_pieces (Some p) (Some t) n b = elim n [ inl e ↦ cc | inr e ↦ cc ]
