-- Laws of what specs/Closed defines.
use Rattle.std.specs.Prelude.{◌≡◌, ◌⊎◌, Option, Some, slice_get, Contains}
use Rattle.std.proofs.Common.{sym, ◌∙◌, ap, inl, inr}
use Rattle.facts.specs.declared.fact.Slot.{Slot}
use Rattle.facts.specs.Order.{slot_of}
use Rattle.facts.proofs.Laws.{IsStronger-trans}
use Rattle.derivation.specs.Derivations.{Setting, At}
use Rattle.derivation.specs.Rounds.{concluded, Grows}
use Rattle.derivation.proofs.Changes.{agrees_all, true_false}
use Rattle.saturate.specs.Closed.{IsClosedUnder, IsQuietBut}

-- ---- where rounds begin
-- Instances whose premises stayed are quiet.
pub quiet_below : (u : Setting) (changed : Option Slot) (at new : At) → IsClosedUnder u at →
    Grows at new → ((s : Slot) → (changed ≡ Some s) ⊎ (new s ≡ at s)) → IsQuietBut u changed new
quiet_below u changed at new closed grows listed due marked k i c e d x =
    let b = closed k i c e
    (ap (concluded u.rules i) (sym (agrees_all at new i.premises same)) ∙ x) in
    let g = grows (slot_of c) b.0 b.1 in
    (g.0, g.1, IsStronger-trans g.0 b.0 c g.2 b.2)
  where
    same : (s : Slot) → Contains i.premises s → new s ≡ at s
    same s w =
        elim (listed s) [
          | inl h ↦ absurd (true_false (slice_get due k) (marked s h k (i, e, w)) d)
          | inr h ↦ h
        ]
