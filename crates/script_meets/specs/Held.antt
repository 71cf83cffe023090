-- What lines say of an assignment.
use Rattle.std.specs.Prelude.{◌≡◌, ℕ, List, Some, slice_get}
use Rattle.fx_model.specs.Expression.{Assignment}
use Rattle.goals.specs.declared.line.Line.{Line}
use Rattle.goals.specs.Holds.{LineHolds}
use Rattle.script_claims.specs.declared.claim.Claim.{Claim}
use Rattle.script_claims.specs.Facts.{slot_of}
use Rattle.script_claims.specs.Meets.{IsTrueAt}
use Rattle.script_grammar.specs.Spells.{View}

-- Each goal has a line in its place, which holds of the assignment; and the goal is true, with
-- bounds exactly as they are written.
abbrev pub AreHeld : View → Assignment → List Line → Type 0
AreHeld s a lines = (k : ℕ) (c : Claim) → slice_get s.goals k ≡ Some c → (l : Line)
    × (slice_get lines k ≡ Some l) × LineHolds s.nodes a (slot_of c) l × IsTrueAt s.nodes a c
