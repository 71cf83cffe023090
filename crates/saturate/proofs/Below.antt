-- From the rounds over a parent's table with a piece to what holds of the box below.
use Rattle.std.specs.Prelude.{ℕ, List, ◌∷◌}
use Rattle.facts.specs.declared.fact.Fact.{Fact}
use Rattle.facts.specs.declared.fact.Fact.TheVariants as fact
use Rattle.derivation.specs.Lists.{IsLawful}
use Rattle.derivation.specs.Derivations.{Setting, At, IsClosed}
use Rattle.derivation.specs.Known.{Piece, IsTableAt}
use Rattle.derivation.specs.Rounds.{IsSame, IsBestFrom, Improves}
use Rattle.derivation.proofs.Begun.{child_start, child_table}
use Rattle.derivation.specs.Counted.{IsWithinSteps, IsWithinStepsFrom}
use Rattle.derivation.proofs.Counts.{child_heights}

module _ (u : Setting) (lawful : IsLawful u.rules) (whole : IsClosed u.instances) (height : ℕ)
    (piece : Piece) (parent copy start : At) (same : IsSame parent copy)
    (came : (k : Fact) × Improves copy start (fact.Bnd piece.0 piece.1) k) where
  pub table_below : (at : At) → IsBestFrom u start height at → (above : List Piece) →
      IsTableAt u height above parent → IsTableAt u height (piece ∷ above) at
  table_below at best above known =
      child_table u height above piece parent copy start came.0 known same came.1 lawful whole at
      best

  pub cost_below : (before after : ℕ) → IsWithinStepsFrom u start height before after →
      (above : List Piece) → IsTableAt u height above parent →
      IsWithinSteps u height (piece ∷ above) before after
  cost_below before after cost above known = λ best b.
      cost best (child_heights u lawful whole height above piece start
      (child_start u height above piece parent copy start came.0 known same came.1) best b)
