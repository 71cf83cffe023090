-- The steps of a box.
use Rattle.std.specs.Prelude.{◌<◌, ◌≤◌, ◌+◌, ◌*◌, ⊤, ℕ, List, [], ◌∷◌, length, Some}
use Rattle.facts.specs.declared.fact.Fact.{Fact}
use Rattle.facts.specs.declared.fact.Slot.{Slot}
use Rattle.facts.specs.declared.fact.Fact.TheVariants as fact
use Rattle.facts.specs.declared.fact.Slot.TheVariants as slot
use Rattle.derivation.specs.Derivations.{Setting, At}
use Rattle.derivation.specs.Known.{Piece}
use Rattle.derivation.specs.Rounds.{IsProper}
use Rattle.derivation.specs.Exists.{joined}
use Rattle.cert_bytes.specs.declared.item.StepRow.{StepRow}
use Rattle.cert_bytes.specs.Certificates.{IsCounted, IsShort}
use Rattle.cert_checker.specs.Open.{Numbered}
use Rattle.cert_checker.specs.Steps.{Givens, met_with, IsEnough}
use Rattle.tree_certificates.specs.Sections.{IsTraced}

-- The step's rule, argument and number of premises have room in their fields.
pub record HasFields (row : StepRow) : Type 0 where
  pub counted : IsCounted row.premises
  pub rule : row.rule < 256
  pub arg : IsShort row.arg

-- The parts of each of these steps have room in their fields.
abbrev pub HaveFields : List StepRow → Type 0
HaveFields [] = ⊤
HaveFields (row ∷ rows) = HasFields row × HaveFields rows

-- At most so many steps behind s that are accepted, and conclude each fact of the table.
pub record Trace (g : Givens) (s : Numbered) (at : At) (most : ℕ) : Type 0 where
  pub rows : List StepRow
  pub place : Slot → ℕ
  pub proper : IsProper at
  pub traced : IsTraced g s rows at place
  pub fields : HaveFields rows
  pub few : length rows ≤ most

-- A step for each hypothesis, each node and the piece, and one for each instance in each round.
abbrev pub most_steps : Setting → ℕ → ℕ
most_steps u height = length u.hypotheses + length u.nodes + 1 + height * length u.instances

-- The piece of the certificate's cut, met with what the table knows of the variable, is as strong
-- as the box's piece met with that.
abbrev pub IsCutTo : At → Fact → Piece → Type 0
IsCutTo at p piece = IsEnough (met_with (Some p) (at (slot.Bnd piece.0)))
    (joined (at (slot.Bnd piece.0)) (fact.Bnd piece.0 piece.1))
