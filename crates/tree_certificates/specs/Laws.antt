-- What is promised of steps and certificates.
use Rattle.std.specs.Prelude.{◌≤◌, ◌^◌, ℕ, List, [], ◌∷◌, length, map, Some, None}
use Rattle.fx_model.specs.declared.Node.{Node}
use Rattle.fx_model.specs.Expression.{IsOrdered}
use Rattle.facts.specs.declared.fact.Fact.{Fact}
use Rattle.facts.specs.declared.fact.Slot.{Slot}
use Rattle.facts.specs.declared.fact.Slot.TheVariants as slot
use Rattle.facts.specs.declared.hint.HintRow.{HintRow}
use Rattle.goals.specs.declared.goal.Goal.{Goal}
use Rattle.goals.specs.declared.line.Line.TheVariants as line
use Rattle.theorem_list.specs.Concludes.{concludes}
use Rattle.derivation.specs.Derivations.{Setting}
use Rattle.derivation.specs.Known.{Piece}
use Rattle.derivation.specs.Rounds.{IsProper}
use Rattle.derivation.specs.Exists.{table_at}
use Rattle.cert_bytes.specs.declared.item.Item.{Item}
use Rattle.cert_checker.specs.declared.subject.Subject.{Subject}
use Rattle.cert_checker.specs.Open.{Numbered}
use Rattle.cert_checker.specs.Accepted.{Accepts}
use Rattle.tree_certificates.specs.Sections.{ArePlaces, AreBelow}
use Rattle.tree_certificates.specs.Writing.{IsSlotKnown, IsWritable, IsVoidFitting, IsFromFew}
use Rattle.tree_certificates.specs.Writing.{IsNumberedLow, givens_of}
use Rattle.tree_certificates.specs.Traces.{Trace, IsCutTo, most_steps}
use Rattle.tree_certificates.specs.Roots.{Root, AreRoots, steps_in_roots, lines_of_roots}

-- Behind any steps there are further ones that are accepted, and conclude each of the root's best
-- facts; below the root the same wherever each fact of the parent has its place.
pub record TracesExist : Type 0 where
  pub root : (u : Setting) (hints : List HintRow) → IsWritable u hints → (s : Numbered) → AreBelow s
      → (height : ℕ) → Trace (givens_of u hints None) s (table_at u height []) (most_steps u height)
  pub child : (u : Setting) (hints : List HintRow) → IsWritable u hints → (s : Numbered)
      → AreBelow s → (height : ℕ) (piece : Piece) (above : List Piece) (p : Fact) (place : Slot → ℕ)
      → IsSlotKnown u.nodes (slot.Bnd piece.0) → IsProper (table_at u height above)
      → ArePlaces s (table_at u height above) place → IsCutTo (table_at u height above) p piece
      → Trace (givens_of u hints (Some p)) s
      (table_at u height (piece ∷ above)) (most_steps u height)

-- Trees of boxes whose leaves are settled, one for each case, 1 to 64, and whose steps can be
-- numbered, have a certificate that the checker accepts, with the lines that the leaves of all
-- trees show.
abbrev pub CertificatesExist : Type 0
CertificatesExist = (hints : List HintRow)
    (height most : ℕ) (goals : List Goal) (subject : Subject) (r : Root) (later : List Root)
    → AreRoots subject hints height most goals r.setting.nodes 0 (r ∷ later) →
    length subject.cases ≤ 64 → steps_in_roots most (r ∷ later) ≤ 2 ^ 64 →
    (items : List Item) × Accepts subject items
    (lines_of_roots height goals (r ∷ later) (map (λ g. line.Empty) subject.goals))

-- What the list of rules gives can be written as steps: VOID is given also where VOID is aimed at,
-- from premises that have room in a step, by rules with numbers below those of what is given.
pub record RulesFitSteps : Type 0 where
  pub void_fits : (nodes : List Node) (hints : List HintRow) → IsOrdered nodes
      → IsVoidFitting (concludes nodes hints)
  pub counted : (nodes : List Node) (hints : List HintRow) → IsOrdered nodes
      → IsFromFew (concludes nodes hints)
  pub low : (nodes : List Node) (hints : List HintRow) → IsNumberedLow (concludes nodes hints)
