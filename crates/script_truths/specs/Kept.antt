-- What is said of nodes is said alike where more nodes follow.
use Rattle.std.specs.Prelude.{◌≡◌, ◌↔◌, ◌++◌, ⊤, ℕ, List, length}
use Rattle.fx_model.specs.declared.ExprId.{ExprId}
use Rattle.fx_model.specs.declared.Node.{Node}
use Rattle.fx_model.specs.Expression.{Assignment, IsOrdered, value}
use Rattle.facts.specs.declared.fact.Fact.{Fact}
use Rattle.facts.specs.declared.fact.Slot.{Slot}
use Rattle.facts.specs.declared.fact.Slot.TheVariants as slot
use Rattle.facts.specs.declared.hint.HintRow.{HintRow}
use Rattle.facts.specs.Holds.{Holds}
use Rattle.facts.specs.Order.{slot_of}
use Rattle.facts.specs.Rows.{RowIsTrue}
use Rattle.goals.specs.declared.line.Line.{Line}
use Rattle.goals.specs.Holds.{LineHolds}
use Rattle.script_claims.specs.declared.claim.Claim.{Claim}
use Rattle.script_claims.specs.Meets.{IsTrueAt}
use Rattle.script_grammar.specs.Names.{IsNode, AreNodes, ClaimIsOf}
use Rattle.rule_universe.specs.Licensed.{RowIsKnown}

-- The second list is the first with more nodes behind it; each node of both is made of earlier
-- ones.
pub record IsExtended (nodes all : List Node) : Type 0 where
  pub more : List Node
  pub list : all ≡ nodes ++ more
  pub before : IsOrdered nodes
  pub after : IsOrdered all

-- This is so of each list and each that extends it, of every assignment.
abbrev pub OfExtended : (List Node → List Node → Assignment → Type 0) → Type 0
OfExtended P = (nodes all : List Node) (a : Assignment) → IsExtended nodes all → P nodes all a

-- A node of the first list has one value over both.
abbrev pub ValuesAreKept : List Node → List Node → Assignment → Type 0
ValuesAreKept nodes all a = (x : ExprId) → IsNode (length nodes) x → value all a x ≡ value nodes a x

-- the slot is about some of n nodes
abbrev pub SlotIsOf : ℕ → Slot → Type 0
SlotIsOf n (slot.Bnd x) = IsNode n x
SlotIsOf n (slot.Abs x) = IsNode n x
SlotIsOf n (slot.Rel x y) = AreNodes n (x, y)
SlotIsOf n (slot.Fix x) = IsNode n x
SlotIsOf n (slot.Nzr x) = IsNode n x
SlotIsOf n slot.Void = ⊤

-- A fact about its nodes holds over both, or over neither.
abbrev pub FactsAreKept : List Node → List Node → Assignment → Type 0
FactsAreKept nodes all a = (f : Fact) → SlotIsOf (length nodes) (slot_of f)
    → Holds all a f ↔ Holds nodes a f

-- The same of lines,
abbrev pub LinesAreKept : List Node → List Node → Assignment → Type 0
LinesAreKept nodes all a = (t : Slot) (l : Line) → SlotIsOf (length nodes) t
    → LineHolds all a t l ↔ LineHolds nodes a t l

-- of claims,
abbrev pub ClaimsAreKept : List Node → List Node → Assignment → Type 0
ClaimsAreKept nodes all a = (c : Claim) → ClaimIsOf (length nodes) c
    → IsTrueAt all a c ↔ IsTrueAt nodes a c

-- and of rows of hints.
abbrev pub RowsAreKept : List Node → List Node → Assignment → Type 0
RowsAreKept nodes all a = (row : HintRow) → RowIsKnown (length nodes) row
    → RowIsTrue all a row ↔ RowIsTrue nodes a row
