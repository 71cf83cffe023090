-- A walk over a tree of boxes that stands somewhere: what the items so far come to.
use Rattle.std.specs.Prelude.{◌≡◌, ◌≤◌, ◌+◌, ◌-◌, ℕ, true, false, List, [], ◌∷◌, ◌++◌, length, take}
use Rattle.std.specs.Prelude.{Some}
use Rattle.fx_model.specs.declared.ExprId.{ExprId}
use Rattle.dyadic.specs.declared.number.Dyadic.{Dyadic}
use Rattle.facts.specs.declared.fact.Fact.{Fact}
use Rattle.facts.specs.declared.fact.Slot.{Slot}
use Rattle.facts.specs.declared.hint.HintRow.{HintRow}
use Rattle.goals.specs.declared.goal.Goal.{Goal}
use Rattle.goals.specs.declared.line.Line.{Line}
use Rattle.derivation.specs.Derivations.{Setting}
use Rattle.derivation.specs.Known.{Piece}
use Rattle.derivation.specs.Rounds.{IsProper}
use Rattle.derivation.specs.Exists.{table_at}
use Rattle.cert_bytes.specs.declared.item.Item.{Item}
use Rattle.cert_bytes.specs.declared.item.Item.TheVariants as item
use Rattle.cert_bytes.specs.declared.item.StepRow.{StepRow}
use Rattle.cert_bytes.specs.declared.order.DueItem.TheVariants.{Sections}
use Rattle.cert_bytes.specs.Certificates.{AreDue}
use Rattle.cert_checker.specs.declared.open.Citable.{Citable}
use Rattle.cert_checker.specs.declared.subject.Subject.{Subject}
use Rattle.cert_checker.specs.Open.{Numbered}
use Rattle.cert_checker.specs.Contexts.{Context, open_piece}
use Rattle.cert_checker.specs.Steps.{step_fact}
use Rattle.cert_checker.specs.Faults.{IsVariable}
use Rattle.cert_checker.specs.After.{after, around_of, cuts_behind, case_behind}
use Rattle.cert_checker.specs.Accepted.{LeadsTo}
use Rattle.tree_certificates.specs.Sections.{AreBelow}
use Rattle.tree_certificates.specs.Writing.{givens_of}
use Rattle.tree_certificates.specs.Traces.{Trace}
use Rattle.tree_certificates.specs.Trees.{Trees, cut_of, AreProved, lines_of_trees, steps_in_each}

-- The steps that may be cited in a context, and the number of the next step.
abbrev pub numbered : Context → Numbered
numbered c = record { rows = c.steps; next = c.next }

-- the context behind these steps
abbrev pub behind_steps : Context → List StepRow → Context
behind_steps c [] = c
behind_steps c (row ∷ rows) = behind_steps (after c (item.Step row)) rows

-- The second context lies behind the first: there are steps between them, and nothing else.
pub record IsLater (c d : Context) : Type 0 where
  pub nodes : d.nodes ≡ c.nodes
  pub cuts : d.cuts ≡ c.cuts
  pub case : d.case ≡ c.case
  pub lines : d.lines ≡ c.lines
  pub begun : d.begun ≡ false → c.begun ≡ false
  pub ended : c.ended ≡ false → d.ended ≡ false
  pub more : List Citable
  pub steps : d.steps ≡ c.steps ++ more
  pub next : c.next ≤ d.next

-- Where the sections haven't begun, the script has one case, so that they may begin with an item of
-- a section.
abbrev pub MayBegin : Subject → Context → Type 0
MayBegin s c = c.begun ≡ false → 1 ≡ length s.cases

-- The section of a box begins here, in the root section of the case with this number: what it needs
-- of its ancestors may be cited.
pub record IsOpen (u : Setting) (hints : List HintRow) (height most : ℕ)
    (subject : Subject) (number : ℕ) (c : Context) (pieces : List Piece) : Type 0 where
  pub nodes : c.nodes ≡ u.nodes
  pub case : c.case ≡ number
  pub begun : MayBegin subject c
  pub below : AreBelow (numbered c)
  pub ended : c.ended ≡ false
  pub room : around_of (cuts_behind c.cuts) ≤ length c.steps
  pub trace : Trace (givens_of u hints (open_piece c.cuts)) (numbered c)
      (table_at u height pieces) most

-- Behind the steps of a box.
pub record IsBehind (u : Setting)
    (height number : ℕ) (d : Context) (pieces : List Piece) : Type 0 where
  pub nodes : d.nodes ≡ u.nodes
  pub case : d.case ≡ number
  pub place : Slot → ℕ
  pub below : AreBelow (numbered d)
  pub proper : IsProper (table_at u height pieces)
  pub found : (t : Slot) (f : Fact) → table_at u height pieces t ≡ Some f
      → step_fact d.steps (place t) ≡ Some f
  pub room : around_of (cuts_behind d.cuts) ≤ length d.steps

-- Behind the steps of a box, in its cut: piece k is entered.
pub record IsInCut (d : Context) (x : ExprId) (points : List Dyadic) (k : ℕ)
    (e : Context) : Type 0 where
  pub nodes : e.nodes ≡ d.nodes
  pub case : e.case ≡ d.case
  pub cuts : e.cuts ≡ cut_of x points (k + 1) (length d.steps) ∷ d.cuts
  pub steps : e.steps ≡ d.steps
  pub next : d.next ≤ e.next
  pub begun : e.begun ≡ true
  pub ended : e.ended ≡ false

-- The section that begins at c has ended at d, and the leaves so far show these lines.
pub record IsEndOf (c d : Context) (lines : List Line) : Type 0 where
  pub nodes : d.nodes ≡ c.nodes
  pub cuts : d.cuts ≡ cuts_behind c.cuts
  pub case : d.case ≡ case_behind c.case (cuts_behind c.cuts)
  pub steps : d.steps ≡ take (around_of (cuts_behind c.cuts)) c.steps
  pub next : c.next ≤ d.next
  pub shown : d.lines ≡ lines
  pub begun : d.begun ≡ true
  pub ended : d.ended ≡ false

-- A box that is cut and hasn't ended: where its section begins, what is behind its steps, its cut,
-- the piece that is open, and the later ones.
pub record Frame : Type 0 where
  pub begin : Context
  pub steps : Context
  pub var : ExprId
  pub points : List Dyadic
  pub piece : ℕ
  pub later : Trees
  pub pieces : List Piece
  pub depth : ℕ

-- The section that begins at c is a piece of this box.
pub record IsPieceOf (u : Setting)
    (height : ℕ) (goals : List Goal) (case : ℕ) (c : Context) (fr : Frame) : Type 0 where
  pub entered : IsInCut fr.steps fr.var fr.points fr.piece c
  pub behind : IsBehind u height case fr.steps fr.pieces
  pub variable : IsVariable u.nodes fr.var
  pub deep : length fr.steps.cuts + 1 ≡ fr.depth
  pub within : fr.piece ≤ length fr.points
  pub proved : AreProved u height goals fr.var fr.points fr.later (fr.piece + 1) fr.pieces fr.depth
  pub after : IsLater fr.begin fr.steps
  pub room : around_of (cuts_behind fr.begin.cuts) ≤ length fr.begin.steps

-- The section that begins at c lies in these boxes of the case with this number, the innermost
-- first.
abbrev pub LiesIn : Setting → ℕ → List Goal → ℕ → Context → List Frame → Type 0
LiesIn u height goals case c [] = (c.cuts ≡ []) × (c.case ≡ case) × (c.nodes ≡ u.nodes)
LiesIn u height goals case c (fr ∷ frames) = IsPieceOf u height goals case c fr
    × LiesIn u height goals case fr.begin frames

-- the lines with those of the pieces that are still to come
abbrev pub lines_behind : Setting → ℕ → List Goal → List Frame → List Line → List Line
lines_behind u height goals [] lines = lines
lines_behind u height goals (fr ∷ frames) lines = lines_behind u height goals frames
    (lines_of_trees u height goals fr.var fr.later fr.pieces lines)

-- how many sections are still to come
abbrev pub left_in : List Frame → ℕ
left_in [] = 0
left_in (fr ∷ frames) = (length fr.points - fr.piece) + left_in frames

-- how many steps they may have, so many for each box
abbrev pub steps_behind : ℕ → List Frame → ℕ
steps_behind most [] = 0
steps_behind most (fr ∷ frames) = steps_in_each most fr.later + steps_behind most frames

-- The items are due where the first of so many sections is open, and behind them the first of so
-- many.
abbrev pub IsDue : ℕ → ℕ → List Item → Type 0
IsDue more fewer items = (rest : List Item) → AreDue (Some (Sections fewer)) rest
    → AreDue (Some (Sections more)) (items ++ rest)

-- Items that lead from here, where the first of n sections is open, to the end of the last root
-- section.
pub record Ending (subject : Subject) (f : Context) (n : ℕ) (lines : List Line) : Type 0 where
  pub items : List Item
  pub behind : Context
  pub leads : LeadsTo subject f items behind
  pub cases : behind.case ≡ length subject.cases
  pub shown : behind.lines ≡ lines
  pub due : IsDue n 0 items
