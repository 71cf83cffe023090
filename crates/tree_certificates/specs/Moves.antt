-- How a walk over a tree of boxes moves, and that it can always go on.
use Rattle.std.specs.Prelude.{◌≡◌, ◌≤◌, ◌+◌, ◌^◌, ℕ, suc, List, ◌∷◌, length, map, None, Some, []}
use Rattle.fx_model.specs.declared.ExprId.{ExprId}
use Rattle.dyadic.specs.declared.number.Dyadic.{Dyadic}
use Rattle.interval.specs.declared.interval.Interval.{Interval}
use Rattle.facts.specs.declared.fact.Slot.{Slot}
use Rattle.facts.specs.declared.fact.Fact.TheVariants as fact
use Rattle.facts.specs.declared.hint.HintRow.{HintRow}
use Rattle.goals.specs.declared.goal.Goal.{Goal}
use Rattle.goals.specs.declared.line.Line.{Line}
use Rattle.derivation.specs.Derivations.{Setting}
use Rattle.derivation.specs.Known.{Piece}
use Rattle.derivation.specs.Exists.{table_at}
use Rattle.cert_bytes.specs.declared.item.Item.TheVariants as item
use Rattle.cert_bytes.specs.declared.item.StepRow.{StepRow}
use Rattle.cert_checker.specs.declared.subject.Subject.{Subject}
use Rattle.cert_checker.specs.Contexts.{Context, open_piece}
use Rattle.cert_checker.specs.Steps.{step_fact}
use Rattle.cert_checker.specs.Faults.{AreSettled, JudgesItem}
use Rattle.cert_checker.specs.After.{after, lines_with}
use Rattle.cert_checker.specs.Accepted.{LeadsTo}
use Rattle.tree_certificates.specs.Sections.{behind, AreAccepted, ArePlaces}
use Rattle.tree_certificates.specs.Writing.{IsWritable, givens_of}
use Rattle.tree_certificates.specs.Traces.{HaveFields, most_steps}
use Rattle.tree_certificates.specs.Trees.{Tree, Trees, cut, last, next, IsProved, lines_of_tree}
use Rattle.tree_certificates.specs.Trees.{steps_in, IsSubjectOf}
use Rattle.tree_certificates.specs.Roots.{Root, IsRoot, AreRoots, steps_in_roots, lines_of_roots}
use Rattle.tree_certificates.specs.Walks.{numbered, behind_steps, IsLater, IsOpen, IsBehind}
use Rattle.tree_certificates.specs.Walks.{IsEndOf, Frame, LiesIn, left_in, lines_behind}
use Rattle.tree_certificates.specs.Walks.{steps_behind, IsDue, Ending}

-- This is so of everything that can be written, of so many steps a box, with what certificates are
-- judged against.
abbrev pub OfWalks : (Setting → List HintRow → ℕ → ℕ → List Goal → Subject → ℕ → Type 0) → Type 0
OfWalks P = (u : Setting) (hints : List HintRow)
    → IsWritable u hints → (height most : ℕ) → most_steps u height ≤ most
    → (goals : List Goal) (subject : Subject) (case : ℕ) → IsSubjectOf subject case u hints goals →
    P u hints height most goals subject case

-- A walk over the boxes in the order of their paths can always go on: where the section of a box
-- may begin, there are items from there to the end of the last root section that are accepted, with
-- the lines of all leaves that are still to come, those of later cases among them. So what was
-- written before begins an accepted certificate.
abbrev pub WalksGoOn : Type 0
WalksGoOn = OfWalks (λ u hints height most goals subject case.
    (tree : Tree) (c : Context) (pieces : List Piece) (depth : ℕ) (frames : List Frame)
    → IsOpen u hints height most subject case c pieces → length c.cuts ≡ depth →
    IsProved u height goals tree pieces depth → LiesIn u height goals case c frames
    → (later : List Root) → AreRoots subject hints height most goals u.nodes (case + 1) later →
    c.next + (steps_in most tree + steps_behind most frames + steps_in_roots most later) ≤ 2 ^ 64 →
    Ending subject c (suc (left_in frames + length later)) (lines_of_roots height goals later
    (lines_behind u height goals frames (lines_of_tree u height goals tree pieces c.lines))))

-- The steps may be written where c stands: nothing is wrong with them, and they are due there.
pub record AreSteps (subject : Subject) (c : Context) (rows : List StepRow) : Type 0 where
  pub leads : LeadsTo subject c (map item.Step rows) (behind_steps c rows)
  pub later : IsLater c (behind_steps c rows)
  pub due : (n : ℕ) → IsDue (suc n) (suc n) (map item.Step rows)

-- the box whose section begins at c, with its first piece entered
abbrev pub frame_of : Context → List StepRow → ExprId → List Dyadic → Trees → List Piece → ℕ → Frame
frame_of c rows x points later pieces depth = record {
  begin = c;
  steps = behind_steps c rows;
  var = x;
  points = points;
  piece = 0;
  later = later;
  pieces = pieces;
  depth = depth;
}

-- with its next piece entered
abbrev pub turned : Frame → Trees → Frame
turned fr later = record fr { piece = fr.piece + 1; later = later }

-- The section of a box may begin here, in these boxes.
pub record IsEntered (u : Setting) (hints : List HintRow)
    (height most : ℕ) (goals : List Goal) (subject : Subject) (case : ℕ) (c : Context)
    (tree : Tree) (pieces : List Piece) (depth : ℕ) (frames : List Frame) : Type 0 where
  pub opened : IsOpen u hints height most subject case c pieces
  pub deep : length c.cuts ≡ depth
  pub proved : IsProved u height goals tree pieces depth
  pub lies : LiesIn u height goals case c frames

-- How a walk moves on.
pub record WalksMove : Type 0 where
  -- steps that are accepted may be written in the section of a box;
  pub written : OfWalks (λ u hints height most goals subject case.
      (c : Context) (pieces : List Piece) (rows : List StepRow)
      → IsOpen u hints height most subject case c pieces →
      AreAccepted (givens_of u hints (open_piece c.cuts)) (numbered c) rows → HaveFields rows
      → c.next + length rows ≤ 2 ^ 64 → AreSteps subject c rows)
  -- where they conclude each of its best facts, the box stands behind them
  pub placed : OfWalks (λ u hints height most goals subject case.
      (c : Context) (pieces : List Piece) (rows : List StepRow) (place : Slot → ℕ)
      → IsOpen u hints height most subject case c pieces →
      ArePlaces (behind (numbered c) rows) (table_at u height pieces) place
      → IsBehind u height case (behind_steps c rows) pieces)
  -- a box that is cut is cut behind its steps, and its first piece is entered
  pub enters : OfWalks (λ u hints height most goals subject case.
      (c : Context) (rows : List StepRow) (x : ExprId) (points : List Dyadic) (i : Interval)
      (tree : Tree) (trees : Trees) (pieces : List Piece) (depth : ℕ) (frames : List Frame) →
      IsEntered u hints height most goals subject case c
      (cut x points (next i tree trees)) pieces depth frames
      → AreSteps subject c rows → IsBehind u height case (behind_steps c rows) pieces →
      JudgesItem subject (behind_steps c rows) (item.Cut x points) None
      × IsEntered u hints height most goals subject case
      (after (behind_steps c rows) (item.Cut x points)) tree ((x, i) ∷ pieces)
      (depth + 1) (frame_of c rows x points trees pieces (depth + 1) ∷ frames))
  -- a leaf ends the section of its box
  pub settled : OfWalks (λ u hints height most goals subject case.
      (c : Context) (pieces : List Piece) (rows : List StepRow) (refs : List ℕ)
      → IsOpen u hints height most subject case c pieces → AreSteps subject c rows →
      AreSettled (behind_steps c rows).steps subject.goals refs →
      JudgesItem subject (behind_steps c rows) (item.Leaf refs) None × IsEndOf c (after
      (behind_steps c rows) (item.Leaf refs)) (lines_with (behind_steps c rows).steps c.lines refs))
  pub void : OfWalks (λ u hints height most goals subject case.
      (c : Context) (pieces : List Piece) (rows : List StepRow) (r : ℕ)
      → IsOpen u hints height most subject case c pieces → AreSteps subject c rows →
      step_fact (behind_steps c rows).steps r ≡ Some fact.Void →
      JudgesItem subject (behind_steps c rows) (item.Dead r) None
      × IsEndOf c (after (behind_steps c rows) (item.Dead r)) c.lines)
  -- behind a section the next piece is entered,
  pub follows : OfWalks (λ u hints height most goals subject case.
      (c d : Context) (lines : List Line) (fr : Frame) (i : Interval) (tree : Tree)
      (trees : Trees) (frames : List Frame) → LiesIn u height goals case c (fr ∷ frames) →
      fr.later ≡ next i tree trees
      → IsEndOf c d lines → IsEntered u hints height most goals subject case d tree
      ((fr.var, i) ∷ fr.pieces) fr.depth (turned fr trees ∷ frames))
  -- or, behind the last, its box has ended
  pub ends : OfWalks (λ u hints height most goals subject case. (c d : Context) (lines : List Line)
      (fr : Frame) (frames : List Frame) → LiesIn u height goals case c (fr ∷ frames) →
      fr.later ≡ last → IsEndOf c d lines → IsEndOf fr.begin d lines)
  -- behind each section there are items to the end of the last root section;
  pub rest : OfWalks (λ u hints height most goals subject case. (c d : Context) (lines : List Line)
      (frames : List Frame) → LiesIn u height goals case c frames → IsEndOf c d lines →
      (later : List Root) → AreRoots subject hints height most goals u.nodes (case + 1) later
      → d.next + (steps_behind most frames + steps_in_roots most later) ≤ 2 ^ 64 →
      Ending subject d (left_in frames + length later)
      (lines_of_roots height goals later (lines_behind u height goals frames lines)))
  -- and behind the root section of a case that of the next is entered.
  pub next_case : OfWalks (λ u hints height most goals subject case.
      (c d : Context) (lines : List Line) (later : Setting) (tree : Tree)
      → LiesIn u height goals case c [] → IsEndOf c d lines →
      IsRoot subject hints height most goals u.nodes
      (case + 1) (record { setting = later; tree = tree })
      → IsEntered later hints height most goals subject (case + 1) d tree [] 0 [])
