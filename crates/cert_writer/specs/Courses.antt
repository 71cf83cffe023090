-- The walk over a script's boxes that writes its certificate: where it stands.
use Rattle.std.specs.Prelude.{◌≡◌, ◌<◌, ◌≤◌, ◌+◌, ◌-◌, ℕ, List, [], ◌∷◌, ◌++◌, length, Option, Some}
use Rattle.std.specs.Prelude.{None}
use Rattle.std.specs.Io.KnownBytes.{Appends}
use Rattle.std.specs.Borrow.{Bor}
use Rattle.facts.specs.declared.fact.Slot.TheVariants as slot
use Rattle.goals.specs.declared.line.Line.{Line}
use Rattle.derivation.specs.Derivations.{Setting, At}
use Rattle.derivation.specs.Known.{Piece, IsTableAt}
use Rattle.derivation.specs.Exists.{table_at}
use Rattle.rule_universe.specs.Worlds.{World, IsWhole}
use Rattle.saturate.specs.Universes.{setting_of}
use Rattle.box_tree.specs.Plans.{cut_at, piece_at, pieces_at}
use Rattle.box_tree.specs.Pieces.{piece_count}
use Rattle.box_tree.specs.Regions.{PlanParts}
use Rattle.bisect.specs.declared.settler.State.{State}
use Rattle.settler.specs.Standing.{AreStates}
use Rattle.cert_bytes.specs.declared.item.Item.{Item}
use Rattle.cert_bytes.specs.declared.item.StepRow.{StepRow}
use Rattle.cert_bytes.specs.declared.style.Seen.{Seen}
use Rattle.cert_bytes.specs.Styles.{seen_in}
use Rattle.cert_bytes.specs.Spelling.{spelled_behind, certificate_of}
use Rattle.cert_checker.specs.Contexts.{open_piece}
use Rattle.cert_checker.specs.Open.{Numbered}
use Rattle.cert_trim.specs.Behind.{IsLeafOrDead, section_of, trimmed_behind}
use Rattle.tree_certificates.specs.Sections.{ArePlaces}
use Rattle.tree_certificates.specs.Trees.{Tree}
use Rattle.tree_certificates.specs.Walks.{numbered, Frame}
use Rattle.box_trace.specs.declared.known.Known.{Known}
use Rattle.box_trace.specs.Boxes.{IsBox, IsOfUniverse, IsItsSection}
use Rattle.box_trace.specs.Tables.{known_at, place_in, HasRows}
use Rattle.answer_certificates.specs.Scripts.{HasSlots}
use Rattle.answer_certificates.specs.Boxes.{range_of_piece, pieces_from, boxes_below}
use Rattle.whole_texts.specs.Pieces.{AppendsFront}
use Rattle.cert_writer.specs.Standing.{Target, Aim, IsAim, IsBegun, SectionStart, IsAt, Ended}
use Rattle.cert_writer.specs.Standing.{HasEnded}

-- ---- what is walked over
-- For what the certificate is written, how boxes are cut, and how they stand.
pub record Course : Type 0 where
  pub aim : Aim
  pub plan : PlanParts
  pub states : List ℕ → State

-- The aim is one, its universe is whole, its goals are about it, boxes stand as what is known there
-- says, and none is cut 36 cuts below the root.
pub record IsCourse (c : Course) : Type 0 where
  pub aim : IsAim c.aim
  pub whole : IsWhole c.aim.world
  pub goals : HasSlots c.aim.world c.aim.world.goals
  pub states : AreStates c.aim.world c.plan c.aim.height c.states
  pub depth : (path : List ℕ) → 36 ≤ length path → piece_count (cut_at c.plan path) ≡ 0

-- over this universe, with this plan and so many rounds
abbrev pub course : World → PlanParts → ℕ → Target → List Line → (List ℕ → State) → Course
course u plan height target lines states = record {
  aim = record {
    world = u;
    height = height;
    target = target;
    lines = lines;
  };
  plan = plan;
  states = states;
}

-- What derivations use in all boxes of a course: the rules, nodes, hypotheses and instances of its
-- universe.
abbrev pub setting : Course → Setting
setting c = setting_of c.aim.world

-- the boxes below the one at this path, as far as so many cuts
abbrev pub below : Course → ℕ → List ℕ → Tree
below c cuts path = boxes_below c.plan c.states cuts path

-- the table of what is known at the box with these pieces
abbrev pub best_at : Course → List Piece → At
best_at c pieces = table_at (setting c) c.aim.height pieces

-- Whatever the pieces are, it has the best facts that are known there.
abbrev pub HasBest : Course → Type 0
HasBest c = (pieces : List Piece) → IsTableAt (setting c) c.aim.height pieces (best_at c pieces)

-- ---- what the file takes
-- From the one state to the other it took the bytes of the items that stand behind these.
abbrev pub Grew : List Item → Option (List ℕ) → Option (List ℕ) → List Item → Type 0
Grew before old new items = (more : List Item) × (items ≡ before ++ more)
    × Appends old new (spelled_behind (seen_in before) more)

-- It took some bytes, with which those of the items before are a front of a certificate that is
-- accepted with all lines.
abbrev pub GrewToFront : Aim → List Item → Option (List ℕ) → Option (List ℕ) → Type 0
GrewToFront t before old new = (bytes : List ℕ) × Appends old new bytes
    × IsBegun t (certificate_of before ++ bytes)

-- ---- where the walk stands
-- Before the box at the path: the place is that of its section, before which the items so far were
-- seen; what is known at its parent is given.
pub record IsBefore (c : Course) (path : List ℕ) (parent : Option (Bor Known)) (seen : Seen)
    (p : SectionStart) : Type 0 where
  pub here : IsAt c.aim p
  pub tree : p.tree ≡ below c (36 - length path) path
  pub pieces : p.pieces ≡ pieces_at c.plan path
  pub box : IsBox c.aim.world c.aim.height (piece_at c.plan path) parent p.pieces
  pub of : IsOfUniverse c.aim.world (piece_at c.plan path) parent
  pub section : IsItsSection c.aim.world
      (piece_at c.plan path) parent seen.steps (numbered p.context)
      (open_piece p.context.cuts)
  pub seen_is : seen_in p.items ≡ seen

-- The walk over this universe stands before the box at the path, for some target, lines and states.
abbrev pub IsSomewhere : World → PlanParts → ℕ → List ℕ → Option (Bor Known) → Seen → Type 0
IsSomewhere u plan height path parent seen =
    (t : Target) × (lines : List Line)
    × (states : List ℕ → State) × (p : SectionStart)
    × IsCourse (course u plan height t lines states)
    × IsBefore (course u plan height t lines states) path parent seen p

-- This is so wherever it may stand.
abbrev pub OnCourses : World → PlanParts
    → ℕ → List ℕ → Option (Bor Known) → Seen → (Course → SectionStart → Type 0) → Type 0
OnCourses u plan height path parent seen P =
    (t : Target) (lines : List Line) (states : List ℕ → State) (p : SectionStart)
    → IsCourse (course u plan height t lines states)
    → IsBefore (course u plan height t lines states) path parent seen p →
    P (course u plan height t lines states) p

-- Behind the section that began at the place p, where the file held what `old` tells: so much was
-- seen.
abbrev pub IsPast : Course → SectionStart → Option (List ℕ) → Seen → Option (List ℕ) → Type 0
IsPast c p old seen new = (e : Ended) × HasEnded c.aim e × (e.frames ≡ p.frames)
    × (seen.steps ≡ e.context.next) × Grew p.items old new e.items × (seen_in e.items ≡ seen)

-- What is known at the box at the path, which isn't VOID, and where its steps are.
pub record IsKnownAt (c : Course) (path : List ℕ) (known : Known) (steps : Numbered) : Type 0 where
  pub table : IsTableAt (setting c) c.aim.height (pieces_at c.plan path)
      (known_at c.aim.world known)
  pub no_void : known_at c.aim.world known slot.Void ≡ None
  pub rows : HasRows c.aim.world known
  pub placed : ArePlaces steps (known_at c.aim.world known) (place_in c.aim.world known)

-- In the box at the path, whose section began at p and which is cut into n pieces: before piece i.
pub record IsWithin (c : Course) (path : List ℕ) (known : Known) (p : SectionStart)
    (old : Option (List ℕ)) (n i : ℕ) (seen : Seen) (new : Option (List ℕ)) : Type 0 where
  pub place : SectionStart
  pub frame : Frame
  pub before : (b : Bor Known) → b.now ≡ known → IsBefore c (path ++ i ∷ []) (Some b) seen place
  pub frames : place.frames ≡ frame ∷ p.frames
  pub later : frame.later
      ≡ pieces_from c.plan (below c (35 - length path)) path (i + 1) (n - (i + 1))
  pub pieces : frame.pieces ≡ pieces_at c.plan path
  pub of_variable : (k : ℕ) → k < n → piece_at c.plan (path ++ k ∷ [])
      ≡ Some (frame.var, range_of_piece (piece_at c.plan (path ++ k ∷ [])))
  pub known_is : IsKnownAt c path known (numbered frame.steps)
  pub grew : Grew p.items old new place.items

-- The first i of its n pieces have ended: the walk stands before piece i, or behind the box.
abbrev pub HasDone : Course → List ℕ
    → Known → SectionStart → Option (List ℕ) → ℕ → ℕ → Seen → Option (List ℕ) → Type 0
HasDone c path known p old n i seen new = (i < n → IsWithin c path known p old n i seen new)
    × (i ≡ n → IsPast c p old seen new)

-- Bytes that a file may take behind p: with all of them it stands in the box or behind it, and with
-- a front of them it holds a front. Of a box that isn't cut they are a leaf or a dead end behind
-- steps, without those of the steps that it doesn't need.
pub record AreOwnBytes (c : Course) (path : List ℕ)
    (p : SectionStart) (known : Known) (n : ℕ) (seen : Seen) (bytes : List ℕ) : Type 0 where
  pub done : (old new : Option (List ℕ))
      → Appends old new bytes → HasDone c path known p old n 0 seen new
  pub front : (old new : Option (List ℕ)) → AppendsFront old new bytes
      → GrewToFront c.aim p.items old new
  pub lean : n ≡ 0 → (rows : List StepRow) × (last : Item) × IsLeafOrDead last
      × (bytes ≡ spelled_behind (seen_in p.items)
      (trimmed_behind p.context.next (section_of rows last)))
