-- Where a certificate that is being written stands.
use Rattle.std.specs.Prelude.{◌≡◌, ◌<◌, ◌≤◌, ◌+◌, ◌*◌, ◌^◌, ⊤, ℕ, suc, List, [], ◌∷◌, ◌++◌, length}
use Rattle.std.specs.Prelude.{Some}
use Rattle.fx_model.specs.declared.ExprId.{ExprId}
use Rattle.dyadic.specs.declared.number.Dyadic.{Dyadic}
use Rattle.interval.specs.declared.interval.Interval.{Interval}
use Rattle.facts.specs.declared.fact.Fact.{Fact}
use Rattle.goals.specs.declared.goal.Goal.{Goal}
use Rattle.goals.specs.declared.line.Line.{Line}
use Rattle.goals.specs.Settles.{Settles}
use Rattle.derivation.specs.Derivations.{At}
use Rattle.derivation.specs.Known.{Piece}
use Rattle.rule_universe.specs.Worlds.{World}
use Rattle.rule_universe.specs.Sizes.{IsSmall}
use Rattle.saturate.specs.Universes.{setting_of}
use Rattle.cert_bytes.specs.declared.item.Item.{Item}
use Rattle.cert_bytes.specs.declared.item.Item.TheVariants as item
use Rattle.cert_bytes.specs.declared.item.StepRow.{StepRow}
use Rattle.cert_bytes.specs.declared.order.DueItem.TheVariants.{Sections}
use Rattle.cert_bytes.specs.Certificates.{AreDue, AreCertificate}
use Rattle.cert_bytes.specs.Fronts.{IsFront}
use Rattle.cert_bytes.specs.Sizes.{most_bytes_in}
use Rattle.cert_bytes.specs.Spelling.{certificate_of}
use Rattle.cert_bytes.specs.Styles.{seen_in}
use Rattle.cert_checker.specs.declared.open.Citable.{Citable}
use Rattle.cert_checker.specs.declared.subject.Subject.{Subject}
use Rattle.cert_checker.specs.Contexts.{Context, first}
use Rattle.cert_checker.specs.Steps.{step_fact}
use Rattle.cert_checker.specs.After.{after}
use Rattle.cert_checker.specs.Accepted.{LeadsTo, Accepts}
use Rattle.cert_trim.specs.Behind.{section_of, trimmed_behind, with_next}
use Rattle.cert_trim.specs.Trimmed.{number_behind_all}
use Rattle.tree_certificates.specs.Writing.{IsWritable}
use Rattle.tree_certificates.specs.Trees.{Tree, Trees, lines_of_tree, steps_in}
use Rattle.tree_certificates.specs.Trees as trees
use Rattle.tree_certificates.specs.Roots.{Root, AreRoots, steps_in_roots, lines_of_roots}
use Rattle.tree_certificates.specs.Walks.{behind_steps, IsBehind, IsEndOf, Frame, LiesIn, left_in}
use Rattle.tree_certificates.specs.Walks.{lines_behind, steps_behind}
use Rattle.tree_certificates.specs.Moves.{AreSteps, IsEntered, frame_of, turned}
use Rattle.box_trace.specs.Short.{bytes_a_box}
use Rattle.cert_writer.specs.Heads.{head_items}

-- ---- what is written
-- What a case's root section is written for: what the certificate is judged against, the case's
-- number, how many steps a box may have, and the later cases.
pub record Target : Type 0 where
  pub subject : Subject
  pub number : ℕ
  pub most : ℕ
  pub later : List Root

-- For what a certificate is written: the universe of the case, the rounds that settle a box, what
-- the case's section is written for, and the certificate's lines.
pub record Aim : Type 0 where
  pub world : World
  pub height : ℕ
  pub target : Target
  pub lines : List Line

-- How many steps a box may need: no fewer than the laws of tree_certificates have of it (in each
-- round a step for each instance at most), and more than box_trace makes of it (in each round 8,192
-- at most). A case has 2^16 hypotheses at most, so that it is the same in each case.
abbrev pub steps_needed : World → ℕ → ℕ
steps_needed u height = 2 ^ 16 + length u.nodes + 2 + height * length u.instances + height * 8192

-- What derivations conclude can be written, and is judged against what they use; so is what those
-- of the later cases do. There are at most 64.
pub record IsAim (t : Aim) : Type 0 where
  pub writable : IsWritable (setting_of t.world) t.world.hints
  pub subject : trees.IsSubjectOf t.target.subject t.target.number
      (setting_of t.world) t.world.hints t.world.goals
  pub enough : steps_needed t.world t.height ≤ t.target.most
  -- a box has so many bytes at most, and may have more
  pub small : IsSmall t.world
  pub low : t.height ≤ 64
  pub wide : bytes_a_box ≤ t.target.most
  pub later : AreRoots t.target.subject t.world.hints t.height t.target.most t.world.goals
      t.world.nodes (t.target.number + 1) t.target.later
  pub few : length t.target.subject.cases ≤ 64

-- how many steps, and how many bytes, a box may have
abbrev pub most_for : Aim → ℕ
most_for t = t.target.most

-- how many root sections follow this one
abbrev pub roots_left : Aim → ℕ
roots_left t = length t.target.later

-- how many steps they may have
abbrev pub steps_left : Aim → ℕ
steps_left t = steps_in_roots t.target.most t.target.later

-- the lines with those of the later cases
abbrev pub lines_left : Aim → List Line → List Line
lines_left t lines = lines_of_roots t.height t.world.goals t.target.later lines

-- The bytes spell a certificate that is accepted with the lines, and are 2^44 at most.
abbrev pub IsWhole : Aim → List ℕ → Type 0
IsWhole t bytes = (items : List Item)
    × Accepts t.target.subject items t.lines × (bytes ≡ certificate_of items)
    × (length bytes ≤ 2 ^ 44)

-- The bytes are a front of such.
abbrev pub IsBegun : Aim → List ℕ → Type 0
IsBegun t bytes = (items : List Item)
    × Accepts t.target.subject items t.lines × IsFront bytes (certificate_of items)

-- ---- where it stands
-- Nothing is wrong with the items; behind them the context is c, and so many sections are still to
-- come.
pub record HasWritten (t : Aim) (items : List Item) (c : Context) (n : ℕ) : Type 0 where
  pub leads : LeadsTo t.target.subject (first t.target.subject) items c
  pub due : (rest : List Item) → AreDue (Some (Sections n)) rest → AreCertificate (items ++ rest)

-- The section of a box is to begin: the items so far, what they come to, the box with those below
-- it, its pieces, how many cuts there are around it, and these.
pub record SectionStart : Type 0 where
  pub items : List Item
  pub context : Context
  pub tree : Tree
  pub pieces : List Piece
  pub depth : ℕ
  pub frames : List Frame

-- The certificate stands there.
pub record IsAt (t : Aim) (p : SectionStart) : Type 0 where
  pub written : HasWritten t p.items p.context (suc (left_in p.frames + roots_left t))
  pub entered : IsEntered (setting_of t.world) t.world.hints t.height (most_for t) t.world.goals
      t.target.subject t.target.number p.context p.tree p.pieces p.depth p.frames
  -- each box that is left takes fewer steps than it may have, and is one section more
  pub room : p.context.next + (seen_in p.items).sections
      + (steps_in (most_for t) p.tree + steps_behind (most_for t) p.frames + steps_left t) ≤ 2 ^ 63
  -- and no more bytes than it may have; the end has 39
  pub short : most_bytes_in p.items
      + (steps_in (most_for t) p.tree + steps_behind (most_for t) p.frames + steps_left t) + 39
      ≤ 2 ^ 44
  pub shown : t.lines ≡ lines_left t
      (lines_behind (setting_of t.world) t.height t.world.goals p.frames
      (lines_of_tree (setting_of t.world) t.height t.world.goals p.tree p.pieces p.context.lines))

-- The section of a box has ended: the items so far, where it began, what they come to, the cuts
-- around it, and the lines that the leaves so far show.
pub record Ended : Type 0 where
  pub items : List Item
  pub begin : Context
  pub context : Context
  pub frames : List Frame
  pub lines : List Line

-- The certificate stands there.
pub record HasEnded (t : Aim) (e : Ended) : Type 0 where
  pub written : HasWritten t e.items e.context (left_in e.frames + roots_left t)
  pub ended : IsEndOf e.begin e.context e.lines
  pub lies : LiesIn (setting_of t.world) t.height t.world.goals t.target.number e.begin e.frames
  pub room : e.context.next + (seen_in e.items).sections
      + (steps_behind (most_for t) e.frames + steps_left t) ≤ 2 ^ 63
  pub short : most_bytes_in e.items + (steps_behind (most_for t) e.frames + steps_left t) + 39
      ≤ 2 ^ 44
  pub shown : t.lines ≡ lines_left t
      (lines_behind (setting_of t.world) t.height t.world.goals e.frames e.lines)

-- ---- how it goes on
-- the root's section is to begin behind the head
abbrev pub at_root : Aim → Context → Tree → SectionStart
at_root t c tree = record {
  items = head_items t.world.nodes t.target.subject.marks
      (length t.target.subject.cases);
  context = c;
  tree = tree;
  pieces = [];
  depth = 0;
  frames = [];
}

-- The steps of the box may be written, and conclude its best facts.
pub record AreBoxSteps (t : Aim) (p : SectionStart) (rows : List StepRow) : Type 0 where
  pub steps : AreSteps t.target.subject p.context rows
  pub behind : IsBehind (setting_of t.world) t.height t.target.number
      (behind_steps p.context rows) p.pieces
  pub few : length rows < most_for t

-- Each goal has a step with the table's fact on its slot, which settles it.
abbrev pub AreCited : List Citable → At → List Goal → List ℕ → Type 0
AreCited steps at [] [] = ⊤
AreCited steps at (g ∷ goals) (r ∷ refs) = ((f : Fact) × (at g.of ≡ Some f)
    × (step_fact steps r ≡ Some f) × Settles g f) × AreCited steps at goals refs
AreCited steps at _ _ = ⊥

-- they have no more bytes than a box may have
abbrev pub AreShort : Aim → List StepRow → Item → Type 0
AreShort t rows last = most_bytes_in (section_of rows last) ≤ most_for t

-- the box's first piece is to begin
abbrev pub inside : SectionStart → List StepRow → ExprId → List Dyadic → Interval
    → Tree → Trees → SectionStart
inside p rows x points i tree later = record {
  items = p.items ++ section_of rows (item.Cut x points);
  context = after (behind_steps p.context rows) (item.Cut x points);
  tree = tree;
  pieces = (x, i) ∷ p.pieces;
  depth = p.depth + 1;
  frames = frame_of p.context rows x points later p.pieces (p.depth + 1) ∷ p.frames;
}

-- its own section has ended, with this item
abbrev pub closed : SectionStart → List StepRow → Item → List Line → Ended
closed p rows last lines = record {
  items = p.items ++ section_of rows last;
  begin = p.context;
  context = after (behind_steps p.context rows) last;
  frames = p.frames;
  lines = lines;
}

-- it has ended without the steps that its end doesn't need
abbrev pub trimmed : SectionStart → List StepRow → Item → List Line → Ended
trimmed p rows last lines = record {
  items = p.items ++ trimmed_behind p.context.next (section_of rows last);
  begin = p.context;
  context = with_next (after (behind_steps p.context rows) last)
      (number_behind_all p.context.next (trimmed_behind p.context.next (section_of rows last)));
  frames = p.frames;
  lines = lines;
}

-- behind a section the next piece is to begin
abbrev pub beside : Ended → Frame → Interval → Tree → Trees → List Frame → SectionStart
beside e fr i tree later frames = record {
  items = e.items;
  context = e.context;
  tree = tree;
  pieces = (fr.var, i) ∷ fr.pieces;
  depth = fr.depth;
  frames = turned fr later ∷ frames;
}

-- behind the last its box has ended
abbrev pub around : Ended → Frame → List Frame → Ended
around e fr frames = record {
  items = e.items;
  begin = fr.begin;
  context = e.context;
  frames = frames;
  lines = e.lines;
}

-- ---- the next case
-- the aim of the next case, of which these are the hypotheses
abbrev pub next_aim : Aim → List Fact → List Root → Aim
next_aim t hypotheses later = record t {
  world = record t.world { hypotheses = hypotheses };
  target = record t.target { number = t.target.number + 1; later = later };
}

-- behind a root section that of the next case is to begin
abbrev pub next_root : Ended → Tree → SectionStart
next_root e tree = record {
  items = e.items;
  context = e.context;
  tree = tree;
  pieces = [];
  depth = 0;
  frames = [];
}

-- a case with these hypotheses, and the tree of its boxes
abbrev pub root_with : World → List Fact → Tree → Root
root_with u hypotheses tree = record {
  setting = setting_of (record u { hypotheses = hypotheses });
  tree = tree;
}
