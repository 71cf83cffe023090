-- The walk over a script's cases, which writes the root section of each: where it stands.
use Rattle.std.specs.Prelude.{◌≡◌, ℕ, List, [], ◌∷◌, ◌++◌, drop, Option}
use Rattle.goals.specs.declared.line.Line.{Line}
use Rattle.script_claims.specs.declared.claim.Claim.{Claim}
use Rattle.script_grammar.specs.Cases.{cases_of}
use Rattle.script_grammar.specs.Spells.{View}
use Rattle.rule_universe.specs.Assumed.{assuming}
use Rattle.rule_universe.specs.Worlds.{World}
use Rattle.box_tree.specs.Regions.{PlanParts}
use Rattle.bisect.specs.declared.settler.State.{State}
use Rattle.settler.specs.Answers.{plan_of}
use Rattle.settler.specs.Standing.{AreStates}
use Rattle.cert_bytes.specs.declared.item.Item.{Item}
use Rattle.cert_bytes.specs.declared.item.Item.TheVariants as item
use Rattle.cert_bytes.specs.declared.style.Seen.{Seen}
use Rattle.cert_bytes.specs.Styles.{seen_in}
use Rattle.cert_bytes.specs.Spelling.{certificate_of}
use Rattle.cert_checker.specs.declared.subject.Subject.{Subject}
use Rattle.tree_certificates.specs.Roots.{Root}
use Rattle.box_trace.specs.Short.{bytes_a_box}
use Rattle.answer_certificates.specs.Boxes.{boxes_of}
use Rattle.answer_certificates.specs.Roots.{AreRootsOf}
use Rattle.answer_certificates.specs.Scripts.{in_case}
use Rattle.cert_writer.specs.Standing.{Target, Aim, IsAim, IsWhole, SectionStart, IsAt}
use Rattle.cert_writer.specs.Courses.{Grew, GrewToFront}

-- ---- what is written
-- the universe with nothing assumed
abbrev pub bare : World → World
bare u = assuming u []

-- A certificate of the script with these lines: over its universe, judged against this subject,
-- where a box is settled in so many rounds, and halved so often at most.
pub record Task : Type 0 where
  pub script : View
  pub world : World
  pub rounds : ℕ
  pub depth : ℕ
  pub subject : Subject
  pub lines : List Line

-- what is written of a script: its universe, its options, and what the certificate is judged by
abbrev pub task : View → World → ℕ → ℕ → Subject → List Line → Task
task s u rounds depth t lines = record {
  script = s;
  world = u;
  rounds = rounds;
  depth =
      depth;
  subject = t;
  lines = lines;
}

-- how the boxes of a case are cut
abbrev pub plan_in : Task → List Claim → PlanParts
plan_in w claims = plan_of w.script claims w.depth

-- For what the root section of the case with this number is written, behind which these roots
-- follow. How many steps and bytes a box may have is the same in each case.
abbrev pub target_of : Task → ℕ → List Root → Target
target_of w number later = record {
  subject = w.subject;
  number = number;
  most = bytes_a_box;
  later = later;
}

-- the same with the universe of the case, in which these claims are assumed
abbrev pub aim_of : Task → ℕ → List Claim → List Root → Aim
aim_of w number claims later = record {
  world = in_case w.world claims;
  height = w.rounds;
  target =
      target_of w number later;
  lines = w.lines;
}

-- what a file's bytes are judged by: whole, or a front
abbrev pub whole_aim : Task → Aim
whole_aim w = aim_of w 0 [] []

-- ---- where the walk stands
-- Before the case with this number, in which these claims are assumed and behind which these cases
-- follow: the items are written, in which so much was seen, and the root section of the case, whose
-- boxes stand as derivations over its universe say, is to begin.
pub record IsBeforeCase (w : Task) (number : ℕ) (claims : List Claim) (later : List (List Claim))
    (seen : Seen) (items : List Item) : Type 0 where
  pub roots : List Root
  pub are : AreRootsOf w.script w.world w.rounds w.depth later roots
  pub states : List ℕ → State
  pub are_states : AreStates (in_case w.world claims) (plan_in w claims) w.rounds states
  pub aim : IsAim (aim_of w number claims roots)
  pub place : SectionStart
  pub here : IsAt (aim_of w number claims roots) place
  pub tree : place.tree ≡ boxes_of (plan_in w claims) states
  pub pieces : place.pieces ≡ []
  pub frames : place.frames ≡ []
  pub next_is : place.context.next ≡ seen.steps
  pub seen_is : seen_in items ≡ seen
  pub items_are : place.items ≡ items

-- With its end the certificate is whole; in the items so far so much was seen.
abbrev pub IsBeforeEnd : Task → Seen → List Item → Type 0
IsBeforeEnd w seen items = IsWhole (whole_aim w) (certificate_of (items ++ item.End ∷ []))
    × (seen_in items ≡ seen)

-- The walk stands before the first of these cases, which has this number; where none is left only
-- the end is.
abbrev pub StandsAt : Task → ℕ → List (List Claim) → Seen → List Item → Type 0
StandsAt w number [] seen items = IsBeforeEnd w seen items
StandsAt w number (claims ∷ later) seen items = IsBeforeCase w number claims later seen items

-- the same of the script's cases from this number on
abbrev pub StandsBefore : Task → ℕ → Seen → List Item → Type 0
StandsBefore w number seen items = StandsAt w number (drop number (cases_of w.script)) seen items

-- ---- what the calls answer
-- The walk over this universe stands before the case with this number, for some subject and lines.
abbrev pub Stands : View → World → ℕ → ℕ → ℕ → Seen → Type 0
Stands s u rounds depth number seen = (t : Subject) × (lines : List Line) × (items : List Item)
    × StandsBefore (task s u rounds depth t lines) number seen items

-- This is so wherever it may stand.
abbrev pub OfStanding : View → World → ℕ → ℕ → ℕ → Seen → (Task → List Item → Type 0) → Type 0
OfStanding s u rounds depth number seen P =
    (t : Subject) (lines : List Line) (items : List Item)
    → StandsBefore (task s u rounds depth t lines) number seen items
    → P (task s u rounds depth t lines) items

-- The file took the bytes up to the case with this number, before which the walk stands.
abbrev pub GoesOn : Task → ℕ → Seen → List Item → Option (List ℕ) → Option (List ℕ) → Type 0
GoesOn w number seen items old new = (more : List Item) × Grew items old new more
    × StandsBefore w number seen more

-- It took the bytes of all sections that were left.
abbrev pub IsCompleted : Task → Seen → List Item → Option (List ℕ) → Option (List ℕ) → Type 0
IsCompleted w seen items old new = (more : List Item) × Grew items old new more
    × IsBeforeEnd w seen more

-- It took some bytes, with which it holds a front of one.
abbrev pub GrewFront : Task → List Item → Option (List ℕ) → Option (List ℕ) → Type 0
GrewFront w items old new = GrewToFront (whole_aim w) items old new
