-- What `at` answers to a text and a point: a status and lines.
use Rattle.std.specs.Prelude.{◌≡◌, List, Option, codes}
use Rattle.facts.specs.declared.hint.HintMark.{HintMark}
use Rattle.script_grammar.specs.Spells.{View, Spells}
use Rattle.script_meets.specs.Meets.{Meets}
use Rattle.rewrite_hints.specs.Marks.{AreMarks}
use Rattle.point_values.specs.Rows.{Row, assignment_of}
use Rattle.point_values.specs.Evaluation.{IsNarrow, IsTooWide, evaluation_of}
use Rattle.point_values.specs.declared.place.Place.{Place}
use Rattle.point_eval.specs.Judged.{judged_of, EndsIn}
use Rattle.point_text.specs.declared.fault.PointFault.{PointFault}
use Rattle.point_text.specs.Points.{SpellsPoint}
use Rattle.point_text.specs.PointFaults.{IsPointFault}
use Rattle.command_runs.specs.Runs.{Bytes}
use Rattle.command_runs.specs.Fates.{IsTold}
use Rattle.command_runs.specs.declared.status.Status.{Status}
use Rattle.command_runs.specs.declared.status.Status.TheVariants as status
use Rattle.script_texts.specs.Texts.{IsRefusedWith}
use Rattle.at_command.specs.Lines.{point_line, wide_line}

-- ---- at rows
-- All numbers of the evaluation are below 2^127. The lines are what the claims and the assumed
-- hints are there, and the last one says whether the assignment meets the script.
pub record IsEvaluated (s : View) (rows : List Row) (lines : Bytes) : Type 0 where
  pub marks : List HintMark
  pub marked : AreMarks s.nodes s.hints.rewrites marks
  pub narrow : IsNarrow (judged_of s marks) rows
  pub printed : lines ≡ evaluation_of (judged_of s marks) (assignment_of rows)
  pub met : Meets (assignment_of rows) s → EndsIn lines (codes "point: meets\n")
  pub missed : ¬ Meets (assignment_of rows) s → EndsIn lines (codes "point: misses\n")

-- A number isn't below 2^127. The line has the first place of one.
pub record IsWide (s : View) (rows : List Row) (lines : Bytes) : Type 0 where
  pub marks : List HintMark
  pub marked : AreMarks s.nodes s.hints.rewrites marks
  pub place : Place
  pub first : IsTooWide (judged_of s marks) rows place
  pub printed : lines ≡ wide_line place

-- what is answered to a script at these rows
abbrev pub RowsTell : View → List Row → Status → Bytes → Type 0
RowsTell s rows status.Answered lines = IsEvaluated s rows lines
RowsTell s rows status.TooWide lines = IsWide s rows lines
RowsTell s rows _ lines = ⊥

-- ---- at a point
-- the text spells these rows of the script
abbrev pub OfRows : View → Bytes → (List Row → Type 0) → Type 0
OfRows s text P = (rows : List Row) × SpellsPoint s.variables text rows × P rows

-- what is answered to a script and a point's text: at the rows that it spells, or its first fault
abbrev pub PointTells : View → Bytes → Status → Bytes → Type 0
PointTells s text status.Answered lines = OfRows s text (λ rows. IsEvaluated s rows lines)
PointTells s text status.TooWide lines = OfRows s text (λ rows. IsWide s rows lines)
PointTells s text status.Point lines =
    (f : PointFault) × IsPointFault s.variables text f × (lines ≡ point_line f)
PointTells s text _ lines = ⊥

-- ---- of texts
-- the text spells a script, of which this is so at the point, whose bytes may be told
abbrev pub OfPoint : Bytes → Option Bytes → (View → Bytes → Type 0) → Type 0
OfPoint text known P =
    (s : View) × Spells text s × (point : Bytes) × IsTold known point × P s point

-- `at` answers a text and a point with this status and these lines
abbrev pub AtPrints : Bytes → Option Bytes → Status → Bytes → Type 0
AtPrints text known status.Answered lines =
    OfPoint text known (λ s point. PointTells s point status.Answered lines)
AtPrints text known status.TooWide lines =
    OfPoint text known (λ s point. PointTells s point status.TooWide lines)
AtPrints text known status.Point lines =
    OfPoint text known (λ s point. PointTells s point status.Point lines)
-- the text spells no script, but is refused
AtPrints text known status.Script lines = IsRefusedWith text lines
AtPrints text known _ lines = ⊥
