-- What `prove` answered holds at a point that `at` says to meet.
use Rattle.std.specs.Prelude.{◌≡◌, List, Some, None}
use Rattle.std.proofs.Common.{subst}
use Rattle.script_grammar.specs.Spells.{View, Spells, SpellsOnce}
use Rattle.point_values.specs.Rows.{Row, assignment_of}
use Rattle.point_text.specs.Points.{SpellsPoint}
use Rattle.command_line.specs.At.{AskedAt}
use Rattle.command_runs.specs.Fates.{EndsIn}
use Rattle.command_runs.specs.Runs.{Bytes, Run, Puts}
use Rattle.command_runs.specs.declared.status.Status.TheVariants as status
use Rattle.script_answers.specs.Answers.{IsAnswered, options_of}
use Rattle.at_command.specs.Command.{AtFate}
use Rattle.at_command.specs.Laws.{MeetingIsMet}
use Rattle.at_command.specs.Told.{AtPrints, IsEvaluated}
use Rattle.joined_runs.specs.Laws.{HasEvaluated, HoldsAtPoint, PointsAreHeld}
use Rattle.joined_runs.proofs.Again.{told_is}
use Rattle.joined_runs.proofs.Programs.{answered}

-- the script, the rows of the point, and the lines that were put
evaluated : (b : AskedAt) (q : Run) (text point : Bytes) → HasEvaluated b q text point
    → (s : View) × Spells text s × (rows : List Row) × SpellsPoint s.variables point rows
    × (lines : Bytes) × IsEvaluated s rows lines × Puts q lines
evaluated b q text point h =
    by (subst (λ t. EndsIn t None (AtFate b q) q) h.answered h.ran.runs.ends) where
      by : EndsIn status.Answered None (AtFate b q) q
          → (s : View) × Spells text s × (rows : List Row) × SpellsPoint s.variables point rows
          × (lines : Bytes) × IsEvaluated s rows lines × Puts q lines
      by (lines, left, ((t, is, p), kept), done) =
          let same : t ≡ text = told_is (q.before.told b.script) h.script is in
          read (subst (λ u. AtPrints u (Some point) status.Answered lines) same
          (subst (λ o. AtPrints t o status.Answered lines) h.told p)) where
            read : AtPrints text (Some point) status.Answered lines
                → (s : View) × Spells text s × (rows : List Row)
                × SpellsPoint s.variables point rows
                × (lines : Bytes) × IsEvaluated s rows lines × Puts q lines
            read (s, spelled, there, one, (rows, spells, e)) = (
              s,
              spelled,
              rows,
              subst (λ w. SpellsPoint s.variables w rows) one spells,
              lines,
              e,
              done.put,
            )

pub points_are_held : SpellsOnce → MeetingIsMet → PointsAreHeld
points_are_held once met a b r q text point h k =
    by (answered a r text h) (evaluated b q text point k) where
      by : (lines : Bytes) × IsAnswered (options_of a) text lines × Puts r lines
          → (s : View) × Spells text s × (rows : List Row) × SpellsPoint s.variables point rows
          × (lines : Bytes) × IsEvaluated s rows lines × Puts q lines
          → HoldsAtPoint a r q text point
      by (lines, d, put) (s, spelled, rows, spells, others, e, there) =
          let same : s ≡ d.script = once text s d.script spelled d.proved.spelled in
          let told = subst (λ (v : View). SpellsPoint v.variables point rows) same spells in
          let seen = subst (λ (v : View). IsEvaluated v rows others) same e in
          record {
            lines = lines;
            put = put;
            answer = d;
            rows = rows;
            spelled = told;
            others = others;
            put_there = there;
            evaluated = seen;
            holds =
                λ last. d.proved.holds (assignment_of rows) (met d.script rows others seen last);
          }
