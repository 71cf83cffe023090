-- One status and one text of lines are defined for a text and a point.
use Rattle.std.proofs.Common.{◌≡◌, List, Option, Some, refl, sym, ap, ◌∙◌, subst}
use Rattle.std.proofs.lemmas.Option.{none-some}
use Rattle.script_judge.specs.First.{FirstsAreUnique}
use Rattle.script_grammar.specs.Spells.{View, SpellsOnce}
use Rattle.script_grammar.specs.Spells as script
use Rattle.rewrite_hints.proofs.MarksLaws.{marks_are_one}
use Rattle.point_values.specs.Rows.{Row, assignment_of}
use Rattle.point_values.specs.Evaluation.{IsTooWide, evaluation_of}
use Rattle.point_values.specs.declared.place.Place.{Place}
use Rattle.point_eval.specs.Judged.{judged_of}
use Rattle.point_text.specs.Once.{SpelledOnce, NeverBoth, FaultsAreOne}
use Rattle.command_runs.specs.Runs.{Bytes}
use Rattle.command_runs.specs.Fates.{IsTold}
use Rattle.command_runs.specs.declared.status.Status.{Status}
use Rattle.command_runs.specs.declared.status.Status.TheVariants as status
use Rattle.script_texts.specs.Texts.{IsRefusedWith}
use Rattle.script_texts.proofs.Texts.{refused_once}
use Rattle.at_command.specs.Lines.{point_line, wide_line}
use Rattle.at_command.specs.Told.{AtPrints, IsEvaluated, IsWide, OfPoint, PointTells}
use Rattle.at_command.specs.Laws.{AtAnswersAreOne, IsPointTold}

abbrev Twice : Status → Status → Bytes → Bytes → Type 0
Twice a b lines others = (a ≡ b) × (lines ≡ others)

place-same : (p q : Place) → Some p ≡ Some q → p ≡ q
place-same p q e = cc

module _ (one_point : SpelledOnce) (no_point : NeverBoth) (one_fault : FaultsAreOne)
    (one_script : SpellsOnce) (no_script : script.NeverBoth) (unique : FirstsAreUnique) where
  -- ---- at rows
  -- where all numbers are below 2^127 none is too wide
  narrow_or_wide : (s : View) (rows : List Row) (lines others : Bytes) → IsEvaluated s rows lines
      → IsWide s rows others → ⊥
  narrow_or_wide s rows lines others e w =
      let same = marks_are_one s.nodes s.hints.rewrites w.marks e.marks w.marked e.marked in
      none-some _ (sym e.narrow
      ∙ subst (λ m. IsTooWide (judged_of s m) rows w.place) same w.first)

  evaluated_rows : (s : View) (rows : List Row) (lines others : Bytes) → IsEvaluated s rows lines
      → IsEvaluated s rows others → lines ≡ others
  evaluated_rows s rows lines others e f =
      let same = marks_are_one s.nodes s.hints.rewrites e.marks f.marks e.marked f.marked in
      e.printed ∙ ap (λ m. evaluation_of (judged_of s m) (assignment_of rows)) same
      ∙ sym f.printed

  wide_rows : (s : View) (rows : List Row) (lines others : Bytes) → IsWide s rows lines
      → IsWide s rows others → lines ≡ others
  wide_rows s rows lines others e f =
      let same = marks_are_one s.nodes s.hints.rewrites f.marks e.marks f.marked e.marked in
      let place : e.place ≡ f.place = place-same e.place f.place (sym e.first
      ∙ subst (λ m. IsTooWide (judged_of s m) rows f.place) same f.first) in
      e.printed ∙ ap wide_line place ∙ sym f.printed

  -- ---- at a point
  evaluated_or_wide : (s : View) (text : Bytes) (lines others : Bytes)
      → PointTells s text status.Answered lines → PointTells s text status.TooWide others → ⊥
  evaluated_or_wide s text lines others (rows, spelled, e) (more, again, w) =
      narrow_or_wide s rows lines others e
      (subst (λ r. IsWide s r others) (one_point s.variables text more rows again spelled) w)

  point_tells_once : (s : View) (text : Bytes) (a b : Status) (lines others : Bytes)
      → PointTells s text a lines → PointTells s text b others → Twice a b lines others
  point_tells_once s text status.Answered status.Answered lines others (rows, spelled, e)
      (more, again, f) = (
        refl,
        evaluated_rows s rows lines others e
            (subst (λ r. IsEvaluated s r others)
            (one_point s.variables text more rows again spelled)
            f),
      )
  point_tells_once s text status.Answered status.TooWide lines others p q =
      absurd (evaluated_or_wide s text lines others p q)
  point_tells_once s text status.Answered status.Point lines others (rows, spelled, e) (f, h, l) =
      absurd (no_point s.variables text rows f spelled h)
  point_tells_once s text status.TooWide status.Answered lines others p q =
      absurd (evaluated_or_wide s text others lines q p)
  point_tells_once s text status.TooWide status.TooWide lines others (rows, spelled, e)
      (more, again, f) = (
        refl,
        wide_rows s rows lines others e
            (subst (λ r. IsWide s r others) (one_point s.variables text more rows again spelled) f),
      )
  point_tells_once s text status.TooWide status.Point lines others (rows, spelled, e) (f, h, l) =
      absurd (no_point s.variables text rows f spelled h)
  point_tells_once s text status.Point status.Answered lines others (f, h, l) (rows, spelled, e) =
      absurd (no_point s.variables text rows f spelled h)
  point_tells_once s text status.Point status.TooWide lines others (f, h, l) (rows, spelled, e) =
      absurd (no_point s.variables text rows f spelled h)
  point_tells_once s text status.Point status.Point lines others (f, h, l) (g, k, m) =
      (refl, l ∙ ap point_line (one_fault s.variables text f g h k) ∙ sym m)
  point_tells_once s text status.Answered _ lines others p q = absurd q
  point_tells_once s text status.TooWide _ lines others p q = absurd q
  point_tells_once s text status.Point _ lines others p q = absurd q
  point_tells_once s text _ b lines others p q = absurd p

  -- ---- of texts
  module _ (text : Bytes) (known : Option Bytes) (told : IsPointTold text known)
      (lines others : Bytes) where
    of_point_once : (a b : Status) → OfPoint text known (λ s point. PointTells s point a lines)
        → OfPoint text known (λ s point. PointTells s point b others) → Twice a b lines others
    of_point_once a b (v, spelled, point, is, p) (w, again, other, there, q) =
        let all = told v spelled in
        let one : point ≡ all.0 = subst (λ (o : Option Bytes). IsTold o point) all.1 is in
        let two : other ≡ all.0 = subst (λ (o : Option Bytes). IsTold o other) all.1 there in
        let same : w ≡ v = one_script text w v again spelled in
        point_tells_once v all.0 a b lines others
        (subst (λ (x : Bytes). PointTells v x a lines) one p)
        (subst (λ (y : View). PointTells y all.0 b others) same
        (subst (λ (x : Bytes). PointTells w x b others) two q))

    -- a text that is refused spells no script
    refused_of_point : (P : View → Bytes → Type 0) (line : Bytes) → IsRefusedWith text line
        → OfPoint text known P → ⊥
    refused_of_point P line (r, h, e) (v, spelled, point, is, rest) = no_script text v r spelled h

    prints_once : (a b : Status) → AtPrints text known a lines → AtPrints text known b others
        → Twice a b lines others
    prints_once status.Script status.Script p q =
        (refl, refused_once unique text lines others p q)
    prints_once status.Script status.Answered p q = absurd (refused_of_point _ lines p q)
    prints_once status.Script status.TooWide p q = absurd (refused_of_point _ lines p q)
    prints_once status.Script status.Point p q = absurd (refused_of_point _ lines p q)
    prints_once status.Answered status.Script p q = absurd (refused_of_point _ others q p)
    prints_once status.TooWide status.Script p q = absurd (refused_of_point _ others q p)
    prints_once status.Point status.Script p q = absurd (refused_of_point _ others q p)
    prints_once status.Answered status.Answered p q =
        of_point_once status.Answered status.Answered p q
    prints_once status.Answered status.TooWide p q =
        of_point_once status.Answered status.TooWide p q
    prints_once status.Answered status.Point p q = of_point_once status.Answered status.Point p q
    prints_once status.TooWide status.Answered p q =
        of_point_once status.TooWide status.Answered p q
    prints_once status.TooWide status.TooWide p q =
        of_point_once status.TooWide status.TooWide p q
    prints_once status.TooWide status.Point p q = of_point_once status.TooWide status.Point p q
    prints_once status.Point status.Answered p q = of_point_once status.Point status.Answered p q
    prints_once status.Point status.TooWide p q = of_point_once status.Point status.TooWide p q
    prints_once status.Point status.Point p q = of_point_once status.Point status.Point p q
    prints_once status.Script _ p q = absurd q
    prints_once status.Answered _ p q = absurd q
    prints_once status.TooWide _ p q = absurd q
    prints_once status.Point _ p q = absurd q
    prints_once _ b p q = absurd p

  pub answers_once : AtAnswersAreOne
  answers_once text known told s t lines others p q =
      prints_once text known told lines others s t p q
