-- What is so of a point's first bytes is so of the point, where they are more than it may have.
use Rattle.std.specs.Prelude.{◌⊎◌}
use Rattle.std.proofs.Common.{◌≡◌, ◌<◌, ◌≤◌, ◌^◌, List, length, take, Option, Some, None, refl}
use Rattle.std.proofs.Common.{subst, arith, inl, inr}
use Rattle.std.proofs.lemmas.Bool.{cases_lt}
use Rattle.std.proofs.lemmas.List.{length-take-le, take_all}
use Rattle.script_nodes.specs.Known.{Name}
use Rattle.script_grammar.specs.Spells.{View, Spells}
use Rattle.point_text.specs.declared.fault.PointFault.{PointFault}
use Rattle.point_text.specs.PointFaults.{IsPointFault, too_long, not_text, first}
use Rattle.whole_texts.specs.Texts.{IsText}
use Rattle.command_runs.specs.Runs.{Bytes}
use Rattle.command_runs.specs.Fates.{IsTold}
use Rattle.command_runs.specs.declared.status.Status.{Status}
use Rattle.command_runs.specs.declared.status.Status.TheVariants as status
use Rattle.at_command.specs.Told.{AtPrints, PointTells}

-- two texts that are too long have the same fault
long_fault : (variables : List Name) (text all : Bytes) (f : PointFault) → 2 ^ 16 < length text
    → 2 ^ 16 < length all → IsPointFault variables text f → IsPointFault variables all f
long_fault variables text all f l m (too_long h) = too_long m
long_fault variables text all f l m (not_text h v) = absurd (omega (arith, l, h))
long_fault variables text all f l m (first short r h b) = let s = short.0 in
    absurd (omega (arith, l, s))

long_tells : (s : View) (text all : Bytes) → 2 ^ 16 < length text → 2 ^ 16 < length all
    → (t : Status) (lines : Bytes) → PointTells s text t lines → PointTells s all t lines
long_tells s text all l m status.Answered lines (rows, p, e) =
    let h = p.short.0 in absurd (omega (arith, l, h))
long_tells s text all l m status.TooWide lines (rows, p, e) =
    let h = p.short.0 in absurd (omega (arith, l, h))
long_tells s text all l m status.Point lines (f, h, e) =
    (f, long_fault s.variables text all f l m h, e)
long_tells s text all l m _ lines p = absurd p

cut_tells : (s : View) (all : Bytes) (t : Status) (lines : Bytes)
    → PointTells s (take 65537 all) t lines → PointTells s all t lines
cut_tells s all t lines p = by (cases_lt 65537 (length all)) where
  by : (65537 < length all) ⊎ (length all ≤ 65537) → PointTells s all t lines
  by (inl long) =
      let cut : length (take 65537 all) ≡ 65537 = length-take-le 65537 all (omega (arith, long)) in
      long_tells s (take 65537 all) all (omega (arith, cut)) (omega (arith, long)) t lines p
  by (inr short) = subst (λ (w : Bytes). PointTells s w t lines) (take_all 65537 all short) p

-- what is answered to the point that was read is answered to the told one
told_tells : (s : View) (known : Option Bytes) (read : Bytes) → IsText 65537 known read
    → (t : Status) (lines : Bytes) → PointTells s read t lines
    → (point : Bytes) × IsTold known point × PointTells s point t lines
told_tells s None read is t lines p = (read, tt, p)
told_tells s (Some all) read is t lines p =
    (all, refl, cut_tells s all t lines (subst (λ (w : Bytes). PointTells s w t lines) is p))

-- a script's answer at a point is the text's
of_script : (text : Bytes) (known : Option Bytes) (s : View) → Spells text s → (point : Bytes)
    → IsTold known point → (t : Status) (lines : Bytes) → PointTells s point t lines
    → AtPrints text known t lines
of_script text known s spelled point is status.Answered lines p = (s, spelled, point, is, p)
of_script text known s spelled point is status.TooWide lines p = (s, spelled, point, is, p)
of_script text known s spelled point is status.Point lines p = (s, spelled, point, is, p)
of_script text known s spelled point is _ lines p = absurd p

pub read_prints : (text : Bytes) (known : Option Bytes) (s : View) → Spells text s → (read : Bytes)
    → IsText 65537 known read → (t : Status) (lines : Bytes) → PointTells s read t lines
    → AtPrints text known t lines
read_prints text known s spelled read is t lines p =
    let w = told_tells s known read is t lines p in
    of_script text known s spelled w.0 w.1 t lines w.2
