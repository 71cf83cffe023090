-- What the last line of an evaluation says is so.
use Rattle.std.specs.Prelude.{◌≡◌, ◌↔◌, ◌++◌, ℕ, IsTrue, codes, reverse, slice_get, Bool, true}
use Rattle.std.specs.Prelude.{false, refl}
use Rattle.std.proofs.Common.{sym, ap, ◌∙◌, arith}
use Rattle.std.proofs.lemmas.List.{reverse-append}
use Rattle.std.proofs.lemmas.Option.{same_Some}
use Rattle.script_meets.specs.Meets.{Meets}
use Rattle.point_values.specs.Rows.{assignment_of}
use Rattle.point_values.specs.Evaluation.{meets}
use Rattle.point_eval.specs.Judged.{EndsIn, judged_of}
use Rattle.point_eval.specs.Told.{MeetsIsTold}
use Rattle.command_runs.specs.Runs.{Bytes}
use Rattle.at_command.specs.Laws.{MeetingIsMet}

meeting : Bytes
meeting = codes "point: meets\n"

missing : Bytes
missing = codes "point: misses\n"

-- no text ends in both: the third byte from behind differs
unlike : (lines : Bytes) → EndsIn lines (codes "point: meets\n")
    → EndsIn lines (codes "point: misses\n") → ⊥
unfolding meeting missing
unlike lines (front, g) (other, f) =
    let back : reverse meeting ++ reverse front ≡ reverse missing ++ reverse other =
    sym (reverse-append front meeting) ∙ ap reverse (sym g ∙ f) ∙ reverse-append other missing in
    let third : slice_get (reverse meeting ++ reverse front) 2
    ≡ slice_get (reverse missing ++ reverse other) 2 = ap (λ l. slice_get l 2) back in
    let t : ℕ = 116 in
    let e : ℕ = 101 in
    let same : t ≡ e = same_Some t e third in
    omega arith

pub meeting_is_met : MeetsIsTold → MeetingIsMet
meeting_is_met law s rows lines e end =
    by (law s e.marks (assignment_of rows) e.marked)
    (meets (judged_of s e.marks) (assignment_of rows)) refl
  where
    by : (IsTrue (meets (judged_of s e.marks) (assignment_of rows)) ↔ Meets (assignment_of rows) s)
        → (b : Bool) → meets (judged_of s e.marks) (assignment_of rows) ≡ b
        → Meets (assignment_of rows) s
    by told true h = told.0 h
    by told false h = absurd (unlike lines end (e.missed (λ m.
        let k : true ≡ false = sym (told.1 m) ∙ h in cc)))
