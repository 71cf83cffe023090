-- What `fix` wrote and `prove` answered, no run of the program wraps.
use Rattle.std.specs.Prelude.{◌≡◌, Some}
use Rattle.std.proofs.Common.{refl, subst}
use Rattle.script_grammar.specs.Spells.{Spells as SpellsScript}
use Rattle.fixprog.specs.First.{Spells}
use Rattle.fixprog.specs.Grammar.{Program}
use Rattle.fixprog.specs.Turned.{script_of}
use Rattle.program_truths.specs.Outputs.{OutputsLie}
use Rattle.command_line.specs.Fix.{AskedFix}
use Rattle.command_line.specs.Reading.{Asked}
use Rattle.command_runs.specs.Fates.{Leaves, EndsIn}
use Rattle.command_runs.specs.Fates.Left.{Whole}
use Rattle.command_runs.specs.Runs.{Bytes, Run, Puts}
use Rattle.command_runs.specs.declared.status.Status.TheVariants as status
use Rattle.script_answers.specs.Answers.{IsAnswered, options_of}
use Rattle.prove_command.specs.Command.{ProveFate}
use Rattle.fix_command.specs.Command.{FixFate}
use Rattle.joined_runs.specs.Laws.{HasFixed, HasProved, FixedProgramsAreSound}
use Rattle.joined_runs.proofs.Again.{told_is}

-- the program that was turned, and its script
turned : (f : AskedFix) (r : Run) (text script : Bytes) → HasFixed f r text script
    → (p : Program) × Spells text p × (script ≡ script_of p)
turned f r text script h =
    by (subst (λ s. EndsIn s (Some f.script) (FixFate f r) r) h.answered h.ran.runs.ends) where
      by : EndsIn status.Answered (Some f.script) (FixFate f r) r
          → (p : Program) × Spells text p × (script ≡ script_of p)
      by (lines, left, (t, is, (p, spelled, line, whole)), done) =
          let same : t ≡ text = told_is (r.before.told f.program) h.program is in
          let kept : Leaves (Whole (Some (script_of p))) (Some h.old) (Some script) =
          subst (λ l. Leaves l (Some h.old) (Some script)) whole
          (subst (λ o. Leaves left o (Some script)) h.held
          (subst (λ n. Leaves left (r.before.told f.script) n) h.holds
          (done.file f.script refl))) in
          let now : script ≡ script_of p = cc kept in
          (p, subst (λ u. Spells u p) same spelled, now)

-- the lines that were put, and the answer that they print
pub answered : (a : Asked) (q : Run) (script : Bytes) → HasProved a q script
    → (lines : Bytes) × IsAnswered (options_of a) script lines × Puts q lines
answered a q script h =
    by (subst (λ s. EndsIn s a.cert (ProveFate a q) q) h.answered h.ran.runs.ends) where
      by : EndsIn status.Answered a.cert (ProveFate a q) q
          → (lines : Bytes) × IsAnswered (options_of a) script lines × Puts q lines
      by (lines, left, (t, is, (d, makes)), done) =
          let same : t ≡ script = told_is (q.before.told a.script) h.told is in
          (lines, subst (λ u. IsAnswered (options_of a) u lines) same d, done.put)

pub programs_are_sound : OutputsLie → FixedProgramsAreSound
programs_are_sound lie f a r q text script w h =
    let t = turned f r text script w in
    let d = answered a q script h in
    record {
      program = t.0;
      spelled = t.1;
      lines = d.0;
      put = d.2;
      answer = d.1;
      within = lie text t.0 t.1 d.1.script
          (subst (λ u. SpellsScript u d.1.script) t.2 d.1.proved.spelled)
          d.1.shown d.1.proved.holds;
    }
