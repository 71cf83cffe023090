-- What is answered to the made script, from what is found of it.
use Rattle.std.proofs.Common.{◌≡◌, ◌≢◌, ℕ, List, refl, subst}
use Rattle.goals.specs.declared.line.Line.{Line}
use Rattle.script_grammar.specs.Spells.{View}
use Rattle.made_script.specs.Script.{script_text}
use Rattle.command_runs.specs.Runs.{Bytes}
use Rattle.command_runs.specs.declared.status.Status.{Status}
use Rattle.command_runs.specs.declared.status.Status.TheVariants.{Answered}
use Rattle.report.specs.Proved.{made_text}
use Rattle.script_answers.specs.Answers.{IsProvedText, ProvePrints, MadePrints, made_options}
use Rattle.script_answers.specs.Answers.{first_line}

-- another answer than that it is proved is the same of `prove` and `gen`
made_other : (n : ℕ) (s : Status) (lines : Bytes) → s ≢ Answered
    → ProvePrints made_options (script_text n) s lines → MadePrints n s lines
made_other n Answered lines differs p = absurd (differs refl)
made_other n _ lines differs p = p

-- another answer
pub made_stopped : (n : ℕ) (s : View) (other : Status) (lines : Bytes) → s.text ≡ script_text n
    → (other ≢ Answered) × ProvePrints made_options s.text other lines → MadePrints n other lines
made_stopped n s other lines e p =
    made_other n other lines p.0
    (subst (λ (w : Bytes). ProvePrints made_options w other lines) e p.1)

-- it is proved
pub made_proved : (n : ℕ) (s : View) (boxes : ℕ) (shown : List Line) (lines : Bytes)
    → s.text ≡ script_text n → IsProvedText made_options s.text s boxes shown
    → lines ≡ made_text n boxes (first_line shown) → MadePrints n Answered lines
made_proved n s boxes shown lines e proved printed = record {
  script = s;
  boxes = boxes;
  shown = shown;
  proved = subst (λ (w : Bytes). IsProvedText made_options w s boxes shown) e proved;
  printed = printed;
}
