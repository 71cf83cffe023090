-- What `prove` answers to a text that is read, up to a byte past a script's limit.
use Rattle.settler.specs.Answers.{Options}
use Rattle.command_runs.specs.Runs.{Bytes, Told}
use Rattle.command_runs.specs.Fates.{OfText}
use Rattle.command_runs.specs.declared.status.Status.{Status}
use Rattle.command_runs.specs.declared.status.Status.TheVariants as status
use Rattle.script_texts.proofs.Texts.{IsLong, long_refused, no_script, told_text}
use Rattle.script_texts.specs.Texts.{IsScriptText}
use Rattle.script_answers.specs.Answers.{ProvePrints}

-- all texts that are too long have the same answer
pub long_prints : (o : Options) (s : Status) (lines t text : Bytes) → IsLong t → IsLong text
    → ProvePrints o text s lines → ProvePrints o t s lines
long_prints o status.Answered lines t text a b p =
    absurd (no_script text p.script b p.proved.spelled)
long_prints o status.Unproved lines t text a b (s, leaf, claims, p, i, at, e) =
    absurd (no_script text s b p)
long_prints o status.Limit lines t text a b (s, p, i) = absurd (no_script text s b p)
long_prints o status.Script lines t text a b p = long_refused t text lines a b p
long_prints o _ lines t text a b p = absurd p

-- what answers the text that was read answers the told one
pub told_prints : (o : Options) (told : Told) (name read : Bytes) (s : Status) (lines : Bytes)
    → IsScriptText (told name) read → ProvePrints o read s lines
    → OfText told name (λ text. ProvePrints o text s lines)
told_prints o told name read s lines is p =
    told_text (λ w. ProvePrints o w s lines) (long_prints o s lines) (told name) read is p
