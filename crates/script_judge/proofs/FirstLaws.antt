-- Laws of what specs/First defines.
use Rattle.std.specs.Prelude.{◌≡◌, Option, Some, None, Bool, if◌then◌else◌, true, false, refl}
use Rattle.script_judge.specs.declared.refusal.Refusal.{Refusal}
use Rattle.script_judge.specs.declared.fault.Fault.{Fault}
use Rattle.script_judge.specs.Reading.{Reading}
use Rattle.script_judge.specs.First.{first_of, refusal_of}

-- ---- no refusal
pub second_none : (a b : Option Refusal) → first_of a b ≡ None → b ≡ None
second_none None b e = e
second_none (Some x) None e = refl
second_none (Some x) (Some y) e = absurd (by_test _ e)
  where
    by_test : (t : Bool) → (if t then Some y else Some x) ≡ None → ⊥
    by_test true e = cc e
    by_test false e = cc e

pub none_found : (r : Reading) (o : Option Fault) → refusal_of r o ≡ None → o ≡ None
none_found r None e = refl
none_found r (Some f) e = absurd (cc e)
