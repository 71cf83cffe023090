-- Laws of what specs/Judge defines.
use Rattle.std.specs.Prelude.{◌≡◌, Option, Some, None, Bool, true, false, if◌then◌else◌, refl}
use Rattle.script_judge.specs.declared.refusal.RefusalKind.{RefusalKind}
use Rattle.script_judge.specs.Judge.{or_else}

-- ---- no refusal
pub fails : (b : Bool) (k : RefusalKind) (rest : Option RefusalKind)
    → (if b then Some k else rest) ≡ None → (b ≡ false) × (rest ≡ None)
fails true k rest e = absurd (cc e)
fails false k rest e = (refl, e)

pub both_none : (a b : Option RefusalKind) → or_else a b ≡ None → (a ≡ None) × (b ≡ None)
both_none None b h = (refl, h)
both_none (Some k) b h = absurd (cc h)
