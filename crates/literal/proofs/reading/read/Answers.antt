use Rattle.std.proofs.Common.{◌≡◌, subst}
use Rattle.literal.specs.Spelling.{Spelling, Spells}
use Rattle.literal.proofs.reading.read.Goals as goal

pub returns-clause-one : goal.returns-clause-one
returns-clause-one c = subst (λ t. (x y : Spelling) → Spells t x → Spells t y
    → x ≡ y) c.as_bytes.ensures.value c.read_bytes.ensures.one
