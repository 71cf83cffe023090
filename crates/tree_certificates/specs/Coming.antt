-- The step by which a fact comes to a table.
use Rattle.std.specs.Prelude.{ℕ, List, Option, Some, None}
use Rattle.facts.specs.declared.fact.Fact.{Fact}
use Rattle.facts.specs.declared.fact.Fact.TheVariants as fact
use Rattle.derivation.specs.Exists.{joined}
use Rattle.cert_bytes.specs.declared.item.StepRow.{StepRow}

-- its step
abbrev pub with_by : Option Fact → ℕ → Fact → Option ℕ
with_by None n c = None
with_by (Some g) n fact.Void = None
with_by (Some g) n c = Some n

-- The step by which c comes, from a rule and its premises, where this fact stood on its slot, and
-- in this step.
abbrev pub coming : ℕ → ℕ → List ℕ → Option Fact → ℕ → Fact → StepRow
coming rule arg premises o n c =
    record { rule = rule; arg = arg; fact = joined o c; with = with_by o n c; premises = premises }
