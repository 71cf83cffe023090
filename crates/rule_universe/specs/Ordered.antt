-- Numbers of instances in some order.
use Rattle.std.specs.Prelude.{◌<◌, ℕ, List, length, Contains}
use Rattle.facts.specs.declared.instance.Instance.{Instance}

-- Each is the number of one of these instances.
abbrev pub AreNumbersOf : List Instance → List ℕ → Type 0
AreNumbersOf instances numbers = (k : ℕ) → Contains numbers k → k < length instances
