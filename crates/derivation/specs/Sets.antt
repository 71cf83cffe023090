-- What is known depends on which hypotheses and instances there are, and not on their order.
use Rattle.std.specs.Prelude.{◌≡◌, ℕ, Some, slice_get, Contains}
use Rattle.facts.specs.declared.fact.Fact.{Fact}
use Rattle.facts.specs.declared.instance.Instance.{Instance}
use Rattle.derivation.specs.Derivations.{Setting}

-- The second setting has the rules and nodes of the first, and each of its hypotheses and
-- instances, in any order.
pub record HasAll (u v : Setting) : Type 0 where
  pub rules : v.rules ≡ u.rules
  pub nodes : v.nodes ≡ u.nodes
  pub hypotheses : (f : Fact) → Contains u.hypotheses f → Contains v.hypotheses f
  pub instances : (k : ℕ) (i : Instance) → slice_get u.instances k ≡ Some i
      → (j : ℕ) × (slice_get v.instances j ≡ Some i)
