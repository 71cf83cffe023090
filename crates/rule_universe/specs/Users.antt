-- Which instances take a slot.
use Rattle.std.specs.Prelude.{◌≡◌, ◌↔◌, ◌<◌, ℕ, List, Some, slice_get, Contains}
use Rattle.facts.specs.declared.fact.Slot.{Slot}
use Rattle.facts.specs.declared.instance.Instance.{Instance}
use Rattle.derivation.specs.Changes.{IsUser}

-- each is below those behind it
abbrev pub AreRising : List ℕ → Type 0
AreRising ks = (i j k l : ℕ) → i < j → slice_get ks i ≡ Some k → slice_get ks j ≡ Some l → k < l

-- The numbers of the instances that have the slot among their premises, rising.
pub record AreUsers (instances : List Instance) (s : Slot) (numbers : List ℕ) : Type 0 where
  pub exactly : (k : ℕ) → Contains numbers k ↔ IsUser instances s k
  pub rising : AreRising numbers
