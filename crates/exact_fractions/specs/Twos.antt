-- Powers of two that go into a whole number, or out of it.
use Rattle.std.specs.Prelude.{◌≡◌, ◌≢◌, ◌⊎◌, ℕ, ◌+◌, ◌*◌, ◌^◌, ◌%◌}

-- n without the twos that 2^k takes out of it is m, and j is what is left of k: nothing, or m is
-- odd.
pub record LosesTwos (n k m j : ℕ) : Type 0 where
  pub lost : ℕ
  pub number : n ≡ m * 2 ^ lost
  pub power : k ≡ j + lost
  pub done : (j ≡ 0) ⊎ (m % 2 ≢ 0)
