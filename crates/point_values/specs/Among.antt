-- Cases are made of hypotheses.
use Rattle.std.specs.Prelude.{◌≡◌, ℕ, List, Some, true, slice_get, Option}
use Rattle.std.specs.List.{AllByRecursion}
use Rattle.fx_model.specs.Fraction.{Fraction}
use Rattle.fx_model.specs.declared.ExprId.{ExprId}
use Rattle.exact_fractions.specs.Wide.{are_narrow}
use Rattle.script_claims.specs.declared.claim.Claim.{Claim}
use Rattle.point_values.specs.Numbers.{claim_numbers}

-- a claim is one of these
abbrev pub IsAmong : List Claim → Claim → Type 0
IsAmong claims c = (k : ℕ) × (slice_get claims k ≡ Some c)

-- Each claim of each case is one of the hypotheses.
abbrev pub AreAmong : List Claim → List (List Claim) → Type 0
AreAmong hypotheses cases = AllByRecursion (AllByRecursion (IsAmong hypotheses)) cases

-- no number of a claim is too wide
abbrev pub IsNarrowClaim : (ExprId → Option Fraction) → Claim → Type 0
IsNarrowClaim v c = are_narrow (claim_numbers v c) ≡ true
