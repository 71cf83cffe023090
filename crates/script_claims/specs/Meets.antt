-- What a claim says of an assignment, with bounds exactly as they are written.
use Rattle.std.specs.Prelude.{◌≢◌, ◌⊎◌, ⊤, List, Some}
use Rattle.std.specs.Option.{IsSomeAnd}
use Rattle.fx_model.specs.Fraction.{Fraction, ◌<ℚ◌, ◌-ℚ◌, ◌/ℚ◌, zero_ℚ, one_ℚ}
use Rattle.fx_model.specs.Powers.{IsMultiple}
use Rattle.fx_model.specs.Enclosure.{Range, Lies}
use Rattle.fx_model.specs.Expression.{Assignment, value}
use Rattle.fx_model.specs.declared.Node.{Node}
use Rattle.literal_order.specs.Values.{written_value}
use Rattle.facts.specs.Holds.{AreZero}
use Rattle.goals.specs.Lies.{OfBoth}
use Rattle.script_bounds.specs.Bounds.{written_range}
use Rattle.script_claims.specs.declared.claim.Claim.{Claim}
use Rattle.script_claims.specs.declared.claim.Claim.TheVariants.{Bounded, Asked, Relative}
use Rattle.script_claims.specs.declared.claim.Claim.TheVariants.{RelativeAsked, Above, Below}
use Rattle.script_claims.specs.declared.claim.Claim.TheVariants.{Multiple}

-- Both are 0, or y isn't and x / y - 1 lies in the range.
abbrev pub IsRelatedWithin : Range → Fraction → Fraction → Type 0
IsRelatedWithin r x y = AreZero x y ⊎ ((y ≢ zero_ℚ) × Lies r ((x /ℚ y) -ℚ one_ℚ))

-- The claim is true of the assignment. A question claims nothing.
abbrev pub IsTrueAt : List Node → Assignment → Claim → Type 0
IsTrueAt nodes a (Bounded x lower upper) =
    IsSomeAnd (value nodes a x) (Lies (written_range lower upper))
IsTrueAt nodes a (Asked x) = ⊤
IsTrueAt nodes a (Relative x y lower upper) =
    OfBoth nodes a x y (IsRelatedWithin (written_range (Some lower) (Some upper)))
IsTrueAt nodes a (RelativeAsked x y) = ⊤
IsTrueAt nodes a (Above x n) = IsSomeAnd (value nodes a x) (λ v. written_value n <ℚ v)
IsTrueAt nodes a (Below x n) = IsSomeAnd (value nodes a x) (λ v. v <ℚ written_value n)
IsTrueAt nodes a (Multiple x k) = IsSomeAnd (value nodes a x) (IsMultiple k)
