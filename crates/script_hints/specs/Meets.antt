-- What rewritings say of an assignment, with bounds exactly as they are written.
use Rattle.std.specs.Prelude.{◌≡◌, ◌≢◌, List, map, Some}
use Rattle.std.specs.Option.{IsSomeAnd}
use Rattle.std.specs.List.{AllByRecursion}
use Rattle.fx_model.specs.Fraction.{Fraction, zero_ℚ}
use Rattle.fx_model.specs.Expression.{Assignment, value}
use Rattle.fx_model.specs.declared.Node.{Node}
use Rattle.facts.specs.Rows.{IsMet}
use Rattle.script_bounds.specs.Sides.{IsUnderWritten, IsOverWritten}
use Rattle.script_hints.specs.declared.hint.Constraint.{Constraint}
use Rattle.script_hints.specs.declared.hint.Constraint.TheVariants.{NotZero, Below, Above}
use Rattle.script_hints.specs.declared.hint.Hint.{Hint}
use Rattle.script_hints.specs.Needs.{need_of}

-- The constraint holds: its expression has a value, which isn't 0, or stands on the right side of
-- the bound as it is written.
abbrev pub HoldsAt : List Node → Assignment → Constraint → Type 0
HoldsAt nodes a (NotZero x) = IsSomeAnd (value nodes a x) (λ v. v ≢ zero_ℚ)
HoldsAt nodes a (Below x w strict) = IsSomeAnd (value nodes a x) (IsUnderWritten w strict)
HoldsAt nodes a (Above x w strict) = IsSomeAnd (value nodes a x) (IsOverWritten w strict)

-- The assignment meets the rewriting: where its constraints hold and both sides have values, the
-- two are equal.
abbrev pub MeetsHint : List Node → Assignment → Hint → Type 0
MeetsHint nodes a h = AllByRecursion (HoldsAt nodes a) h.constraints → (l r : Fraction)
    → value nodes a h.left ≡ Some l → value nodes a h.right ≡ Some r → l ≡ r

-- ---- the same with rounded bounds

-- What meets a rounded need meets the constraint as it is written.
abbrev pub NeedsAreEnough : Type 0
NeedsAreEnough = (nodes : List Node) (a : Assignment) (c : Constraint)
    → IsMet nodes a (need_of c) → HoldsAt nodes a c

-- So an assignment that meets a rewriting gives equal values to its sides where the rounded needs
-- are met.
abbrev pub MetSidesAreEqual : Type 0
MetSidesAreEqual = (nodes : List Node) (a : Assignment) (h : Hint) → MeetsHint nodes a h
    → AllByRecursion (IsMet nodes a) (map need_of h.constraints) → (l r : Fraction)
    → value nodes a h.left ≡ Some l → value nodes a h.right ≡ Some r → l ≡ r
