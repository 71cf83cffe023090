use Rattle.std.proofs.Common.{◌≡◌, length, All, ⊎_elim, sym, ap, subst, arith}
use Rattle.script_cases.specs.Parts.{behind_or}
use Rattle.script_claims.specs.Facts.{HasNormalBounds}
use Rattle.script_claims.specs.Ranges.{AllInParts}
use Rattle.script_claims.proofs.InParts.{or_in_parts, arrow_in_parts}
use Rattle.script_claims.proofs.sides.Sides.assume.Goals as goal

-- the memory may run out behind a conjunction's end
pub invariant_of-self : goal.invariant_of-self
invariant_of-self c =
    let old = c.self.inside.parts in
    let new = c.end_part.new.self in
    let kept = c.in_err-end_part.ensures.kept in
    let normal = AllInParts HasNormalBounds in (
      omega (arith, ap length c.items.ensures, ap length kept),
      subst (λ xs. All HasNormalBounds xs) (sym kept) c.self.invariant.1,
      ⊎_elim (λ (same : new ≡ old). subst normal (sym same) c.self.invariant.2)
          (λ (same : new ≡ behind_or old). subst normal (sym same)
          (or_in_parts HasNormalBounds old c.self.invariant.2)) c.in_err-end_part.ensures.refused,
    )

pub invariant_of-self-2 : goal.invariant_of-self-2
invariant_of-self-2 c =
    let old = c.self.inside.parts in
    let kept = c.in_ok-end_part.ensures.kept in (
      omega (arith, ap length c.items.ensures, ap length kept),
      subst (λ xs. All HasNormalBounds xs) (sym kept) c.self.invariant.1,
      subst (AllInParts HasNormalBounds) (sym c.in_ok-end_part.ensures.ended)
          (arrow_in_parts HasNormalBounds old c.self.invariant.2),
    )
