use Rattle.std.proofs.Common.{◌≤◌, sym, subst, ◌∙◌, ap, arith}
use Rattle.script_cases.specs.Cases.{case_count}
use Rattle.script_cases.specs.Gaps.{gaps}
use Rattle.script_cases.specs.Parts.{Parts}
use Rattle.script_cases.proofs.Counts.{rising, counted, some_case}
use Rattle.script_cases.proofs.parts.Parts.case_count.Goals as goal

pub product-requires-clause-rising : goal.product-requires-clause-rising
product-requires-clause-rising g c = rw c.as_slice.ensures.value (rising _ _ _ c.self.invariant)

pub product-requires-clause-few : goal.product-requires-clause-few
product-requires-clause-few g c = rw (c.as_slice.ensures.value, ← counted _ _ _ c.self.invariant)
    (subst (λ (p : Parts _). case_count p.before ≤ 64) (sym c.self.view_is) c.requires)

pub returns-clause-count : goal.returns-clause-count
returns-clause-count g c =
    c.product.ensures ∙ ap (gaps 0) c.as_slice.ensures.value ∙ sym (counted _ _ _ c.self.invariant)
    ∙ ap (λ (p : Parts _). case_count p.before) c.self.view_is

pub returns-clause-some : goal.returns-clause-some
returns-clause-some g c = omega (
  arith,
  c.product.ensures,
  ap (gaps 0) c.as_slice.ensures.value,
  counted _ _ _ c.self.invariant,
  some_case _ _ _ c.self.invariant,
)
