use Rattle.std.proofs.Common.{◌≡◌, ◌<◌, ◌≤◌, sym, ap, ◌∙◌, subst, Some}
use Rattle.std.specs.List.{flat_map}
use Rattle.script_cases.specs.Cases.{case_count}
use Rattle.script_cases.specs.Choice.{choice}
use Rattle.script_cases.specs.Marks.{pieces}
use Rattle.script_cases.specs.Parts.{Parts}
use Rattle.script_cases.proofs.Chosen.{makes_case, all_left}
use Rattle.script_cases.proofs.Counts.{rising, counted}
use Rattle.script_cases.proofs.parts.Parts.conjunctions.Goals as goal

pub product-requires-clause-rising : goal.product-requires-clause-rising
product-requires-clause-rising g c =
    rw c.as_slice-parts.ensures.value (rising _ _ _ c.self.invariant)

pub product-requires-clause-few : goal.product-requires-clause-few
product-requires-clause-few g c =
    rw (c.as_slice-parts.ensures.value, ← counted _ _ _ c.self.invariant)
    (subst (λ (p : Parts _). case_count p.before ≤ 64) (sym c.self.view_is) c.requires.few)

pub new-requires : goal.new-requires
new-requires g c =
    let is_case = subst (λ (p : Parts _). c.args.number < case_count p.before)
    (sym c.self.view_is) c.requires.number in
    rw (
      c.product.ensures,
      c.as_slice.ensures.value,
      c.as_slice-2.ensures.value,
      c.as_slice-parts.ensures.value,
    ) (all_left _ _ _ c.args.number c.self.invariant is_case)

pub returns : goal.returns
returns g c =
    let same : c.new.result ≡ choice c.args.self.now.before c.args.number =
    c.new.ensures
    ∙ (λ i. choice (pieces 0 (pieces 0 (c.as_slice.ensures.value i)
    (c.as_slice-2.ensures.value i)) (c.as_slice-parts.ensures.value i)) c.args.number)
    ∙ ap (λ (p : Parts _). choice p.before c.args.number) c.self.view_is in
    makes_case c.args.self.now.before c.args.number c.requires.number
    ∙ ap (λ taken. Some (flat_map (λ d. d) taken)) (sym same)
