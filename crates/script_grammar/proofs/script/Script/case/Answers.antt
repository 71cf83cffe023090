use Rattle.std.proofs.Common.{◌≡◌, ◌<◌, ◌≤◌, sym, ap, ◌∙◌, subst, arith}
use Rattle.script_cases.specs.Cases.{cases, case_count, all_items}
use Rattle.script_cases.proofs.Counted.{cases_are_counted}
use Rattle.script_claims.specs.Facts.{HasNormalBounds}
use Rattle.script_grammar.specs.Spells.{View}
use Rattle.script_grammar.proofs.CaseClaims.{case_has, if_ok}
use Rattle.script_grammar.proofs.script.Script.case.Goals as goal

pub case-requires-clause-few : goal.case-requires-clause-few
case-requires-clause-few c =
    subst (λ ps. case_count ps ≤ 64) (sym (ap (λ (v : View). v.parts) c.self.view_is))
    (omega (arith, cases_are_counted c.args.self.now.parts, c.laws.ensures.cases.few))

pub case-requires-clause-number : goal.case-requires-clause-number
case-requires-clause-number c =
    subst (λ ps. c.args.number < case_count ps) (sym (ap (λ (v : View). v.parts) c.self.view_is))
    (omega (arith, cases_are_counted c.args.self.now.parts, c.requires))

pub returns-clause-normal : goal.returns-clause-normal
returns-clause-normal c =
    let flat : c.hypotheses.result.now ≡ all_items c.self.inside.sides.parts.before =
    c.hypotheses.ensures.value ∙ c.laws.ensures.cases.hypotheses
    ∙ ap (λ (v : View). all_items v.parts) (sym c.self.view_is) in
    if_ok c.case.result _ _ (λ case e.
    case_has HasNormalBounds c.hypotheses.result.now c.self.inside.sides.parts.before c.args.number
    case.items flat c.hypotheses.ensures.normal e) c.case.ensures
