use Rattle.std.proofs.Common.{◌≤◌, sym, ap, ◌∙◌, subst, arith}
use Rattle.script_cases.specs.Cases.{cases, case_count}
use Rattle.script_cases.proofs.Counted.{cases_are_counted}
use Rattle.script_grammar.specs.Spells.{View}
use Rattle.script_grammar.proofs.script.Script.case_count.Goals as goal

pub case_count-requires : goal.case_count-requires
case_count-requires c =
    subst (λ ps. case_count ps ≤ 64) (sym (ap (λ (v : View). v.parts) c.self.view_is))
    (omega (arith, cases_are_counted c.args.self.now.parts, c.laws.ensures.cases.few))

pub returns-clause-value : goal.returns-clause-value
returns-clause-value c =
    c.case_count.ensures.count ∙ ap case_count (ap (λ (v : View). v.parts) c.self.view_is)
    ∙ sym (cases_are_counted c.args.self.now.parts)

pub returns-clause-few : goal.returns-clause-few
returns-clause-few c =
    let same = c.case_count.ensures.count ∙ ap case_count
    (ap (λ (v : View). v.parts) c.self.view_is) ∙ sym (cases_are_counted c.args.self.now.parts) in
    omega (arith, same, c.laws.ensures.cases.few)
