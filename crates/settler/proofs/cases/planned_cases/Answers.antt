use Rattle.std.specs.Prelude.{List, [], ◌∷◌, ◌++◌, take}
use Rattle.std.specs.List.{AllByRecursion}
use Rattle.std.proofs.Common.{arith, sym, ◌∙◌, subst}
use Rattle.std.proofs.lemmas.List.{take_all}
use Rattle.std.proofs.lemmas.List.Elements.{recursion_from_All}
use Rattle.script_claims.specs.declared.claim.Claim.{Claim}
use Rattle.script_claims.specs.Facts.{HasNormalBounds}
use Rattle.script_grammar.specs.Cases.{cases_of}
use Rattle.universe.specs.Cases.{AreHypotheses}
use Rattle.universe.proofs.Cases.{cases_have_hypotheses, case_has_hypotheses}
use Rattle.box_tree.specs.Root.{plan_by}
use Rattle.settler.specs.declared.cases.Case.{Case}
use Rattle.settler.specs.Cases.{AreCases, IsCaseOf}
use Rattle.settler.proofs.Planned.{take_none, take_more, one_more}
use Rattle.settler.proofs.cases.planned_cases.Goals as goal

pub loop-number-init : goal.loop-number-init
loop-number-init c =
    let s = c.args.script.now in
    subst (λ (xs : List (List Claim)). AreCases s c.args.depth xs c.new-cases.result.items)
    (sym (take_none (cases_of s)))
    (subst (λ (ys : List Case). AreCases s c.args.depth [] ys) (sym c.new-cases.ensures.items) tt)

pub new-requires-clause-normal : goal.new-requires-clause-normal
new-requires-clause-normal c = subst (AllByRecursion HasNormalBounds) (sym c.deref.ensures.value)
    (recursion_from_All HasNormalBounds c.in_ok-claims.claims.items c.in_ok-claims.ensures.normal)

pub loop-number-preserved : goal.loop-number-preserved
loop-number-preserved c =
    let s = c.args.script.now in
    let d = c.args.depth in
    let i = c.loop-number.number in
    let claims = c.in_ok-claims.claims.items in
    let case : Case = record { claims = c.from_vec.result; plan = c.in_ok-plan.plan } in
    let is : IsCaseOf s d case = record {
      claims = subst (AreHypotheses s) (sym c.from_vec.ensures) (case_has_hypotheses s (cases_of s)
          (cases_have_hypotheses s c.laws.ensures.cases) i claims c.in_ok-claims.ensures.value);
      normal = subst (AllByRecursion HasNormalBounds) (sym c.from_vec.ensures)
          (recursion_from_All HasNormalBounds claims c.in_ok-claims.ensures.normal);
      plan = c.in_ok-plan.ensures ∙ (λ j.
          plan_by ((c.deref.ensures.value ∙ sym c.from_vec.ensures) j) (c.hints.ensures.value j) d);
      lawful = c.plan_is_lawful.ensures;
    } in
    subst (λ (xs : List (List Claim)). AreCases s d xs c.push.new.self.items)
    (sym (take_more (cases_of s) i claims c.in_ok-claims.ensures.value))
    (subst (λ (ys : List Case). AreCases s d (take i (cases_of s) ++ claims ∷ []) ys)
    (sym c.in_ok-push.ensures.items)
    (one_more s d (take i (cases_of s)) c.loop-number.cases.items claims case
    c.loop-number.invariant c.from_vec.ensures is))

pub returns : goal.returns
returns c =
    let s = c.args.script.now in
    let count = c.case_count-number-end.ensures.value in
    let done = c.loop-number-test.false in
    subst (λ (xs : List (List Claim)). AreCases s c.args.depth xs c.loop-number.cases.items)
    (take_all c.loop-number.number (cases_of s)
    (omega (arith, count, done))) c.loop-number.invariant
