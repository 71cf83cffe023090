use Rattle.std.proofs.Common.{◌≡◌, ◌+◌, suc, [], ◌∷◌, ◌++◌, map, take, sym, ap, ◌∙◌, arith}
use Rattle.std.proofs.Math.Seq.{take-suc}
use Rattle.std.proofs.lemmas.Option.{slice_get_within, get_or_from_slice_get}
use Rattle.script_claims.specs.Facts as spec
use Rattle.script_grammar.specs.Cases.{cases_of}
use Rattle.script_checker.proofs.cases.facts_of_cases.Goals as goal

pub loop-number-preserved : goal.loop-number-preserved
loop-number-preserved c =
    let k = c.loop-number.number in
    let all = map spec.facts_of (cases_of c.args.script.now) in
    let facts = c.in_ok-facts_of_case.field-0 in
    let here = c.in_ok-facts_of_case.ensures in
    let n : k + 1 ≡ suc k = omega arith in
    c.in_ok-push.ensures.items ∙ ap (λ l. l ++ facts ∷ []) c.loop-number.invariant
    ∙ sym (ap (λ i. take i all) n ∙ take-suc all k facts (slice_get_within all k facts here)
    ∙ ap (λ f. take k all ++ f ∷ []) (get_or_from_slice_get all k facts facts here))
