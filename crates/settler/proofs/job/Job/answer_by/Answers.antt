use Rattle.std.proofs.Common.{List, arith, subst, sym}
use Rattle.script_grammar.specs.Cases.{cases_of}
use Rattle.saturate.proofs.Answered.{ok_map}
use Rattle.settler.specs.declared.cases.Case.{Case}
use Rattle.settler.specs.Answers.{Options, options_from}
use Rattle.settler.specs.Cases.{AreCases}
use Rattle.settler.proofs.CasesLaws.{as_many}
use Rattle.settler.proofs.Comes.{comes_to, each_holds}
use Rattle.settler.proofs.job.Job.answer_by.Goals as goal

pub answer_cases-requires-clause-universe : goal.answer_cases-requires-clause-universe
answer_cases-requires-clause-universe g c = c.requires.job.universe

pub answer_cases-requires-clause-cases : goal.answer_cases-requires-clause-cases
answer_cases-requires-clause-cases g c =
    let s = c.args.self.now.script.now in
    let depth = c.args.self.now.options.depth in (
      depth,
      (
        cases_of s,
        subst (λ (cases : List Case). AreCases s depth (cases_of s) cases)
            (sym c.deref.ensures.value) c.requires.job.cases,
      ),
    )

pub answer_cases-requires-clause-few : goal.answer_cases-requires-clause-few
answer_cases-requires-clause-few g c =
    let s = c.args.self.now.script.now in
    let depth = c.args.self.now.options.depth in
    let are = subst (λ (cases : List Case). AreCases s depth (cases_of s) cases)
    (sym c.deref.ensures.value) c.requires.job.cases in
    let many = as_many s depth (cases_of s) c.deref.result.now are in
    let few = c.laws.ensures.cases.few in
    omega (arith, many, few)

pub answer_cases-requires-clause-allowed : goal.answer_cases-requires-clause-allowed
answer_cases-requires-clause-allowed g c = c.requires.job.allowed

pub returns-clause-comes : goal.returns-clause-comes
returns-clause-comes g c =
    let s = c.args.self.now.script.now in
    let u = c.args.self.now.universe in
    let o : Options = options_from c.args.self.now.options in
    let are = subst (λ (cases : List Case). AreCases s o.depth (cases_of s) cases)
    (sym c.deref.ensures.value) c.requires.job.cases in
    ok_map c.answer_cases.result c.answer_cases.ensures.comes
    (comes_to s o u c.requires.job.universe.0 c.requires.job.universe.1
    c.best_tables_exist.ensures.exist c.boxes_come_to_one_state.ensures
    c.settling_facts.ensures.stronger
    c.rules_are_lawful.ensures c.laws-2.ensures.universe.closed c.requires.job.few
    c.deref.result.now are)

pub returns-clause-holds : goal.returns-clause-holds
returns-clause-holds g c =
    let s = c.args.self.now.script.now in
    let u = c.args.self.now.universe in
    let o : Options = options_from c.args.self.now.options in
    let are = subst (λ (cases : List Case). AreCases s o.depth (cases_of s) cases)
    (sym c.deref.ensures.value) c.requires.job.cases in
    ok_map c.answer_cases.result c.answer_cases.ensures.comes
    (λ found a. c.proved_answers_hold.ensures s o
    (each_holds s o u c.requires.job.universe.0 c.requires.job.universe.1 c.cases_hold.ensures
    c.laws.ensures.names c.laws.ensures.ordered c.laws-2.ensures.ordered c.deref.result.now are))

pub returns-clause-job : goal.returns-clause-job
returns-clause-job g c = record {
  universe = c.answer_cases.ensures.universe;
  few = c.requires.job.few;
  cases = c.requires.job.cases;
  allowed = c.requires.job.allowed;
}
