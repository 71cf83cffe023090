use Rattle.std.proofs.Common.{◌*◌, ◌≤◌, ◌<◌, sym, subst}
use Rattle.script_words.specs.Named.{word_of}
use Rattle.script_judge.specs.Counts.{cases_after}
use Rattle.script_judge.proofs.FewCases.{few_conjunctions, few_begun, some_cases}
use Rattle.script_judge.proofs.FewCases.{some_conjunctions}
use Rattle.script_judge.proofs.counts.counts_after.Goals as goal

pub conjunctions_after-requires : goal.conjunctions_after-requires
conjunctions_after-requires c =
    few_conjunctions c.args.counts.cases c.args.counts.conjunctions c.requires.cases.cases
    c.requires.within.cases

pub returns-clause-begun : goal.returns-clause-begun
returns-clause-begun c =
    let n = c.args.counts.cases in
    let m = c.args.counts.conjunctions in
    let r = c.args.role in
    let w = word_of c.args.word in
    subst (λ k. k * c.conjunctions_after.result ≤ 128) (sym c.cases_after.ensures)
    (subst (λ k. cases_after n m r w * k ≤ 128) (sym c.conjunctions_after.ensures)
    (few_begun n m r w c.requires.cases.conjunctions c.requires.within.cases))

pub returns-clause-cases : goal.returns-clause-cases
returns-clause-cases c =
    let n = c.args.counts.cases in
    let m = c.args.counts.conjunctions in
    let r = c.args.role in
    let w = word_of c.args.word in
    record {
      cases = subst (λ k. 0 < k) (sym c.cases_after.ensures)
          (some_cases n m r w c.requires.cases.cases c.requires.cases.conjunctions);
      conjunctions = subst (λ k. 0 < k) (sym c.conjunctions_after.ensures)
          (some_conjunctions m r w c.requires.cases.conjunctions);
    }
