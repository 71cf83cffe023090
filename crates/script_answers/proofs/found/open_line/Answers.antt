use Rattle.std.proofs.Common.{ℕ, arith, ap, ◌∙◌}
use Rattle.script_grammar.specs.Cases.{cases_of}
use Rattle.saturate.proofs.Answered.{ok_map}
use Rattle.settler.proofs.CasesLaws.{as_many}
use Rattle.report.specs.Unproved.{unproved_text}
use Rattle.script_answers.proofs.Answered.{open_line_in}
use Rattle.script_answers.proofs.found.open_line.Goals as goal

pub index-case-requires : goal.index-case-requires
index-case-requires c =
    let s = c.args.job.now.script.now in
    let many = as_many s c.args.job.now.options.depth (cases_of s) c.args.job.now.cases.items
    c.requires.job.cases in
    let same = c.from-number.ensures in
    let below = c.requires.case in
    let long = c.args.job.now.cases.ok.0 in
    omega (arith, many, same, below, long)

pub returns : goal.returns
returns c =
    let s = c.args.job.now.script.now in
    let case = c.index-case.result.now in
    let leaf = c.args.leaf in
    ok_map c.unproved_text.result c.unproved_text.ensures
    (λ line e. open_line_in s c.args.job.now.options.depth c.args.job.now.cases.items
    c.requires.job.cases leaf c.from-number.result c.from-number.ensures case line.items
    c.requires.case c.index-case.ensures
    (e ∙ ap (λ (n : ℕ). unproved_text s case.plan n leaf.case leaf.path leaf.goal)
    (c.len.ensures ∙ c.args.job.now.cases.ok.0)))
