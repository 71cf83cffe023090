use Rattle.std.proofs.Common.{Err, sym, ap, ◌∙◌, arith}
use Rattle.script_words.specs.Kept.{words_in}
use Rattle.script_shape.specs.Roles.{leaves_of}
use Rattle.script_judge.specs.FrontViews.{front_of}
use Rattle.script_grammar.proofs.JudgedText.{passed_read, few_nodes, few_cases, whole_formula}
use Rattle.script_grammar.proofs.judgement.formula_of.Goals as goal

pub returns-in-Ok-Ended-clause-says : goal.returns-in-Ok-Ended-clause-says
returns-in-Ok-Ended-clause-says c =
    whole_formula c.args.roles.now (words_in c.args.words) c.in-Ok-Ended.formula
    (ap front_of (sym c.in-Ok-Ended.field-0-is) ∙ c.in-Ok-Ended.ensures.read)

pub returns-in-Ok-Ended-clause-few : goal.returns-in-Ok-Ended-clause-few
returns-in-Ok-Ended-clause-few c =
    few_cases (leaves_of c.args.roles.now (words_in c.args.words)) c.requires
    c.cases_are_counted.ensures c.fronts_are_read.ensures c.in-Ok-Ended.formula
    (ap front_of (sym c.in-Ok-Ended.field-0-is) ∙ c.in-Ok-Ended.ensures.read)

pub unreachable-requires : goal.unreachable-requires
unreachable-requires c =
    let e = ap front_of (sym c.in-Ok-Definitions.field-0-is) ∙ c.in-Ok-Definitions.ensures.read
    ∙ passed_read (leaves_of c.args.roles.now (words_in c.args.words)) c.requires
    c.fronts_are_read.ensures in
    cc e

pub unreachable-requires-in-Ok-Claims : goal.unreachable-requires-in-Ok-Claims
unreachable-requires-in-Ok-Claims c =
    let e = ap front_of (sym c.in-Ok-Claims.field-0-is) ∙ c.in-Ok-Claims.ensures.read
    ∙ passed_read (leaves_of c.args.roles.now (words_in c.args.words)) c.requires
    c.fronts_are_read.ensures in
    cc e

pub unreachable-requires-in-Err-Full : goal.unreachable-requires-in-Err-Full
unreachable-requires-in-Err-Full c =
    let few = few_nodes (leaves_of c.args.roles.now (words_in c.args.words)) c.requires
    c.nodes_are_counted.ensures c.leaves_are_of_trees.ensures.spell c.fronts_are_read.ensures in
    omega (arith, few, c.in-Err-Full.ensures.full (ap Err c.in-Err-Full.field-0-is))
