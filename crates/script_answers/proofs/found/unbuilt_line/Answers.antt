use Rattle.std.proofs.Common.{◌∙◌}
use Rattle.saturate.proofs.Answered.{ok_map}
use Rattle.script_answers.proofs.Answered.{many_expressions}
use Rattle.script_answers.proofs.found.unbuilt_line.Goals as goal

pub returns-in-ExprLimit : goal.returns-in-ExprLimit
returns-in-ExprLimit c =
    ok_map c.to_vec.result c.to_vec.ensures.items_if_clones_equal
    (λ line same o. many_expressions c.args.script.now o line.items c.laws.ensures.spelled
    (c.requires c.in-ExprLimit.is) (same (λ x y e. e) ∙ c.expressions_text.ensures))
