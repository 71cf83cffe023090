use Rattle.std.specs.Prelude.{◌++◌, ◌∷◌, []}
use Rattle.box_tree.specs.Plans.{piece_at}
use Rattle.settler.specs.Answers.{plan_of}
use Rattle.settler.proofs.Fitting.{pieces_are}
use Rattle.settler.proofs.laws.plans_fit.Goals as goal

pub returns : goal.returns
returns c = λ s claims depth i path k l. pieces_are c.args.universe.now claims
    c.laws.ensures.universe i.hypotheses (piece_at (plan_of s claims depth) (path ++ k ∷ []))
    (c.pieces_are_of_hypotheses.ensures claims s.hints depth path k l)
