use mir.Syntax.{w32}
use mir.Val.{to_z, of_z}
use Rattle.std.proofs.Common.{pos, sym, ap, ◌∙◌}
use Rattle.std.proofs.lemmas.Int.{to_z-of_z}
use Rattle.fx_model.specs.Powers.{scaled}
use Rattle.fx_model.specs.Grid.{signed}
use Rattle.fixprog.proofs.FormatValues.{plain_value, zero_same}
use Rattle.fixprog.proofs.format.binary.Goals as goal

pub returns-then-num-eq0-clause-value : goal.returns-then-num-eq0-clause-value
returns-then-num-eq0-clause-value c = ap (signed c.args.negative) (plain_value 0 (pos 0)
    ∙ ap (λ n. scaled (pos n) (pos 0)) (sym c.if-num-eq0.true)
    ∙ zero_same c.args.num (pos 0) c.args.two c.if-num-eq0.true)

pub returns-clause-value : goal.returns-clause-value
returns-clause-value c =
    let two = to_z w32 (of_z w32 c.args.two) in
    ap (signed c.args.negative) (plain_value c.from.result two
    ∙ ap (λ n. scaled (pos n) two) c.from.ensures
    ∙ ap (scaled (pos c.args.num)) (to_z-of_z w32 c.args.two c.ranges.two))
