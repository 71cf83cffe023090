use Rattle.std.specs.Prelude.{map}
use Rattle.std.proofs.Common.{ap, ◌∙◌}
use Rattle.saturate.proofs.Answered.{ok_map}
use Rattle.box_trace.specs.Tables.{place_in}
use Rattle.box_trace.proofs.scan.cite.Goals as goal

pub numbers_of-requires : goal.numbers_of-requires
numbers_of-requires c = (c.premises-placed.ensures c.instance_at-instance.result.now
    c.instance_at-instance.ensures).places

pub returns : goal.returns
returns c = ok_map c.numbers_of.result c.numbers_of.ensures (λ ns e i there. e
    ∙ ap (map (place_in c.args.uni.now c.args.now.now)) (c.premises-placed.ensures i there).slots)
