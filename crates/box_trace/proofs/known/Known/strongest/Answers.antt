use Rattle.std.proofs.Common.{ap, ◌∙◌}
use Rattle.box_trace.specs.Tables.{fact_of}
use Rattle.box_trace.proofs.Rows.{read_at}
use Rattle.box_trace.proofs.known.Known.strongest.Goals as goal

pub returns : goal.returns
returns c = c.fact_of.ensures ∙ ap fact_of (c.at.ensures ∙ read_at c.args.uni.now
    c.laws.ensures.universe.once c.args.self.now c.args.s c.place.result c.place.ensures)
