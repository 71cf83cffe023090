use Rattle.std.proofs.Common.{◌≡◌, true, false, sym, ◌∙◌}
use Rattle.facts.specs.Order.{meet_of}
use Rattle.facts.proofs.Laws.{meet_exists}
use Rattle.derivation.proofs.Parts.{none_some}
use Rattle.box_trace.proofs.Stepped.{met_joined, met_with_step}
use Rattle.box_trace.proofs.log.met.Goals as goal

pub returns-clause-some : goal.returns-clause-some
returns-clause-some c =
    met_joined c.args.row.fact c.args.c c.in-Some.fact (sym c.meet.ensures.is ∙ c.in-Some.is)

pub returns-clause-with : goal.returns-clause-with
returns-clause-with c = met_with_step c.args.row.fact c.args.c c.args.row.number c.requires
    (λ s. (let h : false ≡ true = c.if-stronger.ensures.1 s in cc))

pub unreachable-requires : goal.unreachable-requires
unreachable-requires c =
    let m = meet_exists c.args.row.fact c.args.c c.requires in
    none_some m.0 (meet_of c.args.row.fact c.args.c) (sym c.meet.ensures.is ∙ c.in-None.is) m.1.is
