use Rattle.cert_writer.specs.Courses.{setting}
use Rattle.cert_writer.proofs.laws.walk_goes_on.Goals as goal

pub returns : goal.returns
returns c = record {
  writing = c.writing_goes_on.ensures;
  moves = c.walks_move.ensures;
  tables = c.best_tables_exist.ensures.one;
  states = c.boxes_come_to_one_state.ensures;
  best = λ x is pieces. c.best_tables_exist.ensures.exist (setting x) (c.rules_are_lawful.ensures
      x.aim.world.nodes x.aim.world.hints) is.whole.closed x.aim.height pieces;
  pieces = c.pieces_are_of_cuts.ensures c.args.plan.now;
  one_more = c.covers.ensures.one_more;
}
