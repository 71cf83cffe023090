-- One move after the other.
use Rattle.tree_certificates.proofs.Treed.{rows_lead, rows_placed, cut_enters, leaf_ends, dead_ends}
use Rattle.tree_certificates.proofs.Treed.{piece_follows, box_ends}
use Rattle.tree_certificates.proofs.Rooted.{rest_of_walk, next_case}
use Rattle.tree_certificates.proofs.laws.walks_move.Goals as goal

pub returns : goal.returns
returns c = record {
  written = rows_lead;
  placed = rows_placed;
  enters = cut_enters;
  settled = leaf_ends;
  void = dead_ends;
  follows = piece_follows;
  ends = box_ends;
  rest = rest_of_walk;
  next_case = next_case;
}
