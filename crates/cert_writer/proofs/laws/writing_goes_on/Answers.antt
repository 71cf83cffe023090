use Rattle.cert_writer.proofs.GoesOn.{begun, ended, enters, settles, voids, follows, ends}
use Rattle.cert_writer.proofs.GoesOn.{next_case, whole}
use Rattle.cert_writer.proofs.Begun.{begins}
use Rattle.cert_writer.proofs.Trimmed.{trims}
use Rattle.cert_writer.proofs.laws.writing_goes_on.Goals as goal

pub returns : goal.returns
returns c = record {
  begins = begins c.certificates_exist.ensures.traces;
  begun = begun c.certificates_exist.ensures.walks c.walks_move.ensures;
  ended = ended c.certificates_exist.ensures.walks c.walks_move.ensures;
  enters = enters c.certificates_exist.ensures.walks c.walks_move.ensures;
  settles = settles c.certificates_exist.ensures.walks c.walks_move.ensures;
  voids = voids c.certificates_exist.ensures.walks c.walks_move.ensures;
  trims = trims c.leaves_are_trimmed.ensures.leaves c.leaves_are_trimmed.ensures.order
      c.leaves_are_trimmed.ensures.fewer;
  follows = follows c.certificates_exist.ensures.walks c.walks_move.ensures;
  ends = ends c.certificates_exist.ensures.walks c.walks_move.ensures;
  next_case = next_case c.certificates_exist.ensures.walks c.walks_move.ensures;
  whole =
      whole c.certificates_exist.ensures.walks c.walks_move.ensures c.spellings_are_short.ensures;
}
