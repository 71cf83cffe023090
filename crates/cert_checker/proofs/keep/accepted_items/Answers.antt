use Rattle.cert_bytes.specs.Pieces.{cursor_of}
use Rattle.cert_checker.proofs.Exact.{answered_is_it}
use Rattle.cert_checker.specs.Keeping.{lines_of}
use Rattle.cert_checker.proofs.Keeping.{all_spelled, spelled_so}
use Rattle.cert_checker.proofs.keep.accepted_items.Goals as goal

pub returns-clause-of_told : goal.returns-clause-of_told
returns-clause-of_told g c = λ all h.
    let items = c.keep_items in
    let checks = items.ensures.checks all h in
    let read = items.ensures.read all h in
    record {
      checks = checks;
      exact = λ o comes. answered_is_it c.args.subject (cursor_of all c.args.reader.now.ahead) o
          (lines_of items.result) comes checks;
      read = read;
      spells = λ bytes. spelled_so all c.args.reader.now c.requires.fresh bytes
          c.certificates_are_spelled_once.ensures.spelled items.result read;
    }

pub returns-clause-spelled : goal.returns-clause-spelled
returns-clause-spelled g c =
    all_spelled c.args.subject c.keep_items.result c.keep_items.ensures.accepts
