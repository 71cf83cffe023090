use Rattle.cert_bytes.specs.Pieces.{cursor_of}
use Rattle.cert_checker.proofs.Exact.{answered_is_it, accepted_so}
use Rattle.cert_checker.proofs.check.check_subject.Goals as goal

pub returns-clause-of_told : goal.returns-clause-of_told
returns-clause-of_told g c = λ all h.
    let checks = c.check_items.ensures.checks all h in
    record {
      checks = checks;
      exact = λ o comes. answered_is_it c.args.subject (cursor_of all c.args.reader.now.ahead) o
          c.check_items.result comes checks;
      accepts = λ bytes. accepted_so c.bytes_are_accepted.ensures.spelled c.args.subject all
          c.args.reader.now c.requires.fresh bytes c.check_items.result checks;
    }
