use Rattle.cert_bytes.specs.Pieces.{cursor_of}
use Rattle.cert_checker.specs.Keeping.{lines_of}
use Rattle.script_checker.proofs.Kept.{accepted_for}
use Rattle.script_checker.proofs.OneSubject.{few_goals, few_marks, checks_for, exact_for}
use Rattle.script_checker.proofs.items.script_items.Goals as goal

pub accepted_items-requires-clause-countable : goal.accepted_items-requires-clause-countable
accepted_items-requires-clause-countable g c = record {
  goals = few_goals c.args.script.now _ c.in_ok-subject.ensures c.laws.ensures.goals;
  marks = few_marks c.args.script.now _ c.in_ok-subject.ensures c.laws.ensures.few;
}

pub returns-clause-of_told : goal.returns-clause-of_told
returns-clause-of_told g c = λ all h.
    let s = c.args.script.now in
    let is = c.in_ok-subject.ensures in
    let place = cursor_of all c.args.reader.now.ahead in
    let lines = lines_of c.accepted_items.result in
    let answers = c.accepted_items.ensures.of_told all h in
    record {
      checks = checks_for s _ is place lines answers.checks;
      exact = exact_for s _ is place lines answers.exact;
      read = answers.read;
      spells = answers.spells;
    }

pub returns-clause-accepts : goal.returns-clause-accepts
returns-clause-accepts g c =
    accepted_for c.args.script.now _ c.in_ok-subject.ensures c.accepted_items.result
    c.accepted_items.ensures.accepts
