use Rattle.std.proofs.Common.{arith, map, rules, string_bytes}
use Rattle.settler.specs.Answers.{options_from}
use Rattle.batch_command.specs.Told.{AreAnswers, AreRead}
use Rattle.batch_command.proofs.Listed.{all_printed_so, as_many}
use Rattle.batch_command.proofs.Taken.{texts_many}
use Rattle.batch_command.proofs.run.prove_scripts.Goals as goal

pub answer_texts-requires-clause-some : goal.answer_texts-requires-clause-some
answer_texts-requires-clause-some g c κs within =
    let read : AreRead (g.F.Folder.told c.args.folder.now) (map string_bytes c.args.names.now)
    c.deref.result.now = search rules in
    let many = texts_many (g.F.Folder.told c.args.folder.now) c.args.names.now
    c.deref.result.now read in
    omega (arith, many, c.requires.some)

pub answer_texts-requires-clause-few : goal.answer_texts-requires-clause-few
answer_texts-requires-clause-few g c κs within =
    let read : AreRead (g.F.Folder.told c.args.folder.now) (map string_bytes c.args.names.now)
    c.deref.result.now = search rules in
    let many = texts_many (g.F.Folder.told c.args.folder.now) c.args.names.now
    c.deref.result.now read in
    omega (arith, many, c.requires.few)

pub print_answers-requires : goal.print_answers-requires
print_answers-requires g c =
    let read : AreRead (g.F.Folder.told c.args.folder.now) (map string_bytes c.args.names.now)
    c.deref.result.now = search rules in
    let answers : AreAnswers (options_from c.args.options) c.deref.result.now
    c.deref-in-Read.result.now = search rules in
    let many = texts_many (g.F.Folder.told c.args.folder.now) c.args.names.now
    c.deref.result.now read in
    let answered = as_many (options_from c.args.options) c.deref.result.now
    c.deref-in-Read.result.now answers in
    record { many = omega (arith, many, answered) }

pub returns-in_ok-answers-in-Read-clause-prints : goal.returns-in_ok-answers-in-Read-clause-prints
returns-in_ok-answers-in-Read-clause-prints g c =
    let read : AreRead (g.F.Folder.told c.args.folder.now) (map string_bytes c.args.names.now)
    c.deref.result.now = search rules in
    let answers : AreAnswers (options_from c.args.options) c.deref.result.now
    c.deref-in-Read.result.now = search rules in
    all_printed_so _ (options_from c.args.options) (g.F.Folder.told c.args.folder.now)
    (map string_bytes c.args.names.now) c.deref.result.now c.deref-in-Read.result.now
    c.print_answers.result read answers c.print_answers.ensures.status c.print_answers.ensures.lines
