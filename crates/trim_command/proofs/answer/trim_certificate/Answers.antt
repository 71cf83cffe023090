use Rattle.std.proofs.Common.{Err, ap}
use Rattle.trim_command.proofs.Written.{answers_over, breaks_over, starves_over}
use Rattle.trim_command.proofs.answer.trim_certificate.Goals as goal

pub returns-in-Ok-write_trimmed-clause-answers : goal.returns-in-Ok-write_trimmed-clause-answers
returns-in-Ok-write_trimmed-clause-answers g c =
    answers_over c.args.script.now _ _ _ _ (c.in-Ok.ensures.only_reads.told c.args.new.now)
    c.laws.ensures.spelled c.in-Ok.accepted.items.items c.in-Ok.ensures.trimmable
    c.in-Ok-write_trimmed.answer.0 c.in-Ok-write_trimmed.answer.1.items
    c.in-Ok-write_trimmed.ensures.writes

pub returns-in-Err-Failed-write_trimmed-clause-unwritten :
    goal.returns-in-Err-Failed-write_trimmed-clause-unwritten
returns-in-Err-Failed-write_trimmed-clause-unwritten g c = λ e.
    breaks_over c.args.script.now _ _ _ _ (c.in-Ok.ensures.only_reads.told c.args.new.now)
    c.laws.ensures.spelled c.in-Ok.accepted.items.items c.in-Ok.ensures.trimmable
    (c.in-Err-Failed-write_trimmed.ensures.begun
    (ap Err c.in-Err-Failed-write_trimmed.field-0-is))

pub returns-in-Ok-clause-starved : goal.returns-in-Ok-clause-starved
returns-in-Ok-clause-starved g c = λ e.
    starves_over c.args.script.now _ _ _ _ (c.in-Ok.ensures.only_reads.told c.args.new.now)
    c.laws.ensures.spelled c.in-Ok.accepted.items.items c.in-Ok.ensures.trimmable
    (c.in-Err-OutOfMemory-write_trimmed.ensures.starved
    (ap Err c.in-Err-OutOfMemory-write_trimmed.field-0-is))
