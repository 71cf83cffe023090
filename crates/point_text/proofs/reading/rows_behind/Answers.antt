use Rattle.std.proofs.Common.{refl}
use Rattle.point_text.proofs.Distinct.{spelled_distinct}
use Rattle.point_text.proofs.Faults.{fault_is}
use Rattle.point_text.proofs.Missing.{missing_told, bad_told, spelled_all}
use Rattle.point_text.proofs.reading.rows_behind.Goals as goal

pub returns-in-Some-clause-fault : goal.returns-in-Some-clause-fault
returns-in-Some-clause-fault c = λ f e.
    bad_told c.reads_literals.ensures c.args.script.now.variables c.args.text.now
    c.args.tokens.now c.args.bad c.args.rows.now _ c.end_of.result f c.requires.short
    c.requires.lexed c.requires.gathered c.in-Some.is c.end_of.ensures
    (fault_is c.end_of.result f e)

pub returns-in-None-clause-spelled : goal.returns-in-None-clause-spelled
returns-in-None-clause-spelled c =
    spelled_all c.args.script.now.variables c.args.text.now c.args.tokens.now c.args.bad
    c.args.rows.now c.all_rows.result c.requires.short c.requires.lexed c.in-None.is
    c.requires.gathered c.requires.count c.all_rows.ensures.count c.all_rows.ensures.all

pub returns-in-None-clause-fault : goal.returns-in-None-clause-fault
returns-in-None-clause-fault c = λ f e.
    missing_told c.reads_literals.ensures c.args.script.now.variables c.args.text.now
    c.args.tokens.now c.args.bad c.args.rows.now _ f
    (spelled_distinct c.args.script.now.text c.args.script.now c.laws.ensures.spelled)
    c.requires.short c.requires.lexed c.in-None.is c.requires.gathered refl
    (c.all_rows.ensures.missing f e)
