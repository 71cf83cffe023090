use Rattle.answer_certificates.specs.Laws.{TreesAreProved}
use Rattle.answer_certificates.proofs.Whole.{trees_are_proved}
use Rattle.answer_certificates.proofs.Rooted.{scripts_have_roots}
use Rattle.answer_certificates.proofs.laws.scripts_have_roots.Goals as goal

pub returns-clause-trees : goal.returns-clause-trees
returns-clause-trees c =
    trees_are_proved c.rules_are_lawful.ensures c.best_tables_exist.ensures.exist
    c.boxes_are_listed.ensures c.one_answer.ensures c.few_cuts_end.ensures

pub returns-clause-roots : goal.returns-clause-roots
returns-clause-roots c =
    let trees : TreesAreProved =
    trees_are_proved c.rules_are_lawful.ensures c.best_tables_exist.ensures.exist
    c.boxes_are_listed.ensures c.one_answer.ensures c.few_cuts_end.ensures in
    scripts_have_roots trees c.subjects_are_written.ensures.universes
    c.subjects_are_written.ensures.subjects c.universes_are_one.ensures
