use Rattle.answer_certificates.proofs.Whole.{instances_are_few}
use Rattle.answer_certificates.proofs.Written.{universes_are_written}
use Rattle.answer_certificates.proofs.Judged.{subjects_are_of_universes}
use Rattle.answer_certificates.proofs.laws.subjects_are_written.Goals as goal

pub returns-clause-universes : goal.returns-clause-universes
returns-clause-universes c =
    universes_are_written c.rules_are_lawful.ensures c.rules_fit_steps.ensures

pub returns-clause-subjects : goal.returns-clause-subjects
returns-clause-subjects c = subjects_are_of_universes

pub returns-clause-few : goal.returns-clause-few
returns-clause-few c = instances_are_few
