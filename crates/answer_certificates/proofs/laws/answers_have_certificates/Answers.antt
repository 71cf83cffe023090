use Rattle.answer_certificates.proofs.Rooted.{answers_have_certificates, answers_are_spelled}
use Rattle.answer_certificates.proofs.laws.answers_have_certificates.Goals as goal

pub returns-clause-certificates : goal.returns-clause-certificates
returns-clause-certificates c =
    answers_have_certificates c.scripts_have_roots.ensures.roots
    c.subjects_are_written.ensures.few c.certificates_exist.ensures.certificates

pub returns-clause-bytes : goal.returns-clause-bytes
returns-clause-bytes c =
    answers_are_spelled (answers_have_certificates c.scripts_have_roots.ensures.roots
    c.subjects_are_written.ensures.few c.certificates_exist.ensures.certificates)
