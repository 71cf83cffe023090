use Rattle.cert_bytes.proofs.Whole.{none_begins_another, spells_once}
use Rattle.cert_bytes.proofs.OneFault.{reads_are_spelled, spelled_are_read, spell_or_fail}
use Rattle.cert_bytes.proofs.OneFault.{never_both, one_fault}
use Rattle.cert_bytes.proofs.laws.certificates_are_spelled_once.Goals as goal

pub returns : goal.returns
returns c = record {
  front = none_begins_another;
  once = spells_once;
  spelled = reads_are_spelled;
  read = spelled_are_read;
  either = spell_or_fail;
  never_both = never_both;
  one_fault = one_fault;
}
