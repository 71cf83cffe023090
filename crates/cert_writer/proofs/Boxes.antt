-- Laws of what specs/Boxes defines.
use Rattle.cert_bytes.specs.declared.item.StepRow.{StepRow}
use Rattle.cert_bytes.specs.Certificates.{IsCounted}

-- the step's premises have room in its list
abbrev pub HasShortList : StepRow → Type 0
HasShortList row = IsCounted row.premises
