-- The printed lines of certificates that aren't accepted, or are rewritten, as bytes. Each ends
-- with a line feed.
use Rattle.std.specs.Prelude.{◌++◌, codes}
use Rattle.std.specs.Fmt.{decimal}
use Rattle.cert_bytes.specs.declared.fault.CertFault.{CertFault}
use Rattle.cert_bytes.specs.declared.fault.CertKind.{CertKind}
use Rattle.cert_bytes.specs.declared.fault.CertKind.TheVariants as kind
use Rattle.cert_bytes.specs.declared.style.Seen.{Seen}
use Rattle.cert_checker.specs.declared.fault.CheckFault.{CheckFault}
use Rattle.cert_checker.specs.declared.fault.CheckFault.TheVariants as fault
use Rattle.report.specs.Lines.{Bytes}

-- the name of what is wrong with the bytes
abbrev pub cert_kind_text : CertKind → Bytes
cert_kind_text kind.BadMagic = codes "BadMagic"
cert_kind_text kind.BadVersion = codes "BadVersion"
cert_kind_text kind.Truncated = codes "Truncated"
cert_kind_text kind.BadTag = codes "BadTag"
cert_kind_text kind.BadNumber = codes "BadNumber"
cert_kind_text kind.BadCount = codes "BadCount"
cert_kind_text kind.TrailingBytes = codes "TrailingBytes"
cert_kind_text kind.TooLong = codes "TooLong"

-- of bytes that spell no certificate: why, and at which byte, counted from 0
abbrev pub cert_fault_line : CertFault → Bytes
cert_fault_line f =
    codes "certificate: " ++ cert_kind_text f.kind ++ codes " at " ++ decimal f.at ++ codes "\n"

-- what is wrong with an item, with its numbers, one space before each
abbrev pub check_fault_text : CheckFault → Bytes
check_fault_text (fault.BadStep step) = codes "BadStep " ++ decimal step
check_fault_text (fault.BadPremise step) = codes "BadPremise " ++ decimal step
check_fault_text (fault.BadCut section) = codes "BadCut " ++ decimal section
check_fault_text (fault.GoalMissing section goal) =
    codes "GoalMissing " ++ decimal section ++ codes " " ++ decimal goal
check_fault_text (fault.HintMark hint) = codes "HintMark " ++ decimal hint
check_fault_text (fault.WrongScript node) = codes "WrongScript " ++ decimal node
check_fault_text (fault.BadNode node) = codes "BadNode " ++ decimal node
check_fault_text (fault.BadCases count) = codes "BadCases " ++ decimal count

-- of the first item that isn't accepted
abbrev pub check_fault_line : CheckFault → Bytes
check_fault_line f = codes "certificate: " ++ check_fault_text f ++ codes "\n"

-- of a certificate that was rewritten: how many sections and steps it has
abbrev pub upgraded_line : Seen → Bytes
upgraded_line counts =
    codes "upgraded: " ++ decimal counts.sections ++ codes " sections, "
    ++ decimal counts.steps ++ codes " steps\n"

-- of one that would be too long
abbrev pub new_too_long_line : Bytes
new_too_long_line = codes "certificate: NewTooLong at 17592186044416\n"
