-- Why a certificate isn't rewritten whole, where its reader stops.
use Rattle.cert_bytes.specs.declared.fault.Stop.{Stop}
use Rattle.cert_bytes.specs.declared.fault.Stop.TheVariants as cert_stop
use Rattle.cert_upgrade.specs.declared.stop.UpgradeStop.{UpgradeStop}
use Rattle.cert_upgrade.specs.declared.stop.UpgradeStop.TheVariants.{Fault, ReadFailed, OutOfMemory}

-- the same, of a whole run
abbrev pub stop_of : Stop → UpgradeStop
stop_of (cert_stop.Fault f) = Fault f
stop_of cert_stop.Failed = ReadFailed
stop_of cert_stop.OutOfMemory = OutOfMemory
