-- Stops that are handed on.
use Rattle.cert_bytes.specs.declared.fault.Stop.{Stop}
use Rattle.cert_bytes.specs.declared.fault.Stop.TheVariants as stop
use Rattle.cert_checker.specs.declared.fault.TakeStop.{TakeStop}
use Rattle.cert_checker.specs.declared.fault.TakeStop.TheVariants as take_stop
use Rattle.cert_checker.specs.declared.fault.CheckStop.{CheckStop}
use Rattle.cert_checker.specs.declared.fault.CheckStop.TheVariants as check_stop

-- Why checking stops where reading the certificate has stopped.
abbrev pub of_reading : Stop → CheckStop
of_reading (stop.Fault f) = check_stop.Cert f
of_reading stop.Failed = check_stop.Failed
of_reading stop.OutOfMemory = check_stop.OutOfMemory

-- Why checking stops where an item wasn't taken: its fault, or lack of memory.
abbrev pub of_taking : TakeStop → CheckStop
of_taking (take_stop.Check f) = check_stop.Check f
of_taking take_stop.OutOfMemory = check_stop.OutOfMemory
