-- What a reader's stop makes of a call.
use Rattle.std.specs.Prelude.{◌≡◌, ◌≤◌, ℕ, Result, Ok, Err, IsErrOf, refl}
use Rattle.std.proofs.Common.{arith}
use Rattle.fx_edge.specs.Outside.{Rose}
use Rattle.fx_edge.proofs.OutsideLaws.{rose_later}
use Rattle.cert_bytes.specs.declared.fault.CertFault.{CertFault}
use Rattle.cert_bytes.specs.declared.fault.Stop.{Stop}
use Rattle.cert_bytes.specs.declared.fault.Stop.TheVariants as cert_stop
use Rattle.cert_bytes.specs.declared.style.Seen.{Seen}
use Rattle.cert_upgrade.specs.declared.stop.UpgradeStop.{UpgradeStop}
use Rattle.cert_upgrade.specs.declared.stop.UpgradeStop.TheVariants.{NewTooLong, ReadFailed}
use Rattle.cert_upgrade.specs.declared.stop.UpgradeStop.TheVariants.{WriteFailed}
use Rattle.cert_upgrade.specs.Answers.{HasCauseOf, IsBroken}
use Rattle.cert_upgrade.specs.Stops.{stop_of}

-- as a result
abbrev pub stopped : Stop → Result Seen UpgradeStop
stopped stop = Err (stop_of stop)

-- whatever else the result may hold
pub same_stop : {T : Type 0} (a b : Stop) → IsErrOf {T = T} (Err a) b → a ≡ b
same_stop a b e = cc

-- Bytes without a fault stop nothing.
pub broken_so : (stop : Stop) → ((f : CertFault) → stop ≡ cert_stop.Fault f → ⊥)
    → IsBroken (stopped stop)
broken_so (cert_stop.Fault f) n = n f refl
broken_so cert_stop.Failed n = tt
broken_so cert_stop.OutOfMemory n = tt

pub not_long : (stop : Stop) → ¬ (IsErrOf (stopped stop) NewTooLong)
not_long (cert_stop.Fault f) e = cc
not_long cert_stop.Failed e = cc
not_long cert_stop.OutOfMemory e = cc

read_failed : (stop : Stop) → stopped stop ≡ Err ReadFailed → stop ≡ cert_stop.Failed
read_failed (cert_stop.Fault f) e = cc
read_failed cert_stop.Failed e = refl
read_failed cert_stop.OutOfMemory e = cc

no_write_failed : (stop : Stop) → stopped stop ≡ Err WriteFailed → ⊥
no_write_failed (cert_stop.Fault f) e = cc
no_write_failed cert_stop.Failed e = cc
no_write_failed cert_stop.OutOfMemory e = cc

-- A read failed only where the count of reads rose, and no write failed.
pub of_reads : (stop : Stop) (before middle now : ℕ) → before ≤ middle → middle ≤ now
    → (stop ≡ cert_stop.Failed → Rose middle now)
    → HasCauseOf ReadFailed before now (stopped stop)
of_reads stop before middle now l m cause = record {
  later = omega (arith, l, m);
  failed = λ e. rose_later before middle now l (cause (read_failed stop e));
}

pub of_no_writes : (stop : Stop) (before now : ℕ) → before ≤ now
    → HasCauseOf WriteFailed before now (stopped stop)
of_no_writes stop before now l = record {
  later = l;
  failed = λ e. absurd (no_write_failed stop e);
}

-- ---- a stop of another kind is no such stop
pub no_cause : (stop e : UpgradeStop) (before now : ℕ) → (e ≡ stop → ⊥) → before ≤ now
    → HasCauseOf {T = Seen} stop before now (Err e)
no_cause stop e before now n l =
    record { later = l; failed = λ h. let same : e ≡ stop = cc in absurd (n same) }

-- A write failed, which was counted.
pub of_write : (before middle now : ℕ) → before ≤ middle → middle ≤ now → Rose middle now
    → HasCauseOf {T = Seen} WriteFailed before now (Err WriteFailed)
of_write before middle now l m rose =
    record { later = omega (arith, l, m); failed = λ e. rose_later before middle now l rose }

-- Of a call that began later.
pub cause_later : (stop : UpgradeStop) (r : Result Seen UpgradeStop) (before middle now : ℕ)
    → before ≤ middle → HasCauseOf stop middle now r → HasCauseOf stop before now r
cause_later stop r before middle now l h = record {
  later = let m = h.later in omega (arith, l, m);
  failed = λ e. rose_later before middle now l (h.failed e);
}

-- Of a call that wasn't broken off.
pub no_stop : (stop : UpgradeStop) (counts : Seen) (before now : ℕ) → before ≤ now
    → HasCauseOf stop before now (Ok counts)
no_stop stop counts before now l = record { later = l; failed = λ e. cc e }
