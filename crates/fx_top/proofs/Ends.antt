-- How runs end that come to no command.
use Rattle.std.specs.Prelude.{◌≡◌, Option, Some, None}
use Rattle.std.specs.Io.KnownBytes.{Keeps}
use Rattle.std.proofs.Common.{inr, refl, sym, subst}
use Rattle.command_line.specs.Usage.{usage_line}
use Rattle.command_runs.proofs.Ends.{IsPutBy, IsOnce, put_runs, starved_of, keeps_file, run_by}
use Rattle.command_runs.specs.Fates.{Left, IsUntouched, MayWrite}
use Rattle.command_runs.specs.Fates.Left.{Kept}
use Rattle.command_runs.specs.Runs.{Bytes, Run, IsKept}
use Rattle.command_runs.specs.declared.status.Status.{Status}
use Rattle.command_runs.specs.declared.status.Status.TheVariants as status
use Rattle.fx_top.specs.Commands.{Command}
use Rattle.fx_top.specs.Commands.Command.{Prove, Check, Gen, Upgrade, Fix, At, Trim, Batch}
use Rattle.fx_top.specs.Run.{UsageFate, IsRun}

-- the one status of words that ask for nothing
is_usage : (s : Status) (lines : Bytes) (left : Left) → UsageFate s lines left
    → (s ≡ status.Usage) × (left ≡ Kept)
is_usage status.Usage lines left (is, kept) = (refl, kept)
is_usage _ lines left p = absurd p

usage_once : IsOnce UsageFate
usage_once s t ls ms l m n k p q =
    let a : s ≡ status.Usage = (is_usage s ls l p).0 in
    let b : t ≡ status.Usage = (is_usage t ms m q).0 in
    cc (a, b)

pub keeps_same : (o : Option Bytes) → Keeps o o
keeps_same None = tt
keeps_same (Some x) = refl

-- the words ask for nothing, the usage line was put, and nothing else was done
pub usage_run : (c : Option Command) (r : Run) → c ≡ None → ((n : Bytes) → IsKept r n)
    → IsPutBy status.Usage usage_line r → IsRun c r
usage_run c r none kept put = subst (λ k. IsRun k r) (sym none)
    (run_by None (λ name. ⊥) MayWrite UsageFate r tt tt
    (λ s lines left still p. (is_usage s lines left p).1) (λ told. usage_once)
    (put_runs None UsageFate r status.Usage usage_line Kept (refl, refl) (λ n _. kept n) refl
    (keeps_file None r kept) put))

-- memory ran out before the words were read
pub starved_run : (c : Option Command) (r : Run) → r.status ≡ status.OutOfMemory → IsUntouched r
    → IsRun c r
starved_run None r same u = starved_of None (λ name. ⊥) MayWrite UsageFate r tt same u
starved_run (Some (Prove a)) r same u = starved_of _ _ _ _ r tt same u
starved_run (Some (Check a)) r same u = record {
  ends = starved_of _ _ _ _ r tt same u;
  accepted = λ text all script cert p. inr (inr (inr same));
}
starved_run (Some (Gen n)) r same u = starved_of _ _ _ _ r tt same u
starved_run (Some (Upgrade a)) r same u = starved_of _ _ _ _ r tt same u
starved_run (Some (Fix a)) r same u = starved_of _ _ _ _ r tt same u
starved_run (Some (At a)) r same u = starved_of _ _ _ _ r tt same u
starved_run (Some (Batch a)) r same u = starved_of _ _ _ _ r tt same u
starved_run (Some (Trim a)) r same u = record {
  ends = starved_of _ _ _ _ r tt same u;
  accepted = λ text all items script cert p spelled few. inr (inr (inr same));
}
