use Rattle.std.proofs.Common.{◌≡◌, ◌≤◌, ◌+◌, ◌*◌, length}
use Rattle.std.specs.List.{Contains}
use Rattle.derivation.specs.Rounds.{IsAhead}
use Rattle.derivation.specs.Changes.{IsListed}
use Rattle.rule_universe.specs.declared.placed.Placed.{Placed}
use Rattle.rule_universe.specs.Placed.{slots_of, IsPlaced}
use Rattle.saturate.specs.Universes.{setting_of}
use Rattle.tree_certificates.specs.Writing.{IsWritable}
use Rattle.box_trace.specs.Tables.{known_at, HasRows}
use Rattle.box_trace.proofs.Scans.{most_for}
use Rattle.box_trace.specs.Rounds.{AddsSteps}
use Rattle.box_trace.specs.Logs.{GoesOnFrom}
use Rattle.box_trace.proofs.Beyond.{beyond_below}
use Rattle.box_trace.proofs.Scanned.{IsWritten}
use Rattle.box_trace.proofs.writing.write.Given as goal

abbrev pub invariant-loop-p : goal.invariant-loop-p
invariant-loop-p l = record {
  ahead : IsAhead (setting_of l.uni) (known_at l.uni l.now) (known_at l.uni l.log.known)
      (IsWritten l.uni (known_at l.uni l.now) l.ends l.p);
  listed : IsListed (slots_of l.changed.items) (known_at l.uni l.now) (known_at l.uni l.log.known);
  placed : (x : Placed) → Contains l.changed.items x → IsPlaced (length l.uni.nodes) l.uni.pairs x;
  goes_on : IsWritable (setting_of l.uni) l.uni.hints → GoesOnFrom l.uni l.now l.initial.log l.log;
  rows : HasRows l.uni l.log.known;
  adds : AddsSteps l.uni l.now (2 * beyond_below l.uni l.p) l.initial.log l.log;
  first : l.log.first ≡ l.initial.log.first;
  few : length l.log.steps.items
      ≤ length l.initial.log.steps.items + most_for (length l.uni.nodes) l.p;
}
