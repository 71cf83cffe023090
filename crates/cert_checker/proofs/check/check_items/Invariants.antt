use Rattle.std.proofs.Common.{◌≡◌, ◌≤◌, ◌^◌, ℕ, List, Some}
use Rattle.fx_edge.specs.OnlyReads.{OnlyReads}
use Rattle.cert_bytes.specs.Pieces.{name_of}
use Rattle.cert_bytes.specs.Calls.{ReadsOn}
use Rattle.cert_checker.proofs.Turns.{Reaches, IsSteady, turns_left}
use Rattle.cert_checker.proofs.check.check_items.Given as goal

abbrev pub invariant-loop-chain : goal.invariant-loop-chain
invariant-loop-chain g l = record {
  steady : IsSteady l.fn.subject l.chain l.reader;
  within : l.reader.ahead.at ≤ 2 ^ 44;
  reaches : (all : List ℕ) → g.F.Folder.told l.fn.folder l.fn.reader.ahead.name ≡ Some all
      → Reaches l.fn.subject all l.fn.reader l.chain l.reader;
  reads_on : ReadsOn name_of (g.F.Folder.told l.folder) l.fn.reader.ahead l.reader.ahead;
  only_reads : OnlyReads g.F.Folder l.fn.folder l.folder ⊥;
}

abbrev pub decreases-loop-chain : goal.decreases-loop-chain
decreases-loop-chain g l = turns_left l.chain.context.ended l.reader.ahead.at
