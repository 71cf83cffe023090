use Rattle.std.proofs.Common.{◌≡◌, ◌≤◌, ◌^◌, ◌++◌, ℕ, List, Some}
use Rattle.fx_edge.specs.OnlyReads.{OnlyReads}
use Rattle.cert_bytes.specs.declared.item.Item.{Item}
use Rattle.cert_bytes.specs.declared.order.DueItem.TheVariants.{Head}
use Rattle.cert_bytes.specs.Certificates.{AreDue, AreCertificate}
use Rattle.cert_bytes.specs.Pieces.{cursor_of, name_of}
use Rattle.cert_bytes.specs.Calls.{ReadsOn}
use Rattle.cert_bytes.specs.ReadOut.{AreRead}
use Rattle.cert_checker.specs.Contexts.{first}
use Rattle.cert_checker.specs.Accepted.{LeadsTo}
use Rattle.cert_checker.proofs.Turns.{Reaches, IsSteady, turns_left}
use Rattle.cert_checker.proofs.keep.keep_items.Given as goal

abbrev pub invariant-loop-chain : goal.invariant-loop-chain
invariant-loop-chain g l = record {
  steady : IsSteady l.fn.subject l.chain l.reader;
  within : l.reader.ahead.at ≤ 2 ^ 44;
  reaches : (all : List ℕ) → g.F.Folder.told l.fn.folder l.fn.reader.ahead.name ≡ Some all
      → Reaches l.fn.subject all l.fn.reader l.chain l.reader;
  read : (all : List ℕ) → g.F.Folder.told l.fn.folder l.fn.reader.ahead.name ≡ Some all
      → (later : List Item) → AreRead l.reader.due (cursor_of all l.reader.ahead) later
      → AreRead Head (cursor_of all l.fn.reader.ahead) (l.items.items ++ later);
  led : LeadsTo l.fn.subject (first l.fn.subject) l.items.items l.chain.context;
  whole : (later : List Item) → AreDue (Some l.reader.due) later
      → AreCertificate (l.items.items ++ later);
  reads_on : ReadsOn name_of (g.F.Folder.told l.folder) l.fn.reader.ahead l.reader.ahead;
  only_reads : OnlyReads g.F.Folder l.fn.folder l.folder ⊥;
}

abbrev pub decreases-loop-chain : goal.decreases-loop-chain
decreases-loop-chain g l = turns_left l.chain.context.ended l.reader.ahead.at
