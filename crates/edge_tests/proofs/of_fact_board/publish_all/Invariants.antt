use Rattle.std.proofs.Common.{◌≡◌, All}
use Rattle.edge_tests.proofs.of_fact_board.publish_all.Given as goal

abbrev pub invariant-loop-entry : goal.invariant-loop-entry
invariant-loop-entry g l = All (λ t. t.board ≡ l.board) l.tokens.items
