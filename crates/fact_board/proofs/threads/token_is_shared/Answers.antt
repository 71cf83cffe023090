use denote.Param.{param}
use denote.Exit.{yes}
use denote.Param.Send.{param_sync, arg_sync}
use Rattle.fact_board.specs.contracts.token.Token.{the_row}
use Rattle.fact_board.proofs.Sent.{token_sync}
use Rattle.fact_board.proofs.threads.token_is_shared.Goals as goal

pub shares-requires-sync-X : goal.shares-requires-sync-X
shares-requires-sync-X g c κs within =
    param_sync _ _ (arg_sync _ yes (the_row (param 0 g.row.E))
    (token_sync (param 0 g.row.E) c.type_bounds.send-E c.type_bounds.sync-E))
