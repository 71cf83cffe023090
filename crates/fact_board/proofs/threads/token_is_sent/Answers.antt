use denote.Param.{param}
use denote.Exit.{yes}
use denote.Param.Send.{param_send, arg_send}
use Rattle.fact_board.specs.contracts.token.Token.{the_row}
use Rattle.fact_board.proofs.Sent.{token_send}
use Rattle.fact_board.proofs.threads.token_is_sent.Goals as goal

pub sends-requires-send-X : goal.sends-requires-send-X
sends-requires-send-X g c κs within =
    param_send _ _ (arg_send _ yes (the_row (param 0 g.row.E))
    (token_send (param 0 g.row.E) c.type_bounds.send-E c.type_bounds.sync-E))
