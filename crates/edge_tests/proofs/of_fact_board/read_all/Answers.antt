use mir.Syntax.{w32}
use denote.Plain.{UInt}
use denote.Exit.{yes}
use denote.Param.Send.{sendable, param_send, arg_send}
use Rattle.fact_board.specs.contracts.token.Token.{the_row}
use Rattle.fact_board.proofs.Sent.{token_send}
use Rattle.edge_tests.proofs.of_fact_board.read_all.Goals as goal

pub map_vec-requires-send-J : goal.map_vec-requires-send-J
map_vec-requires-send-J g c κs within = param_send _ _ (arg_send _ yes (the_row (UInt w32))
    (token_send (UInt w32) (search sendable) (search sendable)))
