-- A token may go to another thread, and be shared there.
use denote.RattleType.{RattleType}
use denote.Param.Send.{IsSend, IsSync, part_keyless, sendable}
use Rattle.boxcar.proofs.table.Placed.TheSendSync as placed_s
use Rattle.std.specs.contracts.snapshot.Snapshot as snapshot
use Rattle.fact_board.specs.contracts.token.Token.{the_row}

pub token_send : (E : RattleType) → IsSend E → IsSync E → IsSend (the_row E)
token_send E sent shared = search sendable depth 20

-- a copy of a value that only proofs read owns nothing
snapshot_send : (Y : RattleType) → IsSend (snapshot.the_row Y)
snapshot_send Y =
    record { owned = λ d vs. ((λ vss. (tt, ((λ uss. (tt, tt)), tt))), tt); leaving = λ k f vs. tt }

snapshot_sync : (Y : RattleType) → IsSync (snapshot.the_row Y)
snapshot_sync Y =
    record { shared = λ d b o κ q. part_keyless (snapshot.the_row Y) (snapshot_send Y) q d b o }

pub token_sync : (E : RattleType) → IsSend E → IsSync E → IsSync (the_row E)
token_sync E sent shared = search (sendable, placed_s.the_sync, snapshot_sync) depth 20
