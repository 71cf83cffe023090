use Rattle.cert_checker.proofs.Shown.{LineLaws}
use Rattle.cert_checker.proofs.AcceptedHolds.{holds_over_certificates}
use Rattle.cert_checker.proofs.OverScripts.{accepted_holds, in_order_holds, checked_holds}
use Rattle.cert_checker.proofs.laws.accepted_lines_hold.Goals as goal

pub returns-clause-certificate : goal.returns-clause-certificate
returns-clause-certificate c =
    let lines = c.lines_hold.ensures in
    let laws : LineLaws =
    record { first = lines.first; more = lines.more; kind = c.settling_facts.ensures.kind } in
    holds_over_certificates laws c.conclusions_are_sound.ensures

pub returns-clause-script : goal.returns-clause-script
returns-clause-script c =
    let lines = c.lines_hold.ensures in
    let laws : LineLaws =
    record { first = lines.first; more = lines.more; kind = c.settling_facts.ensures.kind } in
    accepted_holds laws c.conclusions_are_sound.ensures c.values_stay.ensures

pub returns-clause-order : goal.returns-clause-order
returns-clause-order c =
    let lines = c.lines_hold.ensures in
    let laws : LineLaws =
    record { first = lines.first; more = lines.more; kind = c.settling_facts.ensures.kind } in
    in_order_holds laws c.conclusions_are_sound.ensures c.values_stay.ensures

pub returns-clause-bytes : goal.returns-clause-bytes
returns-clause-bytes c =
    let lines = c.lines_hold.ensures in
    let laws : LineLaws =
    record { first = lines.first; more = lines.more; kind = c.settling_facts.ensures.kind } in
    checked_holds laws c.conclusions_are_sound.ensures c.values_stay.ensures
