use Rattle.std.proofs.Common.{Some}
use Rattle.cert_tests.proofs.of_cert_trim.trimmed.Goals as goal

pub accepted_items-requires-clause-agrees : goal.accepted_items-requires-clause-agrees
accepted_items-requires-clause-agrees c = c.in_ok-reader.ensures.agrees (Some _)

pub trim-requires : goal.trim-requires
trim-requires c =
    let whole = c.in-Ok.ensures.accepts in (c.args.subject, whole.end, whole.leads)
