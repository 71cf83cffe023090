use Rattle.std.proofs.Common.{◌≡◌, ap, ◌∙◌, arith}
use Rattle.cert_trim.specs.Trimmed.{step_count}
use Rattle.cert_trim.proofs.Counts.{count_most}
use Rattle.cert_trim.proofs.behind.trim_behind.Goals as goal

pub left_behind-requires-clause-room : goal.left_behind-requires-clause-room
left_behind-requires-clause-room c =
    let few = count_most c.args.items.items in
    let counted : c.count_steps-all.result ≡ step_count c.args.items.items =
    c.count_steps-all.ensures ∙ ap step_count c.as_slice.ensures.value in
    omega (arith, few, counted, c.requires.room, c.args.items.ok.0)
