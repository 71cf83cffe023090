use Rattle.std.proofs.Common.{◌++◌, ◌∙◌, ap}
use Rattle.cert_bytes.specs.Spelling.{spelled_behind}
use Rattle.cert_writer.proofs.spell.spell_box.Goals as goal

pub returns-clause-spelled : goal.returns-clause-spelled
returns-clause-spelled c = c.in_ok-next.ensures.spelled
    ∙ ap (λ bs. bs ++ spelled_behind c.args.seen c.args.items.now) c.new-bytes.ensures.items
