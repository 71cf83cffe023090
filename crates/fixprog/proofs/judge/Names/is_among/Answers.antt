use Rattle.std.proofs.Common.{sym, ap, ◌∙◌}
use Rattle.std.specs.List.{list_any}
use Rattle.std.specs.Str.{bytes_eq}
use Rattle.fixprog.proofs.NameTests.{any_mapped}
use Rattle.fixprog.proofs.judge.Names.is_among.Goals as goal

pub returns : goal.returns
returns c = c.has_name.ensures ∙ ap (list_any (λ n. bytes_eq c.args.name.now n.now))
    c.as_slice.ensures.value ∙ sym (any_mapped (bytes_eq c.args.name.now) (λ t. t.now)
    c.args.self.now.names.items)
