use Rattle.std.specs.Prelude.{◌≡◌, ◌++◌, length}
use Rattle.std.proofs.Common.{◌∙◌, ap, arith}
use Rattle.std.proofs.lemmas.Grind.{common_steps}
use Rattle.cert_bytes.specs.declared.item.Item.TheVariants as item
use Rattle.cert_bytes.specs.Styles.{none_seen}
use Rattle.cert_bytes.specs.Spelling.{spelling_of}
use Rattle.cert_writer.proofs.Spelled.{spelled_head}
use Rattle.cert_writer.proofs.head.spell_head.Goals as goal

pub returns : goal.returns
returns c =
    let old = c.args.out.now.items in
    let nodes = c.spell_nodes.new.out.items in
    let first : c.put.new.out.items
    ≡ old ++ spelling_of none_seen (item.Nodes (length c.args.nodes.now)) =
    c.in_ok-put.ensures
    ∙ ap (λ n. old ++ spelling_of none_seen (item.Nodes n)) c.len.ensures.len in
    let second : c.put-2.new.out.items
    ≡ nodes ++ spelling_of none_seen (item.Marks (length c.args.marks.now)) =
    grind (arith, common_steps, c.in_ok-put-2.ensures, c.requires.few) in
    spelled_head c.args.nodes.now c.args.marks.now c.args.cases old c.put.new.out.items
    nodes c.put-2.new.out.items c.spell_marks.new.out.items c.spell_cases.new.out.items
    first c.in_ok-spell_nodes.ensures second c.in_ok-spell_marks.ensures
    c.in_ok-spell_cases.ensures
