use Rattle.cert_bytes.specs.declared.item.Item.TheVariants as item
use Rattle.cert_bytes.specs.Styles.{none_seen}
use Rattle.cert_writer.proofs.Seen.{nodes_seen}
use Rattle.cert_writer.proofs.Spelled.{spelled_next}
use Rattle.cert_writer.proofs.head.spell_nodes.Goals as goal

pub put-requires : goal.put-requires
put-requires c = (c.laws.ensures.lawful _ c.node.result c.node.ensures.at).limits

pub loop-k-preserved : goal.loop-k-preserved
loop-k-preserved c = spelled_next (λ n. item.Node n) (nodes_seen none_seen) c.args.nodes.now
    c.loop-k.k c.node.result _ _ _ c.node.ensures.at c.loop-k.invariant c.in_ok-put.ensures
