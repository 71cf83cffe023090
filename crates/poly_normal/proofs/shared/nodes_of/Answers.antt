use Rattle.std.proofs.Common.{◌++◌, ◌∷◌, [], ap, sym, ◌∙◌, take}
use Rattle.std.proofs.lemmas.List.{take_more}
use Rattle.std.proofs.lemmas.Option.{get_or_from_slice_get, slice_get_within}
use Rattle.poly_normal.proofs.shared.nodes_of.Goals as goal

pub loop-i-preserved : goal.loop-i-preserved
loop-i-preserved c =
    let n = c.node.result in
    let h = slice_get_within c.args.dag.now c.loop-i.i n c.node.ensures.at in
    c.in_ok-push.ensures.items ∙ ap (λ l. l ++ (n ∷ [])) c.loop-i.invariant
    ∙ ap (λ x. take c.loop-i.i c.args.dag.now ++ (x ∷ []))
    (sym (get_or_from_slice_get c.args.dag.now c.loop-i.i n n c.node.ensures.at))
    ∙ sym (take_more c.args.dag.now c.loop-i.i n h)
