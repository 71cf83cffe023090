use Rattle.std.proofs.Common.{string_bytes}
use Rattle.std.proofs.lemmas.Map.Text.{btree_map_updates_text}
use Rattle.fx_edge.proofs.LastFile.{last_file-insert}
use Rattle.fx_edge.proofs.files.Files.new.Goals as goal

pub loop-name-preserved-in_ok-insert : goal.loop-name-preserved-in_ok-insert
loop-name-preserved-in_ok-insert c = λ q.
    let updated = btree_map_updates_text (string_bytes c.in-Some.name) c.loop-name.by_name
    c.insert.new.self _ c.in_ok-insert.ensures.updates q in
    last_file-insert c.args.room c.loop-name.yielded
    (c.in-Some.name, c.in-Some.bytes) q _ _ _ c.in_ok-new.ensures (c.loop-name.invariant q) updated

pub loop-name-preserved : goal.loop-name-preserved
loop-name-preserved c = λ q.
    let updated = btree_map_updates_text (string_bytes c.in-Some.name) c.loop-name.by_name
    c.insert.new.self _ c.in_ok-insert.ensures.updates q in
    last_file-insert c.args.room c.loop-name.yielded
    (c.in-Some.name, c.in-Some.bytes) q _ _ _ c.in_ok-new.ensures (c.loop-name.invariant q) updated
