use Rattle.std.proofs.Common.{refl, length}
use Rattle.cert_bytes.specs.Styles.{seen_after}
use Rattle.whole_texts.proofs.OnlyWrites.{only_writes_on}
use Rattle.cert_rewriting.proofs.Written.{on_err, writing_front}
use Rattle.cert_rewriting.proofs.Turns.{turn_on, turn_breaks, spelled_later, steps_on, sections_on}
use Rattle.cert_rewriting.proofs.writing.add_items.Goals as goal

pub loop-left-preserved : goal.loop-left-preserved
loop-left-preserved g c = record {
  spelled = spelled_later _ c.in-len1-up.len_at_least c.loop-left.invariant.spelled;
  steps = steps_on c.loop-left.seen c.after-seen.result c.loop-left.left.now c.item-item.result
      (length c.args.items.now) c.in-len1-up.len_at_least c.after-seen.ensures
      c.loop-left.invariant.steps;
  sections = sections_on c.loop-left.seen c.after-seen.result c.loop-left.left.now
      c.item-item.result (length c.args.items.now) c.in-len1-up.len_at_least c.after-seen.ensures
      c.loop-left.invariant.sections;
  writing = turn_on _ _ _ _ _ _ c.loop-left.seen c.after-seen.result c.loop-left.left.now
      c.item-item.result c.in-len1-up.len_at_least c.item-item.is
      c.in_ok-write_item2.ensures.ok c.after-seen.ensures c.loop-left.invariant.writing _
      c.in_ok-pass_on.ensures.ok;
  only_writes = only_writes_on c.loop-left.invariant.only_writes
      c.in_ok-pass_on.ensures.only_writes;
}

pub returns-in_err-pass_on-clause-err : goal.returns-in_err-pass_on-clause-err
returns-in_err-pass_on-clause-err g c = on_err _
    (turn_breaks _ _ _ _ _ _ c.loop-left.seen (seen_after c.loop-left.seen c.item-item.result)
    c.loop-left.left.now c.item-item.result c.in-len1-up.len_at_least c.item-item.is
    c.in_ok-write_item2.ensures.ok refl c.loop-left.invariant.writing c.in_err-pass_on.ensures.err)

pub returns-in_err-append_all-clause-err : goal.returns-in_err-append_all-clause-err
returns-in_err-append_all-clause-err g c =
    on_err _ (writing_front _ _ _ _ _ _ c.loop-left.invariant.writing
    (rw c.as_slice.ensures.value at c.in_err-append_all.ensures.err))
