use Rattle.std.specs.Prelude.{slice_index_or}
use Rattle.std.proofs.Common.{arith}
use Rattle.std.proofs.lemmas.Option.{slice_get-get_or}
use Rattle.facts.specs.declared.hint.HintMark.{HintMark}
use Rattle.facts.specs.declared.hint.HintMark.TheVariants.{Checked}
use Rattle.cert_bytes.specs.declared.item.Item.TheVariants as item
use Rattle.cert_bytes.specs.Styles.{none_seen}
use Rattle.cert_writer.proofs.Seen.{marks_seen}
use Rattle.cert_writer.proofs.Spelled.{spelled_next}
use Rattle.cert_writer.proofs.head.spell_marks.Goals as goal

pub loop-mark-preserved : goal.loop-mark-preserved
loop-mark-preserved c =
    let marks = c.args.marks.now in
    let k = c.loop-mark.mark-index in
    let mark : HintMark = slice_index_or marks k Checked in
    spelled_next (λ m. item.Mark m) (marks_seen none_seen) marks k mark _ _ _
    (slice_get-get_or marks k Checked (omega (arith, c.loop-mark-test.true)))
    c.loop-mark.invariant c.in_ok-put.ensures
