use Rattle.std.proofs.Common.{◌+◌, sym, ◌∙◌}
use Rattle.box_tree.proofs.Turns.{none_forced, forced_here, forced_later}
use Rattle.box_tree.proofs.region.+from_forced.Goals as goal

pub returns-in-empty-clause-is : goal.returns-in-empty-clause-is
returns-in-empty-clause-is t c = λ done.
    none_forced c.args.ranges.now done c.args.cuts.now c.in-empty.len_below

pub returns-then-is_cut-clause-is : goal.returns-then-is_cut-clause-is
returns-then-is_cut-clause-is t c = λ done.
    forced_here c.args.ranges.now done c.args.cuts.now c.split-item.result
    c.in-len1-up.len_at_least c.split-item.is (sym c.is_cut.ensures ∙ c.if-is_cut.true)

pub returns-else-is_cut-clause-is : goal.returns-else-is_cut-clause-is
returns-else-is_cut-clause-is t c = λ done.
    forced_later c.args.ranges.now done c.args.cuts.now c.split-item.result
    c.from_forced.result.now c.in-len1-up.len_at_least c.split-item.is
    (sym c.is_cut.ensures ∙ c.if-is_cut.false) (c.from_forced.ensures.is (done + 1))
