use Rattle.std.proofs.Common.{arith}
use Rattle.script_cases.proofs.Steps.{next_of, nothing_taken}
use Rattle.script_cases.proofs.parts.take_case.Goals as goal

pub loop-parts-init : goal.loop-parts-init
loop-parts-init g c = rw (c.product-left.ensures, c.new-case.ensures.items)
    (nothing_taken _ _ _ _ c.requires.parts_within c.requires.rising c.requires.number)

pub nonzero_div-number : goal.nonzero_div-number
nonzero_div-number g c =
    (next_of _ _ _ _ _ _ _ _ _ c.in-len1-up.len_at_least c.loop-parts.invariant).positive

pub overflow_add-from : goal.overflow_add-from
overflow_add-from g c =
    let n = next_of _ _ _ _ _ _ _ _ _ c.in-len1-up.len_at_least c.loop-parts.invariant in
    omega (arith, n.within, c.well_formed)

pub add_conjunction-requires-clause-number : goal.add_conjunction-requires-clause-number
add_conjunction-requires-clause-number g c =
    (next_of _ _ _ _ _ _ _ _ _ c.in-len1-up.len_at_least c.loop-parts.invariant).within

pub nonzero_rem-number : goal.nonzero_rem-number
nonzero_rem-number g c =
    (next_of _ _ _ _ _ _ _ _ _ c.in-len1-up.len_at_least c.loop-parts.invariant).positive

pub loop-parts-preserved : goal.loop-parts-preserved
loop-parts-preserved g c = rw c.in_ok-add_conjunction.ensures
    (next_of _ _ _ _ _ _ _ _ _ c.in-len1-up.len_at_least c.loop-parts.invariant).taken
