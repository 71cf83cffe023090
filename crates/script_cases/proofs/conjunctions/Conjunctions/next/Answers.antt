use Rattle.std.proofs.Common.{◌+◌, ◌<◌, [], ◌∷◌, get_or, length, take, drop, ◌-◌, sym, ap, ◌∙◌}
use Rattle.std.proofs.Common.{subst, arith}
use Rattle.script_cases.specs.Choice.{left_by}
use Rattle.script_cases.specs.Marks.{pieces}
use Rattle.script_cases.proofs.Chosen.{next_of, same_left}
use Rattle.script_cases.proofs.conjunctions.Conjunctions.next.Goals as goal

pub chosen-place-requires-clause-later : goal.chosen-place-requires-clause-later
chosen-place-requires-clause-later g c =
    (next_of _ _ _ _ _ _ c.in-len1-up.len_at_least c.self.invariant).positive

pub overflow_add-from : goal.overflow_add-from
overflow_add-from g c =
    let n = next_of _ _ _ _ _ _ c.in-len1-up.len_at_least c.self.invariant in
    let within = subst (λ k. c.self.inside.from + k < length c.self.inside.ends.now)
    (sym c.chosen-place.ensures.one) n.within in
    omega (arith, within, c.self.told)

pub conjunction-requires-clause-number : goal.conjunction-requires-clause-number
conjunction-requires-clause-number g c =
    let n = next_of _ _ _ _ _ _ c.in-len1-up.len_at_least c.self.invariant in
    subst (λ k. c.self.inside.from + k < length c.self.inside.ends.now)
    (sym c.chosen-place.ensures.one) n.within

pub invariant_of-self : goal.invariant_of-self
invariant_of-self g c =
    rw (c.chosen-place.ensures.rest, c.chosen-place.ensures.count)
    (next_of _ _ _ _ _ _ c.in-len1-up.len_at_least c.self.invariant).are_left

pub returns-clause-taken : goal.returns-clause-taken
returns-clause-taken g c =
    let items = c.self.inside.items.now in
    let ends = c.self.inside.ends.now in
    let parts = c.self.inside.parts.now in
    let from = c.self.inside.from in
    let n = next_of _ _ _ _ _ _ c.in-len1-up.len_at_least c.self.invariant in
    let first = sym (c.conjunction.ensures
    ∙ ap (λ k. get_or (pieces 0 items ends) (from + k) []) c.chosen-place.ensures.one) in
    let rest = sym c.chosen-place.ensures.rest in
    sym c.self.view_is
    ∙ same_left items ends from c.self.inside.number parts c.in-len1-up.len_at_least
    ∙ n.first
    ∙ (λ i. first i
    ∷ left_by items ends (take (length parts - 1) (drop 1 parts)) (get_or parts 0 0) (rest i))
