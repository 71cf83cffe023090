use Rattle.std.proofs.Common.{sym, ◌∙◌, subst, arith, ◌<◌, length, [], ◌∷◌}
use Rattle.std.proofs.lemmas.List.{length-append}
use Rattle.script_cases.specs.Parts as spec
use Rattle.script_cases.proofs.Pushed.{part_marks, part_parts}
use Rattle.script_cases.proofs.Lengths.{long}
use Rattle.script_cases.proofs.parts.Parts.end_part.Goals as goal

-- behind a conjunction that has ended, the part in hand has one
has_one : {X : Type 0} (p : spec.Parts X) → 0 < length (spec.behind_or p).ended
has_one p = omega (arith, length-append p.ended (p.last ∷ []))

pub invariant_of-self-2 : goal.invariant_of-self-2
invariant_of-self-2 g c = rw (c.in_ok-push.ensures.items, c.len.ensures, long c.self.inside.ends)
    (part_marks _ _ _ c.self.invariant (subst (λ (p : spec.Parts _). 0 < length p.ended)
    (sym (c.self.view_is ∙ c.in_ok-end_conjunction.ensures.ended)) (has_one c.args.self.now)))

pub returns-clause-ended : goal.returns-clause-ended
returns-clause-ended g c = rw (c.in_ok-push.ensures.items, c.len.ensures, long c.self.inside.ends)
    (part_parts _ _ _ c.self.invariant c.args.self.now (c.self.view_is
    ∙ c.in_ok-end_conjunction.ensures.ended))
