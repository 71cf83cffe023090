use Rattle.std.proofs.Common.{◌≡◌, ◌<◌, length, reverse, get_or, Some, false, sym, ap, ◌∙◌, subst}
use Rattle.std.proofs.Common.{arith}
use Rattle.std.proofs.lemmas.List.{take_more}
use Rattle.script_words.specs.Words.{class_of}
use Rattle.script_words.specs.Kept.{words_in}
use Rattle.script_shape.specs.Shape as spec
use Rattle.script_shape.specs.ShapeLaw.{IsShapeOf, AreRolesOf}
use Rattle.script_shape.proofs.Shaped.{any_word, began, went_on, stopped, ended, roles_are}
use Rattle.script_shape.proofs.Shaped.{steps_none, steps_some}
use Rattle.script_shape.proofs.shape.shape_of.Goals as goal

pub loop-number-init : goal.loop-number-init
loop-number-init c = began _ _ _ c.in_ok-stack.ensures c.in_ok-roles.ensures.items

pub returns-in_default-clause-shape : goal.returns-in_default-clause-shape
returns-in_default-clause-shape c =
    let m = c.loop-number.invariant in
    let ws = words_in c.args.words in
    let n = c.loop-number.number in
    let left = reverse c.loop-number.stack.items in
    let within : n < length ws = omega arith in
    let none = steps_none _ left _ c.in_ok-role.field-0 c.in_ok-role.ensures c.in_default.is in
    subst (λ k. IsShapeOf ws k false) (sym m.count)
    (stopped ws n (get_or ws n any_word) left within (take_more ws n any_word within) m.due
    (ap (λ x. spec.step x left) (c.class_at.ensures any_word) ∙ none))

pub returns-in_default-clause-roles : goal.returns-in_default-clause-roles
returns-in_default-clause-roles c =
    subst (λ n. AreRolesOf (words_in c.args.words) n c.loop-number.roles.items)
    (sym c.loop-number.invariant.count) (roles_are c.loop-number.invariant)

pub loop-number-preserved : goal.loop-number-preserved
loop-number-preserved c =
    let ws = words_in c.args.words in
    let n = c.loop-number.number in
    let left = reverse c.loop-number.stack.items in
    let new = reverse c.step.new.stack.items in
    let word = get_or ws n any_word in
    let within : n < length ws = omega arith in
    let taken = steps_some c.class_at.result left new c.in_ok-role.field-0 c.in-Some.role
    c.in_ok-role.ensures c.in-Some.is in
    let steps : (spec.step (class_of word) left ≡ Some new)
    × (spec.role_next (class_of word) left ≡ Some c.in-Some.role) =
    subst (λ x. (spec.step x left ≡ Some new) × (spec.role_next x left ≡ Some c.in-Some.role))
    (sym (c.class_at.ensures any_word)) taken in
    went_on c.loop-number.invariant word (take_more ws n any_word within) new c.in-Some.role steps
    c.push.new.self.items c.in_ok-push.ensures.items

pub returns-clause-shape : goal.returns-clause-shape
returns-clause-shape c =
    let m = c.loop-number.invariant in
    let ws = words_in c.args.words in
    let whole : c.loop-number.number ≡ length ws = omega arith in
    subst (λ n. IsShapeOf ws n c.may_end.result) (sym m.count) (ended ws c.loop-number.number
    (reverse c.loop-number.stack.items) c.may_end.result whole m.due c.may_end.ensures)

pub returns-clause-roles : goal.returns-clause-roles
returns-clause-roles c = subst (λ n. AreRolesOf (words_in c.args.words) n c.loop-number.roles.items)
    (sym c.loop-number.invariant.count) (roles_are c.loop-number.invariant)
