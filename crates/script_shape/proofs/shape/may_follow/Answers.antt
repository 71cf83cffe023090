use Rattle.std.proofs.Common.{◌<◌, length, reverse, get_or, ap, ◌∙◌, arith}
use Rattle.std.proofs.lemmas.List.{take_more}
use Rattle.script_words.specs.Kept.{words_in}
use Rattle.script_shape.specs.Shape as spec
use Rattle.script_shape.proofs.Shaped.{any_word, one_more, steps_none, steps_some}
use Rattle.script_shape.proofs.Next.{began_run, refused_front}
use Rattle.script_shape.proofs.shape.may_follow.Goals as goal

pub loop-number-init : goal.loop-number-init
loop-number-init c = began_run _ c.in_ok-stack.ensures

pub returns-in_default : goal.returns-in_default
returns-in_default c =
    let ws = words_in c.args.words in
    let n = c.loop-number.number in
    let left = reverse c.loop-number.stack.items in
    let within : n < length ws = omega arith in
    let none = steps_none _ left _ c.in_ok-step.field-0 c.in_ok-step.ensures c.in_default.is in
    refused_front ws _ c.args.next
    (one_more ws n (get_or ws n any_word) left (take_more ws n any_word within)
    c.loop-number.invariant ∙ ap (λ x. spec.step x left) (c.class_at.ensures any_word) ∙ none)

pub loop-number-preserved : goal.loop-number-preserved
loop-number-preserved c =
    let ws = words_in c.args.words in
    let n = c.loop-number.number in
    let left = reverse c.loop-number.stack.items in
    let within : n < length ws = omega arith in
    let taken = steps_some c.class_at.result left
    (reverse c.step.new.stack.items) c.in_ok-step.field-0 _ c.in_ok-step.ensures c.in-Some.is in
    one_more ws n (get_or ws n any_word) left (take_more ws n any_word within)
    c.loop-number.invariant ∙ ap (λ x. spec.step x left) (c.class_at.ensures any_word) ∙ taken.0
