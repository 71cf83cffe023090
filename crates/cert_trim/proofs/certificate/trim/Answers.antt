use Rattle.std.proofs.Common.{◌≡◌, ℕ, Bool, List, subst, sym, ap, ◌∙◌}
use Rattle.std.specs.List.{AllByRecursion}
use Rattle.cert_bytes.specs.Certificates.{HasSpelling}
use Rattle.cert_bytes.specs.declared.item.Item.{Item}
use Rattle.cert_checker.specs.Accepted.{Accepts}
use Rattle.cert_trim.specs.Trimmed.{trimmed_by}
use Rattle.cert_trim.specs.Used.{AreAllUsed, trimmed}
use Rattle.cert_trim.specs.Behind.{trimmed_behind}
use Rattle.cert_trim.proofs.Places.{none_before}
use Rattle.cert_trim.proofs.certificate.trim.Goals as goal

-- where no steps stand before them
left : (items others : List Item) → others ≡ trimmed_behind 0 items → others ≡ trimmed items
left items others e =
    e ∙ ap (λ (used : ℕ → Bool). trimmed_by used 0 items) (none_before items)

pub left_behind-requires-clause-earlier : goal.left_behind-requires-clause-earlier
left_behind-requires-clause-earlier c =
    c.trimmed_are_accepted.ensures.earlier c.requires.0 c.args.items.items c.requires.1 c.requires.2

pub returns-clause-items : goal.returns-clause-items
returns-clause-items c = left c.args.items.items c.in_ok-left.left.items.items
    c.in_ok-left.ensures.items

pub returns-clause-used : goal.returns-clause-used
returns-clause-used c =
    subst AreAllUsed (sym (left c.args.items.items c.in_ok-left.left.items.items
    c.in_ok-left.ensures.items)) (c.trimmed_are_accepted.ensures.left
    c.requires.0 c.args.items.items c.requires.1 c.requires.2)

pub returns-clause-accepted : goal.returns-clause-accepted
returns-clause-accepted c = λ s lines accepted.
    subst (λ (xs : List Item). Accepts s xs lines)
    (sym (left c.args.items.items c.in_ok-left.left.items.items c.in_ok-left.ensures.items))
    (c.trimmed_are_accepted.ensures.used s c.args.items.items lines accepted)

pub returns-clause-spelled : goal.returns-clause-spelled
returns-clause-spelled c = λ h.
    subst (AllByRecursion HasSpelling)
    (sym (left c.args.items.items c.in_ok-left.left.items.items c.in_ok-left.ensures.items))
    (c.trimmed_are_accepted.ensures.spelled c.args.items.items h)
