use Rattle.std.proofs.Common.{◌≡◌, ◌+◌, length, sym, ◌∙◌, ap, subst, arith}
use Rattle.std.specs.List.{AllByRecursion}
use Rattle.cert_bytes.specs.Certificates.{HasSpelling}
use Rattle.cert_bytes.specs.Styles.{seen_behind}
use Rattle.cert_bytes.specs.Spelling.{spelled_behind}
use Rattle.cert_trim.specs.Used.{CiteEarlier}
use Rattle.cert_trim.specs.Behind.{section_of}
use Rattle.box_trace.specs.Boxes.{IsItsTable, AreItsSteps, log_of}
use Rattle.cert_writer.specs.Boxes.{written_of}
use Rattle.cert_writer.specs.Walks.{IsLast, MayEnd}
use Rattle.cert_writer.specs.Courses.{course, AreOwnBytes}
use Rattle.cert_writer.proofs.Own.{has_room, has_sections}
use Rattle.cert_writer.proofs.Done.{may_end, own_done, own_cites, own_spelled, own_few, own_length}
use Rattle.cert_writer.proofs.walk.own_bytes.Goals as goal

pub trace-requires-clause-room : goal.trace-requires-clause-room
trace-requires-clause-room c = let s = c.requires.somewhere in has_room (course
    c.args.boxes.now.universe.now
    c.args.boxes.now.plan.now c.args.boxes.now.rounds s.0 s.1 s.2) c.args.path.now c.args.parent
    c.args.seen s.3 s.5 s.4

pub last_item-requires-clause-ends : goal.last_item-requires-clause-ends
last_item-requires-clause-ends c =
    let s = c.requires.somewhere in
    let its = subst (λ o. IsItsTable c.args.boxes.now.universe.now c.args.boxes.now.rounds o
    c.args.parent
    c.in_ok-steps.field-0.known) c.at-piece.ensures.piece c.in_ok-steps.ensures.table.best in
    let steps = subst (λ o. AreItsSteps c.args.boxes.now.universe.now o c.args.parent
    c.args.seen.steps (log_of
    c.args.seen.steps c.in_ok-steps.field-0)) c.at-piece.ensures.piece
    c.in_ok-steps.ensures.steps in
    subst (λ k. MayEnd c.args.boxes.now.universe.now c.in_ok-steps.field-0.known k) (sym
    c.at-piece.ensures.is)
    (may_end c.args.boxes.now.plan.now c.walk_goes_on.ensures c.args.boxes.now.universe.now
    c.args.boxes.now.rounds s.0 s.1 s.2 s.4
    c.args.path.now c.args.parent c.args.seen s.3 s.5 c.in_ok-steps.field-0 its
    c.in_ok-steps.ensures.table.rows steps c.in_ok-steps.ensures.few
    c.boxes_are_short.ensures c.in_ok-steps.ensures.rounds c.leaves_are_trimmed.ensures.fewer)

pub written_items-requires-clause-room : goal.written_items-requires-clause-room
written_items-requires-clause-room c =
    let s = c.requires.somewhere in
    let r = (has_sections (course c.args.boxes.now.universe.now c.args.boxes.now.plan.now
    c.args.boxes.now.rounds s.0 s.1 s.2)
    c.args.path.now c.args.parent c.args.seen s.3 s.5 s.4).0 in
    let f = c.in_ok-steps.ensures.few in
    let l : length c.in_ok-own.own.items ≡ length c.in_ok-steps.field-0.steps.items + 1 =
    ap length c.in_ok-own.ensures ∙ own_length c.in_ok-steps.field-0.steps.items c.in_ok-last.last
    in
    omega (arith, r, f, l)

pub written_items-requires-clause-earlier : goal.written_items-requires-clause-earlier
written_items-requires-clause-earlier c = λ none.
    let s = c.requires.somewhere in
    let its = subst (λ o. IsItsTable c.args.boxes.now.universe.now c.args.boxes.now.rounds o
    c.args.parent
    c.in_ok-steps.field-0.known) c.at-piece.ensures.piece c.in_ok-steps.ensures.table.best in
    let steps = subst (λ o. AreItsSteps c.args.boxes.now.universe.now o c.args.parent
    c.args.seen.steps (log_of
    c.args.seen.steps c.in_ok-steps.field-0)) c.at-piece.ensures.piece
    c.in_ok-steps.ensures.steps in
    let last = subst (λ k. IsLast c.args.boxes.now.universe.now c.in_ok-steps.field-0.known k
    c.in_ok-last.last
    c.in_ok-last.pieces) c.at-piece.ensures.is c.in_ok-last.ensures in
    subst (CiteEarlier c.args.seen.steps) (sym c.in_ok-own.ensures)
    (own_cites c.args.boxes.now.plan.now c.walk_goes_on.ensures c.args.boxes.now.universe.now
    c.args.boxes.now.rounds s.0 s.1 s.2 s.4
    c.args.path.now c.args.parent c.args.seen s.3 s.5 c.in_ok-steps.field-0 its
    c.in_ok-steps.ensures.table.rows steps c.in_ok-steps.ensures.few
    c.boxes_are_short.ensures c.in_ok-steps.ensures.rounds c.leaves_are_trimmed.ensures.fewer
    c.in_ok-last.last c.in_ok-last.pieces last none)

pub spell_box-requires-clause-spelled : goal.spell_box-requires-clause-spelled
spell_box-requires-clause-spelled c =
    let s = c.requires.somewhere in
    let its = subst (λ o. IsItsTable c.args.boxes.now.universe.now c.args.boxes.now.rounds o
    c.args.parent
    c.in_ok-steps.field-0.known) c.at-piece.ensures.piece c.in_ok-steps.ensures.table.best in
    let steps = subst (λ o. AreItsSteps c.args.boxes.now.universe.now o c.args.parent
    c.args.seen.steps (log_of
    c.args.seen.steps c.in_ok-steps.field-0)) c.at-piece.ensures.piece
    c.in_ok-steps.ensures.steps in
    let last = subst (λ k. IsLast c.args.boxes.now.universe.now c.in_ok-steps.field-0.known k
    c.in_ok-last.last
    c.in_ok-last.pieces) c.at-piece.ensures.is c.in_ok-last.ensures in
    let e = c.as_slice.ensures.value ∙ c.in_ok-items.ensures
    ∙ ap (written_of c.in_ok-last.pieces c.args.seen.steps) c.in_ok-own.ensures in
    subst (AllByRecursion HasSpelling) (sym e)
    (own_spelled c.args.boxes.now.plan.now c.walk_goes_on.ensures c.args.boxes.now.universe.now
    c.args.boxes.now.rounds s.0 s.1 s.2
    s.4 c.args.path.now c.args.parent c.args.seen s.3 s.5 c.in_ok-steps.field-0 its
    c.in_ok-steps.ensures.table.rows steps c.in_ok-steps.ensures.few
    c.boxes_are_short.ensures c.in_ok-steps.ensures.rounds c.leaves_are_trimmed.ensures.fewer
    c.in_ok-last.last c.in_ok-last.pieces last)

pub spell_box-requires-clause-steps : goal.spell_box-requires-clause-steps
spell_box-requires-clause-steps c =
    let s = c.requires.somewhere in
    let its = subst (λ o. IsItsTable c.args.boxes.now.universe.now c.args.boxes.now.rounds o
    c.args.parent
    c.in_ok-steps.field-0.known) c.at-piece.ensures.piece c.in_ok-steps.ensures.table.best in
    let steps = subst (λ o. AreItsSteps c.args.boxes.now.universe.now o c.args.parent
    c.args.seen.steps (log_of
    c.args.seen.steps c.in_ok-steps.field-0)) c.at-piece.ensures.piece
    c.in_ok-steps.ensures.steps in
    let e : length c.as_slice.result.now ≡ length (written_of c.in_ok-last.pieces c.args.seen.steps
    (section_of c.in_ok-steps.field-0.steps.items c.in_ok-last.last)) =
    ap length (c.as_slice.ensures.value ∙ c.in_ok-items.ensures
    ∙ ap (written_of c.in_ok-last.pieces c.args.seen.steps) c.in_ok-own.ensures) in
    let l = own_few c.args.boxes.now.plan.now c.walk_goes_on.ensures c.args.boxes.now.universe.now
    c.args.boxes.now.rounds s.0 s.1 s.2
    s.4 c.args.path.now c.args.parent c.args.seen s.3 s.5 c.in_ok-steps.field-0 its
    c.in_ok-steps.ensures.table.rows steps c.in_ok-steps.ensures.few
    c.boxes_are_short.ensures c.in_ok-steps.ensures.rounds c.leaves_are_trimmed.ensures.fewer
    c.in_ok-last.last c.in_ok-last.pieces in
    let r = (has_sections (course c.args.boxes.now.universe.now c.args.boxes.now.plan.now
    c.args.boxes.now.rounds s.0 s.1 s.2)
    c.args.path.now c.args.parent c.args.seen s.3 s.5 s.4).0 in
    let f = c.in_ok-steps.ensures.few in
    omega (arith, e, l, r, f)

pub spell_box-requires-clause-sections : goal.spell_box-requires-clause-sections
spell_box-requires-clause-sections c =
    let s = c.requires.somewhere in
    let its = subst (λ o. IsItsTable c.args.boxes.now.universe.now c.args.boxes.now.rounds o
    c.args.parent
    c.in_ok-steps.field-0.known) c.at-piece.ensures.piece c.in_ok-steps.ensures.table.best in
    let steps = subst (λ o. AreItsSteps c.args.boxes.now.universe.now o c.args.parent
    c.args.seen.steps (log_of
    c.args.seen.steps c.in_ok-steps.field-0)) c.at-piece.ensures.piece
    c.in_ok-steps.ensures.steps in
    let e : length c.as_slice.result.now ≡ length (written_of c.in_ok-last.pieces c.args.seen.steps
    (section_of c.in_ok-steps.field-0.steps.items c.in_ok-last.last)) =
    ap length (c.as_slice.ensures.value ∙ c.in_ok-items.ensures
    ∙ ap (written_of c.in_ok-last.pieces c.args.seen.steps) c.in_ok-own.ensures) in
    let l = own_few c.args.boxes.now.plan.now c.walk_goes_on.ensures c.args.boxes.now.universe.now
    c.args.boxes.now.rounds s.0 s.1 s.2
    s.4 c.args.path.now c.args.parent c.args.seen s.3 s.5 c.in_ok-steps.field-0 its
    c.in_ok-steps.ensures.table.rows steps c.in_ok-steps.ensures.few
    c.boxes_are_short.ensures c.in_ok-steps.ensures.rounds c.leaves_are_trimmed.ensures.fewer
    c.in_ok-last.last c.in_ok-last.pieces in
    let r = (has_sections (course c.args.boxes.now.universe.now c.args.boxes.now.plan.now
    c.args.boxes.now.rounds s.0 s.1 s.2)
    c.args.path.now c.args.parent c.args.seen s.3 s.5 s.4).1 in
    let f = c.in_ok-steps.ensures.few in
    omega (arith, e, l, r, f)

pub returns-clause-own : goal.returns-clause-own
returns-clause-own c = λ t lines states p is before.
    let its = subst (λ o. IsItsTable c.args.boxes.now.universe.now c.args.boxes.now.rounds o
    c.args.parent
    c.in_ok-steps.field-0.known) c.at-piece.ensures.piece c.in_ok-steps.ensures.table.best in
    let steps = subst (λ o. AreItsSteps c.args.boxes.now.universe.now o c.args.parent
    c.args.seen.steps (log_of
    c.args.seen.steps c.in_ok-steps.field-0)) c.at-piece.ensures.piece
    c.in_ok-steps.ensures.steps in
    let last = subst (λ k. IsLast c.args.boxes.now.universe.now c.in_ok-steps.field-0.known k
    c.in_ok-last.last
    c.in_ok-last.pieces) c.at-piece.ensures.is c.in_ok-last.ensures in
    let e = c.as_slice.ensures.value ∙ c.in_ok-items.ensures
    ∙ ap (written_of c.in_ok-last.pieces c.args.seen.steps) c.in_ok-own.ensures in
    let own = section_of c.in_ok-steps.field-0.steps.items c.in_ok-last.last in
    let bytes = c.in_ok-bytes.ensures.spelled ∙ ap (spelled_behind c.args.seen) e
    ∙ ap (λ q. spelled_behind q (written_of c.in_ok-last.pieces c.args.seen.steps own)) (sym
    before.seen_is) in
    subst (λ bs. AreOwnBytes (course c.args.boxes.now.universe.now c.args.boxes.now.plan.now
    c.args.boxes.now.rounds t lines states)
    c.args.path.now p c.in_ok-steps.field-0.known c.in_ok-last.pieces c.in_ok-bytes.next bs)
    (sym bytes)
    (own_done c.args.boxes.now.plan.now c.walk_goes_on.ensures c.args.boxes.now.universe.now
    c.args.boxes.now.rounds t lines states is
    c.args.path.now c.args.parent c.args.seen p before c.in_ok-steps.field-0 its
    c.in_ok-steps.ensures.table.rows steps c.in_ok-steps.ensures.few
    c.boxes_are_short.ensures c.in_ok-steps.ensures.rounds c.leaves_are_trimmed.ensures.fewer
    c.in_ok-last.last c.in_ok-last.pieces c.in_ok-bytes.next last
    (c.in_ok-bytes.ensures.seen ∙ ap (seen_behind c.args.seen) e))
