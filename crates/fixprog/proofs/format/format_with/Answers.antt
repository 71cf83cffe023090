use Rattle.std.proofs.Common.{refl, sym, ◌∙◌}
use Rattle.fixprog.proofs.FormatTexts.{wide, long, empty, within}
use Rattle.fixprog.proofs.format.format_with.Goals as goal

pub returns-in_err-width-clause-format : goal.returns-in_err-width-clause-format
returns-in_err-width-clause-format c =
    c.from_residual.ensures ∙ sym (wide c.args.letter c.args.text.now c.front_of.result.now _
    c.digits_len-digits.result c.digits_len-digits.ensures.len c.front_of.ensures refl
    c.in_err-width.ensures)

pub returns-in_err-places-clause-format : goal.returns-in_err-places-clause-format
returns-in_err-places-clause-format c =
    c.from_residual-in_err-places.ensures
    ∙ sym (long c.args.letter c.args.text.now c.front_of.result.now c.behind_point.result.now
    c.digits_len-digits.result c.digits_len-digits.ensures.len c.front_of.ensures
    c.behind_point.ensures c.in_err-places.ensures)

pub returns-then-width-eq0-clause-format : goal.returns-then-width-eq0-clause-format
returns-then-width-eq0-clause-format c =
    sym (empty c.args.letter c.args.text.now c.front_of.result.now c.behind_point.result.now
    c.digits_len-digits.result c.digits_len-digits.ensures.len c.front_of.ensures
    c.behind_point.ensures (sym c.in_ok-width.ensures.1 ∙ c.if-width-eq0.true))

pub returns-clause-format : goal.returns-clause-format
returns-clause-format c =
    sym (within c.args.letter c.args.text.now c.front_of.result.now c.behind_point.result.now
    c.digits_len-digits.result c.digits_len-digits.ensures.len c.front_of.ensures
    c.behind_point.ensures
    c.in_ok-width.width c.in_ok-places.places c.in_ok-width.ensures.1 c.in_ok-places.ensures.1
    c.if-width-eq0.false c.in_ok-width.ensures.0 c.in_ok-places.ensures.0)
