use Rattle.std.proofs.lemmas.Result.{err_from_is_err_and}
use Rattle.script_words.specs.Lex.{IsWithin}
use Rattle.point_text.specs.Taken.{IsRowRefused, no_number, no_divisor, no_semicolon}
use Rattle.point_text.proofs.Tails.{all_tail}
use Rattle.point_text.proofs.reading.row_of.Goals as goal

pub returns-clause-within : goal.returns-clause-within
returns-clause-within c = all_tail (IsWithin c.args.text.now) c.in_ok-divisor.rest.now
    c.in_ok-rest-2.rest.now c.in_ok-rest-2.ensures.tail c.in_ok-divisor.ensures.tail

pub returns-in_err-literal-clause-refused : goal.returns-in_err-literal-clause-refused
returns-in_err-literal-clause-refused c =
    let t : IsRowRefused c.args.text.now c.args.rest.now c.args.end c.in_err-literal.field-0.0 =
    no_number c.signed_rest-negative.result.0 c.in_ok-rest.rest.now
    c.signed_rest-negative.result.1.now c.in_ok-rest.ensures.taken
    c.signed_rest-negative.ensures.taken c.in_err-literal.ensures.refused in
    let p = err_from_is_err_and c.from_residual-in_err-literal.result
    c.from_residual-in_err-literal.ensures.1 in
    rw (p.1, p.2) t

pub returns-in_err-divisor-clause-refused : goal.returns-in_err-divisor-clause-refused
returns-in_err-divisor-clause-refused c =
    let t : IsRowRefused c.args.text.now c.args.rest.now c.args.end c.in_err-divisor.field-0.0 =
    no_divisor c.signed_rest-negative.result.0 c.in_ok-literal.literal c.in_ok-rest.rest.now
    c.signed_rest-negative.result.1.now c.in_ok-literal.rest.now c.in_ok-rest.ensures.taken
    c.signed_rest-negative.ensures.taken c.in_ok-literal.ensures.taken
    c.in_err-divisor.ensures.refused in
    let p = err_from_is_err_and c.from_residual-in_err-divisor.result
    c.from_residual-in_err-divisor.ensures.1 in
    rw (p.1, p.2) t

pub returns-in_err-rest-2-clause-refused : goal.returns-in_err-rest-2-clause-refused
returns-in_err-rest-2-clause-refused c =
    let t : IsRowRefused c.args.text.now c.args.rest.now c.args.end c.in_err-rest-2.field-0.0 =
    no_semicolon c.signed_rest-negative.result.0 c.in_ok-literal.literal c.in_ok-divisor.divisor
    c.in_ok-rest.rest.now c.signed_rest-negative.result.1.now c.in_ok-literal.rest.now
    c.in_ok-divisor.rest.now c.in_ok-rest.ensures.taken c.signed_rest-negative.ensures.taken
    c.in_ok-literal.ensures.taken c.in_ok-divisor.ensures.taken
    c.in_err-rest-2.ensures.refused.0 c.in_err-rest-2.ensures.refused.1 in
    let p = err_from_is_err_and c.from_residual-in_err-rest-2.result
    c.from_residual-in_err-rest-2.ensures.1 in
    rw (p.1, p.2) t
