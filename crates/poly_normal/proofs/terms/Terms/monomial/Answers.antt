use Rattle.std.proofs.Common.{sym, ap, ◌∙◌, arith, take, drop, ◌+◌, ◌-◌, ◌*◌, ◌≡◌, ◌≤◌, length, ◌<◌}
use Rattle.std.proofs.Common.{rules, length-drop}
use Rattle.std.proofs.lemmas.List.{length-take-le}
use Rattle.poly_normal.proofs.FlatRows.{length-rows, monomial-rows, row_within}
use Rattle.poly_normal.proofs.terms.Terms.monomial.Goals as goal

pub returns-clause-row : goal.returns-clause-row
returns-clause-row c = let s = c.args.self.now in
    let n = length-rows s.width s.coefficients.items s.powers.items in
    let room : (c.args.i * s.width + s.width) - c.args.i * s.width ≡ s.width = omega arith in
    ap (λ k. take k (drop (c.args.i * s.width) c.as_slice-powers.result.now)) room
    ∙ ap (λ ps. take s.width (drop (c.args.i * s.width) ps)) c.as_slice-powers.ensures.value
    ∙ sym (monomial-rows s.width s.coefficients.items s.powers.items c.args.i (omega (arith, n)))

pub overflow_mul-start : goal.overflow_mul-start
overflow_mul-start c = let s = c.args.self.now in
    let n = length-rows s.width s.coefficients.items s.powers.items in
    let k = row_within c.args.i (length s.coefficients.items) s.width _ _ (omega (arith, n))
    s.coefficients.ok.0 s.layout in omega (arith, k, c.as_slice-powers.ensures.len)

pub overflow_add-result : goal.overflow_add-result
overflow_add-result c = let s = c.args.self.now in
    let n = length-rows s.width s.coefficients.items s.powers.items in
    let k = row_within c.args.i (length s.coefficients.items) s.width _ _ (omega (arith, n))
    s.coefficients.ok.0 s.layout in omega (arith, k, c.as_slice-powers.ensures.len)

pub offset_bounds-powers-start : goal.offset_bounds-powers-start
offset_bounds-powers-start c = let s = c.args.self.now in
    let n = length-rows s.width s.coefficients.items s.powers.items in
    let k = row_within c.args.i (length s.coefficients.items) s.width _ _ (omega (arith, n))
    s.coefficients.ok.0 s.layout in omega (arith, k, c.as_slice-powers.ensures.len)

pub slice_bounds-result-end : goal.slice_bounds-result-end
slice_bounds-result-end c = let s = c.args.self.now in
    let n = length-rows s.width s.coefficients.items s.powers.items in
    let k = row_within c.args.i (length s.coefficients.items) s.width _ _
    (omega (arith, n)) s.coefficients.ok.0 s.layout in
    let inside : c.args.i * s.width + s.width ≤ length c.as_slice-powers.result.now =
    omega (arith, k, c.as_slice-powers.ensures.len) in search rules

pub returns-clause-width : goal.returns-clause-width
returns-clause-width c = let s = c.args.self.now in
    let n = length-rows s.width s.coefficients.items s.powers.items in
    let k = row_within c.args.i (length s.coefficients.items) s.width _ _
    (omega (arith, n)) s.coefficients.ok.0 s.layout in
    let room : (c.args.i * s.width + s.width) - c.args.i * s.width ≡ s.width = omega arith in
    ap (λ k. length (take k (drop (c.args.i * s.width) c.as_slice-powers.result.now))) room
    ∙ length-take-le s.width (drop (c.args.i * s.width) c.as_slice-powers.result.now) (omega (
      arith,
      k,
      c.as_slice-powers.ensures.len,
      length-drop (c.args.i * s.width) c.as_slice-powers.result.now,
    ))
