use Rattle.std.proofs.Common.{sym, ◌∙◌, subst, ◌≡◌}
use Rattle.std.specs.Bool.{Decides}
use Rattle.std.proofs.lemmas.Slice.Eq.{slice_eq-Decides}
use Rattle.std.proofs.lemmas.Bool.Decides.{Decides-eqb, Decides-int_eq}
use Rattle.poly_normal.proofs.FlatRows.{same_length}
use Rattle.poly_normal.proofs.Joined.{equal_powers, other_coefficients}
use Rattle.poly_normal.proofs.arithmetic.is_equal.Goals as goal

pub returns-then-coefficients : goal.returns-then-coefficients
returns-then-coefficients c =
    let p = c.args.p.now in let q = c.args.q.now in
    let same : p.coefficients.items ≡ q.coefficients.items = sym c.as_slice.ensures.value
    ∙ (slice_eq-Decides Decides-int_eq _ _ _ c.eq-coefficients.ensures).0 c.if-coefficients.true
    ∙ c.as_slice-2.ensures.value in
    let tested : Decides c.eq-powers.result (c.as_slice-3.result.now ≡ c.as_slice-4.result.now) =
    slice_eq-Decides Decides-eqb _ _ _ c.eq-powers.ensures in
    equal_powers p.width q.width p.coefficients.items q.coefficients.items p.powers.items
    q.powers.items c.requires.widths (same_length _ _ _ _ p.width p.powers.ok.0 p.layout
    p.coefficients.ok.0) (same_length _ _ _ _ q.width q.powers.ok.0 q.layout q.coefficients.ok.0)
    c.requires.left c.requires.right same c.eq-powers.result
    (subst (λ l. Decides c.eq-powers.result (l ≡ q.powers.items)) c.as_slice-3.ensures.value
    (subst (λ l. Decides c.eq-powers.result (c.as_slice-3.result.now ≡ l))
    c.as_slice-4.ensures.value tested))

pub returns-else-coefficients : goal.returns-else-coefficients
returns-else-coefficients c =
    let p = c.args.p.now in let q = c.args.q.now in
    let tested : Decides c.eq-coefficients.result (c.as_slice.result.now
    ≡ c.as_slice-2.result.now) = slice_eq-Decides Decides-int_eq _ _ _ c.eq-coefficients.ensures in
    other_coefficients p.width q.width p.coefficients.items q.coefficients.items p.powers.items
    q.powers.items c.requires.widths (same_length _ _ _ _ p.width p.powers.ok.0 p.layout
    p.coefficients.ok.0) (same_length _ _ _ _ q.width q.powers.ok.0 q.layout q.coefficients.ok.0)
    c.requires.left c.requires.right c.eq-coefficients.result c.if-coefficients.false
    (subst (λ l. Decides c.eq-coefficients.result (l ≡ q.coefficients.items))
    c.as_slice.ensures.value (subst (λ l. Decides c.eq-coefficients.result
    (c.as_slice.result.now ≡ l)) c.as_slice-2.ensures.value tested))
