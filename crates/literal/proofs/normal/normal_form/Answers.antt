use Rattle.std.proofs.Common.{◌≡◌, ℤ, subst, arith, rules, SFits, to_z, of_z, w32}
use Rattle.std.proofs.lemmas.Int.{ints}
use Rattle.literal.specs.Normal.{TakesTensOut, TakesTwosOut}
use Rattle.literal.proofs.Forms.{normal_zero, by_tens, by_twos, is_normal_by_tens}
use Rattle.literal.proofs.Forms.{is_normal_by_twos}
use Rattle.literal.proofs.normal.normal_form.Goals as goal

pub returns-then-number-eq0-clause-same : goal.returns-then-number-eq0-clause-same
returns-then-number-eq0-clause-same c = normal_zero c.args.form c.args.number c.if-number-eq0.true

pub returns-in-Decimal-clause-same : goal.returns-in-Decimal-clause-same
returns-in-Decimal-clause-same c =
    let f : SFits w32 c.args.number.ten = search rules in
    let e : to_z w32 (of_z w32 c.args.number.ten) ≡ c.args.number.ten = omega (arith, ints) in
    by_tens c.args.form c.args.number c.without_tens.result c.in-Decimal.is c.requires (subst
    (λ (e : ℤ). TakesTensOut c.args.number.num e c.without_tens.result) e c.without_tens.ensures)

pub returns-in-Decimal-clause-normal : goal.returns-in-Decimal-clause-normal
returns-in-Decimal-clause-normal c =
    let f : SFits w32 c.args.number.ten = search rules in
    let e : to_z w32 (of_z w32 c.args.number.ten) ≡ c.args.number.ten = omega (arith, ints) in
    is_normal_by_tens c.args.form c.args.number c.without_tens.result c.in-Decimal.is c.requires
    (subst (λ (e : ℤ). TakesTensOut c.args.number.num e c.without_tens.result)
    e c.without_tens.ensures)

pub returns-in_default-clause-same : goal.returns-in_default-clause-same
returns-in_default-clause-same c =
    let f : SFits w32 c.args.number.two = search rules in
    let e : to_z w32 (of_z w32 c.args.number.two) ≡ c.args.number.two = omega (arith, ints) in
    by_twos c.args.form c.args.number c.without_twos.result c.in_default.not-Decimal c.requires
    (subst (λ (e : ℤ). TakesTwosOut c.args.number.num e c.without_twos.result)
    e c.without_twos.ensures)

pub returns-in_default-clause-normal : goal.returns-in_default-clause-normal
returns-in_default-clause-normal c =
    let f : SFits w32 c.args.number.two = search rules in
    let e : to_z w32 (of_z w32 c.args.number.two) ≡ c.args.number.two = omega (arith, ints) in
    is_normal_by_twos c.args.form
    c.args.number c.without_twos.result c.in_default.not-Decimal c.requires (subst
    (λ (e : ℤ). TakesTwosOut c.args.number.num e c.without_twos.result) e c.without_twos.ensures)
