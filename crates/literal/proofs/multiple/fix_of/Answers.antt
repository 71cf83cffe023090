use Rattle.std.proofs.Common.{◌≡◌, ◌<◌, ◌^◌, ℤ, pos, arith, rules, subst, SFits, to_z, of_z, w32}
use Rattle.std.proofs.Common.{true≢false, refl, sym, ◌∙◌}
use Rattle.std.proofs.lemmas.Int.{ints}
use Rattle.literal.specs.Normal.{IsFix, HasFives, IsCapped}
use Rattle.literal.proofs.Limits.{bounded}
use Rattle.literal.proofs.Fixes.{fix_zero, fix_found, no_fix, is_some}
use Rattle.literal.proofs.multiple.fix_of.Goals as goal

pub returns-then-lit-eq0-clause-greatest : goal.returns-then-lit-eq0-clause-greatest
returns-then-lit-eq0-clause-greatest c = fix_zero c.args.lit.now c.if-lit-eq0.true

pub returns-then-lit-eq0-clause-none : goal.returns-then-lit-eq0-clause-none
returns-then-lit-eq0-clause-none c =
    is_some c.args.lit.now (pos 512) _ (fix_zero c.args.lit.now c.if-lit-eq0.true)

pub has_fives-requires : goal.has_fives-requires
has_fives-requires c =
    (bounded c.args.lit.now c.requires).ten_low

pub place_of-requires : goal.place_of-requires
place_of-requires c =
    let b = bounded c.args.lit.now c.requires in
    let p = b.two_low in
    let q = b.two_high in
    let r = b.ten_low in
    let s = b.ten_high in
    record {
      two = (omega (arith, ints), omega (arith, ints));
      ten = (omega (arith, ints), omega (arith, ints));
    }

pub returns-then-has_fives-clause-greatest : goal.returns-then-has_fives-clause-greatest
returns-then-has_fives-clause-greatest c =
    let n : 0 < c.args.lit.now.num = omega arith in
    let k : c.args.lit.now.num < 2 ^ 128 = omega arith in
    let f : SFits w32 c.place_of.result = search rules in
    let e : to_z w32 (of_z w32 c.place_of.result) ≡ c.place_of.result = omega (arith, ints) in
    let g : SFits w32 c.capped.result = search rules in
    let d : to_z w32 (of_z w32 c.capped.result) ≡ c.capped.result = omega (arith, ints) in
    subst (IsFix c.args.lit.now) (sym d) (fix_found c.args.lit.now c.requires n k
    (c.has_fives.ensures.0 c.if-has_fives.true) c.place_of.result c.capped.result c.place_of.ensures
    (subst (λ (p : ℤ). IsCapped p c.capped.result) e c.capped.ensures))

pub returns-then-has_fives-clause-none : goal.returns-then-has_fives-clause-none
returns-then-has_fives-clause-none c =
    let n : 0 < c.args.lit.now.num = omega arith in
    let k : c.args.lit.now.num < 2 ^ 128 = omega arith in
    is_some c.args.lit.now (to_z w32 (of_z w32 c.capped.result)) _
    (returns-then-has_fives-clause-greatest c)

pub returns-else-has_fives-clause-none : goal.returns-else-has_fives-clause-none
returns-else-has_fives-clause-none c =
    let n : 0 < c.args.lit.now.num = omega arith in
    let f : ¬ HasFives c.args.lit.now.num c.args.lit.now.ten =
    λ h. true≢false (sym (c.has_fives.ensures.1 h) ∙ c.if-has_fives.false) in
    (λ e. no_fix c.args.lit.now c.requires n f, λ e. refl)
