use mir.Syntax.{w128}
use Rattle.std.proofs.Common.{arith, ap, ◌∙◌, ◌≡◌, ◌++◌, pos, to_z, [], refl}
use Rattle.std.proofs.lemmas.Int.{ints}
use Rattle.poly_normal.specs.Polynomial.{Polynomial}
use Rattle.poly_normal.specs.Rows.{with_term}
use Rattle.poly_normal.specs.TermsOf.{polynomial_of}
use Rattle.poly_normal.specs.Places.{zero_row}
use Rattle.poly_normal.proofs.Limits.{constant_joined, constant_equal, constant_few}
use Rattle.poly_normal.proofs.sides.constant.Goals as goal

pub invariant_of-result-clause-joined : goal.invariant_of-result-clause-joined
invariant_of-result-clause-joined c =
    let row : c.deref.result.now ≡ zero_row c.args.width =
    c.deref.ensures.value ∙ c.in_ok-powers.ensures.items_if_clones_equal (λ y e. e) in
    let size : to_z w128 c.args.size ≡ pos c.args.size = omega (arith, ints, c.requires) in
    constant_joined c.args.width c.push_unless_zero.new.self.width c.args.size
    (to_z w128 c.args.size) c.deref.result.now (polynomial_of c.push_unless_zero.new.self)
    (c.push_unless_zero.ensures.width ∙ c.new-terms.ensures.width) size row
    (c.in_ok-push_unless_zero.ensures.ok ∙ ap (λ (p : Polynomial). p
    ++ with_term (to_z w128 c.args.size) c.deref.result.now []) c.new-terms.ensures.empty)

pub invariant_of-result-clause-few : goal.invariant_of-result-clause-few
invariant_of-result-clause-few c = constant_few (to_z w128 c.args.size) c.deref.result.now
    (polynomial_of c.push_unless_zero.new.self)
    (c.in_ok-push_unless_zero.ensures.ok ∙ ap (λ (p : Polynomial). p
    ++ with_term (to_z w128 c.args.size) c.deref.result.now []) c.new-terms.ensures.empty)

pub returns-clause-constant : goal.returns-clause-constant
returns-clause-constant c =
    let row : c.deref.result.now ≡ zero_row c.args.width =
    c.deref.ensures.value ∙ c.in_ok-powers.ensures.items_if_clones_equal (λ y e. e) in
    let size : to_z w128 c.args.size ≡ pos c.args.size = omega (arith, ints, c.requires) in
    record {
      equal = constant_equal (to_z w128 c.args.size) c.args.size c.deref.result.now c.args.width
          (polynomial_of c.push_unless_zero.new.self) size row
          (c.in_ok-push_unless_zero.ensures.ok ∙ ap (λ (p : Polynomial). p
          ++ with_term (to_z w128 c.args.size) c.deref.result.now []) c.new-terms.ensures.empty);
      weight = refl;
      degree = refl;
    }
