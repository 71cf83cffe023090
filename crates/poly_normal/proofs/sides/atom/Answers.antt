use Rattle.std.proofs.Common.{arith, ap, ◌∙◌, ◌≡◌, ◌++◌, ◌∷◌, pos, [], slice_set, refl, length, ℕ}
use Rattle.std.proofs.Common.{List}
use Rattle.poly_normal.specs.Polynomial.{Polynomial}
use Rattle.poly_normal.specs.TermsOf.{polynomial_of}
use Rattle.poly_normal.specs.Places.{unit_row}
use Rattle.poly_normal.proofs.Limits.{atom_joined, atom_equal}
use Rattle.poly_normal.proofs.sides.atom.Goals as goal

pub invariant_of-result-clause-joined : goal.invariant_of-result-clause-joined
invariant_of-result-clause-joined c =
    let row : c.deref.result.now ≡ unit_row c.args.width c.args.place =
    c.deref.ensures.value ∙ ap (λ (l : List ℕ). slice_set l c.args.place 1)
    (c.in_ok-powers.ensures.items_if_clones_equal (λ y e. e)) in
    atom_joined c.args.width c.push.new.self.width c.args.place c.deref.result.now
    (polynomial_of c.push.new.self) (c.push.ensures.width ∙ c.new-terms.ensures.width) row
    (c.in_ok-push.ensures.ok
    ∙ ap (λ (p : Polynomial). p ++ record { coefficient = pos 1; monomial = c.deref.result.now }
    ∷ []) c.new-terms.ensures.empty)

pub invariant_of-result-clause-few : goal.invariant_of-result-clause-few
invariant_of-result-clause-few c =
    let same = ap length (c.in_ok-push.ensures.ok ∙ ap (λ (p : Polynomial). p ++ record {
      coefficient = pos 1;
      monomial = c.deref.result.now;
    } ∷ []) c.new-terms.ensures.empty) in omega arith

pub returns-clause-atom : goal.returns-clause-atom
returns-clause-atom c =
    let row : c.deref.result.now ≡ unit_row c.args.width c.args.place =
    c.deref.ensures.value ∙ ap (λ (l : List ℕ). slice_set l c.args.place 1)
    (c.in_ok-powers.ensures.items_if_clones_equal (λ y e. e)) in
    record {
      equal = atom_equal c.args.width c.args.place c.deref.result.now
          (polynomial_of c.push.new.self) row
          (c.in_ok-push.ensures.ok ∙ ap (λ (p : Polynomial). p
          ++ record { coefficient = pos 1; monomial = c.deref.result.now }
          ∷ []) c.new-terms.ensures.empty);
      weight = refl;
      degree = refl;
    }
