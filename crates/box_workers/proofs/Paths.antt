-- Paths of a plan.
use Rattle.std.proofs.Common.{◌≡◌, inl, inr, ℕ, ◌<◌, List, [], ◌∷◌, ◌++◌, sym, ap, ◌∙◌, subst}
use Rattle.std.proofs.Common.{append_assoc}
use Rattle.box_tree.specs.Paths.{IsPathOf}
use Rattle.accounts.specs.Paths.{child}
use Rattle.accounts.proofs.SumsLaws.{child_same, ends}

pub child_path : (pieces : List ℕ → ℕ) (q : List ℕ) (i : ℕ) → IsPathOf pieces q → i < pieces q
    → IsPathOf pieces (child q i)
child_path pieces q i path below front piece rest e =
    elim (ends rest) [
      | inl none ↦
          let same = child_same q front i piece (e
          ∙ ap (λ (r : List ℕ). front ++ piece ∷ r) none) in
          let at : i < pieces front = subst (λ (f : List ℕ). i < pieces f) same.0 below in
          subst (λ (n : ℕ). n < pieces front) same.1 at
      | inr s ↦
          let longer : child q i ≡ child (front ++ piece ∷ s.0) s.1 = e ∙ ap (λ (r : List ℕ). front
          ++ piece ∷ r) s.2 ∙ sym (append_assoc front (piece ∷ s.0) (s.1 ∷ [])) in
          path front piece s.0 (child_same q (front ++ piece ∷ s.0) i s.1 longer).0
    ]
