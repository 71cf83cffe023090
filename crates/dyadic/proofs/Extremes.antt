-- Laws of what specs/Extremes defines.
use Rattle.std.specs.Prelude.{◌≡◌, ◌⊎◌, refl}
use Rattle.std.proofs.Common.{⊎_elim, sym, subst, ap}
use Rattle.fx_model.specs.Fraction.{le_antisymm}
use Rattle.fx_model.specs.Grid.{Bound, Below, At, Above, le_bound}
use Rattle.fx_model.specs.Enclosure.{BoundLe}
use Rattle.dyadic.specs.declared.number.End.{End}
use Rattle.dyadic.specs.Ends.{bound_of}
use Rattle.dyadic.proofs.Ends.{same_bound}
use Rattle.dyadic.specs.Order.{bound_trans}
use Rattle.dyadic.specs.Compared.{BoundLe_in, BoundLe_out}
use Rattle.dyadic.specs.Extremes.{greater_end, lesser_end, chosen, greater_above, lesser_below}

pub BoundLe-trans : (b c d : Bound) → BoundLe b c → BoundLe c d → BoundLe b d
BoundLe-trans b c d p q = BoundLe_in b d (bound_trans b c d (BoundLe_out b c p) (BoundLe_out c d q))

-- the greater of two is at most what both are
pub greater_least : (a b : End) (c : Bound) → BoundLe (bound_of a) c → BoundLe (bound_of b) c
    → BoundLe (bound_of (greater_end a b)) c
greater_least a b c p q =
    chosen (le_bound (bound_of a) (bound_of b)) b a (λ e. BoundLe (bound_of e) c) (λ t. q) (λ f. p)

pub lesser_most : (a b : End) (c : Bound) → BoundLe c (bound_of a) → BoundLe c (bound_of b)
    → BoundLe c (bound_of (lesser_end a b))
lesser_most a b c p q =
    chosen (le_bound (bound_of a) (bound_of b)) a b (λ e. BoundLe c (bound_of e)) (λ t. p) (λ f. q)

pub BoundLe-antisymm : (b c : Bound) → BoundLe b c → BoundLe c b → b ≡ c
BoundLe-antisymm Below Below p q = refl
BoundLe-antisymm Below (At h) p q = absurd q
BoundLe-antisymm Below Above p q = absurd q
BoundLe-antisymm (At g) Below p q = absurd p
BoundLe-antisymm (At g) (At h) p q = ap At (le_antisymm g h p q)
BoundLe-antisymm (At g) Above p q = absurd q
BoundLe-antisymm Above Below p q = absurd p
BoundLe-antisymm Above (At h) p q = absurd p
BoundLe-antisymm Above Above p q = refl

-- an end that is one of two, and at least or at most both, is the greater or the lesser
pub greater_only : (a b r : End) → (r ≡ a) ⊎ (r ≡ b) → BoundLe (bound_of a) (bound_of r)
    → BoundLe (bound_of b) (bound_of r) → r ≡ greater_end a b
greater_only a b r one p q = same_bound r (greater_end a b)
    (BoundLe-antisymm (bound_of r) (bound_of (greater_end a b)) (⊎_elim (λ e. subst (λ k.
    BoundLe (bound_of k) (bound_of (greater_end a b))) (sym e) (greater_above a b).0) (λ e. subst
    (λ k. BoundLe (bound_of k) (bound_of (greater_end a b))) (sym e) (greater_above a b).1) one)
    (greater_least a b (bound_of r) p q))

pub lesser_only : (a b r : End) → (r ≡ a) ⊎ (r ≡ b) → BoundLe (bound_of r) (bound_of a)
    → BoundLe (bound_of r) (bound_of b) → r ≡ lesser_end a b
lesser_only a b r one p q = same_bound r (lesser_end a b)
    (BoundLe-antisymm (bound_of r) (bound_of (lesser_end a b)) (lesser_most a b (bound_of r) p q)
    (⊎_elim (λ e. subst (λ k. BoundLe (bound_of (lesser_end a b)) (bound_of k)) (sym e)
    (lesser_below a b).0) (λ e. subst (λ k. BoundLe (bound_of (lesser_end a b)) (bound_of k))
    (sym e) (lesser_below a b).1) one))
