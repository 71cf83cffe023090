-- Sides over rows against the sides that they stand for.
use Rattle.std.specs.Prelude.{◌≡◌, ◌↔◌, ℕ, pos, ◌+◌, ◌*◌, ◌≤◌, ◌<◌, ◌^◌, max, Bool, true, false}
use Rattle.std.specs.Prelude.{Option, Some, None, List, [], ◌∷◌, take, slice_index_or, refl}
use Rattle.std.proofs.Common.{sym, ap, ◌∙◌, subst, inl, inr}
use Rattle.poly_normal.specs.Polynomial.{coefficient_of}
use Rattle.poly_normal.specs.Form.{Side, constant, atom, sum, negation, difference, product}
use Rattle.poly_normal.specs.Mark.{IsTooLarge}
use Rattle.poly_normal.specs.Places.{trues, spread, spread_polynomial, spread_side, unit_row}
use Rattle.poly_normal.specs.Limited.{IsLike, IsLimited, side_of, constant_side, atom_side}
use Rattle.poly_normal.specs.declared.limited.Limited.{Limited}
use Rattle.poly_normal.proofs.Weights.{renamed-equal, sum-equal, negation-equal, product-equal}
use Rattle.poly_normal.proofs.Weights.{product-negation, count-equal}
use Rattle.poly_normal.proofs.Spread.{HasWidth, spread-count, spread-zero, spread-atom}
use Rattle.poly_normal.proofs.Spread.{width-append, width-negation, width-product, spread-append}
use Rattle.poly_normal.proofs.Spread.{spread-negation, spread-times}
use Rattle.poly_normal.proofs.Limits.{length-unit, length-zeros}

-- s has rows of the width of the places, and stands for t once they are spread
pub record IsPlaced (bs : List Bool) (s t : Side) : Type 0 where
  pub rows : HasWidth (trues bs) s.polynomial
  pub like : IsLike (spread_side bs s) t

pub like-trans : (s t u : Side) → IsLike s t → IsLike t u → IsLike s u
like-trans s t u a b = record {
  equal = λ m. a.equal m ∙ b.equal m;
  weight = a.weight ∙ b.weight;
  degree = a.degree ∙ b.degree;
}

like-spread : (bs : List Bool) (s t : Side) → IsLike s t
    → IsLike (spread_side bs s) (spread_side bs t)
like-spread bs s t a = record {
  equal = renamed-equal (spread bs) s.polynomial t.polynomial a.equal;
  weight = a.weight;
  degree = a.degree;
}

-- what is like a placed side is placed
pub placed-like : (bs : List Bool) (r s t : Side) → HasWidth (trues bs) r.polynomial → IsLike r s
    → IsPlaced bs s t → IsPlaced bs r t
placed-like bs r s t w a p = record {
  rows = w;
  like = like-trans (spread_side bs r) (spread_side bs s) t (like-spread bs r s a) p.like;
}

large-like : (s t : Side) → IsLike s t → IsTooLarge s → IsTooLarge t
large-like s t a h = elim h [
  | inl k ↦ inl (subst (λ n. 2 ^ 127 ≤ n) a.weight k)
  | inr r ↦ elim r [
    | inl k ↦ inr (inl (subst (λ n. 4096 < n) a.degree k))
    | inr k ↦ inr (inr (subst (λ n. 256 < n) (count-equal s.polynomial t.polynomial a.equal) k))
  ]
]

pub like-sym : (s t : Side) → IsLike s t → IsLike t s
like-sym s t a =
    record { equal = λ m. sym (a.equal m); weight = sym a.weight; degree = sym a.degree }

-- the limits are passed by both or by neither
pub placed-large : (bs : List Bool) (s t : Side) → IsPlaced bs s t → IsTooLarge s ↔ IsTooLarge t
placed-large bs s t p = (
  (λ h. large-like (spread_side bs s) t p.like (elim h [
    | inl k ↦ inl k
    | inr r ↦ inr (elim r [
      | inl k ↦ inl k
      | inr k ↦ inr (subst (λ n. 256 < n) (sym (spread-count bs s.polynomial p.rows)) k)
    ])
  ])),
  (λ h. elim (large-like t (spread_side bs s) (like-sym (spread_side bs s) t p.like) h) [
    | inl k ↦ inl k
    | inr r ↦ inr (elim r [
      | inl k ↦ inl k
      | inr k ↦ inr (subst (λ n. 256 < n) (spread-count bs s.polynomial p.rows) k)
    ])
  ]),
)

pub placed-product : (bs : List Bool) (s t u v : Side) → IsPlaced bs s t → IsPlaced bs u v
    → IsPlaced bs (product s u) (product t v)
placed-product bs s t u v a b = record {
  rows = width-product (trues bs) s.polynomial u.polynomial a.rows b.rows;
  like = record {
    equal =
        λ m. ap (λ p. coefficient_of p m) (spread-times bs s.polynomial u.polynomial a.rows b.rows)
        ∙ product-equal (spread_polynomial bs s.polynomial)
        (spread_polynomial bs u.polynomial) t.polynomial v.polynomial a.like.equal b.like.equal m;
    weight = ap (λ n. n * u.weight) a.like.weight ∙ ap (λ n. t.weight * n) b.like.weight;
    degree = ap (λ n. n + u.degree) a.like.degree ∙ ap (λ n. t.degree + n) b.like.degree;
  };
}

pub placed-sum : (bs : List Bool) (s t u v : Side) → IsPlaced bs s t → IsPlaced bs u v
    → IsPlaced bs (sum s u) (sum t v)
placed-sum bs s t u v a b = record {
  rows = width-append (trues bs) s.polynomial u.polynomial a.rows b.rows;
  like = record {
    equal = λ m. ap (λ p. coefficient_of p m) (spread-append bs s.polynomial u.polynomial)
        ∙ sum-equal (spread_polynomial bs s.polynomial)
        (spread_polynomial bs u.polynomial) t.polynomial v.polynomial a.like.equal b.like.equal m;
    weight = ap (λ n. n + u.weight) a.like.weight ∙ ap (λ n. t.weight + n) b.like.weight;
    degree = ap (λ n. max n u.degree) a.like.degree ∙ ap (λ n. max t.degree n) b.like.degree;
  };
}

pub placed-negation : (bs : List Bool) (s t : Side) → IsPlaced bs s t
    → IsPlaced bs (negation s) (negation t)
placed-negation bs s t a = record {
  rows = width-negation (trues bs) s.polynomial a.rows;
  like = record {
    equal = λ m. ap (λ p. coefficient_of p m) (spread-negation bs s.polynomial)
        ∙ negation-equal (spread_polynomial bs s.polynomial) t.polynomial a.like.equal m;
    weight = a.like.weight;
    degree = a.like.degree;
  };
}

pub placed-constant : (bs : List Bool) (n : ℕ)
    → IsPlaced bs (constant_side (trues bs) n) (constant (pos n))
placed-constant bs n = record {
  rows = (length-zeros (trues bs), tt);
  like = record {
    equal = λ m. ap (λ l. coefficient_of (record { coefficient = pos n; monomial = l } ∷ []) m)
        (spread-zero bs);
    weight = refl;
    degree = refl;
  };
}

pub placed-atom : (bs : List Bool) (i place : ℕ) → place ≡ trues (take i bs)
    → slice_index_or bs i false ≡ true → IsPlaced bs (atom_side (trues bs) place) (atom i)
placed-atom bs i place e h = record {
  rows = (length-unit (trues bs) place, tt);
  like = record {
    equal = λ m. ap (λ l. coefficient_of (record { coefficient = pos 1; monomial = l } ∷ []) m)
        (ap (λ k. spread bs (unit_row (trues bs) k)) e ∙ spread-atom bs i h);
    weight = refl;
    degree = refl;
  };
}

-- a product with a negated factor is the negated product
pub like-negated : (s u : Side) → IsLike (product (negation s) u) (negation (product s u))
like-negated s u = record {
  equal = λ m. ap (λ p. coefficient_of p m) (product-negation s.polynomial u.polynomial);
  weight = refl;
  degree = refl;
}

pub limited-like : (w : ℕ) (s t : Side) (o : Option Limited) → IsLike s t
    → IsLimited w s o → IsLimited w t o
limited-like w s t None k h = large-like s t k h
limited-like w s t (Some l) k h = (h.0, like-trans (side_of l) s t h.1 k)

like-product : (s t u : Side) → IsLike s t → IsLike (product s u) (product t u)
like-product s t u k = record {
  equal = product-equal s.polynomial u.polynomial t.polynomial u.polynomial k.equal (λ m. refl);
  weight = ap (λ n. n * u.weight) k.weight;
  degree = ap (λ n. n + u.degree) k.degree;
}

-- a sum with a product of which one factor was negated
pub like-cross : (a m g b : Side) → IsLike m (negation g)
    → IsLike (sum a (product m b)) (difference a (product g b))
like-cross a m g b k =
    let j : IsLike (product m b) (negation (product g b)) =
    like-trans (product m b) (product (negation g) b) (negation (product g b))
    (like-product m (negation g) b k) (like-negated g b) in
    record {
      equal = sum-equal a.polynomial (product m b).polynomial a.polynomial
          (negation (product g b)).polynomial (λ m. refl) j.equal;
      weight = ap (λ n. a.weight + n) j.weight;
      degree = ap (λ n. max a.degree n) j.degree;
    }
