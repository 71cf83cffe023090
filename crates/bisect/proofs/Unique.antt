-- A tree has one list of boxes, and so one answer.
use Rattle.std.specs.Prelude.{◌≡◌, ◌∷◌, [], ⊤, ℕ, suc, List, Option, Some, None, refl}
use Rattle.std.specs.List.{AllPairs}
use Rattle.std.specs.Ordering.{nat_cmp, ordering_reverse}
use Rattle.std.specs.Cmp.Lexicographic.{slice_cmp}
use Rattle.std.specs.declared.cmp.Ordering.TheVariants.{Less, Greater}
use Rattle.std.proofs.Common.{sym, ◌∙◌, ap, subst, inl, inr, arith}
use Rattle.std.proofs.lemmas.Cmp.{nat_list_cmp_total}
use Rattle.bisect.specs.declared.outcome.OpenLeaf.{OpenLeaf}
use Rattle.bisect.specs.declared.outcome.Outcome.{Outcome}
use Rattle.bisect.specs.declared.outcome.Outcome.TheVariants as outcome
use Rattle.bisect.specs.Trees.{Tree}
use Rattle.bisect.specs.Boxes.{IsBefore, AreBoxes, first_open}
use Rattle.bisect.proofs.Boxes.{not_some}
use Rattle.bisect.specs.Answers.{IsAnswer, IsAnswerOf, open_at}
use Rattle.bisect.proofs.Listings.{Has, from_contains, to_contains}

-- ---- order
not_both : (p q : List ℕ) → IsBefore p q → IsBefore q p → ⊥
not_both p q a b = let e = nat_list_cmp_total.antisymm p q in
    let f : slice_cmp nat_cmp p q ≡ ordering_reverse Less = e ∙ ap ordering_reverse b in
    let g : Less ≡ Greater = sym a ∙ f in cc

abbrev pub Later : List ℕ → List (List ℕ) → Type 0
Later p ps = (q : List ℕ) → Has ps q → IsBefore p q

-- each is before the later ones
abbrev pub Rising : List (List ℕ) → Type 0
Rising [] = ⊤
Rising (p ∷ ps) = Later p ps × Rising ps

later_of : (p : List ℕ) (ps : List (List ℕ)) → AllPairs IsBefore (p ∷ ps) → Later p ps
later_of p ps a q h = let c = to_contains ps q h in
    subst (λ r. IsBefore p r) c.2 (a 0 (suc c.0) q (omega arith) (let l = c.1 in omega (arith, l)))

pub rising_of : (ps : List (List ℕ)) → AllPairs IsBefore ps → Rising ps
rising_of [] a = tt
rising_of (p ∷ ps) a = (
  later_of p ps a,
  rising_of ps (λ i j d l m. a (suc i) (suc j) d (omega (arith, l)) (omega (arith, m))),
)

abbrev SameIn : List (List ℕ) → List (List ℕ) → Type 0
SameIn xs ys = (p : List ℕ) → Has xs p → Has ys p

-- the first is the first of the other
heads : (x y : List ℕ) (xs ys : List (List ℕ)) → Later x xs → Later y ys → Has (y ∷ ys) x
    → Has (x ∷ xs) y → x ≡ y
heads x y xs ys a b (inl e) k = sym e
heads x y xs ys a b (inr h) (inl e) = e
heads x y xs ys a b (inr h) (inr k) = absurd (not_both x y (a y k) (b x h))

drop_head : (x : List ℕ) (xs ys : List (List ℕ)) → Later x xs → (p : List ℕ) → Has xs p
    → Has (x ∷ ys) p → Has ys p
drop_head x xs ys a p h (inl e) = let b = a p h in
    absurd (not_both x p b (subst (λ r. IsBefore r x) e (subst (λ r. IsBefore x r) (sym e) b)))
drop_head x xs ys a p h (inr k) = k

same_lists : (xs ys : List (List ℕ)) → Rising xs → Rising ys → SameIn xs ys → SameIn ys xs → xs ≡ ys
same_lists [] [] a b f g = refl
same_lists [] (y ∷ ys) a b f g = absurd (g y (inl refl))
same_lists (x ∷ xs) [] a b f g = absurd (f x (inl refl))
same_lists (x ∷ xs) (y ∷ ys) a b f g =
    let e : x ≡ y = heads x y xs ys a.0 b.0 (f x (inl refl)) (g y (inl refl)) in
    let b0 : Later x ys = subst (λ r. Later r ys) (sym e) b.0 in
    let t : xs ≡ ys = same_lists xs ys a.1 b.1
    (λ p h. drop_head x xs ys a.0 p h (subst (λ r. Has (r ∷ ys) p) (sym e) (f p (inr h))))
    (λ p h. drop_head x ys xs b0 p h (g p (inr h))) in
    cc

one_list : (t : Tree) (xs ys : List (List ℕ)) → AreBoxes t xs → AreBoxes t ys → xs ≡ ys
one_list t xs ys a b = same_lists xs ys (rising_of xs a.rising) (rising_of ys b.rising)
    (λ p h. from_contains ys p (b.all p (a.only p (to_contains xs p h))))
    (λ p h. from_contains xs p (a.all p (b.only p (to_contains ys p h))))

-- ---- the answer
-- two of what was first
both_first : (o : Option (List ℕ × ℕ)) (x y : List ℕ × ℕ) → o ≡ Some x → o ≡ Some y → x ≡ y
both_first None x y e f = cc
both_first (Some z) x y e f = cc

-- two leaves with the same path and goal, of the same case
same_leaf : (x y : OpenLeaf) (at other : List ℕ × ℕ) → at ≡ other → x ≡ open_at 0 at
    → y ≡ open_at 0 other → x ≡ y
same_leaf x y at other e p q = p ∙ ap (open_at 0) e ∙ sym q

of_first_case : (x : OpenLeaf) → x.case ≡ 0 → x ≡ open_at 0 (x.path, x.goal)
of_first_case x e = ap (λ (k : ℕ). open_at k (x.path, x.goal)) e

same_unproved : (n m : ℕ) (x y : OpenLeaf) → n ≡ m → x ≡ y
    → outcome.Unproved n x ≡ outcome.Unproved m y
same_unproved n m x y d e = ap (λ (k : ℕ). outcome.Unproved k x) d
    ∙ ap (λ (z : OpenLeaf). outcome.Unproved m z) e

by_list : (t : Tree) (limit : ℕ) (ps : List (List ℕ)) (f g : Outcome) → IsAnswerOf t limit ps f
    → IsAnswerOf t limit ps g → f ≡ g
by_list t limit ps outcome.BoxLimit outcome.BoxLimit a b = refl
by_list t limit ps outcome.BoxLimit (outcome.Unproved n x) a b = let l = b.0 in
    absurd (omega (arith, a, l))
by_list t limit ps outcome.BoxLimit (outcome.Leaves n ls) a b = let l = b.0 in
    absurd (omega (arith, a, l))
by_list t limit ps (outcome.Unproved n x) outcome.BoxLimit a b = let l = a.0 in
    absurd (omega (arith, b, l))
by_list t limit ps (outcome.Unproved n x) (outcome.Unproved m y) a b =
    same_unproved n m x y (a.2 ∙ sym b.2)
    (same_leaf x y (x.path, x.goal) (y.path, y.goal)
    (both_first (first_open t ps) (x.path, x.goal) (y.path, y.goal) a.1 b.1)
    (of_first_case x a.3) (of_first_case y b.3))
by_list t limit ps (outcome.Unproved m x) (outcome.Leaves n ls) a b =
    absurd (not_some (x.path, x.goal) (sym a.1 ∙ b.1))
by_list t limit ps (outcome.Leaves n ls) outcome.BoxLimit a b = let l = a.0 in
    absurd (omega (arith, b, l))
by_list t limit ps (outcome.Leaves n ls) (outcome.Unproved m x) a b =
    absurd (not_some (x.path, x.goal) (sym b.1 ∙ a.1))
by_list t limit ps (outcome.Leaves n ls) (outcome.Leaves m ks) a b =
    let e : n ≡ m = a.2 ∙ sym b.2 in let f : ls ≡ ks = a.3 ∙ sym b.3 in cc

pub one_answer : (t : Tree) (limit : ℕ) (found other : Outcome) → IsAnswer t limit found
    → IsAnswer t limit other → found ≡ other
one_answer t limit found other a b =
    by_list t limit b.0 found other
    (subst (λ ps. IsAnswerOf t limit ps found) (one_list t a.0 b.0 a.1 b.1) a.2) b.2
