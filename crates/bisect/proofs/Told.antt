-- What is read off the list of a tree's boxes.
use Rattle.std.specs.Prelude.{◌≡◌, ◌∷◌, [], ◌⊎◌, ◌↔◌, ℕ, zero, suc, List, Option, Some, None, refl}
use Rattle.std.specs.List.{Contains}
use Rattle.std.proofs.Common.{sym, ◌∙◌, ap, subst, inl, inr, arith}
use Rattle.std.proofs.lemmas.Option.{same_Some}
use Rattle.bisect.specs.declared.settler.State.{State}
use Rattle.bisect.specs.declared.settler.State.TheVariants as state
use Rattle.bisect.specs.declared.outcome.Leaf.{Leaf}
use Rattle.bisect.specs.Trees.{Tree, child_count, IsLeaf}
use Rattle.bisect.specs.Boxes.{IsBefore, IsOpenLeaf, AreBoxes, first_open, leaves_of, or_later}
use Rattle.bisect.specs.Boxes.{open_goal, with_leaf, leaf_at}
use Rattle.bisect.proofs.Listings.{Has, from_contains, to_contains}
use Rattle.bisect.proofs.Unique.{Rising, rising_of}

none_or_some : {X : Type 0} (x : X) → None ≡ Some x → ⊥
none_or_some x e = cc

-- ---- the goal of a leaf
some_goal : (n : ℕ) (s : State) (g : ℕ) → open_goal n s ≡ Some g → (n ≡ 0) × (s ≡ state.Open g)
some_goal zero state.Void g e = absurd (none_or_some g e)
some_goal zero (state.Settled facts) g e = absurd (none_or_some g e)
some_goal zero (state.Open goal) g e = (refl, ap (λ (k : ℕ). state.Open k) (same_Some goal g e))
some_goal (suc n) s g e = absurd (none_or_some g e)

no_goal : (n : ℕ) (s : State) (g : ℕ) → open_goal n s ≡ None → n ≡ 0 → s ≡ state.Open g → ⊥
no_goal n s g e z o =
    let f : open_goal 0 (state.Open g) ≡ None = subst (λ (k : ℕ). open_goal k (state.Open g)
    ≡ None) z (subst (λ (r : State). open_goal n r ≡ None) o e) in
    none_or_some g (sym f)

-- an option, with its equation
by_option : (o : Option ℕ) → (o ≡ None) ⊎ ((g : ℕ) × (o ≡ Some g))
by_option None = inl refl
by_option (Some g) = inr (g, refl)

module _ (t : Tree) where
  -- ---- the first open leaf
  abbrev IsFirst : List (List ℕ) → List ℕ → ℕ → Type 0
  IsFirst ps path goal = Has ps path × (child_count t path ≡ 0)
      × (t.state_at path ≡ state.Open goal)
      × ((q : List ℕ) (g : ℕ) → Has ps q → child_count t q ≡ 0 → t.state_at q ≡ state.Open g
      → (path ≡ q) ⊎ IsBefore path q)

  is_first : (ps : List (List ℕ)) (path : List ℕ) (goal : ℕ) → Rising ps
      → first_open t ps ≡ Some (path, goal) → IsFirst ps path goal
  is_first [] path goal r e = absurd (none_or_some (path, goal) e)
  is_first (p ∷ ps) path goal r e = elim (by_option (open_goal (child_count t p) (t.state_at p))) [
    | inr s ↦
        let f : Some (p, s.0) ≡ Some (path, goal) =
        subst (λ (o : Option ℕ). or_later p o (first_open t ps) ≡ Some (path, goal)) s.1 e in
        let both : (p, s.0) ≡ (path, goal) = same_Some (p, s.0) (path, goal) f in
        let a : p ≡ path = ap (λ (x : List ℕ × ℕ). x.0) both in
        let b : s.0 ≡ goal = ap (λ (x : List ℕ × ℕ). x.1) both in
        let h = some_goal (child_count t p) (t.state_at p) s.0 s.1 in (
          inl a,
          subst (λ (q : List ℕ). child_count t q ≡ 0) a h.0,
          subst (λ (q : List ℕ). t.state_at q ≡ state.Open goal) a
              (h.1 ∙ ap (λ (k : ℕ). state.Open k) b),
          λ q g m z o. elim m [
            | inl same ↦ inl (sym a ∙ same)
            | inr late ↦ inr (subst (λ (x : List ℕ). IsBefore x q) a (r.0 q late))
          ],
        )
    | inl n ↦
        let f : first_open t ps ≡ Some (path, goal) =
        subst (λ (o : Option ℕ). or_later p o (first_open t ps) ≡ Some (path, goal)) n e in
        let ih = is_first ps path goal r.1 f in (
          inr ih.0,
          ih.1,
          ih.2,
          λ q g m z o. elim m [
            | inl same ↦ absurd (no_goal (child_count t q) (t.state_at q) g (subst
                (λ (x : List ℕ). open_goal (child_count t x) (t.state_at x) ≡ None) same n) z o)
            | inr late ↦ ih.3 q g late z o
          ],
        )
  ]

  none_open : (ps : List (List ℕ)) → first_open t ps ≡ None → (q : List ℕ) (g : ℕ) → Has ps q
      → child_count t q ≡ 0 → t.state_at q ≡ state.Open g → ⊥
  none_open [] e q g m z o = absurd m
  none_open (p ∷ ps) e q g m z o = elim (by_option (open_goal (child_count t p) (t.state_at p))) [
    | inr s ↦
        let f : Some (p, s.0) ≡ None =
        subst (λ (o : Option ℕ). or_later p o (first_open t ps) ≡ None) s.1 e in
        none_or_some (p, s.0) (sym f)
    | inl n ↦
        let f : first_open t ps ≡ None =
        subst (λ (o : Option ℕ). or_later p o (first_open t ps) ≡ None) n e in
        elim m [
          | inl same ↦ no_goal (child_count t q) (t.state_at q) g
              (subst (λ (x : List ℕ). open_goal (child_count t x) (t.state_at x) ≡ None) same n) z o
          | inr late ↦ none_open ps f q g late z o
        ]
  ]

pub first_told : (t : Tree) (boxes : List (List ℕ)) (path : List ℕ) (goal : ℕ) → AreBoxes t boxes
    → first_open t boxes ≡ Some (path, goal)
    → IsOpenLeaf t path goal
    × ((other : List ℕ) (g : ℕ) → IsOpenLeaf t other g → (path ≡ other) ⊎ IsBefore path other)
first_told t boxes path goal are e =
    let f = is_first t boxes path goal (rising_of boxes are.rising) e in (
      ((are.only path (to_contains boxes path f.0), f.1), f.2),
      λ other g o. f.3 other g (from_contains boxes other (are.all other o.0.0)) o.0.1 o.1,
    )

pub none_told : (t : Tree) (boxes : List (List ℕ)) → AreBoxes t boxes → first_open t boxes ≡ None
    → (path : List ℕ) (goal : ℕ) → ¬ (IsOpenLeaf t path goal)
none_told t boxes are e path goal o =
    none_open t boxes e path goal (from_contains boxes path (are.all path o.0.0)) o.0.1 o.1

-- ---- the leaves
abbrev HasLeaf : List Leaf → Leaf → Type 0
HasLeaf [] l = ⊥
HasLeaf (x ∷ xs) l = (x ≡ l) ⊎ HasLeaf xs l

to_leaves : (xs : List Leaf) (l : Leaf) → HasLeaf xs l → Contains xs l
to_leaves [] l h = absurd h
to_leaves (x ∷ xs) l (inl e) = (0, omega arith, e)
to_leaves (x ∷ xs) l (inr h) = let c = to_leaves xs l h in (suc c.0, omega (arith, c.1), c.2)

from_leaves : (xs : List Leaf) (l : Leaf) → Contains xs l → HasLeaf xs l
from_leaves [] l c = absurd (let b = c.1 in omega arith)
from_leaves (x ∷ xs) l (zero, b, e) = inl e
from_leaves (x ∷ xs) l (suc k, b, e) = inr (from_leaves xs l (k, omega (arith, b), e))

-- a leaf is put in, and a box that is cut isn't
put_in : (n : ℕ) (x l : Leaf) (later : List Leaf) → HasLeaf (with_leaf n x later) l
    → ((n ≡ 0) × (x ≡ l)) ⊎ HasLeaf later l
put_in zero x l later (inl e) = inl (refl, e)
put_in zero x l later (inr h) = inr h
put_in (suc n) x l later h = inr h

put_here : (n : ℕ) (x l : Leaf) (later : List Leaf) → n ≡ 0 → x ≡ l
    → HasLeaf (with_leaf n x later) l
put_here zero x l later z e = inl e
put_here (suc n) x l later z e = absurd (omega (arith, z))

put_later : (n : ℕ) (x l : Leaf) (later : List Leaf) → HasLeaf later l
    → HasLeaf (with_leaf n x later) l
put_later zero x l later h = inr h
put_later (suc n) x l later h = h

leaf_of : (t : Tree) (ps : List (List ℕ)) (l : Leaf) → HasLeaf (leaves_of t ps) l
    → Has ps l.path × (child_count t l.path ≡ 0) × (l.state ≡ t.state_at l.path)
leaf_of t [] l h = absurd h
leaf_of t (p ∷ ps) l h = elim (put_in (child_count t p) (leaf_at t p) l (leaves_of t ps) h) [
  | inl here ↦
      let e : p ≡ l.path = ap (λ (x : Leaf). x.path) here.1 in (
        inl e,
        subst (λ (q : List ℕ). child_count t q ≡ 0) e here.0,
        sym (ap (λ (x : Leaf). x.state) here.1) ∙ ap (λ (q : List ℕ). t.state_at q) e,
      )
  | inr late ↦ let ih = leaf_of t ps l late in (inr ih.0, ih.1, ih.2)
]

is_leaf_of : (t : Tree) (ps : List (List ℕ)) (l : Leaf) → Has ps l.path → child_count t l.path ≡ 0
    → l.state ≡ t.state_at l.path → HasLeaf (leaves_of t ps) l
is_leaf_of t [] l h z s = absurd h
is_leaf_of t (p ∷ ps) l (inl e) z s =
    let with_state : State → Leaf = λ r. record { path = l.path; state = r } in
    let at : leaf_at t l.path ≡ l = ap with_state (sym s) in
    put_here (child_count t p) (leaf_at t p) l (leaves_of t ps)
    (subst (λ (q : List ℕ). child_count t q ≡ 0) (sym e) z) (ap (leaf_at t) e ∙ at)
is_leaf_of t (p ∷ ps) l (inr h) z s =
    put_later (child_count t p) (leaf_at t p) l (leaves_of t ps) (is_leaf_of t ps l h z s)

pub leaves_told : (t : Tree) (boxes : List (List ℕ)) → AreBoxes t boxes → (l : Leaf)
    → Contains (leaves_of t boxes) l ↔ (IsLeaf t l.path × (l.state ≡ t.state_at l.path))
leaves_told t boxes are l = (
  λ c. let f = leaf_of t boxes l (from_leaves (leaves_of t boxes) l c) in
      ((are.only l.path (to_contains boxes l.path f.0), f.1), f.2),
  λ f. to_leaves (leaves_of t boxes) l
      (is_leaf_of t boxes l (from_contains boxes l.path (are.all l.path f.0.0)) f.0.1 f.1),
)
