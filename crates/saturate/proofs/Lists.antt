-- Lists by number, marks and changes.
use lib.ListN.{replicate}
use Rattle.std.specs.Prelude.{◌≡◌, ◌⊎◌, ◌<◌, ◌+◌, ℕ, Bool, true, false, List, [], ◌∷◌, ◌++◌, length}
use Rattle.std.specs.Prelude.{Some, slice_get, slice_set, Contains, refl, ◌≢◌}
use Rattle.std.proofs.Common.{sym, ◌∙◌, ap, subst, inl, inr, arith, get_or, take, drop, add-one}
use Rattle.std.proofs.Common.{zero, suc}
use Rattle.std.proofs.lemmas.List.{drop_all, take_all, append-nil}
use Rattle.std.proofs.Math.Seq.{take-suc}
use Rattle.std.proofs.lemmas.List.Elements.{Contains-push, Contains-push_cases}
use Rattle.std.proofs.lemmas.List.Elements.{Contains-append_left}
use Rattle.std.proofs.lemmas.Option.{slice_get_read, slice_get_cases}
use Rattle.facts.specs.declared.fact.Slot.{Slot}
use Rattle.facts.specs.declared.instance.Instance.{Instance}
use Rattle.derivation.specs.Derivations.{At}
use Rattle.derivation.specs.Rounds.{IsSame}
use Rattle.derivation.specs.Changes.{IsListed}

-- ---- lists by number
pub item_at : {X : Type 0} (items all : List X) (k : ℕ) (x : X) → items ≡ all → k < length items
    → x ≡ get_or items k x → slice_get all k ≡ Some x
item_at items all k x e h r =
    subst (λ l. slice_get l k ≡ Some x) e (slice_get_read items (length items) k x refl h r)

-- one of the first i + 1 elements is one of the first i, or the next
pub taken_cases : {X : Type 0} (xs : List X) (i : ℕ) (d x : X) → i < length xs
    → Contains (take (i + 1) xs) x → Contains (take i xs) x ⊎ (x ≡ get_or xs i d)
taken_cases xs i d x h w =
    elim (Contains-push_cases (take i xs) (get_or xs i d) x (subst (λ l. Contains l x)
    (rw (add-one i) (take-suc xs i d h)) w)) [ inl y ↦ inl y | inr e ↦ inr (sym e) ]

pub taken_more : {X : Type 0} (xs : List X) (i : ℕ) (d x : X) → i < length xs
    → Contains (take i xs) x → Contains (take (i + 1) xs) x
taken_more xs i d x h w = subst (λ l. Contains l x) (sym (rw (add-one i) (take-suc xs i d h)))
    (Contains-append_left (take i xs) (get_or xs i d ∷ []) x w)

pub taken_here : {X : Type 0} (xs : List X) (i : ℕ) (d : X) → i < length xs
    → Contains (take (i + 1) xs) (get_or xs i d)
taken_here xs i d h = subst (λ l. Contains l (get_or xs i d))
    (sym (rw (add-one i) (take-suc xs i d h))) (Contains-push (take i xs) (get_or xs i d))

pub get_set_here : {X : Type 0} (xs : List X) (i : ℕ) (v : X) → i < length xs
    → slice_get (slice_set xs i v) i ≡ Some v
get_set_here [] i v h = absurd (omega arith)
get_set_here (x ∷ xs) zero v h = refl
get_set_here (x ∷ xs) (suc i) v h = get_set_here xs i v (omega arith)

pub get_set_there : {X : Type 0} (xs : List X) (i j : ℕ) (v : X) → i ≢ j
    → slice_get (slice_set xs i v) j ≡ slice_get xs j
get_set_there [] i j v h = refl
get_set_there (x ∷ xs) zero zero v h = absurd (h refl)
get_set_there (x ∷ xs) zero (suc j) v h = refl
get_set_there (x ∷ xs) (suc i) zero v h = refl
get_set_there (x ∷ xs) (suc i) (suc j) v h = get_set_there xs i j v (λ e. h (ap suc e))

pub none_in : {X : Type 0} (x : X) → Contains [] x → ⊥
none_in x w = let l : w.0 < 0 = w.1 in omega arith

-- the instance with a number
pub instance_at : (instances : List Instance) (k : ℕ) → k < length instances
    → (i : Instance) × (slice_get instances k ≡ Some i)
instance_at instances k l = elim (slice_get_cases instances k).1
    [ inl w ↦ (w.0, w.2) | inr w ↦ absurd (omega (arith, l, w.0)) ]

-- what is marked was marked, or is this
pub set_cases : (due : List Bool) (j k : ℕ) → slice_get (slice_set due j true) k ≡ Some true
    → (slice_get due k ≡ Some true) ⊎ (k ≡ j)
set_cases [] j k e = inl e
set_cases (d ∷ due) zero zero e = inr refl
set_cases (d ∷ due) zero (suc k) e = inl e
set_cases (d ∷ due) (suc j) zero e = inl e
set_cases (d ∷ due) (suc j) (suc k) e =
    elim (set_cases due j k e) [ inl h ↦ inl h | inr q ↦ inr (ap suc q) ]

pub set_keeps : (due : List Bool) (j k : ℕ) → slice_get due k ≡ Some true
    → slice_get (slice_set due j true) k ≡ Some true
set_keeps [] j k e = e
set_keeps (d ∷ due) zero zero e = refl
set_keeps (d ∷ due) zero (suc k) e = e
set_keeps (d ∷ due) (suc j) zero e = e
set_keeps (d ∷ due) (suc j) (suc k) e = set_keeps due j k e

pub all_true : (n k : ℕ) → slice_get (replicate n true) k ≡ Some false → ⊥
all_true zero k e = cc
all_true (suc n) zero e = cc
all_true (suc n) (suc k) e = all_true n k e

pub none_true : (n k : ℕ) → slice_get (replicate n false) k ≡ Some true → ⊥
none_true zero k e = cc
none_true (suc n) zero e = cc
none_true (suc n) (suc k) e = none_true n k e

-- a list that was lent for writing
pub written_back : {X : Type 0} (xs ys : List X) (n : ℕ) → length xs ≡ length ys → n ≡ length ys
    → take n (xs ++ drop (length xs) ys) ≡ xs
written_back xs ys n e m =
    let d : drop (length xs) ys ≡ [] = drop_all (length xs) ys (omega arith) in
    ap (λ l. take n (xs ++ l)) d ∙ ap (take n) (append-nil xs) ∙ take_all n xs (omega arith)

-- nothing is listed
pub listed_none : (changed : List Slot) (at new : At) → length changed ≡ 0
    → IsListed changed at new → IsSame at new
listed_none changed at new e l s = elim (l s) [ inl w ↦ absurd (omega (arith, e, w.1)) | inr h ↦ h ]
