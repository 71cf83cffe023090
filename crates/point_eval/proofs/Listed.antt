-- Lists that are taken from others one by one.
use Rattle.std.specs.Prelude.{◌≡◌, ℕ, zero, suc, ◌+◌, List, [], ◌∷◌, ◌++◌, take, map, slice_get}
use Rattle.std.specs.Prelude.{Some, refl}
use Rattle.std.specs.List.{AllByRecursion}
use Rattle.std.proofs.Common.{sym, ap, ◌∙◌, subst, arith}
use Rattle.std.proofs.lemmas.Option.{none-some, same_Some}

-- the first n of a list, of which each has a property
pub record AreListed {A B : Type 0} (P : B → Type 0) (f : A → B) (all : List B) (n : ℕ) (xs :
    List A) : Type 0 where
  pub first : map f xs ≡ take n all
  pub each : AllByRecursion P (map f xs)

pub listed_none : {A B : Type 0} (P : B → Type 0) (f : A → B) (all : List B)
    → AreListed P f all 0 []
listed_none P f all = record { first = refl; each = tt }

take_next : {B : Type 0} (all : List B) (n : ℕ) (x : B)
    → slice_get all n ≡ Some x → take (suc n) all ≡ take n all ++ (x ∷ [])
take_next [] n x h = absurd (none-some _ h)
take_next (y ∷ all) zero x h = ap (λ z. z ∷ []) (same_Some _ _ h)
take_next (y ∷ all) (suc n) x h = ap (λ zs. y ∷ zs) (take_next all n x h)

map_push : {A B : Type 0} (f : A → B) (xs : List A) (x : A) → map f (xs ++ (x ∷ [])) ≡ map f xs
    ++ (f x ∷ [])
map_push f [] x = refl
map_push f (y ∷ xs) x = ap (λ zs. f y ∷ zs) (map_push f xs x)

each_push : {B : Type 0} (P : B → Type 0) (xs : List B) (x : B)
    → AllByRecursion P xs → P x → AllByRecursion P (xs ++ (x ∷ []))
each_push P [] x h p = (p, tt)
each_push P (y ∷ xs) x h p = (h.0, each_push P xs x h.1 p)

pub listed_more : {A B : Type 0} (P : B → Type 0) (f : A → B) (all : List B) (n : ℕ) (xs : List A)
    (x : A)
    → AreListed P f all n xs → slice_get all n ≡ Some (f x) → P (f x)
    → AreListed P f all (n + 1) (xs ++ (x ∷ []))
listed_more P f all n xs x l h p =
    let e : n + 1 ≡ suc n = omega arith in record {
      first = map_push f xs x ∙ ap (λ zs. zs ++ (f x ∷ [])) l.first ∙ sym (take_next all n (f x) h)
          ∙ ap (λ k. take k all) (sym e);
      each = subst (AllByRecursion P) (sym (map_push f xs x))
          (each_push P (map f xs) (f x) l.each p);
    }
