-- What a list holds after one of its members was replaced.
use Rattle.std.specs.Prelude.{◌≡◌, ◌≢◌, ◌⊎◌, ◌<◌, ℕ, List, Some, slice_get, slice_set, length}
use Rattle.std.proofs.Common.{inl, inr, arith, ap, sym, ◌∙◌, length-set, get_or-set_same}
use Rattle.std.proofs.Common.{get_or-set_other}
use Rattle.std.proofs.lemmas.Option.{slice_get_within, slice_get-get_or, get_or_from_slice_get}
use Rattle.std.proofs.lemmas.Bool.{cases_lt}

-- two numbers are one or not
pub same_or_not : (i j : ℕ) → (i ≡ j) ⊎ (i ≢ j)
same_or_not i j = elim (cases_lt i j) [
  | inl l ↦ inr (λ e. let s : i ≡ j = e in omega arith)
  | inr l ↦ elim (cases_lt j i)
      [ inl m ↦ inr (λ e. let s : i ≡ j = e in omega arith) | inr m ↦ inl (omega arith) ]
]

module _ {V : Type 0} where
  -- where it was put, the new member stands
  pub set_same : (rows : List V) (i : ℕ) (w : V) → i < length rows
      → slice_get (slice_set rows i w) i ≡ Some w
  set_same rows i w l =
      slice_get-get_or (slice_set rows i w) i w (omega (arith, length-set rows i w))
      ∙ ap Some (get_or-set_same rows i w w l)

  -- what stands at another place afterwards stood there before
  pub other_back : (rows : List V) (i j : ℕ) (w v : V) → j ≢ i
      → slice_get (slice_set rows i w) j ≡ Some v → slice_get rows j ≡ Some v
  other_back rows i j w v ne e =
      let l = slice_get_within (slice_set rows i w) j v e in
      slice_get-get_or rows j v (omega (arith, length-set rows i w)) ∙ ap Some
      (sym (get_or-set_other rows i j w v ne) ∙ get_or_from_slice_get (slice_set rows i w) j v v e)
