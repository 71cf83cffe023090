-- Results in order, and slots that change.
use Rattle.std.proofs.Common.{◌≡◌, ◌+◌, ◌<◌, inl, inr, ℕ, List, [], ◌∷◌, ◌++◌, length, Option, None}
use Rattle.std.proofs.Common.{slice_set, slice_index_or, get_or-set_same, get_or-set_other, sym}
use Rattle.std.proofs.Common.{subst, arith}
use Rattle.std.specs.Prelude.{IfSome}
use Rattle.std.proofs.lemmas.Bool.Decides.{eqb_tells}
use Rattle.job_workers.specs.Results.{AreResults, AreSlots}

-- one more at the end
pub results_push : {O : Type 0} (P : ℕ → O → Type 0) (n : ℕ) (xs : List O) (x : O)
    → AreResults P n xs → P (n + length xs) x → AreResults P n (xs ++ x ∷ [])
results_push P n [] x h k = (subst (λ m. P m x) (let e : n + 0 ≡ n = omega arith in e) k, tt)
results_push P n (y ∷ xs) x h k = (
  h.0,
  results_push P (n + 1) xs x h.1
      (subst (λ m. P m x) (let e : n + length (y ∷ xs) ≡ (n + 1) + length xs = omega arith in e) k),
)

-- another slot, whose result is one of its number
pub slots_set : {O : Type 0} (P : ℕ → O → Type 0) (slots : List (Option O)) (i : ℕ) (o : Option O)
    → i < length slots → AreSlots P slots → IfSome o (P i)
    → (k : ℕ) → k < length slots → IfSome (slice_index_or (slice_set slots i o) k None) (P k)
slots_set {O} P slots i o inside are here k below =
    elim (eqb_tells k i) [
      | inl same ↦
          let e : slice_index_or (slice_set slots i o) i None ≡ o =
          get_or-set_same slots i o None inside in
          let Q : ℕ → Type 0 = λ m. IfSome (slice_index_or (slice_set slots i o) m None) (P m) in
          let at : Q i = subst (λ (x : Option O). IfSome x (P i)) (sym e) here in
          subst Q (sym same.1) at
      | inr other ↦
          let e : slice_index_or (slice_set slots i o) k None ≡ slice_index_or slots k None =
          get_or-set_other slots i k o None other.1 in
          subst (λ (x : Option O). IfSome x (P k)) (sym e) (are k below)
    ]
