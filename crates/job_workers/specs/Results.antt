-- Results of jobs, by their numbers.
use Rattle.std.specs.Prelude.{◌<◌, ◌+◌, ⊤, ℕ, List, [], ◌∷◌, All, Option, None, IfSome, length}
use Rattle.std.specs.Prelude.{slice_index_or}

-- each is a result of the number beside it
abbrev pub AreResultsOf : {O : Type 0} → (ℕ → O → Type 0) → List (ℕ × O) → Type 0
AreResultsOf {O} P done = All (λ (r : ℕ × O). P r.0 r.1) done

-- what stands in each slot is a result of the slot's number
abbrev pub AreSlots : {O : Type 0} → (ℕ → O → Type 0) → List (Option O) → Type 0
AreSlots {O} P slots = (k : ℕ) → k < length slots → IfSome (slice_index_or slots k None) (P k)

-- They are results of the numbers from n on, in order.
abbrev pub AreResults : {O : Type 0} → (ℕ → O → Type 0) → ℕ → List O → Type 0
AreResults P n [] = ⊤
AreResults P n (x ∷ xs) = P n x × AreResults P (n + 1) xs
