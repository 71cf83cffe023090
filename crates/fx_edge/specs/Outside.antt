-- What a call of a folder or of a sink may do. A count of faults never falls, and stands still at
-- 2^64 - 1.
use Rattle.std.specs.Prelude.{◌≡◌, ◌<◌, ◌≤◌, ◌+◌, ◌-◌, ◌^◌, ℕ, List, [], length, take, drop, min, ⊤}
use Rattle.std.specs.Prelude.{Option, Some, None, Result, Ok, Err, MatchResult, OnErr}

-- a count after one more; it stands still at 2^64 - 1
abbrev pub next_count : ℕ → ℕ
next_count n = min (n + 1) (2 ^ 64 - 1)

-- a count of faults after a call that counts each failure once
abbrev pub count_after : {T E : Type 0} → Result T E → ℕ → ℕ
count_after (Ok x) n = n
count_after (Err e) n = next_count n

-- a call with this count before and this one after met a fault
abbrev pub Rose : ℕ → ℕ → Type 0
Rose before now = next_count before ≤ now

-- the count doesn't fall, and the call fails only where it rose
pub record HasCause {T E : Type 0} (before now : ℕ) (result : Result T E) : Type 0 where
  pub later : before ≤ now
  pub failed : OnErr result (Rose before now)

-- the first n bytes of the buffer are those that stand from `at`
pub record IsPiece (all : List ℕ) (at n : ℕ) (buf : List ℕ) : Type 0 where
  pub bytes : take n buf ≡ take n (drop at all)
  pub there : n ≤ length all - at
  -- nothing is read only at the end, or into a buffer with no room
  pub end : n ≡ 0 → 0 < length buf → length all ≤ at

-- what a read of a name with these bytes gives; of bytes that aren't told nothing is said
abbrev pub ReadsFrom : {E : Type 0} → Option (List ℕ) → ℕ → Result ℕ E → List ℕ → Type 0
ReadsFrom None at result buf = ⊤
ReadsFrom (Some all) at result buf = MatchResult result (λ n. IsPiece all at n buf) (λ _. ⊤)

-- known bytes are gone
abbrev pub Empties : Option (List ℕ) → Option (List ℕ) → Type 0
Empties None new = ⊤
Empties (Some old) new = new ≡ Some []
