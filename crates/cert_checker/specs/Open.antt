-- Steps by rising numbers.
use Rattle.std.specs.Prelude.{◌<◌, ◌+◌, ℕ, List, [], ◌∷◌, ◌++◌, length, take, slice_index_or}
use Rattle.facts.specs.declared.fact.Fact.{Fact}
use Rattle.facts.specs.declared.fact.Fact.TheVariants as fact
use Rattle.cert_checker.specs.declared.open.Citable.{Citable}

-- the steps that may be cited, and the number of the next
pub record Numbered : Type 0 where
  pub rows : List Citable
  pub next : ℕ

-- No step may be cited yet, and the first one gets number 0.
abbrev pub none_open : Numbered
none_open = record { rows = []; next = 0 }

-- One more step with this fact, the last, under the next number.
abbrev pub with_step : Numbered → Fact → Numbered
with_step s f =
    record { rows = s.rows ++ record { number = s.next; fact = f } ∷ []; next = s.next + 1 }

-- The first `n` steps stay, the others may no longer be cited; numbers go on where they were.
abbrev pub cut_back : Numbered → ℕ → Numbered
cut_back s n = record s { rows = take n s.rows }

-- What stands where there is no step.
abbrev pub nowhere : Citable
nowhere = record { number = 0; fact = fact.Void }

-- The number of the step at place `i` of the list, from 0.
abbrev pub number_at : List Citable → ℕ → ℕ
number_at rows i = (slice_index_or rows i nowhere).number

-- each number is below the later ones, and below the next
pub record AreNumbered (rows : List Citable) (next : ℕ) : Type 0 where
  pub rising : (i j : ℕ) → i < j → j < length rows → number_at rows i < number_at rows j
  pub below : (i : ℕ) → i < length rows → number_at rows i < next
