-- A plain decimal of more than four digits is above 9999.
use Rattle.std.proofs.Common.{◌≡◌, ◌≤◌, ◌<◌, ◌+◌, ◌*◌, ◌-◌, ◌&&◌, ℕ, List, [], ◌∷◌, length, Bool}
use Rattle.std.proofs.Common.{true, false, Some, None, refl, sym, arith, if◌then◌else◌, nat_le}
use Rattle.std.specs.List.{fold}
use Rattle.std.proofs.lemmas.Grind.{common_steps}
use Rattle.command_line.specs.Numbers.{is_plain_decimal, value_of, number_in}

abbrev step : ℕ → ℕ → ℕ
step v d = 10 * v + (d - 48)

-- more digits make no less
no_less : (v : ℕ) (ds : List ℕ) → v ≤ fold step v ds
no_less v [] = omega arith
no_less v (d ∷ ds) = let more : 10 * v + (d - 48) ≤ fold step (10 * v + (d - 48)) ds =
    no_less (10 * v + (d - 48)) ds in omega (arith, more)

above_9999 : (ds : List ℕ) → 4 < length ds → is_plain_decimal ds ≡ true → 9999 < value_of ds
above_9999 [] lt plain = absurd (omega arith)
above_9999 (a ∷ []) lt plain = absurd (omega arith)
above_9999 (a ∷ b ∷ []) lt plain = absurd (omega arith)
above_9999 (a ∷ b ∷ c ∷ []) lt plain = absurd (omega arith)
above_9999 (a ∷ b ∷ c ∷ d ∷ []) lt plain = absurd (omega arith)
above_9999 (a ∷ b ∷ c ∷ d ∷ e ∷ ds) lt plain =
    let first : 49 ≤ a = grind (arith, common_steps) in
    let rest = no_less (step (step (step (step (step 0 a) b) c) d) e) ds in
    omega (arith, first, rest)

none_for : (plain low high : Bool) (n : ℕ) → (plain ≡ true → high ≡ false)
    → (if plain && (low && high) then Some n else None) ≡ None
none_for false low high n out = refl
none_for true false high n out = refl
none_for true true false n out = refl
none_for true true true n out = cc (out refl)

too_great : (n high : ℕ) → high ≤ 9999 → 9999 < n → nat_le n high ≡ false
too_great n high le lt = grind (arith, common_steps)

pub long_is_none : (low high : ℕ) (text : List ℕ) → high ≤ 9999 → 4 < length text
    → None ≡ number_in low high text
long_is_none low high text le lt =
    sym (none_for (is_plain_decimal text) (nat_le low (value_of text)) (nat_le (value_of text) high)
    (value_of text) (λ plain. too_great (value_of text) high le (above_9999 text lt plain)))
