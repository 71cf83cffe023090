-- No part at the front of a text is longer than the text.
use Rattle.std.specs.Prelude.{ℕ, ◌+◌, ◌≤◌, ◌==◌, ◌&&◌, ◌||◌, Bool, true, false, cond, nat_lt, List}
use Rattle.std.specs.Prelude.{[], ◌∷◌, length, drop}
use Rattle.std.proofs.Common.{arith, length-drop}
use Rattle.std.proofs.lemmas.List.Sums.{prefix_len-le-length}
use Rattle.script_words.specs.declared.lex.Run.{Run}
use Rattle.script_words.specs.declared.lex.Run.TheVariants.{Digit, HexDigit}
use Rattle.script_words.specs.Literals.{is_in, run_len, part_len, signed_len, exponent_len}
use Rattle.script_words.specs.Literals.{scaled_len, is_hex, literal_len}

chosen-le : (b : Bool) (n m : ℕ) → n ≤ m → cond b n 0 ≤ m
chosen-le true n m h = h
chosen-le false n m h = omega arith

either-le : (b : Bool) (n k m : ℕ) → n ≤ m → k ≤ m → cond b n k ≤ m
either-le true n k m h l = h
either-le false n k m h l = l

-- a run of letters or digits
pub run-le : (r : Run) (t : List ℕ) → run_len r t ≤ length t
run-le r t = prefix_len-le-length (is_in r) t

-- a mark with what is behind it
pub part-le : (mark : ℕ) (r : Run) (t : List ℕ) → part_len mark r t ≤ length t
part-le mark r [] = omega arith
part-le mark r (x ∷ t) = chosen-le (x == mark && nat_lt 0 (run_len r t)) (1 + run_len r t)
    (length (x ∷ t)) (omega (arith, run-le r t))

signed-le : (t : List ℕ) → signed_len t ≤ length t
signed-le [] = omega arith
signed-le (x ∷ t) =
    either-le (x == 43 || x == 45) (cond (nat_lt 0 (run_len Digit t)) (1 + run_len Digit t) 0)
    (run_len Digit (x ∷ t)) (length (x ∷ t))
    (chosen-le (nat_lt 0 (run_len Digit t)) (1 + run_len Digit t) (length (x ∷ t))
    (omega (arith, run-le Digit t))) (run-le Digit (x ∷ t))

-- an exponent
pub exponent-le : (mark : ℕ) (t : List ℕ) → exponent_len mark t ≤ length t
exponent-le mark [] = omega arith
exponent-le mark (x ∷ t) = chosen-le (x == mark && nat_lt 0 (signed_len t)) (1 + signed_len t)
    (length (x ∷ t)) (omega (arith, signed-le t))

-- digits with their fraction
pub point-le : (r : Run) (t : List ℕ)
    → run_len r t + part_len 46 r (drop (run_len r t) t) ≤ length t
point-le r t =
    omega (arith, run-le r t, part-le 46 r (drop (run_len r t) t), length-drop (run_len r t) t)

-- digits with fraction and exponent
pub scaled-le : (r : Run) (mark : ℕ) (t : List ℕ) → scaled_len r mark t ≤ length t
unfolding scaled_len
scaled-le r mark t =
    let n = run_len r t + part_len 46 r (drop (run_len r t) t) in
    omega (arith, point-le r t, exponent-le mark (drop n t), length-drop n t)

binary-le : (t : List ℕ) → run_len Digit t + exponent_len 98 (drop (run_len Digit t) t) ≤ length t
binary-le t = omega (
  arith,
  run-le Digit t,
  exponent-le 98 (drop (run_len Digit t) t),
  length-drop (run_len Digit t) t,
)

-- the length of a literal, from its parts
abbrev pub literal_from : Bool → ℕ → ℕ → ℕ → ℕ → ℕ
literal_from hex scaled binary digits decimal =
    cond hex (2 + scaled) (cond (nat_lt 0 binary) (digits + binary) decimal)

-- the same of this text, from whether it is hexadecimal and how long it is behind `0x`
abbrev pub of_digits : Bool → ℕ → List ℕ → ℕ
of_digits hex scaled t = literal_from hex scaled (exponent_len 98 (drop (run_len Digit t) t))
    (run_len Digit t) (scaled_len Digit 101 t)

digits-le : (t : List ℕ) → of_digits false 0 t ≤ length t
digits-le t = either-le (nat_lt 0 (exponent_len 98 (drop (run_len Digit t) t)))
    (run_len Digit t + exponent_len 98 (drop (run_len Digit t) t)) (scaled_len Digit 101 t)
    (length t) (binary-le t) (scaled-le Digit 101 t)

-- a literal
pub literal-le : (t : List ℕ) → literal_len t ≤ length t
unfolding literal_len
literal-le [] = digits-le []
literal-le (b ∷ []) = digits-le (b ∷ [])
literal-le (b ∷ (c ∷ t)) =
    either-le (is_hex (b ∷ (c ∷ t))) (2 + scaled_len HexDigit 112 t)
    (of_digits false 0 (b ∷ (c ∷ t))) (length (b ∷ (c ∷ t)))
    (omega (arith, scaled-le HexDigit 112 t)) (digits-le (b ∷ (c ∷ t)))
