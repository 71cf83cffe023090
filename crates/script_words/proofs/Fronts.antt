-- A token has a byte or more.
use Rattle.std.proofs.Common.{◌≡◌, ℕ, ◌+◌, ◌<◌, ◌≤◌, nat_lt, false, true, Bool, List, [], ◌∷◌, drop}
use Rattle.std.proofs.Common.{take, Option, Some, None, refl, ap, subst, arith, if◌then◌else◌}
use Rattle.std.proofs.lemmas.Bool.{ltb-true}
use Rattle.script_words.specs.declared.class.Symbol.{Symbol}
use Rattle.script_words.specs.declared.lex.Run.{Run}
use Rattle.script_words.specs.declared.lex.Run.TheVariants.{Word, Digit}
use Rattle.script_words.specs.declared.lex.TokenKind.{TokenKind}
use Rattle.script_words.specs.declared.lex.TokenKind.TheVariants as kind
use Rattle.script_words.specs.Literals.{run_len, exponent_len, is_hex, scaled_len, literal_len}
use Rattle.script_words.specs.Signs.{single_sign, double_sign, longer_sign, sign_at, reserved_word}
use Rattle.script_words.specs.Lex.{word_kind, sign_token, front}

-- how many bytes a front has, if it begins a token
abbrev pub len_in : Option (TokenKind × ℕ) → ℕ
len_in None = 0
len_in (Some p) = p.1

scaled_some : (r : Run) (mark : ℕ) (bs : List ℕ) → run_len r bs ≤ scaled_len r mark bs
unfolding scaled_len
scaled_some r mark bs = omega arith

literal_some : (bs : List ℕ) → 0 < run_len Digit bs → 0 < literal_len bs
unfolding literal_len
literal_some bs h = longest (is_hex bs) (nat_lt 0 binary) _ _ _ (scaled_some Digit 101 bs)
  where
    binary : ℕ
    binary = exponent_len 98 (drop (run_len Digit bs) bs)

    longest : (x b : Bool) (p n m : ℕ) → run_len Digit bs ≤ m
        → 0 < (if x then 2 + p else if b then run_len Digit bs + n else m)
    longest true b p n m k = omega arith
    longest false true p n m k = omega arith
    longest false false p n m k = omega arith

sign_some : (one two : Option Symbol) (k : TokenKind) (len : ℕ)
    → sign_token (longer_sign two one) ≡ Some (k, len) → 0 < len
sign_some one (Some g) k len e = let n : 2 ≡ len = ap len_in e in omega arith
sign_some (Some g) None k len e = let n : 1 ≡ len = ap len_in e in omega arith
sign_some None None k len e = absurd (cc e)

signs_some : (bs : List ℕ) (k : TokenKind) (len : ℕ)
    → sign_token (sign_at bs) ≡ Some (k, len) → 0 < len
signs_some [] k len e = absurd (cc e)
signs_some (a ∷ []) k len e = sign_some (single_sign a) None k len e
signs_some (a ∷ (b ∷ bs)) k len e = sign_some (single_sign a) (double_sign a b) k len e

-- Where a token begins, it has a byte or more.
pub front_some : (bs : List ℕ) (k : TokenKind) (len : ℕ) → front bs ≡ Some (k, len) → 0 < len
unfolding front
front_some bs k len = by_tests (nat_lt 0 (run_len Digit bs))
    (nat_lt 0 (run_len Word (drop (literal_len bs) bs))) (nat_lt 0 (run_len Word bs)) refl refl
  where
    by_tests : (d w x : Bool) → nat_lt 0 (run_len Digit bs) ≡ d → nat_lt 0 (run_len Word bs) ≡ x
        → (if d then (if w then None else Some (kind.Literal, literal_len bs))
        else if x then Some (word_kind (reserved_word (take (run_len Word bs) bs)), run_len Word bs)
        else sign_token (sign_at bs)) ≡ Some (k, len) → 0 < len
    by_tests true true x p q e = absurd (cc e)
    by_tests true false x p q e =
        subst (λ n. 0 < n) (ap len_in e) (literal_some bs (ltb-true 0 (run_len Digit bs) p))
    by_tests false w true p q e = subst (λ n. 0 < n) (ap len_in e) (ltb-true 0 (run_len Word bs) q)
    by_tests false w false p q e = signs_some bs k len e
