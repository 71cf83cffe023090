-- The literals of shifts are powers of two.
use Rattle.std.proofs.Common.{◌≡◌, ◌<◌, ◌==◌, ◌&&◌, Bool, true, false, ℕ, ℤ, pos, negsuc, codes}
use Rattle.std.proofs.Common.{arith, ◌++◌, refl, sym, ap, ◌∙◌}
use Rattle.std.specs.Prelude.{neg_ℤ}
use Rattle.std.specs.Fmt.{decimal, digits}
use Rattle.fx_model.specs.Fraction.{◌*ℚ◌, one-mul}
use Rattle.fx_model.proofs.Fraction.{mul-one}
use Rattle.fx_model.specs.Powers.{two_to, scaled, one-whole}
use Rattle.fx_model.specs.Expression.{literal_value}
use Rattle.fx_model.specs.declared.Literal.{Literal}
use Rattle.script_nodes.specs.Literals.{literal_of, parts_of, twos_out}
use Rattle.program_truths.proofs.Texts.{both, all_below, below}

abbrev same_whole : ℤ → ℤ → Bool
same_whole (pos a) (pos b) = a == b
same_whole (negsuc a) (negsuc b) = a == b
same_whole _ _ = false

same_number : (a b : ℕ) → (a == b) ≡ true → a ≡ b
same_number a b h = grind (arith, h)

whole_same : (a b : ℤ) → same_whole a b ≡ true → a ≡ b
whole_same (pos a) (pos b) h = ap pos (same_number a b h)
whole_same (negsuc a) (negsuc b) h = ap negsuc (same_number a b h)
whole_same (pos a) (negsuc b) h = absurd (cc)
whole_same (negsuc a) (pos b) h = absurd (cc)

-- it is 2^k
abbrev is_power : ℤ → Literal → Bool
is_power k l = l.num == 1 && (same_whole l.two k && same_whole l.ten (pos 0))

power_value : (k : ℤ) (l : Literal) → is_power k l ≡ true → literal_value l ≡ two_to k
power_value k l h =
    let a = both (l.num == 1) (same_whole l.two k && same_whole l.ten (pos 0)) h in
    let b = both (same_whole l.two k) (same_whole l.ten (pos 0)) a.1 in
    let n = same_number l.num 1 a.0 in
    let t = whole_same l.two k b.0 in
    let d = whole_same l.ten (pos 0) b.1 in
    ap (λ m. literal_value (record { num = m; two = l.two; ten = l.ten })) n
    ∙ ap (λ m. literal_value (record { num = 1; two = m; ten = l.ten })) t
    ∙ ap (λ m. literal_value (record { num = 1; two = k; ten = m })) d
    ∙ ap (λ x. scaled (pos 1) k *ℚ x) (sym one-whole) ∙ mul-one (scaled (pos 1) k)
    ∙ ap (λ x. x *ℚ two_to k) (sym one-whole) ∙ one-mul (two_to k)

rights_are_powers : all_below 64 (λ n. is_power (neg_ℤ (pos n))
    (literal_of (codes "1b-" ++ decimal n))) ≡ true
unfolding literal_of parts_of twos_out digits
rights_are_powers = refl

lefts_are_powers : all_below 64 (λ n. is_power (pos n) (literal_of (codes "1b" ++ decimal n)))
    ≡ true
unfolding literal_of parts_of twos_out digits
lefts_are_powers = refl

pub right_value : (n : ℕ) → n < 64 → literal_value (literal_of (codes "1b-" ++ decimal n))
    ≡ two_to (neg_ℤ (pos n))
right_value n l = power_value (neg_ℤ (pos n)) (literal_of (codes "1b-" ++ decimal n))
    (below 64 n (λ n. is_power (neg_ℤ (pos n)) (literal_of (codes "1b-" ++ decimal n)))
    rights_are_powers l)

pub left_value : (n : ℕ) → n < 64 → literal_value (literal_of (codes "1b" ++ decimal n))
    ≡ two_to (pos n)
left_value n l = power_value (pos n) (literal_of (codes "1b" ++ decimal n))
    (below 64 n (λ n. is_power (pos n) (literal_of (codes "1b" ++ decimal n))) lefts_are_powers l)
