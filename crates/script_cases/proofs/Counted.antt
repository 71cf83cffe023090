-- How many cases there are, and what they are made of.
use Rattle.std.specs.Prelude.{◌≡◌, ℕ, suc, ◌≤◌, ◌+◌, ◌*◌, List, [], ◌∷◌, ◌++◌, length, refl}
use Rattle.std.specs.List.{flat_map, AllByRecursion}
use Rattle.std.proofs.Math.Nat.{suc-mul}
use Rattle.std.proofs.Common.{sym, ap, ◌∙◌, arith}
use Rattle.std.proofs.lemmas.List.{length-map, length-append}
use Rattle.script_cases.specs.Parts.{Parts, part_of, behind_arrow}
use Rattle.script_cases.proofs.Lists.{all_joined, all_front, all_behind}
use Rattle.script_cases.specs.Cases.{with_first, cases, case_count, all_items}

zero_times : (n : ℕ) → 0 * n ≡ 0
zero_times n = omega arith

one_more : (m n : ℕ) → n + m * n ≡ suc m * n
one_more m n = omega (arith, suc-mul m n)

count_part : {X : Type 0} (p : List (List X)) (later : List (List X))
    → length (flat_map (with_first later) p) ≡ length p * length later
count_part [] later = sym (zero_times (length later))
count_part (c ∷ p) later =
    length-append (with_first later c) _ ∙ ap (λ n.
    n + length (flat_map (with_first later) p)) (length-map later _) ∙ ap (λ n.
    length later + n) (count_part p later) ∙ one_more (length p) (length later)

-- The cases are as many as the product says.
pub cases_are_counted : {X : Type 0} (parts : List (List (List X)))
    → length (cases parts) ≡ case_count parts
cases_are_counted [] = refl
cases_are_counted (p ∷ ps) = count_part p (cases ps) ∙ ap (λ n. length p * n) (cases_are_counted ps)

count_joined : {X : Type 0} (a b : List (List (List X)))
    → case_count (a ++ b) ≡ case_count a * case_count b
count_joined [] b = sym (Rattle.std.proofs.Math.Nat.one-mul (case_count b))
count_joined (p ∷ a) b = ap (λ n. length p * n) (count_joined a b) ∙ sym
    (Rattle.std.proofs.Math.Nat.mul_assoc (length p) (case_count a) (case_count b))

-- how many cases there are with the conjunctions that have begun
abbrev pub begun_cases : {X : Type 0} → Parts X → ℕ
begun_cases p = case_count p.before * suc (length p.ended)

-- An arrow makes no more cases than had begun.
pub arrow_begins : {X : Type 0} (p : Parts X) → begun_cases (behind_arrow p) ≡ begun_cases p
arrow_begins p =
    ap (λ n. n * 1) (count_joined p.before (part_of p ∷ []))
    ∙ Rattle.std.proofs.Math.Nat.mul-one (case_count p.before * (length (part_of p) * 1))
    ∙ ap (λ n. case_count p.before * n) (Rattle.std.proofs.Math.Nat.mul-one
    (length (part_of p)) ∙ length-append p.ended (p.last ∷ []) ∙ one_last (length p.ended))
  where
    one_last : (n : ℕ) → n + 1 ≡ suc n
    one_last n = omega arith

-- The parts that have ended have no more cases than have begun.
pub few_before : {X : Type 0} (p : Parts X) → case_count p.before ≤ begun_cases p
few_before p =
    let least : case_count p.before * 1 ≤ case_count p.before * suc (length p.ended) =
    Rattle.std.proofs.Math.Nat.mul-le-mul_left (case_count p.before) (omega arith) in
    omega (least, arith)

module _ {X : Type 0} (P : X → Type 0) where
  all_with_first : (c : List X) (later : List (List X)) → AllByRecursion P c → AllByRecursion
      (AllByRecursion P) later → AllByRecursion (AllByRecursion P) (with_first later c)
  all_with_first c [] p q = tt
  all_with_first c (r ∷ later) p q = (all_joined P c r p q.0, all_with_first c later p q.1)

  all_of_part : (p : List (List X)) (later : List (List X))
      → AllByRecursion P (flat_map (λ c. c) p) → AllByRecursion (AllByRecursion P) later
      → AllByRecursion (AllByRecursion P) (flat_map (with_first later) p)
  all_of_part [] later h q = tt
  all_of_part (c ∷ p) later h q = all_joined (AllByRecursion P) (with_first later c) _
      (all_with_first c later (all_front P c _ h) q) (all_of_part p later (all_behind P c _ h) q)

  -- What all items have, those of each case have.
  pub all_of_cases : (parts : List (List (List X)))
      → AllByRecursion P (all_items parts) → AllByRecursion (AllByRecursion P) (cases parts)
  all_of_cases [] h = (tt, tt)
  all_of_cases (p ∷ ps) h =
      all_of_part p (cases ps) (all_front P (flat_map (λ c. c) p) (all_items ps) h)
      (all_of_cases ps (all_behind P (flat_map (λ c. c) p) (all_items ps) h))
