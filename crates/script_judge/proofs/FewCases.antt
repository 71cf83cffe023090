-- The cases of a formula stay few where no token passes the limit.
use Rattle.std.proofs.Common.{ℕ, ◌+◌, ◌*◌, ◌≤◌, ◌<◌, Bool, true, false, arith}
use Rattle.std.proofs.Math.Nat.{mul-zero, mul-one, mul-add, mul_comm, mul-pos, le-mul_of_pos_right}
use Rattle.script_words.specs.declared.class.Symbol.TheVariants as s
use Rattle.script_words.specs.Words.{Word, sign}
use Rattle.script_shape.specs.declared.due.Due.{Due}
use Rattle.script_shape.specs.declared.due.Due.TheVariants as d
use Rattle.script_judge.specs.Counts.{one_if, is_disjunction, cases_after, conjunctions_after}

pub few_conjunctions : (n m : ℕ) → 0 < n → n * m ≤ 64 → m ≤ 64
few_conjunctions n m p h = omega (arith, le-mul_of_pos_right m p, mul_comm n m, h)

with_one_more : (n m : ℕ) (b : Bool) → 0 < m → n * m ≤ 64 → n * (m + one_if b) ≤ 128
with_one_more n m true p h = omega (arith, mul-add n m 1, mul-one n, le-mul_of_pos_right n p, h)
with_one_more n m false p h = omega (arith, mul-add n m 0, mul-zero n, h)

pub few_begun : (n m : ℕ) (r : Due) (w : Word) → 0 < m → n * m ≤ 64
    → cases_after n m r w * conjunctions_after m r w ≤ 128
few_begun n m d.Connective (sign s.Arrow) p h = omega (arith, mul-one (n * m), h)
few_begun n m d.Connective w p h = with_one_more n m (is_disjunction d.Connective w) p h
few_begun n m r w p h = with_one_more n m (is_disjunction r w) p h

some_more : (m : ℕ) (b : Bool) → 0 < m → 0 < m + one_if b
some_more m true p = omega (arith, p)
some_more m false p = omega (arith, p)

pub some_cases : (n m : ℕ) (r : Due) (w : Word) → 0 < n → 0 < m → 0 < cases_after n m r w
some_cases n m d.Connective (sign s.Arrow) p q = mul-pos p q
some_cases n m d.Connective w p q = p
some_cases n m r w p q = p

pub some_conjunctions : (m : ℕ) (r : Due) (w : Word) → 0 < m → 0 < conjunctions_after m r w
some_conjunctions m d.Connective (sign s.Arrow) p = omega arith
some_conjunctions m d.Connective w p = some_more m (is_disjunction d.Connective w) p
some_conjunctions m r w p = some_more m (is_disjunction r w) p
