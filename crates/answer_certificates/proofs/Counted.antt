-- How many instances a universe has at most, and so how many steps a certificate.
use Rattle.std.specs.Prelude.{◌≡◌, ◌≤◌, ◌+◌, ◌*◌, ◌^◌, ℕ, Bool, true, false, List, [], ◌∷◌, ◌++◌}
use Rattle.std.specs.Prelude.{length, Option, Some, None, if◌then◌else◌}
use Rattle.std.proofs.Common.{sym, subst, arith}
use Rattle.std.proofs.Math.Nat.{mul-add}
use Rattle.std.proofs.lemmas.Nat.{mul-le}
use Rattle.std.proofs.lemmas.List.{length-append}
use Rattle.fx_model.specs.declared.ExprId.{ExprId}
use Rattle.fx_model.specs.declared.Node.{Node}
use Rattle.fx_model.specs.declared.Node.TheVariants as node
use Rattle.expr_dag.specs.Nodes.{place_of}
use Rattle.pair_closure.specs.Closure.{Pair, is_same}
use Rattle.pair_closure.specs.Among.{is_among}
use Rattle.pair_closure.specs.Rows.{seconds}
use Rattle.facts.specs.declared.fact.Slot.TheVariants.{Bnd, Abs, Rel, Fix, Nzr}
use Rattle.facts.specs.declared.hint.HintRow.{HintRow}
use Rattle.facts.specs.declared.instance.Instance.{Instance}
use Rattle.rule_instances.specs.Slots.{rule}
use Rattle.rule_instances.specs.Lists.{given, at_operation}
use Rattle.rule_instances.specs.Lists as lists
use Rattle.rule_instances.specs.Found.{found, both_found, at_error, error_rules, is_sided}
use Rattle.rule_instances.specs.Found.{pair_rules, at_terms, twin_rules, apart_rules}
use Rattle.rule_instances.specs.Found.{difference_rules, operation_rules, at_pair}
use Rattle.rule_instances.specs.InOrder.{each_at, id_at, apart, of_node, past_of, node_of, one_left}
use Rattle.rule_instances.specs.InOrder.{one_right, of_sides, of_difference, of_pair, of_hint}
use Rattle.rule_instances.specs.InOrder.{instance_list}

-- ---- parts
given_most : (b : Bool) (i : Instance) → length (given b i) ≤ 1
given_most true i = omega arith
given_most false i = omega arith

found_most : (n : ℕ) (o : Option ExprId) (f : ExprId → List Instance)
    → ((d : ExprId) → length (f d) ≤ n) → length (found o f) ≤ n
found_most n None f h = omega arith
found_most n (Some d) f h = h d

both_most : (n : ℕ) (o p : Option ExprId) (f : ExprId → ExprId → List Instance)
    → ((d e : ExprId) → length (f d e) ≤ n) → length (both_found o p f) ≤ n
both_most n (Some d) (Some e) f h = h d e
both_most n None p f h = omega arith
both_most n (Some d) None f h = omega arith

if_most : (n : ℕ) (b : Bool) (xs : List Instance) → length xs ≤ n
    → length (if b then xs else []) ≤ n
if_most n true xs h = h
if_most n false xs h = omega arith

append_most : (m n : ℕ) (xs ys : List Instance) → length xs ≤ m → length ys ≤ n
    → length (xs ++ ys) ≤ m + n
append_most m n xs ys h k = omega (arith, length-append xs ys, h, k)

-- so many for each member of a list
each_most : {A : Type 0} (n : ℕ) (f : ℕ → A → List Instance)
    → ((k : ℕ) (x : A) → length (f k x) ≤ n) → (k : ℕ) (xs : List A)
    → length (each_at f k xs) ≤ n * length xs
each_most n f h k [] = omega arith
each_most n f h k (x ∷ xs) =
    let a = append_most n (n * length xs) (f k x) (each_at f (k + 1) xs) (h k x)
    (each_most n f h (k + 1) xs) in
    let m : n * (1 + length xs) ≡ n * 1 + n * length xs = mul-add n 1 (length xs) in
    let e : length (x ∷ xs) ≡ 1 + length xs = omega arith in
    subst (λ (z : ℕ). length (f k x ++ each_at f (k + 1) xs) ≤ n * z) (sym e) (omega (arith, a, m))

-- ---- of an expression
operation_most : (x : ExprId) (n : Node) → length (at_operation x n) ≤ 5
operation_most x (node.Var v) = omega arith
operation_most x (node.Lit l) = omega arith
operation_most x (node.Neg a) = omega arith
operation_most x (node.Add a b) = omega arith
operation_most x (node.Sub a b) =
    append_most 4 1 (lists.difference_rules x a b)
    (given (is_same a b) (rule 5 (Bnd a ∷ []) (Bnd x))) (omega arith)
    (given_most (is_same a b) (rule 5 (Bnd a ∷ []) (Bnd x)))
operation_most x (node.Mul a b) =
    append_most 4 1 (lists.product_rules x a b) (given (is_same a b) (rule 7 (Abs a ∷ []) (Bnd x)))
    (omega arith) (given_most (is_same a b) (rule 7 (Abs a ∷ []) (Bnd x)))
operation_most x (node.Div a b) =
    append_most 4 1 (lists.quotient_rules x a b)
    (given (is_same a b) (rule 10 (Nzr a ∷ []) (Bnd x))) (omega arith)
    (given_most (is_same a b) (rule 10 (Nzr a ∷ []) (Bnd x)))
operation_most x (node.Abs a) = omega arith
operation_most x (node.Round r a) = omega arith

node_most : (k : ℕ) (n : Node) → length (of_node k n) ≤ 14
node_most k n = append_most 9 5 (lists.at_any (id_at k)) (at_operation (id_at k) n) (omega arith)
    (operation_most (id_at k) n)

-- ---- of a difference
error_most : (x : ExprId) (n : Node) (a : ExprId) → length (at_error x n a) ≤ 3
error_most x (node.Round r e) a =
    if_most 3 (is_same e a) (error_rules x a (is_sided r.dir))
    (append_most 2 1 (rule 42 (Bnd a ∷ []) (Bnd x) ∷ rule 44 (Fix a ∷ []) (Bnd x) ∷ [])
    (given (is_sided r.dir) (rule 43 (Bnd a ∷ []) (Bnd x))) (omega arith)
    (given_most (is_sided r.dir) (rule 43 (Bnd a ∷ []) (Bnd x))))
error_most x (node.Var v) a = omega arith
error_most x (node.Lit l) a = omega arith
error_most x (node.Neg b) a = omega arith
error_most x (node.Add b c) a = omega arith
error_most x (node.Sub b c) a = omega arith
error_most x (node.Mul b c) a = omega arith
error_most x (node.Div b c) a = omega arith
error_most x (node.Abs b) a = omega arith

terms_most : (nodes : List Node) (x : ExprId) (m n : Node) → length (at_terms nodes x m n) ≤ 1
terms_most nodes x (node.Add a b) (node.Add c d) = both_most 1 (place_of nodes (node.Sub a c))
    (place_of nodes (node.Sub b d)) _ (λ p q. omega arith)
terms_most nodes x (node.Sub a b) (node.Sub c d) = both_most 1 (place_of nodes (node.Sub a c))
    (place_of nodes (node.Sub b d)) _ (λ p q. omega arith)
terms_most nodes x (node.Mul a b) (node.Mul c d) = both_most 1 (place_of nodes (node.Sub a c))
    (place_of nodes (node.Sub b d)) _ (λ p q. omega arith)
terms_most nodes x (node.Neg a) (node.Neg b) =
    found_most 1 (place_of nodes (node.Sub a b)) _ (λ p. omega arith)
terms_most nodes x _ _ = omega arith

module _ (nodes : List Node) (pairs : List Pair) where
  seconds_most : (ps : List Pair) (a : ExprId) → length (seconds ps a) ≤ length ps
  seconds_most [] a = omega arith
  seconds_most (p ∷ ps) a = by_test (is_same p.0 a) (seconds_most ps a)
    where
      by_test : (b : Bool) → length (seconds ps a) ≤ length ps
          → length (if b then p.1 ∷ seconds ps a else seconds ps a) ≤ length (p ∷ ps)
      by_test true h = omega (arith, h)
      by_test false h = omega (arith, h)

  past_most : (f : ℕ → ExprId → List Instance) → ((k : ℕ) (b : ExprId) → length (f k b) ≤ 1)
      → (a : ExprId) → length (each_at f 0 (seconds pairs a)) ≤ length pairs
  past_most f h a = let e = each_most 1 f h 0 (seconds pairs a) in
      let s = seconds_most pairs a in omega (arith, e, s)

  left_most : (x a c : ExprId) (k : ℕ) (b : ExprId) → length (one_left nodes x a c k b) ≤ 1
  left_most x a c k b = if_most 1 (apart a b c) _ (both_most 1 (place_of nodes (node.Sub a b))
      (place_of nodes (node.Sub b c)) _ (λ p q. omega arith))

  right_most : (x a c : ExprId) (k : ℕ) (b : ExprId) → length (one_right nodes x a c k b) ≤ 1
  right_most x a c k b = if_most 1 (apart a b c) _ (both_most 1 (place_of nodes (node.Sub a b))
      (place_of nodes (node.Sub c b)) _ (λ p q. omega arith))

  sides_most : (x a c : ExprId)
      → length (of_sides nodes pairs x a c) ≤ 4 + (length pairs + length pairs)
  sides_most x a c =
      let l = past_most (one_left nodes x a c) (left_most x a c) a in
      let r = past_most (one_right nodes x a c) (right_most x a c) c in
      let q = append_most 1 (length pairs + length pairs) (at_terms nodes x (node_of nodes a)
      (node_of nodes c)) _ (terms_most nodes x (node_of nodes a) (node_of nodes c))
      (append_most (length pairs) (length pairs) _ _ l r) in
      let e = append_most 3 (1 + (length pairs + length pairs))
      (at_error x (node_of nodes a) c) _ (error_most x (node_of nodes a) c) q in
      omega (arith, e)

  difference_most : (k : ℕ) (n : Node)
      → length (of_difference nodes pairs k n) ≤ 4 + (length pairs + length pairs)
  difference_most k (node.Sub a c) = sides_most (id_at k) a c
  difference_most k (node.Var v) = omega arith
  difference_most k (node.Lit l) = omega arith
  difference_most k (node.Neg a) = omega arith
  difference_most k (node.Add a b) = omega arith
  difference_most k (node.Mul a b) = omega arith
  difference_most k (node.Div a b) = omega arith
  difference_most k (node.Abs a) = omega arith
  difference_most k (node.Round r a) = omega arith

  -- ---- of a pair
  twin_most : (x y : ExprId) (b : Bool) → length (twin_rules x y b) ≤ 1
  twin_most x y true = omega arith
  twin_most x y false = omega arith

  apart_most : (x y : ExprId) (b : Bool) (d : ExprId) → length (apart_rules x y b d) ≤ 2
  apart_most x y true d = omega arith
  apart_most x y false d = omega arith

  operations_most : (x y : ExprId) (m n : Node) → length (operation_rules nodes pairs x y m n) ≤ 1
  operations_most x y (node.Mul a b) (node.Mul c d) = given_most _ _
  operations_most x y (node.Div a b) (node.Div c d) = given_most _ _
  operations_most x y (node.Neg a) (node.Neg b) = given_most _ _
  operations_most x y (node.Add a b) (node.Add c d) =
      found_most 1 (place_of nodes (node.Div c y)) _ (λ s. given_most _ _)
  operations_most x y _ _ = omega arith

  pair_most : (x y : ExprId) (m n : Node) → length (at_pair nodes pairs x y m n) ≤ 11
  pair_most x y m n =
      let operations : List Instance = operation_rules nodes pairs x y m n in
      let turned : List Instance =
      given (is_among pairs (y, x)) (rule 59 (Rel x y ∷ []) (Rel y x)) in
      let quotient : List Instance =
      found (place_of nodes (node.Div x y)) (λ q. rule 55 (Rel x y ∷ Nzr y ∷ []) (Bnd q) ∷ []) in
      let difference : List Instance = found (place_of nodes (node.Sub x y))
      (λ d. difference_rules x y d ++ apart_rules x y (is_same x y) d) in
      let twins : List Instance = twin_rules x y (is_same x y) in
      let four = append_most 1 1 turned operations (given_most (is_among pairs (y, x))
      (rule 59 (Rel x y ∷ []) (Rel y x))) (operations_most x y m n) in
      let three = append_most 1 2 quotient (turned ++ operations) (found_most 1 (place_of nodes
      (node.Div x y)) (λ q. rule 55 (Rel x y ∷ Nzr y ∷ []) (Bnd q) ∷ []) (λ q. omega arith)) four in
      let two = append_most 4 3 difference (quotient ++ (turned ++ operations))
      (found_most 4 (place_of nodes (node.Sub x y))
      (λ d. difference_rules x y d ++ apart_rules x y (is_same x y) d)
      (λ d. append_most 2 2 (difference_rules x y d) (apart_rules x y (is_same x y) d) (omega arith)
      (apart_most x y (is_same x y) d)))
      three in
      let one = append_most 1 7 twins (difference ++ (quotient ++ (turned ++ operations)))
      (twin_most x y (is_same x y)) two in
      append_most 3 8 (pair_rules x y)
      (twins ++ (difference ++ (quotient ++ (turned ++ operations)))) (omega arith) one

  past_pair_most : (x y : ExprId) (k : ℕ) (c : ExprId) → length (past_of pairs x y k c) ≤ 1
  past_pair_most x y k c = given_most _ _

  of_pair_most : (k : ℕ) (p : Pair) → length (of_pair nodes pairs k p) ≤ 11 + length pairs
  of_pair_most k p = append_most 11 (length pairs) (at_pair nodes pairs p.0 p.1 (node_of nodes p.0)
      (node_of nodes p.1)) (each_at (past_of pairs p.0 p.1) 0 (seconds pairs p.1))
      (pair_most p.0 p.1 (node_of nodes p.0) (node_of nodes p.1))
      (past_most (past_of pairs p.0 p.1) (past_pair_most p.0 p.1) p.1)

hint_most : (k : ℕ) (h : HintRow) → length (of_hint k h) ≤ 4
hint_most k h = omega arith

-- Over 1,024 nodes, 1,024 pairs and 64 hints there are no more than 2^22 instances.
pub few_instances : (nodes : List Node) (pairs : List Pair) (hints : List HintRow)
    → length nodes ≤ 1024 → length pairs ≤ 1024 → length hints ≤ 64
    → length (instance_list nodes pairs hints) ≤ 2 ^ 22
few_instances nodes pairs hints n p h =
    let side : 4 + (length pairs + length pairs) ≤ 2052 = omega (arith, p) in
    let each : 11 + length pairs ≤ 1035 = omega (arith, p) in
    let a = each_most 14 of_node node_most 0 nodes in
    let b = each_most (4 + (length pairs + length pairs)) (of_difference nodes pairs)
    (difference_most nodes pairs) 0 nodes in
    let c = each_most (11 + length pairs) (of_pair nodes pairs)
    (of_pair_most nodes pairs) 0 pairs in
    let d = each_most 4 of_hint hint_most 0 hints in
    let e : (4 + (length pairs + length pairs)) * length nodes ≤ 2052 * 1024 =
    mul-le (4 + (length pairs + length pairs)) (length nodes) 2052 1024 side n in
    let f : (11 + length pairs) * length pairs ≤ 1035 * 1024 =
    mul-le (11 + length pairs) (length pairs) 1035 1024 each p in
    let r = append_most ((11 + length pairs) * length pairs) (4 * length hints)
    (each_at (of_pair nodes pairs) 0 pairs) (each_at of_hint 0 hints) c d in
    let s = append_most ((4 + (length pairs + length pairs)) * length nodes) ((11 + length pairs)
    * length pairs + 4 * length hints) (each_at (of_difference nodes pairs) 0 nodes) _ b r in
    let t = append_most (14 * length nodes) ((4 + (length pairs + length pairs)) * length nodes
    + ((11 + length pairs) * length pairs + 4 * length hints)) (each_at of_node 0 nodes) _ a s in
    omega (arith, t, e, f, n, h)
