-- Instances that have four premises at most: all but those of hints.
use Rattle.std.specs.Prelude.{◌≡◌, ◌+◌, ◌-◌, ◌&&◌, ℕ, Bool, true, false, List, [], ◌∷◌, ◌++◌}
use Rattle.std.specs.Prelude.{Option, Some, None, if◌then◌else◌}
use Rattle.std.proofs.Common.{arith}
use Rattle.fx_model.specs.declared.ExprId.{ExprId}
use Rattle.fx_model.specs.declared.Node.{Node}
use Rattle.fx_model.specs.declared.Node.TheVariants as node
use Rattle.expr_dag.specs.Nodes.{place_of}
use Rattle.pair_closure.specs.Closure.{Pair, is_same}
use Rattle.pair_closure.specs.Among.{is_among}
use Rattle.pair_closure.specs.Rows.{seconds}
use Rattle.facts.specs.declared.fact.Slot.TheVariants.{Bnd, Abs, Rel, Fix, Nzr}
use Rattle.facts.specs.declared.instance.Instance.{Instance}
use Rattle.rule_instances.specs.Slots.{rule}
use Rattle.rule_instances.specs.Lists.{given, at_any, at_operation}
use Rattle.rule_instances.specs.Lists as lists
use Rattle.rule_instances.specs.Found.{found, both_found, at_error, error_rules, is_sided}
use Rattle.rule_instances.specs.Found.{pair_rules, at_terms, twin_rules, apart_rules}
use Rattle.rule_instances.specs.Found.{difference_rules, operation_rules, at_pair, past_left}
use Rattle.rule_instances.specs.Found.{past_right}
use Rattle.rule_instances.specs.InOrder.{each_at, id_at, apart, of_node, past_of, node_of, one_left}
use Rattle.rule_instances.specs.InOrder.{one_right, of_sides, of_difference, of_pair}
use Rattle.rule_universe.specs.Sizes.{beyond_four}

-- none of them has more than four premises
abbrev pub ArePlain : List Instance → Type 0
ArePlain is = beyond_four is ≡ 0

-- ---- parts
pub beyond_both : (is js : List Instance) → beyond_four (is ++ js) ≡ beyond_four is + beyond_four js
beyond_both [] js = omega arith
beyond_both (i ∷ is) js = let h = beyond_both is js in omega (arith, h)

plain_both : (is js : List Instance) → ArePlain is → ArePlain js → ArePlain (is ++ js)
plain_both is js p q = let h = beyond_both is js in omega (arith, h, p, q)

plain_given : (b : Bool) (i : Instance) → ArePlain (i ∷ []) → ArePlain (given b i)
plain_given true i h = h
plain_given false i h = omega arith

plain_found : (o : Option ExprId) (f : ExprId → List Instance)
    → ((d : ExprId) → ArePlain (f d)) → ArePlain (found o f)
plain_found None f h = omega arith
plain_found (Some d) f h = h d

plain_two : (o p : Option ExprId) (f : ExprId → ExprId → List Instance)
    → ((d e : ExprId) → ArePlain (f d e)) → ArePlain (both_found o p f)
plain_two (Some d) (Some e) f h = h d e
plain_two None p f h = omega arith
plain_two (Some d) None f h = omega arith

plain_if : (b : Bool) (is : List Instance) → ArePlain is → ArePlain (if b then is else [])
plain_if true is h = h
plain_if false is h = omega arith

pub plain_each : {A : Type 0} (f : ℕ → A → List Instance) → ((k : ℕ) (x : A) → ArePlain (f k x))
    → (k : ℕ) (xs : List A) → ArePlain (each_at f k xs)
plain_each f h k [] = omega arith
plain_each f h k (x ∷ xs) =
    plain_both (f k x) (each_at f (k + 1) xs) (h k x) (plain_each f h (k + 1) xs)

-- ---- of an expression
plain_operation : (x : ExprId) (n : Node) → ArePlain (at_operation x n)
plain_operation x (node.Var v) = omega arith
plain_operation x (node.Lit l) = omega arith
plain_operation x (node.Neg a) = omega arith
plain_operation x (node.Add a b) = omega arith
plain_operation x (node.Sub a b) =
    plain_both (lists.difference_rules x a b)
    (given (is_same a b) (rule 5 (Bnd a ∷ []) (Bnd x))) (omega arith)
    (plain_given (is_same a b) (rule 5 (Bnd a ∷ []) (Bnd x)) (omega arith))
plain_operation x (node.Mul a b) =
    plain_both (lists.product_rules x a b)
    (given (is_same a b) (rule 7 (Abs a ∷ []) (Bnd x))) (omega arith)
    (plain_given (is_same a b) (rule 7 (Abs a ∷ []) (Bnd x)) (omega arith))
plain_operation x (node.Div a b) =
    plain_both (lists.quotient_rules x a b)
    (given (is_same a b) (rule 10 (Nzr a ∷ []) (Bnd x))) (omega arith)
    (plain_given (is_same a b) (rule 10 (Nzr a ∷ []) (Bnd x)) (omega arith))
plain_operation x (node.Abs a) = omega arith
plain_operation x (node.Round r a) = omega arith

pub plain_node : (k : ℕ) (n : Node) → ArePlain (of_node k n)
plain_node k n = plain_both (at_any (id_at k)) (at_operation (id_at k) n) (omega arith)
    (plain_operation (id_at k) n)

-- ---- of a difference
plain_error : (x : ExprId) (n : Node) (a : ExprId) → ArePlain (at_error x n a)
plain_error x (node.Round r e) a =
    plain_if (is_same e a) (error_rules x a (is_sided r.dir))
    (plain_both (rule 42 (Bnd a ∷ []) (Bnd x) ∷ rule 44 (Fix a ∷ []) (Bnd x) ∷ [])
    (given (is_sided r.dir) (rule 43 (Bnd a ∷ []) (Bnd x))) (omega arith)
    (plain_given (is_sided r.dir) (rule 43 (Bnd a ∷ []) (Bnd x)) (omega arith)))
plain_error x (node.Var v) a = omega arith
plain_error x (node.Lit l) a = omega arith
plain_error x (node.Neg b) a = omega arith
plain_error x (node.Add b c) a = omega arith
plain_error x (node.Sub b c) a = omega arith
plain_error x (node.Mul b c) a = omega arith
plain_error x (node.Div b c) a = omega arith
plain_error x (node.Abs b) a = omega arith

plain_terms : (nodes : List Node) (x : ExprId) (m n : Node) → ArePlain (at_terms nodes x m n)
plain_terms nodes x (node.Add a b) (node.Add c d) =
    plain_two (place_of nodes (node.Sub a c)) (place_of nodes (node.Sub b d)) _ (λ p q. omega arith)
plain_terms nodes x (node.Sub a b) (node.Sub c d) =
    plain_two (place_of nodes (node.Sub a c)) (place_of nodes (node.Sub b d)) _ (λ p q. omega arith)
plain_terms nodes x (node.Mul a b) (node.Mul c d) =
    plain_two (place_of nodes (node.Sub a c)) (place_of nodes (node.Sub b d)) _ (λ p q. omega arith)
plain_terms nodes x (node.Neg a) (node.Neg b) =
    plain_found (place_of nodes (node.Sub a b)) _ (λ p. omega arith)
plain_terms nodes x _ _ = omega arith

module _ (nodes : List Node) (pairs : List Pair) where
  plain_left : (x a c : ExprId) (k : ℕ) (b : ExprId) → ArePlain (one_left nodes x a c k b)
  plain_left x a c k b =
      plain_if (apart a b c) (past_left nodes x a c b)
      (plain_two (place_of nodes (node.Sub a b))
      (place_of nodes (node.Sub b c)) _ (λ p q. omega arith))

  plain_right : (x a c : ExprId) (k : ℕ) (b : ExprId) → ArePlain (one_right nodes x a c k b)
  plain_right x a c k b =
      plain_if (apart a b c) (past_right nodes x a c b)
      (plain_two (place_of nodes (node.Sub a b))
      (place_of nodes (node.Sub c b)) _ (λ p q. omega arith))

  plain_sides : (x a c : ExprId) → ArePlain (of_sides nodes pairs x a c)
  plain_sides x a c =
      let l : List Instance = each_at (one_left nodes x a c) 0 (seconds pairs a) in
      let r : List Instance = each_at (one_right nodes x a c) 0 (seconds pairs c) in
      let t : List Instance = at_terms nodes x (node_of nodes a) (node_of nodes c) in
      plain_both (at_error x (node_of nodes a) c) (t ++ (l ++ r))
      (plain_error x (node_of nodes a) c)
      (plain_both t (l ++ r) (plain_terms nodes x (node_of nodes a) (node_of nodes c))
      (plain_both l r (plain_each (one_left nodes x a c) (plain_left x a c) 0 (seconds pairs a))
      (plain_each (one_right nodes x a c) (plain_right x a c) 0 (seconds pairs c))))

  pub plain_difference : (k : ℕ) (n : Node) → ArePlain (of_difference nodes pairs k n)
  plain_difference k (node.Sub a c) = plain_sides (id_at k) a c
  plain_difference k (node.Var v) = omega arith
  plain_difference k (node.Lit l) = omega arith
  plain_difference k (node.Neg a) = omega arith
  plain_difference k (node.Add a b) = omega arith
  plain_difference k (node.Mul a b) = omega arith
  plain_difference k (node.Div a b) = omega arith
  plain_difference k (node.Abs a) = omega arith
  plain_difference k (node.Round r a) = omega arith

  -- ---- of a pair
  plain_twin : (x y : ExprId) (b : Bool) → ArePlain (twin_rules x y b)
  plain_twin x y true = omega arith
  plain_twin x y false = omega arith

  plain_apart : (x y : ExprId) (b : Bool) (d : ExprId) → ArePlain (apart_rules x y b d)
  plain_apart x y true d = omega arith
  plain_apart x y false d = omega arith

  plain_operations : (x y : ExprId) (m n : Node) → ArePlain (operation_rules nodes pairs x y m n)
  plain_operations x y (node.Mul a b) (node.Mul c d) =
      plain_given (is_among pairs (a, c) && is_among pairs (b, d))
      (rule 56 (Rel a c ∷ Rel b d ∷ []) (Rel x y)) (omega arith)
  plain_operations x y (node.Div a b) (node.Div c d) =
      plain_given (is_among pairs (a, c) && is_among pairs (b, d))
      (rule 57 (Rel a c ∷ Rel b d ∷ Nzr d ∷ []) (Rel x y)) (omega arith)
  plain_operations x y (node.Neg a) (node.Neg b) =
      plain_given (is_among pairs (a, b)) (rule 60 (Rel a b ∷ []) (Rel x y)) (omega arith)
  plain_operations x y (node.Add a b) (node.Add c d) =
      plain_found (place_of nodes (node.Div c y))
      (λ s. given (is_among pairs (a, c) && is_among pairs (b, d))
      (rule 61 (Rel a c ∷ Rel b d ∷ Bnd s ∷ []) (Rel x y)))
      (λ s. plain_given (is_among pairs (a, c) && is_among pairs (b, d))
      (rule 61 (Rel a c ∷ Rel b d ∷ Bnd s ∷ []) (Rel x y)) (omega arith))
  plain_operations x y _ _ = omega arith

  plain_at_pair : (x y : ExprId) (m n : Node) → ArePlain (at_pair nodes pairs x y m n)
  plain_at_pair x y m n =
      let operations : List Instance = operation_rules nodes pairs x y m n in
      let turned : List Instance =
      given (is_among pairs (y, x)) (rule 59 (Rel x y ∷ []) (Rel y x)) in
      let quotient : List Instance =
      found (place_of nodes (node.Div x y)) (λ q. rule 55 (Rel x y ∷ Nzr y ∷ []) (Bnd q) ∷ []) in
      let difference : List Instance = found (place_of nodes (node.Sub x y))
      (λ d. difference_rules x y d ++ apart_rules x y (is_same x y) d) in
      let twins : List Instance = twin_rules x y (is_same x y) in
      plain_both (pair_rules x y)
      (twins ++ (difference ++ (quotient ++ (turned ++ operations)))) (omega arith)
      (plain_both twins (difference ++ (quotient ++ (turned ++ operations)))
      (plain_twin x y (is_same x y))
      (plain_both difference (quotient ++ (turned ++ operations))
      (plain_found (place_of nodes (node.Sub x y))
      (λ d. difference_rules x y d ++ apart_rules x y (is_same x y) d)
      (λ d. plain_both (difference_rules x y d) (apart_rules x y (is_same x y) d) (omega arith)
      (plain_apart x y (is_same x y) d)))
      (plain_both quotient (turned ++ operations)
      (plain_found (place_of nodes (node.Div x y))
      (λ q. rule 55 (Rel x y ∷ Nzr y ∷ []) (Bnd q) ∷ []) (λ q. (omega arith)))
      (plain_both turned operations
      (plain_given (is_among pairs (y, x)) (rule 59 (Rel x y ∷ []) (Rel y x)) (omega arith))
      (plain_operations x y m n)))))

  plain_past : (x y : ExprId) (k : ℕ) (c : ExprId) → ArePlain (past_of pairs x y k c)
  plain_past x y k c =
      plain_given (is_among pairs (x, c)) (rule 58 (Rel x y ∷ Rel y c ∷ []) (Rel x c)) (omega arith)

  pub plain_pair : (k : ℕ) (p : Pair) → ArePlain (of_pair nodes pairs k p)
  plain_pair k p =
      plain_both (at_pair nodes pairs p.0 p.1 (node_of nodes p.0) (node_of nodes p.1))
      (each_at (past_of pairs p.0 p.1) 0 (seconds pairs p.1))
      (plain_at_pair p.0 p.1 (node_of nodes p.0) (node_of nodes p.1))
      (plain_each (past_of pairs p.0 p.1) (plain_past p.0 p.1) 0 (seconds pairs p.1))
