-- Pairs and expressions together.
use Rattle.std.specs.Prelude.{◌≡◌, ◌<◌, ◌≤◌, ℕ, List, Some, map, slice_get, slice_index_or, length}
use Rattle.std.specs.Option.{option_map}
use Rattle.std.proofs.Common.{arith, ap, sym, ◌∙◌, subst}
use Rattle.std.proofs.lemmas.List.{length-map}
use Rattle.std.proofs.lemmas.Option.{slice_get-map, slice_get_within, slice_get-get_or}
use Rattle.fx_model.specs.declared.ExprId.{ExprId}
use Rattle.fx_model.specs.declared.Node.{Node}
use Rattle.fx_model.specs.declared.Node.TheVariants.{Var}
use Rattle.expr_dag.specs.Nodes.{IsAt}
use Rattle.pair_closure.specs.Reached.{Has, IsListOf}
use Rattle.pair_closure.specs.Reached.IsReached.{begin, lead}
use Rattle.pair_closure.specs.Closure.{Pair, BeginsExpressions, LeadsToExpression, IsTaken, IsPair}
use Rattle.pair_closure.specs.Closure.{IsExpression, AreManyPairs, AreTooMany, IsClosure, AreKnown}
use Rattle.pair_closure.specs.Closure.{IsKnownPair, AreRising, IsFollowed, difference_of}
use Rattle.pair_closure.specs.Closure.BeginsExpressions.{written, difference}
use Rattle.pair_closure.specs.Closure.LeadsToExpression.{operands, past_left, past_right}
use Rattle.pair_closure.proofs.Members.{some-inj}
use Rattle.pair_closure.proofs.Pigeons.{no_longer}

-- more pairs take more expressions
module _ (nodes : List Node) (P Q : Pair → Type 0) (f : (p : Pair) → P p → Q p) where
  begins_wider : (n : Node) → BeginsExpressions nodes P n → BeginsExpressions nodes Q n
  begins_wider n (written _ h) = written n h
  begins_wider n (difference a b p) = difference a b (f (a, b) p)

  leads_wider : (d e : Node) → LeadsToExpression nodes P d e → LeadsToExpression nodes Q d e
  leads_wider d e (operands x y a b m n xm yn h) = operands x y a b m n xm yn h
  leads_wider d e (past_left a b c p t) = past_left a b c (f (a, b) p) t
  leads_wider d e (past_right a b c p t) = past_right a b c (f (c, b) p) t

  pub taken_wider : (n : Node) → IsTaken nodes P n → IsTaken nodes Q n
  taken_wider n (begin _ b) = begin n (begins_wider n b)
  taken_wider n (lead d _ r l) = lead d n (taken_wider d r) (leads_wider d n l)

-- ---- each pair takes its own difference
pub same_pair : (p q : Pair) → difference_of p ≡ difference_of q → p ≡ q
same_pair p q e = let a : p.0 ≡ q.0 = cc in let b : p.1 ≡ q.1 = cc in (λ i. (a i, b i))

-- what stands in the list of differences is that of a pair at the same place
pub behind : (ps : List Pair) (k : ℕ) (n : Node) → slice_get (map difference_of ps) k ≡ Some n
    → (p : Pair) × (slice_get ps k ≡ Some p) × (n ≡ difference_of p)
behind ps k n h =
    let w = slice_get_within (map difference_of ps) k n h in
    let l : k < length ps = omega (arith, length-map ps difference_of) in
    let d : Pair = (record { 0 = 0 }, record { 0 = 0 }) in
    let at = slice_get-get_or ps k d l in (
      _,
      at,
      some-inj n _ (sym h ∙ slice_get-map difference_of ps k ∙ ap (option_map difference_of) at),
    )

module _ (nodes : List Node) (starts : List Pair) where
  pub closed : (all : List Node) (pairs : List Pair)
      → ((x : ExprId) (n : Node) → IsAt nodes x n → IsAt all x n)
      → IsFollowed nodes all → IsListOf (IsPair nodes starts) pairs → AreRising pairs
      → IsListOf (IsTaken nodes (Has pairs)) all → IsClosure nodes starts all pairs
  closed all pairs k o p r e = record {
    begins = k;
    order = o;
    rising = r;
    expressions = record {
      only = λ n h. taken_wider nodes (Has pairs) (IsPair nodes starts) p.only n (e.only n h);
      each = λ n t. e.each n (taken_wider nodes (IsPair nodes starts) (Has pairs) p.each n t);
      once = e.once;
    };
    pairs = p;
  }

  pub many_taken : (pairs : List Pair) → IsListOf (IsPair nodes starts) pairs
      → AreTooMany (IsTaken nodes (Has pairs)) → AreTooMany (IsExpression nodes starts)
  many_taken pairs p m = record {
    list = m.list;
    only = λ n h. taken_wider nodes (Has pairs) (IsPair nodes starts) p.only n (m.only n h);
    once = m.once;
    many = m.many;
  }

  pub many_pairs : AreManyPairs nodes starts → AreTooMany (IsExpression nodes starts)
  many_pairs m = record {
    list = map difference_of m.list;
    only = λ n h. (let b = behind m.list h.0 n h.1 in subst (IsExpression nodes starts) (sym b.2)
        (begin (difference_of b.0) (difference (b.0).0 (b.0).1 (m.only b.0 (h.0, b.1)))));
    once = λ i j n a b. (let f = behind m.list i n a in let g = behind m.list j n b in
        let e : f.0 ≡ g.0 = same_pair f.0 g.0 (sym f.2 ∙ g.2) in
        m.once i j f.0 f.1 (g.1 ∙ ap Some (sym e)));
    many = (let l = m.many in omega (arith, length-map m.list difference_of));
  }

  -- ---- a whole list of 1,024 at most shows that there aren't too many
  pub not_many : (all : List Node) (pairs : List Pair) → IsClosure nodes starts all pairs
      → length all ≤ 1024 → ¬ AreTooMany (IsExpression nodes starts)
  not_many all pairs c l m =
      let k : length m.list ≤ length all =
      no_longer all m.list m.once (λ n h. (c.expressions).each n (m.only n h)) in
      let g = m.many in
      omega arith

  -- the sides of its pairs are among its nodes
  pub known_sides : (all : List Node) (pairs : List Pair) → IsClosure nodes starts all pairs
      → ((p : Pair) → IsPair nodes starts p → IsKnownPair nodes p) → AreKnown all pairs
  known_sides all pairs c k p h =
      let w = k p ((c.pairs).only p h) in
      (there (p.0) w.0, there (p.1) w.1)
    where
      there : (x : ExprId) → x.0 < length nodes → x.0 < length all
      there x l = slice_get_within all x.0 _
          (c.begins x (slice_index_or nodes x.0 (Var 0)) (slice_get-get_or nodes x.0 (Var 0) l))
