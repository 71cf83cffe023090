-- The worklist of expressions, from its start to its end.
use Rattle.std.specs.Prelude.{◌≡◌, ◌≤◌, ◌+◌, ℕ, List, [], ◌∷◌, ◌++◌, Some, slice_get, length}
use Rattle.std.proofs.Common.{inl, inr, arith, ap, sym, ◌∙◌, subst, length-append}
use Rattle.fx_model.specs.declared.ExprId.{ExprId}
use Rattle.fx_model.specs.declared.Node.{Node}
use Rattle.fx_model.specs.declared.Node.TheVariants.{Sub}
use Rattle.expr_dag.specs.Nodes.{IsAt}
use Rattle.pair_closure.specs.Reached.{Has, IsEachOnce, IsListOf}
use Rattle.pair_closure.specs.Reached.IsReached.{begin, lead}
use Rattle.pair_closure.specs.Closure.{Pair, BeginsExpressions, LeadsToExpression, IsTaken}
use Rattle.pair_closure.specs.Closure.{AreTooMany}
use Rattle.pair_closure.specs.Closure.BeginsExpressions.{written, difference}
use Rattle.pair_closure.specs.Differences.{IsGivenBy, IsDifferenceOf}
use Rattle.pair_closure.specs.Grown.{IsGrown, IsOverfull}
use Rattle.pair_closure.proofs.Members.{ends_with}
use Rattle.pair_closure.proofs.GivenBy.{longer}
use Rattle.pair_closure.proofs.Worklist.{IsWorked, worked_start, worked_step, worked_all}

abbrev id_at : ℕ → ExprId
id_at k = record { 0 = k }

-- a list of shared nodes has each once
pub each_once : (all : List Node)
    → ((x y : ExprId) (n : Node) → IsAt all x n → IsAt all y n → x ≡ y) → IsEachOnce all
each_once all d i j n a b = ap (λ (z : ExprId). z.0) (d (id_at i) (id_at j) n a b)

-- where there is no room for a further one, there are too many
pub too_many : (E : Node → Type 0) (old : List Node) (P : Node → Type 0)
    → ((n : Node) → Has old n → E n) → ((n : Node) → P n → E n) → IsOverfull old P → AreTooMany E
too_many E old P from_old from_new o = record {
  list = o.list ++ o.more ∷ [];
  only = λ n h. elim (ends_with o.list o.more h.0 n h.1) [
    | inl a ↦ elim (o.only n (h.0, a)) [ inl b ↦ from_old n b | inr p ↦ from_new n p ]
    | inr e ↦ subst E (sym e.1) (from_new o.more o.wanted)
  ];
  once = once;
  many = omega (arith, length-append o.list (o.more ∷ []), o.long);
}
  where
    not_last : (k : ℕ) (n : Node) → slice_get o.list k ≡ Some n → n ≡ o.more → ⊥
    not_last k n a e = o.missing (id_at k) (a ∙ ap Some e)

    once : IsEachOnce (o.list ++ o.more ∷ [])
    once i j n a b = elim (ends_with o.list o.more i n a) [
      | inl c ↦ elim (ends_with o.list o.more j n b) [
        | inl d ↦ each_once o.list (o.shared).distinct i j n c d
        | inr e ↦ absurd (not_last i n c e.1)
      ]
      | inr c ↦ elim (ends_with o.list o.more j n b)
          [ inl d ↦ absurd (not_last j n d c.1) | inr e ↦ c.0 ∙ sym e.0 ]
    ]

module _ (nodes : List Node) (pairs : List Pair) where
  abbrev Begins : Node → Type 0
  Begins = BeginsExpressions nodes (Has pairs)

  abbrev Leads : Node → Node → Type 0
  Leads = LeadsToExpression nodes (Has pairs)

  -- The first i are worked off, and the nodes of the script stand where they stood.
  pub record IsClosing (all : List Node) (i : ℕ) : Type 0 where
    pub worked : IsWorked (BeginsExpressions nodes (Has pairs))
        (LeadsToExpression nodes (Has pairs)) all i
    pub kept : (k : ℕ) (n : Node) → slice_get nodes k ≡ Some n → slice_get all k ≡ Some n
    pub longer : length nodes ≤ length all

  begins_difference : (n : Node) → IsGivenBy pairs IsDifferenceOf n → Begins n
  begins_difference n g = subst Begins (sym g.2) (difference (g.0).0 (g.0).1 g.1)

  stands : (old new : List Node) → old ≡ nodes → IsGrown old new (IsGivenBy pairs IsDifferenceOf)
      → (n : Node) → Begins n → Has new n
  stands old new e g n (written _ h) = (h.0, g.kept h.0 n (ap (λ l. slice_get l h.0) e ∙ h.1))
  stands old new e g n (difference a b p) = g.each (Sub a b) ((a, b), p, (λ _. Sub a b))

  pub closing_start : (old new : List Node) → old ≡ nodes
      → IsGrown old new (IsGivenBy pairs IsDifferenceOf) → IsClosing new 0
  closing_start old new e g = record {
    worked = worked_start Begins Leads new
        (λ n h. elim (g.only n h)
        [ inl a ↦ written n (subst (λ l. Has l n) e a) | inr d ↦ begins_difference n d ])
        (stands old new e g);
    kept = λ k n a. g.kept k n (ap (λ l. slice_get l k) e ∙ a);
    longer = let l = longer old new (IsGivenBy pairs IsDifferenceOf) g in
        subst (λ m. length m ≤ length new) e l;
  }

  pub closing_step : (all new : List Node) (i : ℕ) (n : Node) → IsClosing all i
      → slice_get all i ≡ Some n → IsGrown all new (Leads n) → IsClosing new (i + 1)
  closing_step all new i n c a g = record {
    worked = worked_step Begins Leads all new i n c.worked a g;
    kept = λ k m b. g.kept k m (c.kept k m b);
    longer = let l = longer all new (Leads n) g in let m = c.longer in omega arith;
  }

  pub closing_end : (all : List Node) (i : ℕ) → IsClosing all i
      → length all ≤ i → ((x y : ExprId) (n : Node) → IsAt all x n → IsAt all y n → x ≡ y)
      → IsListOf (IsTaken nodes (Has pairs)) all
  closing_end all i c l d = record {
    only = (c.worked).only;
    each = worked_all Begins Leads all i c.worked l;
    once = each_once all d;
  }

  -- no room at the start, or on the way
  pub full_start : (old : List Node) → old ≡ nodes → IsOverfull old (IsGivenBy pairs IsDifferenceOf)
      → AreTooMany (IsTaken nodes (Has pairs))
  full_start old e o = too_many (IsTaken nodes (Has pairs)) old (IsGivenBy pairs IsDifferenceOf)
      (λ n h. begin n (written n (subst (λ l. Has l n) e h)))
      (λ n g. begin n (begins_difference n g)) o

  pub full_step : (all : List Node) (i : ℕ) (n : Node) → IsClosing all i → slice_get all i ≡ Some n
      → IsOverfull all (Leads n) → AreTooMany (IsTaken nodes (Has pairs))
  full_step all i n c a o = too_many (IsTaken nodes (Has pairs)) all (Leads n)
      (c.worked).only (λ m l. lead n m ((c.worked).only n (i, a)) l) o
