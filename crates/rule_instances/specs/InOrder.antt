-- All instances, in their order: those of each expression, of each difference, of each pair, of
-- each hint.
use Rattle.std.specs.Prelude.{◌&&◌, ◌+◌, ℕ, Bool, not, if◌then◌else◌, List, [], ◌∷◌, ◌++◌}
use Rattle.std.specs.Prelude.{slice_index_or}
use Rattle.fx_model.specs.declared.ExprId.{ExprId}
use Rattle.fx_model.specs.declared.Node.{Node}
use Rattle.fx_model.specs.declared.Node.TheVariants as node
use Rattle.pair_closure.specs.Closure.{Pair, is_same}
use Rattle.pair_closure.specs.Rows.{seconds}
use Rattle.facts.specs.declared.fact.Slot.TheVariants as slot
use Rattle.facts.specs.declared.hint.HintRow.{HintRow}
use Rattle.facts.specs.declared.instance.Instance.{Instance}
use Rattle.rule_instances.specs.Slots.{rewriting}
use Rattle.rule_instances.specs.Lists.{at_any, at_operation}
use Rattle.rule_instances.specs.Found.{at_error, at_terms, past_left, past_right, at_pair}
use Rattle.rule_instances.specs.Found.{past_pair}

-- what the members of a list give, whose first has number k
abbrev pub each_at : {A : Type 0} → (ℕ → A → List Instance) → ℕ → List A → List Instance
each_at f k [] = []
each_at f k (x ∷ xs) = f k x ++ each_at f (k + 1) xs

-- The id of expression number k.
abbrev pub id_at : ℕ → ExprId
id_at k = record { 0 = k }

-- whether three expressions differ
abbrev pub apart : ExprId → ExprId → ExprId → Bool
apart a b c = not (is_same a b) && (not (is_same b c) && not (is_same a c))

-- of expression number k
abbrev pub of_node : ℕ → Node → List Instance
of_node k n = at_any (id_at k) ++ at_operation (id_at k) n

-- of a pair (x, y) and a pair (y, c)
abbrev pub past_of : List Pair → ExprId → ExprId → ℕ → ExprId → List Instance
past_of pairs x y k c = past_pair pairs x y c

module _ (nodes : List Node) where
  -- The node of an expression; a variable stands in where there is none.
  abbrev pub node_of : ExprId → Node
  node_of x = slice_index_or nodes x.0 (node.Var 0)

  -- of a difference x = a - c past an expression with which a, or c, is paired
  abbrev pub one_left : ExprId → ExprId → ExprId → ℕ → ExprId → List Instance
  one_left x a c k b = if apart a b c then past_left nodes x a c b else []

  -- What the difference `x` of `a` and `c` gives past `b`, with which `c` is paired, where the
  -- three differ.
  abbrev pub one_right : ExprId → ExprId → ExprId → ℕ → ExprId → List Instance
  one_right x a c k b = if apart a b c then past_right nodes x a c b else []

  module _ (pairs : List Pair) where
    -- of a difference x = a - c
    abbrev pub of_sides : ExprId → ExprId → ExprId → List Instance
    of_sides x a c =
        at_error x (node_of a) c ++ (at_terms nodes x (node_of a) (node_of c) ++ (each_at
        (one_left x a c) 0 (seconds pairs a) ++ each_at (one_right x a c) 0 (seconds pairs c)))

    -- of expression number k, where it is a difference
    abbrev pub of_difference : ℕ → Node → List Instance
    of_difference k (node.Sub a c) = of_sides (id_at k) a c
    of_difference k n = []

    -- of a pair
    abbrev pub of_pair : ℕ → Pair → List Instance
    of_pair k p = at_pair nodes pairs p.0 p.1 (node_of p.0) (node_of p.1)
        ++ each_at (past_of pairs p.0 p.1) 0 (seconds pairs p.1)

-- of hint number k
abbrev pub of_hint : ℕ → HintRow → List Instance
of_hint k h = rewriting k h slot.Bnd ∷ rewriting k h slot.Abs ∷ rewriting k h slot.Fix
    ∷ rewriting k h slot.Nzr ∷ []

-- all of them
abbrev pub instance_list : List Node → List Pair → List HintRow → List Instance
instance_list nodes pairs hints =
    each_at of_node 0 nodes ++ (each_at (of_difference nodes pairs) 0 nodes
    ++ (each_at (of_pair nodes pairs) 0 pairs ++ each_at of_hint 0 hints))
