-- How many of the first nodes are variables.
use Rattle.std.specs.Prelude.{◌≡◌, ◌+◌, ℕ, zero, suc, List, [], ◌∷◌, length, take, Some, slice_get}
use Rattle.std.specs.Prelude.{refl}
use Rattle.std.proofs.Common.{arith, ap, ◌∙◌, add-one}
use Rattle.fx_model.specs.declared.Node.{Node}
use Rattle.fx_model.specs.declared.Node.TheVariants.{Var, Lit, Neg, Add, Sub, Mul, Div, Abs, Round}
use Rattle.box_trace.specs.Rounds.{one_if_variable, variable_count}

-- one node more
count_next : (nodes : List Node) (n : ℕ) (node : Node) → slice_get nodes n ≡ Some node
    → variable_count (take (suc n) nodes) ≡ variable_count (take n nodes) + one_if_variable node
count_next [] n node e = cc
count_next (m ∷ nodes) zero node e =
    let same : m ≡ node = cc in
    let one : one_if_variable m ≡ one_if_variable node = ap one_if_variable same in
    omega (arith, one)
count_next (m ∷ nodes) (suc n) node e = let h = count_next nodes n node e in omega (arith, h)

count_more : (nodes : List Node) (n : ℕ) (node : Node) → slice_get nodes n ≡ Some node
    → variable_count (take (n + 1) nodes) ≡ variable_count (take n nodes) + one_if_variable node
count_more nodes n node e =
    ap (λ k. variable_count (take k nodes)) (add-one n) ∙ count_next nodes n node e

pub count_variable : (nodes : List Node) (n v : ℕ) → slice_get nodes n ≡ Some (Var v)
    → variable_count (take (n + 1) nodes) ≡ variable_count (take n nodes) + 1
count_variable nodes n v e = count_more nodes n (Var v) e

none_for : (node : Node) → ((v : ℕ) → ¬ (node ≡ Var v)) → one_if_variable node ≡ 0
none_for (Var v) d = absurd (d v refl)
none_for (Lit l) d = refl
none_for (Neg x) d = refl
none_for (Add x y) d = refl
none_for (Sub x y) d = refl
none_for (Mul x y) d = refl
none_for (Div x y) d = refl
none_for (Abs x) d = refl
none_for (Round r x) d = refl

pub count_other : (nodes : List Node) (n : ℕ) (node : Node) → slice_get nodes n ≡ Some node
    → ((v : ℕ) → ¬ (node ≡ Var v))
    → variable_count (take (n + 1) nodes) ≡ variable_count (take n nodes)
count_other nodes n node e d =
    let h = count_more nodes n node e in let z = none_for node d in omega (arith, h, z)

pub count_all : (nodes : List Node) (n : ℕ) → n ≡ length nodes
    → variable_count (take n nodes) ≡ variable_count nodes
count_all nodes n e = ap (λ k. variable_count (take k nodes)) e ∙ all nodes
  where
    all : (nodes : List Node) → variable_count (take (length nodes) nodes) ≡ variable_count nodes
    all [] = refl
    all (m ∷ nodes) = ap (λ k. one_if_variable m + k) (all nodes)
