use Rattle.std.specs.Prelude.{◌⊎◌, slice_index_or}
use Rattle.std.proofs.Common.{arith, ap, inl, inr, ⊎_elim}
use Rattle.std.proofs.lemmas.Int.{ints}
use Rattle.std.proofs.lemmas.Option.{slice_get-get_or}
use Rattle.fx_model.specs.declared.ExprId.{ExprId}
use Rattle.fx_model.specs.declared.Literal.{Literal}
use Rattle.fx_model.specs.declared.Node.{Node}
use Rattle.fx_model.specs.declared.Node.TheVariants.{Var, Lit, Neg, Add, Sub, Mul, Div, Abs, Round}
use Rattle.literal.specs.Normal.{IsNormal}
use Rattle.literal.proofs.Limits.{bounded}
use Rattle.expr_dag.specs.Nodes.{IsInLimits}
use Rattle.poly_normal.specs.Ratio.{IsPlain, IsPlainNode}
use Rattle.poly_normal.proofs.shared.plain.Goals as goal

normal_plain : (l : Literal) → IsNormal l → IsPlain l
normal_plain l n = let b = (bounded l n).ten_low in ⊎_elim
    (λ z. inl (ap (λ (k : Literal). k.two) z, omega (arith, ints)))
    (λ m. ⊎_elim (λ d. inl (d.two, omega (arith, ints))) (λ e. inr (e.ten, e.reduced)) m) n

plain_node : (n : Node) → IsInLimits n → IsPlainNode n
plain_node (Var x) h = tt
plain_node (Lit l) h = normal_plain l h
plain_node (Neg x) h = tt
plain_node (Add x y) h = tt
plain_node (Sub x y) h = tt
plain_node (Mul x y) h = tt
plain_node (Div x y) h = tt
plain_node (Abs x) h = tt
plain_node (Round r x) h = tt

pub returns-clause-plain : goal.returns-clause-plain
returns-clause-plain c = λ i n h.
    let x : ExprId = record { 0 = i } in
    plain_node (slice_index_or c.args.dag.now i n) (c.laws.ensures.lawful x
    (slice_index_or c.args.dag.now i n) (slice_get-get_or c.args.dag.now i n h)).limits
