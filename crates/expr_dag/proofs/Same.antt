-- The derived comparison tells nodes apart.
use Rattle.std.proofs.Common.{◌≡◌, ◌==◌, ◌&&◌, true, refl, sym, ap, true≢false, eqb-true}
use Rattle.std.specs.Ordering.{int_eq}
use Rattle.std.proofs.lemmas.Bool.Decides.{Decides-int_eq}
use Rattle.std.proofs.lemmas.Bool.{and_parts}
use Rattle.fx_model.specs.declared.Direction.{Direction}
use Rattle.fx_model.specs.declared.Direction.TheVariants.{Zr, Aw, Dn, Up, Od, Ne, No, Nz, Na, Nd}
use Rattle.fx_model.specs.declared.Direction.TheVariants.{Nu}
use Rattle.fx_model.specs.declared.Node.{Node}
use Rattle.fx_model.specs.declared.Literal.{Literal}
use Rattle.fx_model.specs.declared.Rounding.{Rounding}
use Rattle.fx_model.specs.declared.ExprId.{ExprId}
use Rattle.fx_model.specs.declared.Node.TheVariants.{Var, Lit, Neg, Add, Sub, Mul, Div, Abs, Round}
use Rattle.fx_model.specs.contracts.DirectionPartialEq.TheImpl as direction_eq
use Rattle.fx_model.specs.contracts.LiteralPartialEq.TheImpl as literal_eq
use Rattle.fx_model.specs.contracts.RoundingPartialEq.TheImpl as rounding_eq
use Rattle.fx_model.specs.contracts.ExprIdPartialEq.TheImpl as id_eq
use Rattle.fx_model.specs.contracts.NodeEq.TheImpl.Laws as node_laws
use Rattle.expr_dag.specs.Nodes.{same_node}

same_direction : (x y : Direction) → (direction_eq.ghosts).eq x y ≡ true → x ≡ y
same_direction Zr Zr h = refl
same_direction Aw Aw h = refl
same_direction Dn Dn h = refl
same_direction Up Up h = refl
same_direction Od Od h = refl
same_direction Ne Ne h = refl
same_direction No No h = refl
same_direction Nz Nz h = refl
same_direction Na Na h = refl
same_direction Nd Nd h = refl
same_direction Nu Nu h = refl
same_direction _ _ h = absurd (true≢false (sym h))

pub same_id : (x y : ExprId) → (id_eq.ghosts).eq x y ≡ true → x ≡ y
same_id x y h = let e = eqb-true x.0 y.0 h in (λ i. record { 0 = e i })

same_literal : (x y : Literal) → (literal_eq.ghosts).eq x y ≡ true → x ≡ y
same_literal x y h =
    let f = and_parts (x.num == y.num) (int_eq x.two y.two && int_eq x.ten y.ten) h in
    let g = and_parts (int_eq x.two y.two) (int_eq x.ten y.ten) f.1 in
    let n = eqb-true x.num y.num f.0 in
    let two = (Decides-int_eq x.two y.two).0 g.0 in
    let ten = (Decides-int_eq x.ten y.ten).0 g.1 in
    (λ i. record { num = n i; two = two i; ten = ten i })

same_rounding : (x y : Rounding) → (rounding_eq.ghosts).eq x y ≡ true → x ≡ y
same_rounding x y h =
    let f = and_parts (int_eq x.lsb y.lsb) ((direction_eq.ghosts).eq x.dir y.dir) h in
    let lsb = (Decides-int_eq x.lsb y.lsb).0 f.0 in
    let dir = same_direction x.dir y.dir f.1 in
    (λ i. record { lsb = lsb i; dir = dir i })

same_pair : (op : ExprId → ExprId → Node) (x y u v : ExprId)
    → ((id_eq.ghosts).eq x u && (id_eq.ghosts).eq y v) ≡ true → op x y ≡ op u v
same_pair op x y u v h =
    let f = and_parts ((id_eq.ghosts).eq x u) ((id_eq.ghosts).eq y v) h in
    let e = same_id x u f.0 in
    let g = same_id y v f.1 in
    (λ i. op (e i) (g i))

-- nodes that compare as equal are one
pub same : (x y : Node) → same_node x y ≡ true → x ≡ y
same (Var n) (Var m) h = ap Var (eqb-true n m h)
same (Lit l) (Lit m) h = ap Lit (same_literal l m h)
same (Neg x) (Neg y) h = ap Neg (same_id x y h)
same (Add x y) (Add u v) h = same_pair Add x y u v h
same (Sub x y) (Sub u v) h = same_pair Sub x y u v h
same (Mul x y) (Mul u v) h = same_pair Mul x y u v h
same (Div x y) (Div u v) h = same_pair Div x y u v h
same (Abs x) (Abs y) h = ap Abs (same_id x y h)
same (Round r x) (Round s y) h =
    let f = and_parts ((rounding_eq.ghosts).eq r s) ((id_eq.ghosts).eq x y) h in
    let e = same_rounding r s f.0 in
    let g = same_id x y f.1 in
    (λ i. Round (e i) (g i))
same _ _ h = absurd (true≢false (sym h))

-- and a node compares as equal with itself
pub itself : (x : Node) → same_node x x ≡ true
itself x = (node_laws.laws-law).refl x
