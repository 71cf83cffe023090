-- When what a rule gives can be written as a step.
use Rattle.std.specs.Prelude.{◌≡◌, ◌<◌, ◌&&◌, ◌≤◌, ℕ, suc, Bool, true, false, List, Option, Some}
use Rattle.std.specs.Prelude.{None, length, nat_lt, refl}
use Rattle.std.proofs.Common.{subst, arith}
use Rattle.std.proofs.lemmas.Option.{slice_get_within, get_or_from_slice_get}
use Rattle.std.proofs.lemmas.Bool.{and_from}
use Rattle.fx_model.specs.declared.ExprId.{ExprId}
use Rattle.fx_model.specs.declared.Node.{Node}
use Rattle.fx_model.specs.Expression.{ChildrenBelow, IsOrdered}
use Rattle.fx_model.proofs.Expression.{children_later}
use Rattle.interval.specs.declared.interval.Interval.{Interval}
use Rattle.expr_dag.specs.Shapes.{is_at, is_known, are_known}
use Rattle.expr_dag.proofs.Shapes.{is_at_out}
use Rattle.facts.specs.declared.place.FixPlace.{FixPlace}
use Rattle.facts.specs.declared.size.Size.{Size}
use Rattle.facts.specs.declared.fact.Fact.{Fact}
use Rattle.facts.specs.declared.fact.Slot.{Slot}
use Rattle.facts.specs.declared.fact.Fact.TheVariants as fact
use Rattle.facts.specs.declared.fact.Slot.TheVariants as slot
use Rattle.facts.specs.Promises.{Rule}
use Rattle.facts.specs.Conclusions.{only_if, given_if, bnd_of, abs_of, fix_of}

-- Where nodes are made of earlier ones, what a rule gives can be written as a step: there is room
-- for its premises, and VOID is given also where VOID is aimed at.
abbrev pub FitsSteps : Rule → Type 0
FitsSteps r = (nodes : List Node) (premises : List Fact) (target : Slot) (f : Fact)
    → IsOrdered nodes → r nodes premises target ≡ Some f
    → (length premises ≤ 65535) × (f ≡ fact.Void → r nodes premises slot.Void ≡ Some fact.Void)

-- ---- what never is VOID
pub only_never : (b : Bool) (f : Fact) → ¬ (f ≡ fact.Void) → only_if b f ≡ Some fact.Void → ⊥
only_never true f n q = n (let d : f ≡ fact.Void = cc in d)
only_never false f n q = cc

pub given_never : (b : Bool) (o : Option Fact) → ¬ (o ≡ Some fact.Void)
    → given_if b o ≡ Some fact.Void → ⊥
given_never true o n q = n q
given_never false o n q = cc

pub bnd_never : (x : ExprId) (o : Option Interval) → bnd_of x o ≡ Some fact.Void → ⊥
bnd_never x None q = cc
bnd_never x (Some i) q = cc

pub abs_never : (x : ExprId) (o : Option Size) → abs_of x o ≡ Some fact.Void → ⊥
abs_never x None q = cc
abs_never x (Some i) q = cc

pub fix_never : (x : ExprId) (o : Option FixPlace) → fix_of x o ≡ Some fact.Void → ⊥
fix_never x None q = cc
fix_never x (Some i) q = cc

-- ---- tests
pub only_given : (b : Bool) (f : Fact) → only_if b f ≡ Some fact.Void → (b ≡ true) × (f ≡ fact.Void)
only_given true f q = (refl, let d : f ≡ fact.Void = cc in d)
only_given false f q = cc

pub given_both : (b : Bool) (o : Option Fact) (f : Fact) → b ≡ true
    → o ≡ Some f → given_if b o ≡ Some f
given_both b o f t q = rw t q

pub only_void : (b : Bool) → b ≡ true → only_if b fact.Void ≡ Some fact.Void
only_void b t = rw t refl

-- behind a test that there are few
pub few_by : (n : ℕ) (c : Bool) (o : Option Fact) (f : Fact)
    → given_if (nat_lt n 65535 && c) o ≡ Some f → suc n ≤ 65535
few_by n c o f q = by_test (nat_lt n 65535) refl q
  where
    by_test : (b : Bool) → nat_lt n 65535 ≡ b → given_if (b && c) o ≡ Some f → suc n ≤ 65535
    by_test true t q = let h : n < 65535 = grind (arith, t) in omega (arith, h)
    by_test false t q = cc

-- ---- nodes
one_known : (nodes : List Node) (x : ExprId) → x.0 < length nodes → is_known nodes x ≡ true
one_known nodes x h = grind (arith, h)

pub both_known : (nodes : List Node) (x y : ExprId) → x.0 < length nodes → y.0 < length nodes
    → are_known nodes x y ≡ true
both_known nodes x y h k =
    and_from (is_known nodes x) (is_known nodes y) (one_known nodes x h) (one_known nodes y k)

-- what an expression is made of is in the list
pub children_known : (nodes : List Node) (x : ExprId) (n : Node) → IsOrdered nodes
    → is_at nodes x n ≡ true → ChildrenBelow (length nodes) n
children_known nodes x n o q =
    let e = is_at_out nodes x n q in
    let h : x.0 < length nodes = slice_get_within nodes x.0 n e in
    children_later x.0 (length nodes) n (omega (arith, h))
    (subst (ChildrenBelow x.0) (get_or_from_slice_get nodes x.0 n n e) (o x.0 n h))
