-- The universe of a script is small.
use Rattle.std.specs.Prelude.{◌≡◌, ◌≤◌, ◌+◌, List, ◌++◌, length}
use Rattle.std.proofs.Common.{arith, sym, subst}
use Rattle.fx_model.specs.declared.ExprId.{ExprId}
use Rattle.fx_model.specs.declared.Node.{Node}
use Rattle.expr_dag.specs.Nodes.{IsAt, IsLawful}
use Rattle.facts.specs.declared.instance.Instance.{Instance}
use Rattle.rule_instances.specs.InOrder.{instance_list}
use Rattle.rule_universe.specs.Sizes.{beyond_four}
use Rattle.script_truths.specs.Truths.{UniversesExtend}
use Rattle.answer_certificates.specs.Premises.{PremisesAreFew}
use Rattle.answer_certificates.specs.Universes.{UniversesAreSmall}

abbrev AreLawful : List Node → Type 0
AreLawful nodes = (x : ExprId) (n : Node) → IsAt nodes x n → IsLawful x.0 n

abbrev AreShort : List Node → Type 0
AreShort nodes = length nodes ≤ 1024

pub universes_small : PremisesAreFew → UniversesExtend → UniversesAreSmall
universes_small few extend s claims u has room =
    let longer = extend s claims u has in
    let all : u.nodes ≡ s.nodes ++ longer.more = longer.list in
    let most = few s.nodes longer.more u.pairs s.hints.rewrites u.hints
    (subst AreLawful all room.lawful) (subst AreShort all room.short) has.universe.hints in
    let rewrites = room.hints.rewrites in
    let constraints = room.constraints in
    let listed : beyond_four (instance_list (s.nodes ++ longer.more) u.pairs u.hints) ≤ 1310976 =
    omega (arith, most, rewrites, constraints) in
    record {
      hypotheses = room.hypotheses;
      nodes = room.short;
      premises = subst (λ (is : List Instance). beyond_four is ≤ 1310976) (sym has.universe.order)
          (subst (λ nodes. beyond_four (instance_list nodes u.pairs u.hints)
          ≤ 1310976) (sym all) listed);
    }
