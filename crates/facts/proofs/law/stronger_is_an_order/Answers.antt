use Rattle.facts.proofs.Laws.{IsStronger-refl, IsStronger-trans, IsStronger-slot}
use Rattle.facts.proofs.Meets.{IsStronger-antisymm}
use Rattle.facts.proofs.law.stronger_is_an_order.Goals as goal

pub returns : goal.returns
returns c = record {
  reflexive = IsStronger-refl;
  transitive = IsStronger-trans;
  antisymmetric = IsStronger-antisymm;
  on_one_slot = IsStronger-slot;
}
