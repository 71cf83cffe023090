use Rattle.std.proofs.Common.{refl}
use Rattle.facts.specs.declared.fact.Fact.TheVariants as fact
use Rattle.facts.proofs.Meets.{IsStronger-antisymm}
use Rattle.facts.proofs.law.void_and_none_are_strongest.Goals as goal

pub returns : goal.returns
returns c = record {
  void = λ f. tt;
  void_alone = λ f s. IsStronger-antisymm f fact.Void s tt;
  none = λ x y e. (refl, refl, tt);
  none_alone = λ x y e s. s.2;
}
