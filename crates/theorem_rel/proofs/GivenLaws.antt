-- Conclusions on relative errors hold where the values are so related.
use Rattle.std.specs.Prelude.{◌≡◌, Option, Some, None, List, refl}
use Rattle.std.proofs.Common.{sym, subst}
use Rattle.fx_model.specs.Fraction.{Fraction}
use Rattle.fx_model.specs.Expression.{Assignment}
use Rattle.fx_model.specs.declared.ExprId.{ExprId}
use Rattle.fx_model.specs.declared.Node.{Node}
use Rattle.interval.specs.declared.interval.Interval.{Interval}
use Rattle.facts.specs.declared.fact.Fact.{Fact}
use Rattle.facts.specs.declared.fact.Fact.TheVariants as fact
use Rattle.facts.specs.Holds.{Holds, IsRelated}
use Rattle.facts.proofs.Known.{HasValue, rel_in}
use Rattle.facts.specs.Parts.{error_from, error_from_out, error_of_part}
use Rattle.facts.proofs.CommonParts.{at_option}
use Rattle.facts.specs.RelativeConclusions.{rel_of}
use Rattle.theorem_rel.proofs.Related.{HasError, related_in}

pub rel_given : (nodes : List Node) (a : Assignment) (x y : ExprId) (i : Interval)
    (f : Fact) (v w t : Fraction) → rel_of x y (error_from i) ≡ Some f → HasValue nodes a x v
    → HasValue nodes a y w → HasError i v w t → Holds nodes a f
rel_given nodes a x y i f v w t q p r h =
    at_option (error_from i) (λ o. error_from i ≡ o → rel_of x y o ≡ Some f → Holds nodes a f)
    (λ _ _ k. cc)
    (λ e m _ k. let u : fact.Rel x y (Some e) ≡ f = cc in
    subst (Holds nodes a) u (rel_in nodes a x y (Some e) v w (record {
      first = p;
      second = r;
      related = subst (λ j. IsRelated j v w) (sym (error_from_out i e m)) (related_in i v w t h);
    })))
    refl q

pub part_given : (nodes : List Node) (a : Assignment) (x y : ExprId) (o : Option Interval)
    (f : Fact) (v w t : Fraction) → rel_of x y (error_of_part o) ≡ Some f → HasValue nodes a x v
    → HasValue nodes a y w → ((i : Interval) → o ≡ Some i → HasError i v w t) → Holds nodes a f
part_given nodes a x y None f v w t q p r h = cc
part_given nodes a x y (Some i) f v w t q p r h = rel_given nodes a x y i f v w t q p r (h i refl)
