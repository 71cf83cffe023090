-- Conclusions on relative errors: how they are written, when one improves another, and where they
-- stand.
use Rattle.std.specs.Prelude.{Option, Some, None}
use Rattle.fx_model.specs.declared.ExprId.{ExprId}
use Rattle.facts.specs.declared.relative.RelativeError.{RelativeError}
use Rattle.facts.specs.declared.fact.Fact.{Fact}
use Rattle.facts.specs.declared.fact.Fact.TheVariants as fact

-- a REL fact, where there is a relative error
abbrev pub rel_of : ExprId → ExprId → Option RelativeError → Option Fact
rel_of x y None = None
rel_of x y (Some e) = Some (fact.Rel x y (Some e))

-- VOID alone: what a rule gives where VOID is wanted
abbrev pub void_only : Option Fact → Option Fact
void_only (Some fact.Void) = Some fact.Void
void_only _ = None
