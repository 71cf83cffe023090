-- The tests of an evaluation tell what holds of an assignment.
use Rattle.std.specs.Prelude.{◌↔◌, List, IsTrue}
use Rattle.fx_model.specs.Expression.{Assignment, value}
use Rattle.fx_model.specs.declared.Node.{Node}
use Rattle.script_claims.specs.Meets.{IsTrueAt}
use Rattle.script_claims.specs.declared.claim.Claim.{Claim}
use Rattle.script_hints.specs.Meets.{MeetsHint}
use Rattle.script_hints.specs.declared.hint.Hint.{Hint}
use Rattle.point_values.specs.Truth.{claim_holds, hint_holds}

-- The test of a claim tells whether it is true of the assignment, with bounds exactly as they are
-- written.
abbrev pub ClaimsAreTold : Type 0
ClaimsAreTold = (nodes : List Node) (a : Assignment) (c : Claim)
    → IsTrue (claim_holds (value nodes a) c) ↔ IsTrueAt nodes a c

-- The test of a hint tells whether the assignment meets it.
abbrev pub HintsAreTold : Type 0
HintsAreTold = (nodes : List Node) (a : Assignment) (h : Hint)
    → IsTrue (hint_holds (value nodes a) h) ↔ MeetsHint nodes a h
