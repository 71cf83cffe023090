-- The hints and the goals of a script that the judge lets pass.
use Rattle.std.specs.Prelude.{◌≤◌, List, length, Option, None}
use Rattle.script_shape.specs.Tree.{Script, formula, define}
use Rattle.script_shape.specs.Roles.{script_leaves}
use Rattle.script_judge.specs.Said.{Said}
use Rattle.script_judge.specs.Judge.{Judged, nothing_seen}
use Rattle.script_nodes.specs.Known.{Known}
use Rattle.script_nodes.specs.Definitions.{definition_value}
use Rattle.script_claims.specs.declared.claim.Claim.{Claim}
use Rattle.script_claims.specs.Claims.{formula_claims}
use Rattle.script_hints.specs.Few.{HaveFewPieces}
use Rattle.script_hints.specs.declared.hint.HintList.{HintList}
use Rattle.script_hints.specs.Hints.{no_hints, with_hints}

-- what the hints of a script say behind what is known
abbrev pub hints_behind : Script → Known → HintList
hints_behind (formula f h) k = (with_hints h ((formula_claims f k).known, no_hints)).1
hints_behind (define x rest) k = hints_behind rest (definition_value x k)

-- The hints of each kind are within the limit of their kind, and so are the pieces of each cut.
pub record HasFewHints (l : HintList) : Type 0 where
  pub rewrites : length l.rewrites ≤ 64
  pub likes : length l.likes ≤ 64
  pub cuts : length l.cuts ≤ 4
  pub pieces : HaveFewPieces l.cuts
  pub halves : length l.halves ≤ 4
  pub order : length l.order ≤ 8

-- A script whose words the judge lets pass has few hints, whatever is known before it.
abbrev pub HintsAreFew : Type 0
HintsAreFew = (tree : Script) (k : Known) (said : Option Said)
    → Judged 0 (nothing_seen said) (script_leaves tree) None → HasFewHints (hints_behind tree k)

-- what the formula of a script claims as goals, behind what is known
abbrev pub goals_behind : Script → Known → List Claim
goals_behind (formula f h) k = (formula_claims f k).sides.goals
goals_behind (define x rest) k = goals_behind rest (definition_value x k)

-- A script whose words the judge lets pass has no more goals than propositions, which are 128 at
-- most, whatever is known before it.
abbrev pub GoalsAreFew : Type 0
GoalsAreFew = (tree : Script) (k : Known) (said : Option Said)
    → Judged 0 (nothing_seen said) (script_leaves tree) None → length (goals_behind tree k) ≤ 128
