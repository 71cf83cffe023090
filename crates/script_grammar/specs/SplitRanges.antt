-- The split variables of a script that the judge lets pass have ranges.
use Rattle.std.specs.Prelude.{◌≡◌, ◌≤◌, List, length, Some, None, true}
use Rattle.std.specs.List.{AllByRecursion}
use Rattle.std.specs.Option.{is_some}
use Rattle.fx_model.specs.declared.ExprId.{ExprId}
use Rattle.script_shape.specs.Tree.{Script}
use Rattle.script_shape.specs.Roles.{script_leaves}
use Rattle.script_cases.specs.Cases.{cases}
use Rattle.script_nodes.specs.Known.{Known, nothing_known}
use Rattle.script_claims.specs.declared.claim.Claim.{Claim}
use Rattle.script_claims.specs.Ranges.{split_range}
use Rattle.script_hints.specs.declared.hint.HintList.{HintList}
use Rattle.script_judge.specs.Said.{claims_behind, said_from}
use Rattle.script_judge.specs.Judge.{Judged, nothing_seen}
use Rattle.script_grammar.specs.CountedHints.{hints_behind}

-- one of the claims gives the expression a range with two finite ends
abbrev pub HasRange : List Claim → ExprId → Type 0
HasRange claims x = is_some (split_range claims x) ≡ true

-- each expression that the hints cut or halve has a range
pub record HaveRanges (claims : List Claim) (l : HintList) : Type 0 where
  pub cuts : AllByRecursion (λ c. HasRange claims c.var) l.cuts
  pub halves : AllByRecursion (HasRange claims) l.halves
  pub order : AllByRecursion (HasRange claims) l.order

-- in each case there is one for each of them, and there are few cases
pub record HaveFewCases (parts : List (List (List Claim))) (l : HintList) : Type 0 where
  pub ranges : AllByRecursion (λ claims. HaveRanges claims l) (cases parts)
  pub few : length (cases parts) ≤ 64

-- the hypotheses of a script behind what is known, by parts and conjunctions
abbrev pub parts_behind : Script → Known → List (List (List Claim))
parts_behind tree k = (claims_behind tree k).sides.parts.before

-- In a script whose words the judge lets pass the hypotheses have 64 cases at most, and in each of
-- them one gives each split variable's node a range.
abbrev pub SplitsHaveRanges : Type 0
SplitsHaveRanges = (tree : Script)
    → Judged 0 (nothing_seen (Some (said_from tree nothing_known))) (script_leaves tree) None
    → HaveFewCases (parts_behind tree nothing_known) (hints_behind tree nothing_known)
