-- The universe of a script.
use Rattle.std.specs.Prelude.{◌≡◌, List, map}
use Rattle.pair_closure.specs.Reached.{Has, IsListOf}
use Rattle.pair_closure.specs.Closure.{IsClosure, IsExpression, AreTooMany}
use Rattle.script_claims.specs.declared.claim.Claim.{Claim}
use Rattle.script_claims.specs.Facts.{goal_of, facts_of}
use Rattle.script_grammar.specs.Spells.{View}
use Rattle.script_grammar.specs.Names.{NamesNodes}
use Rattle.rule_instances.specs.Instances.{IsInstance}
use Rattle.rule_instances.specs.InOrder.{instance_list}
use Rattle.rule_universe.specs.Worlds.{World}
use Rattle.rule_universe.specs.Assumed.{HaveSlots}
use Rattle.rewrite_hints.specs.Marks.{AreRows}
use Rattle.universe.specs.Starts.{starting_pairs}
use Rattle.universe.specs.Cases.{AreHypotheses}

-- The script's universe, in which these claims are assumed, which are hypotheses: those of one
-- case. Its expressions begin with the script's nodes; expressions, pairs and instances are exactly
-- those of the definitions, each once, in one order. They are of all hypotheses, so that they are
-- the same in each case.
pub record IsUniverse (s : View) (claims : List Claim) (u : World) : Type 0 where
  pub claims_are : AreHypotheses s claims
  pub closure : IsClosure s.nodes (starting_pairs s) u.nodes u.pairs
  pub goals : u.goals ≡ map goal_of s.goals
  pub hypotheses : u.hypotheses ≡ facts_of claims
  pub hints : AreRows s.nodes s.hints.rewrites u.hints
  pub instances : IsListOf (IsInstance u.nodes (Has u.pairs) u.hints) u.instances
  pub order : u.instances ≡ instance_list u.nodes u.pairs u.hints

-- The script has more than 1,024 expressions.
abbrev pub IsTooLarge : View → Type 0
IsTooLarge s = AreTooMany (IsExpression s.nodes (starting_pairs s))

-- Two universes of one script in which the same is assumed are one.
abbrev pub UniversesAreOne : Type 0
UniversesAreOne = (s : View) (claims : List Claim) (u v : World)
    → IsUniverse s claims u → IsUniverse s claims v → u ≡ v

-- What hypotheses of a script give is about slots of its universe, whatever is assumed in that.
abbrev pub HypothesesHaveSlots : Type 0
HypothesesHaveSlots = (s : View) (before claims : List Claim) (u : World) → NamesNodes s
    → IsUniverse s before u → AreHypotheses s claims → HaveSlots u (facts_of claims)
