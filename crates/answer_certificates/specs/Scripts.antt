-- What a script and its universe keep, so that a certificate has room for them.
use Rattle.std.specs.Prelude.{◌<◌, ◌≤◌, ◌^◌, ℕ, List, length}
use Rattle.std.specs.List.{AllByRecursion}
use Rattle.fx_model.specs.declared.ExprId.{ExprId}
use Rattle.fx_model.specs.declared.Node.{Node}
use Rattle.fx_model.specs.declared.Node.TheVariants.{Var}
use Rattle.expr_dag.specs.Nodes.{IsAt, IsLawful}
use Rattle.goals.specs.declared.goal.Goal.{Goal}
use Rattle.script_claims.specs.declared.claim.Claim.{Claim}
use Rattle.script_claims.specs.Facts.{facts_of}
use Rattle.script_grammar.specs.CountedHints.{HasFewHints}
use Rattle.script_grammar.specs.Spells.{View, Spells}
use Rattle.script_grammar.specs.Names.{NamesNodes}
use Rattle.script_grammar.specs.Cases.{cases_of}
use Rattle.script_grammar.specs.Few.{constraints_in}
use Rattle.rule_universe.specs.Worlds.{World, HasSlot, IsWhole}
use Rattle.rule_universe.specs.Assumed.{assuming}
use Rattle.universe.specs.Universes.{IsUniverse}
use Rattle.script_truths.specs.Truths.{HasUniverse}
use Rattle.cert_checker.specs.Faults.{IsVariable}

-- A certificate has room for a case, u being the universe in which its claims are assumed.
pub record HasRoom (s : View) (u : World) : Type 0 where
  -- each universe that is made keeps these,
  pub whole : IsWhole u
  pub lawful : (x : ExprId) (n : Node) → IsAt u.nodes x n → IsLawful x.0 n
  pub short : length u.nodes ≤ 1024
  pub goals : length u.goals ≤ 65535
  -- and each script that a text spells keeps these: its hints are few, hypotheses and variables
  -- have numbers of 16 bits, and what is split are variables
  pub hints : HasFewHints s.hints
  pub constraints : constraints_in s.hints.rewrites ≤ 2 ^ 18
  pub hypotheses : length u.hypotheses ≤ 2 ^ 16
  pub numbers : (x : ExprId) (v : ℕ) → IsAt s.nodes x (Var v) → v < 2 ^ 16
  pub splits : AllByRecursion (IsVariable s.nodes) s.hints.order

-- ---- cases
-- the universe with these claims assumed, in place of what is assumed in it
abbrev pub in_case : World → List Claim → World
in_case u claims = assuming u (facts_of claims)

-- it is the script's, and a certificate has room for the case
abbrev pub IsCaseOf : View → World → List Claim → Type 0
IsCaseOf s u claims = HasUniverse s claims (in_case u claims) × HasRoom s (in_case u claims)

-- The universe is the script's, whatever is assumed in it, and a certificate has room for each of
-- its cases, which are 1 to 64.
pub record HasCases (s : View) (u : World) : Type 0 where
  pub some : 0 < length (cases_of s)
  pub few : length (cases_of s) ≤ 64
  pub each : AllByRecursion (IsCaseOf s u) (cases_of s)

-- ---- where they come from
-- What each universe that was built keeps.
pub record IsBuilt (u : World) : Type 0 where
  pub whole : IsWhole u
  pub lawful : (x : ExprId) (n : Node) → IsAt u.nodes x n → IsLawful x.0 n
  pub short : length u.nodes ≤ 1024

-- A script that a text spells has room for its certificates, with its universe, whatever is assumed
-- in that.
abbrev pub ScriptsHaveRoom : Type 0
ScriptsHaveRoom = (text : List ℕ) (s : View) (before : List Claim) (u : World) → Spells text s
    → HasUniverse s before u → IsBuilt u → HasCases s u

-- each goal is about a slot of the universe
abbrev pub HasSlots : World → List Goal → Type 0
HasSlots u goals = AllByRecursion (λ (g : Goal). HasSlot u g.of) goals

-- The goals of a script are about slots of its universe.
abbrev pub GoalsHaveSlots : Type 0
GoalsHaveSlots = (s : View) (before : List Claim) (u : World) → NamesNodes s → IsUniverse s before u
    → HasSlots u u.goals
