-- What a program's script says of its runs.
use Rattle.std.specs.Prelude.{◌≡◌, ◌↔◌, ⊤, ℕ, ℤ, List, [], ◌∷◌, ◌++◌, map, Option}
use Rattle.std.specs.List.{AllByRecursion}
use Rattle.fx_model.specs.Fraction.{Fraction}
use Rattle.fx_model.specs.Expression.{Assignment, value}
use Rattle.fx_model.specs.declared.ExprId.{ExprId}
use Rattle.script_nodes.specs.Known.{entry_of}
use Rattle.script_claims.specs.declared.claim.Claim.{Claim}
use Rattle.script_claims.specs.declared.claim.Claim.TheVariants.{Bounded, Asked, Relative}
use Rattle.script_claims.specs.declared.claim.Claim.TheVariants.{RelativeAsked, Multiple, Above}
use Rattle.script_claims.specs.declared.claim.Claim.TheVariants.{Below}
use Rattle.script_claims.specs.Meets.{IsTrueAt}
use Rattle.script_hints.specs.Hints.{no_hints}
use Rattle.script_grammar.specs.Spells.{View, Spells as SpellsScript}
use Rattle.script_meets.specs.Meets.{Meets}
use Rattle.fixprog.specs.Words.{Name}
use Rattle.fixprog.specs.Grammar.{Input, Program, outputs}
use Rattle.fixprog.specs.Execution.{Values, values, name_value, input_values, AreInRange}
use Rattle.fixprog.specs.Execution.{execution_of}
use Rattle.fixprog.specs.Turned.{script_of}
use Rattle.fixprog.specs.First.{Spells}

-- the words' values, in the order of the script's variables
abbrev pub assignment_of : Program → View → List ℤ → Assignment
assignment_of p s words = map (name_value (input_values p.inputs words)) s.variables

-- the expression that a claim is about; of a relative error the side that is approximated
abbrev pub subject : Claim → ExprId
subject (Bounded x lower upper) = x
subject (Asked x) = x
subject (Relative x y lower upper) = x
subject (RelativeAsked x y) = x
subject (Multiple x k) = x
subject (Above x w) = x
subject (Below x w) = x

-- The claim bounds a value by numbers, or asks for its bounds.
abbrev pub IsPlain : Claim → Type 0
IsPlain (Bounded x lower upper) = ⊤
IsPlain (Asked x) = ⊤
IsPlain _ = ⊥

-- the values of the expressions that the claims are about
abbrev pub subject_values : View → Assignment → List Claim → List (Option Fraction)
subject_values s a claims = map (λ c. value s.nodes a (subject c)) claims

-- the names of the hypotheses, of which each input has two, and of the goals
abbrev pub hypothesis_names : List Input → List Name
hypothesis_names [] = []
hypothesis_names (x ∷ xs) = x.name ∷ (x.name ∷ hypothesis_names xs)

-- The names that the goals are about, in their order: those of all steps, then those of the
-- outputs.
abbrev pub goal_names : Program → List Name
goal_names p = map (λ x. x.name) p.steps ++ outputs p

-- The run doesn't wrap. A question is true, so that the goals that can fail are those of the
-- steps' formats.
abbrev pub Ends : Program → List ℤ → Type 0
Ends p words = (vs : Values) × (execution_of p words ≡ values vs)

-- On these words, whose values lie in the inputs' ranges: the script's hypotheses are met; the
-- run ends without wrapping
-- exactly where all goals are true; and then the value of each name is that of its expression.
pub record Tells (p : Program) (s : View) (words : List ℤ) : Type 0 where
  pub meets : Meets (assignment_of p s words) s
  pub ends : Ends p words ↔ AllByRecursion (IsTrueAt s.nodes (assignment_of p s words)) s.goals
  pub inputs : (vs : Values) → execution_of p words ≡ values vs
      → subject_values s (assignment_of p s words) s.hypotheses
      ≡ map (entry_of vs) (hypothesis_names p.inputs)
  pub steps : (vs : Values) → execution_of p words ≡ values vs
      → subject_values s (assignment_of p s words) s.goals ≡ map (entry_of vs) (goal_names p)

-- The script has no hints, each goal is about one value, and the script tells each run of the
-- program on words in range.
pub record TellsRuns (p : Program) (s : View) : Type 0 where
  pub hintless : s.hints ≡ no_hints
  pub plain : AllByRecursion IsPlain s.goals
  pub tells : (words : List ℤ) → AreInRange p.inputs words → Tells p s words

-- The text of a program's script, where it spells a script, tells the program's runs.
abbrev pub ScriptsTellRuns : Type 0
ScriptsTellRuns = (text : List ℕ) (p : Program) → Spells text p → (s : View)
    → SpellsScript (script_of p) s → TellsRuns p s

-- The text spells a script, which tells the program's runs.
pub record IsScriptOf (p : Program) (text : List ℕ) : Type 0 where
  pub script : View
  pub spelled : SpellsScript text script
  pub tells : TellsRuns p script

-- The text of each program's script is one.
abbrev pub ScriptsAreScripts : Type 0
ScriptsAreScripts = (text : List ℕ) (p : Program) → Spells text p → IsScriptOf p (script_of p)

-- Where all goals of a program's script are true of each assignment that meets it, no run of the
-- program on words in range wraps.
abbrev pub NoRunWraps : Type 0
NoRunWraps = (text : List ℕ) (p : Program) → Spells text p → (s : View)
    → SpellsScript (script_of p) s
    → ((a : Assignment) → Meets a s → AllByRecursion (IsTrueAt s.nodes a) s.goals)
    → (words : List ℤ) → AreInRange p.inputs words → Ends p words
