-- What a text spells: a script, or a refusal.
use Rattle.std.specs.Prelude.{◌≡◌, ℕ, ◌≤◌, List, length, Option, None, Some}
use Rattle.fx_model.specs.declared.Node.{Node}
use Rattle.script_words.specs.declared.lex.Token.{Token}
use Rattle.script_words.specs.Lex.{Lexes}
use Rattle.script_words.specs.Named.{words_of}
use Rattle.script_shape.specs.Tree.{Script, script_words}
use Rattle.goal_spans.specs.declared.span.Span.{Span}
use Rattle.goal_spans.specs.Spans.{goal_spans}
use Rattle.script_judge.specs.declared.refusal.Refusal.{Refusal}
use Rattle.script_judge.specs.First.{IsFirstRefusal}
use Rattle.script_nodes.specs.Known.{Name, Known}
use Rattle.script_claims.specs.declared.claim.Claim.{Claim}
use Rattle.script_claims.specs.Claims.{Sides}
use Rattle.script_hints.specs.declared.hint.HintList.{HintList}
use Rattle.script_grammar.specs.Meaning.{Meaning, meaning_of}

-- A script as it is read: its text, its tokens, the nodes of its expressions, the names of its
-- variables (`Var i` is the i-th), what its formula claims, its hypotheses by parts and
-- conjunctions (each part a list of conjunctions, and each conjunction of claims), which of its
-- tokens are the expressions of the goals, and what its hints say.
pub record View : Type 0 where
  pub text : List ℕ
  pub tokens : List Token
  pub nodes : List Node
  pub variables : List Name
  pub hypotheses : List Claim
  pub parts : List (List (List Claim))
  pub goals : List Claim
  pub spans : List Span
  pub hints : HintList

-- The script of this text with these tokens that says this, and whose goals are at these spans.
abbrev pub view_of : List ℕ → List Token → Meaning → List Span → View
view_of text tokens m spans = record {
  text = text;
  tokens = tokens;
  nodes = m.known.nodes;
  variables = m.known.variables;
  hypotheses = m.hypotheses;
  parts = m.parts.before;
  goals = m.goals;
  spans = spans;
  hints = m.hints;
}

-- The text spells the script: it is refused nowhere, and its tokens are the words of a tree that
-- says this.
pub record Spells (text : List ℕ) (s : View) : Type 0 where
  pub accepted : IsFirstRefusal text None
  pub lexed : Lexes 0 text s.tokens None
  pub tree : Script
  pub words : script_words tree ≡ words_of text s.tokens
  pub says : s ≡ view_of text s.tokens (meaning_of tree) (goal_spans tree)

-- The text spells the script of these parts.
abbrev pub IsSpelled : List ℕ → List Token → Known → Sides → List Span → HintList → Type 0
IsSpelled text tokens k sides spans hints = Spells text (record {
  text = text;
  tokens = tokens;
  nodes = k.nodes;
  variables = k.variables;
  hypotheses = sides.hypotheses;
  parts = sides.parts.before;
  goals = sides.goals;
  spans = spans;
  hints = hints;
})

-- the text is refused so
abbrev pub IsRefused : List ℕ → Refusal → Type 0
IsRefused text r = IsFirstRefusal text (Some r)

-- A text spells one script at most.
abbrev pub SpellsOnce : Type 0
SpellsOnce = (text : List ℕ) (s t : View) → Spells text s → Spells text t → s ≡ t

-- A text that spells a script isn't refused.
abbrev pub NeverBoth : Type 0
NeverBoth = (text : List ℕ) (s : View) (r : Refusal) → Spells text s → IsRefused text r → ⊥

-- A text that is refused nowhere spells a script.
abbrev pub SpellsAll : Type 0
SpellsAll = (text : List ℕ) → IsFirstRefusal text None → (s : View) × Spells text s

-- Each text has a first refusal, or none.
abbrev pub FirstsExist : Type 0
FirstsExist = (text : List ℕ) → (o : Option Refusal) × IsFirstRefusal text o

-- Each goal of a script has its words.
abbrev pub GoalsHaveSpans : Type 0
GoalsHaveSpans = (text : List ℕ) (s : View) → Spells text s → length s.spans ≡ length s.goals

-- A script that a text spells has no more than 512 nodes.
abbrev pub SpelledAreShort : Type 0
SpelledAreShort = (text : List ℕ) (s : View) → Spells text s → length s.nodes ≤ 512
