-- Each goal of a script has its words.
use Rattle.std.specs.Prelude.{◌≡◌, ℕ, ◌+◌, List, [], ◌∷◌, ◌++◌, length, refl}
use Rattle.std.proofs.Common.{sym, ap, ◌∙◌, length-append}
use Rattle.script_shape.specs.Propositions.{Formula, single, and, or, implies, formula_words}
use Rattle.script_shape.specs.Tree.{Script, formula, define, definition_words}
use Rattle.goal_spans.specs.Spans.{stated_at, formula_spans, script_spans}
use Rattle.script_nodes.specs.Known.{Known, nothing_known}
use Rattle.script_nodes.specs.Definitions.{definition_value}
use Rattle.script_claims.specs.Claims.{formula_claims, stated_claim}
use Rattle.script_grammar.specs.Meaning.{meaning_from}
use Rattle.script_grammar.specs.Spells.{View, GoalsHaveSpans}

longer : {A : Type 0} (xs : List A) (x : A) → length (xs ++ (x ∷ [])) ≡ length xs + 1
longer xs x = length-append xs (x ∷ [])

of_formula : (f : Formula) (k : Known) (n : ℕ)
    → length (formula_spans n f) ≡ length (formula_claims f k).sides.goals
of_formula (single p) k n = refl
of_formula (and f p) k n =
    let cs = formula_claims f k in
    longer (formula_spans n f) (stated_at (n + length (formula_words f) + 1) p)
    ∙ ap (λ m. m + 1) (of_formula f k n) ∙ sym (longer cs.sides.goals (stated_claim p cs.known).1)
of_formula (or f p) k n =
    let cs = formula_claims f k in
    longer (formula_spans n f) (stated_at (n + length (formula_words f) + 1) p)
    ∙ ap (λ m. m + 1) (of_formula f k n) ∙ sym (longer cs.sides.goals (stated_claim p cs.known).1)
of_formula (implies f p) k n = refl

of_script : (tree : Script) (k : Known) (n : ℕ)
    → length (script_spans n tree) ≡ length (meaning_from tree k).goals
of_script (formula f h) k n = of_formula f k (n + 1)
of_script (define x rest) k n =
    of_script rest (definition_value x k) (n + length (definition_words x))

pub goals_have_spans : GoalsHaveSpans
goals_have_spans text s p = ap (λ (v : View). length v.spans) p.says
    ∙ of_script p.tree nothing_known 0 ∙ sym (ap (λ (v : View). length v.goals) p.says)
