-- Parts of a script have as many leaves as words.
use Rattle.std.specs.Prelude.{◌≡◌, List, [], ◌∷◌, ◌++◌, length, refl}
use Rattle.std.proofs.Common.{ap, sym, ◌∙◌, length-append, arith}
use Rattle.std.proofs.lemmas.List.{length-map}
use Rattle.script_words.specs.declared.class.Number.TheVariants as kind
use Rattle.script_words.specs.declared.class.Symbol.TheVariants as s
use Rattle.script_words.specs.Words.{Word, sign}
use Rattle.script_shape.specs.declared.due.Due.TheVariants as d
use Rattle.script_shape.specs.Expressions.{unsigned, Expr, expr_words}
use Rattle.script_shape.specs.Propositions.{at_most, affirmed, Formula, single, formula_words}
use Rattle.script_shape.specs.Hints.{no_hint}
use Rattle.script_shape.specs.Tree.{Definition, definition_words, Script, formula, define}
use Rattle.script_shape.specs.Tree.{script_words}
use Rattle.script_shape.specs.Roles.{Leaf, at, expr_leaves, formula_leaves, definition_leaves}
use Rattle.script_shape.specs.Roles.{script_leaves, LeavesSpell}

-- as many behind the front, and as many in all
front_count : (ls m : List Leaf) (ws v : List Word) → length m ≡ length v
    → length (ls ++ m) ≡ length (ws ++ v) → length ls ≡ length ws
front_count ls m ws v e h = omega (arith, length-append ls m, length-append ws v)

module _ (spell : LeavesSpell) where
  script_count : (tree : Script) → length (script_leaves tree) ≡ length (script_words tree)
  script_count tree = sym (length-map (script_leaves tree) (λ (l : Leaf). l.word))
      ∙ ap length (spell tree)

  pub definition_count : (x : Definition) (rest : Script)
      → length (definition_leaves x) ≡ length (definition_words x)
  definition_count x rest = front_count (definition_leaves x) (script_leaves rest)
      (definition_words x) (script_words rest) (script_count rest) (script_count (define x rest))

  pub formula_count : (f : Formula) → length (formula_leaves f) ≡ length (formula_words f)
  formula_count f =
      let h = script_count (formula f no_hint) in
      let e : length (formula_leaves f ++ (at d.CloseBrace (sign s.CloseBrace) ∷ []))
      ≡ length (formula_words f ++ (sign s.CloseBrace ∷ [])) = omega (arith, h) in
      front_count (formula_leaves f) _ (formula_words f) _ refl e

  pub expr_count : (e : Expr) → length (expr_leaves e) ≡ length (expr_words e)
  expr_count e = front_count (expr_leaves e) _ (expr_words e) _ refl
      (formula_count (single (affirmed (at_most e (unsigned kind.Zero [])))))
