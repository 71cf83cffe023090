-- The script of a program is read as the words of its tree.
use Rattle.std.proofs.Common.{◌≡◌, ◌<◌, ℕ, suc, codes, arith, List, [], ◌∷◌, ◌++◌, length, map}
use Rattle.std.proofs.Common.{refl, sym, ap, ◌∙◌, subst, append_assoc, length-append}
use Rattle.std.specs.List.{AllByRecursion}
use Rattle.script_words.specs.declared.class.Symbol.TheVariants as s
use Rattle.script_words.specs.declared.lex.TokenKind.TheVariants as kind
use Rattle.script_words.specs.Lex.{front}
use Rattle.script_words.specs.Quiet.{EndsBeforeQuiet}
use Rattle.script_words.specs.Named.{IsWordsOf}
use Rattle.script_shape.specs.Propositions.{formula_words}
use Rattle.script_shape.specs.Tree.{script_words}
use Rattle.fixprog.specs.Grammar.{Input, Program, outputs}
use Rattle.fixprog.specs.Turned.{format_goal, output_goal, hypotheses_text, goals_text, input_text}
use Rattle.fixprog.specs.Turned.{joined, lines_of, script_of}
use Rattle.program_truths.proofs.Lines.{IsWordText}
use Rattle.program_truths.proofs.Chunks.{Chunk, Any, Before, seq, retold, behind_blank, sign_chunk}
use Rattle.program_truths.proofs.Chunks.{chunk_is_read}
use Rattle.program_truths.proofs.Trees.{alone, range_prop, place_prop, format_prop, output_prop}
use Rattle.program_truths.proofs.Trees.{input_props, goal_props, and_all, formula_of}
use Rattle.program_truths.proofs.Trees.{program_formula, script_from, tree_of}
use Rattle.program_truths.proofs.StepLines.{IsStepText, lines_chunk}
use Rattle.program_truths.proofs.Formulas.{IsInputText, IsGoalText, AreProps, props-append}
use Rattle.program_truths.proofs.Formulas.{goals_behind_chunk, goals_alone_chunk, hypotheses_chunk}
use Rattle.program_truths.proofs.Formulas.{format_goals, output_goals}

-- The names and literals of a program's script are tokens by themselves.
pub record HasTexts (p : Program) : Type 0 where
  pub inputs : AllByRecursion IsInputText p.inputs
  pub steps : AllByRecursion IsStepText p.steps
  pub goals : AllByRecursion IsGoalText p.steps
  pub outputs : AllByRecursion (IsWordText kind.Name) (outputs p)

open_blank : (rest : List ℕ) → Before s.OpenBrace (codes "{") (32 ∷ rest)
unfolding front
open_blank rest = refl

close_line : Before s.CloseBrace (codes "}") (10 ∷ [])
unfolding front
close_line = refl

module _ (law : EndsBeforeQuiet) where
  goals_are : (p : Program) → HasTexts p → AreProps law (map format_goal p.steps
      ++ map output_goal (outputs p)) (goal_props p)
  goals_are p h = props-append law (map format_goal p.steps) (map output_goal (outputs p))
      (map format_prop p.steps) (map output_prop (outputs p)) (format_goals law p.steps h.goals)
      (output_goals law (outputs p) h.outputs)

  are_goals : (p : Program) → 0 < length (goal_props p)
  are_goals p =
      let n = length-append (map format_prop p.steps) (map output_prop (outputs p)) in
      let o : length (map output_prop (outputs p))
      ≡ suc (length (map output_prop p.more_outputs)) = refl in
      omega (arith, n, o)

  formula_with : (p : Program) (xs : List Input) → AllByRecursion IsInputText xs → HasTexts p
      → Chunk Any (hypotheses_text xs ++ goals_text p)
      (formula_words (formula_of (input_props xs) (goal_props p)))
  formula_with p [] g h = goals_alone_chunk law (map format_goal p.steps
      ++ map output_goal (outputs p)) (goal_props p) (are_goals p) (goals_are p h)
  formula_with p (x ∷ xs) g h =
      retold (sym (append_assoc (joined (map input_text (x ∷ xs))) (codes " -> ") (goals_text p)))
      refl
      (goals_behind_chunk law (joined (map input_text (x ∷ xs)))
      (and_all (alone (range_prop x)) (place_prop x ∷ input_props xs))
      (map format_goal p.steps ++ map output_goal (outputs p)) (goal_props p) (are_goals p)
      (hypotheses_chunk law x xs g) (goals_are p h))

  formula_line : (p : Program) → HasTexts p → Chunk (Before s.CloseBrace (codes "}")) (codes "{ "
      ++ ((hypotheses_text p.inputs ++ goals_text p) ++ codes " }"))
      (script_words (script_from (program_formula p) []))
  formula_line p h =
      let close = behind_blank (sign_chunk s.CloseBrace (codes "}") (λ tail. refl) refl) in
      seq (sign_chunk s.OpenBrace (codes "{") (λ tail. refl) refl)
      (behind_blank (seq (formula_with p p.inputs h.inputs h) close (λ tail q. tt)))
      (λ tail q. open_blank _)

  whole_text : (p : Program) → (lines_of p.steps
      ++ (codes "{ " ++ ((hypotheses_text p.inputs ++ goals_text p) ++ codes " }"))) ++ (10 ∷ [])
      ≡ script_of p
  whole_text p =
      let l = lines_of p.steps in
      let a = hypotheses_text p.inputs in
      let b = goals_text p in
      append_assoc l (codes "{ " ++ ((a ++ b) ++ codes " }")) (10 ∷ [])
      ∙ ap (λ k. l ++ (codes "{ " ++ k)) (append_assoc (a ++ b) (codes " }") (10 ∷ [])
      ∙ append_assoc a b (codes " }\n"))

  -- What is written is read as the tree.
  pub script_is_read : (p : Program) → HasTexts p
      → IsWordsOf (script_of p) (script_words (tree_of p))
  script_is_read p h =
      subst (λ t. IsWordsOf t (script_words (tree_of p))) (whole_text p)
      (chunk_is_read (lines_chunk law (program_formula p) p.steps h.steps (formula_line p h))
      close_line)
