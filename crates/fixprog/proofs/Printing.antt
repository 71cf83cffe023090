-- The parts of the formula's text, one behind the other.
use Rattle.std.proofs.Common.{◌≡◌, ℕ, codes, List, [], ◌∷◌, ◌++◌, map, Some, refl, sym, ap, ◌∙◌}
use Rattle.std.proofs.Common.{append_assoc}
use Rattle.std.specs.List.{flat_map}
use Rattle.std.specs.Borrow.{Bor}
use Rattle.std.proofs.lemmas.List.Folds.{flat_map-map}
use Rattle.std.proofs.lemmas.Simd.{map-map}
use Rattle.fixprog.specs.declared.program.Input.{Input as CodeInput}
use Rattle.fixprog.specs.declared.program.Program.{Program as CodeProgram}
use Rattle.fixprog.specs.Words.{Name}
use Rattle.fixprog.specs.Grammar.{Program}
use Rattle.fixprog.specs.Turned.{Bytes, step_line, input_text, hypotheses_text, format_goal}
use Rattle.fixprog.specs.Turned.{output_goal, joined, goals_text, lines_of, script_of}
use Rattle.fixprog.specs.Printed.{inputs_written, outputs_written, formula_text, script_text}
use Rattle.fixprog.specs.Views.{input_of, step_of, program_with, program_of}
use Rattle.fixprog.proofs.Common.{one_value}

pub hypotheses_are : (x : CodeInput) (xs : List CodeInput) → input_text (input_of x)
    ++ (flat_map (λ x. codes " /\\ " ++ input_text (input_of x)) xs ++ codes " -> ")
    ≡ hypotheses_text (map input_of (x ∷ xs))
hypotheses_are x xs =
    sym (append_assoc (input_text (input_of x)) _ (codes " -> "))
    ∙ ap (λ l. (input_text (input_of x) ++ l) ++ codes " -> ")
    (sym (flat_map-map (λ q. codes " /\\ " ++ q) input_text (map input_of xs)
    ∙ flat_map-map (λ q. codes " /\\ " ++ input_text q) input_of xs))

pub outputs_are : (x : Name) (xs : List (Bor (List ℕ))) → output_goal x
    ++ flat_map (λ t. codes " /\\ " ++ output_goal t.now) xs
    ≡ joined (output_goal x ∷ map (λ t. output_goal t.now) xs)
outputs_are x xs = ap (λ l. output_goal x ++ l)
    (sym (flat_map-map (λ q. codes " /\\ " ++ q) (λ t. output_goal t.now) xs))

-- goals before others
goals_before : (xs : List Bytes) (y : Bytes) (ys : List Bytes)
    → flat_map (λ x. x ++ codes " /\\ ") xs ++ joined (y ∷ ys) ≡ joined (xs ++ (y ∷ ys))
goals_before [] y ys = refl
goals_before (x ∷ xs) y ys =
    append_assoc (x ++ codes " /\\ ") _ (joined (y ∷ ys)) ∙ append_assoc x (codes " /\\ ") _
    ∙ ap (λ l. x ++ (codes " /\\ " ++ l)) (goals_before xs y ys) ∙ behind xs
  where
    behind : (xs : List Bytes) → x ++ (codes " /\\ " ++ joined (xs ++ (y ∷ ys)))
        ≡ joined (x ∷ (xs ++ (y ∷ ys)))
    behind [] = ap (λ l. x ++ l) (sym (append_assoc (codes " /\\ ") y _))
    behind (z ∷ zs) = ap (λ l. x ++ l) (sym (append_assoc (codes " /\\ ") z _))

inputs_are : (xs : List CodeInput) → inputs_written xs ≡ hypotheses_text (map input_of xs)
inputs_are [] = refl
inputs_are (x ∷ xs) = hypotheses_are x xs

goals_are : (c : CodeProgram) → flat_map (λ x. format_goal (step_of x) ++ codes " /\\ ")
    c.steps.items ≡ flat_map (λ x. x ++ codes " /\\ ") (map format_goal (map step_of c.steps.items))
goals_are c = sym (flat_map-map (λ x. x ++ codes " /\\ ") format_goal (map step_of c.steps.items)
    ∙ flat_map-map (λ x. format_goal x ++ codes " /\\ ") step_of c.steps.items)

-- the goals, where there are outputs
all_goals : (c : CodeProgram) (ts : List (Bor (List ℕ))) (p : Program)
    → program_with (map input_of c.inputs.items) (map step_of c.steps.items) (map (λ t. t.now) ts)
    ≡ Some p
    → flat_map (λ x. format_goal (step_of x) ++ codes " /\\ ") c.steps.items ++ outputs_written ts
    ≡ goals_text p
all_goals c [] p e = absurd (cc)
all_goals c (t ∷ ts) p e =
    let all = map format_goal (map step_of c.steps.items) in
    ap (λ l. l ++ outputs_written (t ∷ ts)) (goals_are c)
    ∙ ap (λ l. flat_map (λ x. x ++ codes " /\\ ") all ++ l) (outputs_are t.now ts
    ∙ ap (λ l. joined (output_goal t.now ∷ l)) (sym (map-map output_goal (λ u. u.now) ts)))
    ∙ goals_before all (output_goal t.now) (map output_goal (map (λ u. u.now) ts))
    ∙ ap goals_text (sym (one_value _ p e))

steps_inputs : (c : CodeProgram) (os : List Name) (p : Program)
    → program_with (map input_of c.inputs.items) (map step_of c.steps.items) os ≡ Some p
    → (p.inputs ≡ map input_of c.inputs.items) × (p.steps ≡ map step_of c.steps.items)
steps_inputs c [] p e = absurd (cc)
steps_inputs c (o ∷ os) p e = (
  ap (λ q. q.inputs) (one_value _ p e),
  ap (λ q. q.steps) (one_value _ p e),
)

-- What is written of a program with these statements is its script.
pub script_is : (c : CodeProgram) (p : Program) → program_of c ≡ Some p → script_text c
    ≡ script_of p
script_is c p e =
    let parts = steps_inputs c (map (λ t. t.now) c.outputs.items) p e in
    ap (λ l. l ++ (codes "{ " ++ (formula_text c ++ codes " }\n")))
    (sym (flat_map-map step_line step_of c.steps.items) ∙ ap lines_of (sym parts.1))
    ∙ ap (λ l. lines_of p.steps ++ (codes "{ " ++ (l ++ codes " }\n")))
    (ap (λ l. l ++ (flat_map (λ x. format_goal (step_of x) ++ codes " /\\ ") c.steps.items
    ++ outputs_written c.outputs.items)) (inputs_are c.inputs.items
    ∙ ap hypotheses_text (sym parts.0))
    ∙ ap (λ l. hypotheses_text p.inputs ++ l) (all_goals c c.outputs.items p e))
    ∙ ap (λ l. lines_of p.steps ++ (codes "{ " ++ l)) (append_assoc (hypotheses_text p.inputs)
    (goals_text p) (codes " }\n"))
