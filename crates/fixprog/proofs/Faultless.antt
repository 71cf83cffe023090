-- The formats and shifts of programs in which nothing is wrong.
use Rattle.std.proofs.Common.{◌≡◌, ℕ, zero, suc, ◌+◌, ◌≤◌, not, List, [], ◌∷◌, ◌++◌, length, map}
use Rattle.std.proofs.Common.{Some, sym, ap, ◌∙◌, subst, arith, length-append}
use Rattle.std.specs.List.{All, AllByRecursion}
use Rattle.std.proofs.lemmas.List.{length-map}
use Rattle.std.proofs.lemmas.Simd.{map-map}
use Rattle.std.specs.Str.Parse.{digits_value}
use Rattle.script_cases.proofs.Lists.{all_front, all_behind}
use Rattle.fixprog.specs.declared.program.Program.{Program as CodeProgram}
use Rattle.fixprog.specs.Words.{Name}
use Rattle.fixprog.specs.Grammar.{Operation, copy, negation, sum, difference, product, shift_right}
use Rattle.fixprog.specs.Grammar.{shift_left, Input, Step, Statement, input, step, output}
use Rattle.fixprog.specs.Grammar.{statement_words, Program, outputs, statements}
use Rattle.fixprog.specs.Faults.{Before, after, fault_if, new_name_faults, known_name_faults}
use Rattle.fixprog.specs.Faults.{weight_faults, format_faults, operand_faults, operation_faults}
use Rattle.fixprog.specs.Faults.{statement_faults, faults_from, program_faults, is_way}
use Rattle.fixprog.specs.Printed.{IsShort, IsPrintable, IsInputPrintable}
use Rattle.fixprog.specs.Views.{input_of, step_of, program_with, program_of}
use Rattle.fixprog.proofs.NoFaults.{none_front, none_behind, not_if, no_if, short_by, light}

operation_fine : (o : Operation) (b : Before) (i : ℕ) → operation_faults b i o ≡ [] → IsShort o
operation_fine (copy a) b i h = tt
operation_fine (negation a) b i h = tt
operation_fine (sum a c) b i h = tt
operation_fine (difference a c) b i h = tt
operation_fine (product a c) b i h = tt
operation_fine (shift_right a k) b i h = short_by (digits_value 10 k.text)
    (no_if _ _ _ _ (none_behind (operand_faults b i a) _ h))
operation_fine (shift_left a k) b i h = short_by (digits_value 10 k.text)
    (no_if _ _ _ _ (none_behind (operand_faults b i a) _ h))

step_fine : (x : Step) (b : Before) (i : ℕ) → statement_faults b i (step x) ≡ [] → IsPrintable x
step_fine x b i h =
    let h1 = none_behind (new_name_faults b i x.name) _ h in
    let h2 = none_behind (weight_faults b 1 i) _ h1 in
    let h3 = none_behind (format_faults (i + 2) x.format) _ h2 in
    record {
      format = not_if _ _ _ _ (none_front (format_faults (i + 2) x.format) _ h2);
      shift = operation_fine x.operation b (i
          + 5) (none_behind (fault_if (not (is_way x.way)) _ (i + 3) (i + 3)) _ h3);
    }

input_fine : (x : Input) (b : Before) (i : ℕ) → statement_faults b i (input x) ≡ []
    → IsInputPrintable x
input_fine x b i h =
    let h1 = none_behind (new_name_faults b (i + 1) x.name) _ h in
    let h2 = none_behind (weight_faults b 2 (i + 1)) _ h1 in
    not_if _ _ _ _ (none_front (format_faults (i + 3) x.format) _ h2)

abbrev pub fine : Statement → Type 0
fine (input x) = IsInputPrintable x
fine (step x) = IsPrintable x
fine (output text) = Unit {0}

statement_fine : (x : Statement) (b : Before) (i : ℕ) → statement_faults b i x ≡ [] → fine x
statement_fine (input x) b i h = input_fine x b i h
statement_fine (step x) b i h = step_fine x b i h
statement_fine (output text) b i h = tt

pub all_fine : (xs : List Statement) (b : Before) (i : ℕ) → faults_from b i xs ≡ []
    → AllByRecursion fine xs
all_fine [] b i h = tt
all_fine (x ∷ xs) b i h = (
  statement_fine x b i (none_front (statement_faults b i x) _ h),
  all_fine xs (after b x) (i + length (statement_words x))
      (none_behind (statement_faults b i x) _ h),
)

-- each of the values that are mapped
all_unmapped : {A B : Type 0} (P : B → Type 0) (f : A → B) (xs : List A)
    → AllByRecursion P (map f xs) → All (λ x. P (f x)) xs
all_unmapped P f [] h k d l = absurd (omega arith)
all_unmapped P f (x ∷ xs) h zero d l = h.0
all_unmapped P f (x ∷ xs) h (suc k) d l = all_unmapped P f xs h.1 k d (omega arith)

statements_of : (ins : List Input) (ss : List Step) (os : List Name) (p : Program)
    → program_with ins ss os ≡ Some p → (p.inputs ≡ ins) × (p.steps ≡ ss) × (outputs p ≡ os)
statements_of ins ss [] p e = absurd (cc)
statements_of ins ss (o ∷ os) p e = let same = one_value _ p e in
    (ap (λ q. q.inputs) same, ap (λ q. q.steps) same, ap outputs same)
  where
    one_value : (x y : Program) → Some x ≡ Some y → y ≡ x
    one_value x y e = cc

-- ---- few statements

statement_light : (x : Statement) (b : Before) (i : ℕ) → statement_faults b i x ≡ []
    → ((after b x).weight ≤ 128) × (b.weight + 1 ≤ (after b x).weight)
statement_light (input x) b i h = let l = light b 2 (i
    + 1) (none_front (weight_faults b 2 (i + 1)) _ (none_behind (new_name_faults b (i + 1) x.name)
    _ h)) in (l, omega arith)
statement_light (step x) b i h = let l = light b 1 i
    (none_front (weight_faults b 1 i) _ (none_behind (new_name_faults b i x.name) _ h)) in
    (l, omega arith)
statement_light (output text) b i h = let l =
    light b 1 (i + 1) (none_behind (known_name_faults b (i + 1) text) _ h) in (l, omega arith)

pub few : (xs : List Statement) (b : Before) (i : ℕ) → b.weight ≤ 128 → faults_from b i xs ≡ []
    → b.weight + length xs ≤ 128
few [] b i l h = omega arith
few (x ∷ xs) b i l h =
    let s = statement_light x b i (none_front (statement_faults b i x) _ h) in
    let r = few xs (after b x) (i + length (statement_words x)) s.0
    (none_behind (statement_faults b i x) _ h) in
    omega (arith, s.0, s.1, r)

module _ (c : CodeProgram) (p : Program) (e : program_of c ≡ Some p) (h : program_faults p ≡ [])
  where
    parts : (p.inputs ≡ map input_of c.inputs.items) × (p.steps ≡ map step_of c.steps.items)
        × (outputs p ≡ map (λ t. t.now) c.outputs.items)
    parts = statements_of _ _ _ p e

    all_inputs : AllByRecursion fine (map input p.inputs)
    all_inputs = all_front fine (map input p.inputs) _ (all_fine _ _ _ h)

    all_steps : AllByRecursion fine (map step p.steps)
    all_steps = all_front fine (map step p.steps) _
        (all_behind fine (map input p.inputs) _ (all_fine _ _ _ h))

    pub inputs_fine : All (λ x. IsInputPrintable (input_of x)) c.inputs.items
    inputs_fine = all_unmapped (λ x. fine x) (λ x. input (input_of x)) c.inputs.items
        (subst (AllByRecursion fine)
        (ap (map input) parts.0 ∙ map-map input input_of c.inputs.items) all_inputs)

    pub steps_fine : All (λ x. IsPrintable (step_of x)) c.steps.items
    steps_fine = all_unmapped (λ x. fine x) (λ x. step (step_of x)) c.steps.items
        (subst (AllByRecursion fine) (ap (map step) parts.1 ∙ map-map step step_of c.steps.items)
        all_steps)

    all_few : (length p.steps ≤ 128) × (length (outputs p) ≤ 128)
    all_few =
        let n = few (statements p) (record { names = []; weight = 0 }) 0 (omega arith) h in
        let a = length-append (map input p.inputs) (map step p.steps ++ map output (outputs p)) in
        let d = length-append (map step p.steps) (map output (outputs p)) in
        let x = length-map p.steps step in
        let y = length-map (outputs p) output in
        (omega (arith, n, a, d, x, y), omega (arith, n, a, d, x, y))

    pub steps_len : (length c.steps.items ≡ length p.steps) × (length c.steps.items ≤ 128)
    steps_len = let e : length c.steps.items ≡ length p.steps =
        sym (ap length parts.1 ∙ length-map c.steps.items step_of) in
        (e, let n = all_few.0 in omega (arith, n, e))

    pub outputs_len : (length c.outputs.items ≡ length (outputs p)) × (length c.outputs.items ≤ 128)
    outputs_len = let e : length c.outputs.items ≡ length (outputs p) =
        sym (ap length parts.2 ∙ length-map c.outputs.items (λ t. t.now)) in
        (e, let n = all_few.1 in omega (arith, n, e))
