-- The course of a program's words: its statements, and all its faults.
use Rattle.std.proofs.Common.{◌≡◌, ℕ, ◌+◌, List, [], ◌∷◌, ◌++◌, length, map, Some, refl, sym, ap}
use Rattle.std.proofs.Common.{◌∙◌, append_assoc, append-nil}
use Rattle.fixprog.specs.Words.{Name}
use Rattle.fixprog.specs.Grammar.{Input, Step, Statement, input, step, output, statement_words}
use Rattle.fixprog.specs.Grammar.{words_from, Program, outputs, program_words}
use Rattle.fixprog.specs.Faults.{Fault, Before, after, statement_faults, faults_from}
use Rattle.fixprog.specs.Faults.{program_faults}
use Rattle.fixprog.specs.Standing.{between}
use Rattle.fixprog.proofs.Finding.{Course, course_of, nothing_judged}
use Rattle.fixprog.proofs.Courses.{course_of-append}
use Rattle.fixprog.proofs.InputCourse.{at, input_course}
use Rattle.fixprog.proofs.StepCourse.{step_course, output_course}

-- what stands before a statement behind some
before_after : Before → List Statement → Before
before_after b [] = b
before_after b (x ∷ xs) = before_after (after b x) xs

number_after : ℕ → List Statement → ℕ
number_after i [] = i
number_after i (x ∷ xs) = number_after (i + length (statement_words x)) xs

faults-append : (xs ys : List Statement) (b : Before) (i : ℕ) → faults_from b i (xs ++ ys)
    ≡ faults_from b i xs ++ faults_from (before_after b xs) (number_after i xs) ys
unfolding before_after number_after
faults-append [] ys b i = refl
faults-append (x ∷ xs) ys b i = ap (λ l. statement_faults b i x ++ l)
    (faults-append xs ys (after b x) (i + length (statement_words x)))
    ∙ sym (append_assoc (statement_faults b i x) _ _)

pub words-append : (xs ys : List Statement) → words_from (xs ++ ys) ≡ words_from xs ++ words_from ys
words-append [] ys = refl
words-append (x ∷ xs) ys = ap (λ l. statement_words x ++ l) (words-append xs ys)
    ∙ sym (append_assoc (statement_words x) (words_from xs) (words_from ys))

same_at : (is is' : List Input) (ss ss' : List Step) (os os' : List Name) (b : Before) (i : ℕ)
    (fs fs' : List Fault) → is ≡ is' → ss ≡ ss' → os ≡ os' → fs ≡ fs'
    → Some (at is ss os b between i fs) ≡ Some (at is' ss' os' b between i fs')
same_at is is' ss ss' os os' b i fs fs' e f g h =
    ap (λ l. Some (at l ss os b between i fs)) e ∙ ap (λ l. Some (at is' l os b between i fs)) f
    ∙ ap (λ l. Some (at is' ss' l b between i fs)) g
    ∙ ap (λ l. Some (at is' ss' os' b between i l)) h

inputs_course : (xs is : List Input) (b : Before) (i : ℕ) (fs : List Fault)
    → course_of (Some (at is [] [] b between i fs)) (words_from (map input xs))
    ≡ Some (at (is ++ xs) [] [] (before_after b (map input xs)) between
    (number_after i (map input xs)) (fs ++ faults_from b i (map input xs)))
unfolding before_after number_after
inputs_course [] is b i fs = ap (λ l. Some (at l [] [] b between i fs)) (sym (append-nil is))
    ∙ ap (λ l. Some (at (is ++ []) [] [] b between i l)) (sym (append-nil fs))
inputs_course (x ∷ xs) is b i fs =
    let j = i + length (statement_words (input x)) in
    course_of-append (statement_words (input x)) _ (Some (at is [] [] b between i fs))
    ∙ ap (λ o. course_of o (words_from (map input xs))) (input_course x.name x.format x.lower.mark
    x.upper.mark x.lower.text x.upper.text is b i fs)
    ∙ inputs_course xs (is ++ (x ∷ [])) (after b (input x)) j (fs ++ statement_faults b i (input x))
    ∙ same_at _ _ _ _ _ _ _ _ _ _ (append_assoc is (x ∷ []) xs) refl refl
    (append_assoc fs (statement_faults b i (input x))
    (faults_from (after b (input x)) j (map input xs)))

steps_course : (xs : List Step) (is : List Input) (ss : List Step) (b : Before) (i : ℕ)
    (fs : List Fault)
    → course_of (Some (at is ss [] b between i fs)) (words_from (map step xs))
    ≡ Some (at is (ss ++ xs) [] (before_after b (map step xs)) between
    (number_after i (map step xs)) (fs ++ faults_from b i (map step xs)))
unfolding before_after number_after
steps_course [] is ss b i fs = ap (λ l. Some (at is l [] b between i fs)) (sym (append-nil ss))
    ∙ ap (λ l. Some (at is (ss ++ []) [] b between i l)) (sym (append-nil fs))
steps_course (x ∷ xs) is ss b i fs =
    let j = i + length (statement_words (step x)) in
    course_of-append (statement_words (step x)) _ (Some (at is ss [] b between i fs))
    ∙ ap (λ o. course_of o (words_from (map step xs))) (step_course is ss b i x fs)
    ∙ steps_course xs is (ss ++ (x ∷ [])) (after b (step x)) j (fs ++ statement_faults b i (step x))
    ∙ same_at _ _ _ _ _ _ _ _ _ _ refl (append_assoc ss (x ∷ []) xs) refl
    (append_assoc fs (statement_faults b i (step x))
    (faults_from (after b (step x)) j (map step xs)))

outputs_course : (xs : List Name) (is : List Input) (ss : List Step) (os : List Name) (b : Before)
    (i : ℕ) (fs : List Fault)
    → course_of (Some (at is ss os b between i fs)) (words_from (map output xs))
    ≡ Some (at is ss (os ++ xs) (before_after b (map output xs)) between
    (number_after i (map output xs)) (fs ++ faults_from b i (map output xs)))
unfolding before_after number_after
outputs_course [] is ss os b i fs = ap (λ l. Some (at is ss l b between i fs))
    (sym (append-nil os)) ∙ ap (λ l. Some (at is ss (os ++ []) b between i l)) (sym (append-nil fs))
outputs_course (x ∷ xs) is ss os b i fs =
    let j = i + length (statement_words (output x)) in
    course_of-append (statement_words (output x)) (words_from (map output xs))
    (Some (at is ss os b between i fs))
    ∙ ap (λ o. course_of o (words_from (map output xs))) (output_course is ss os b i x fs)
    ∙ outputs_course xs is ss (os ++ (x ∷ [])) (after b (output x)) j (fs
    ++ statement_faults b i (output x))
    ∙ same_at _ _ _ _ _ _ _ _ _ _ refl refl (append_assoc os (x ∷ []) xs)
    (append_assoc fs (statement_faults b i (output x))
    (faults_from (after b (output x)) j (map output xs)))

-- Behind a program's words stand its statements, with its faults.
pub record IsCourseOf (p : Program) (c : Course) : Type 0 where
  pub inputs : c.stands.inputs ≡ p.inputs
  pub steps : c.stands.steps ≡ p.steps
  pub outputs : c.stands.outputs ≡ outputs p
  pub part : c.stands.part ≡ between
  pub faults : c.faults ≡ program_faults p

pub program_course : (p : Program) → (c : Course)
    × (course_of (Some nothing_judged) (program_words p) ≡ Some c) × IsCourseOf p c
program_course p =
    let b : Before = record { names = []; weight = 0 } in
    let is = map input p.inputs in
    let ss = map step p.steps in
    let os = map output (outputs p) in
    let b1 = before_after b is in
    let i1 = number_after 0 is in
    let b2 = before_after b1 ss in
    let i2 = number_after i1 ss in
    let f1 = faults_from b 0 is in
    let f2 = f1 ++ faults_from b1 i1 ss in
    let f3 = f2 ++ faults_from b2 i2 os in (
      at p.inputs p.steps (outputs p) (before_after b2 os) between (number_after i2 os) f3,
      ap (course_of (Some nothing_judged)) (words-append is (ss ++ os))
          ∙ course_of-append (words_from is) (words_from (ss ++ os)) (Some nothing_judged)
          ∙ ap (λ o. course_of o (words_from (ss ++ os))) (inputs_course p.inputs [] b 0 [])
          ∙ ap (course_of (Some (at p.inputs [] [] b1 between i1 f1))) (words-append ss os)
          ∙ course_of-append (words_from ss) (words_from os)
          (Some (at p.inputs [] [] b1 between i1 f1))
          ∙ ap (λ o. course_of o (words_from os)) (steps_course p.steps p.inputs [] b1 i1 f1)
          ∙ outputs_course (outputs p) p.inputs p.steps [] b2 i2 f2,
      record {
        inputs = refl;
        steps = refl;
        outputs = refl;
        part = refl;
        faults = append_assoc f1 _ _ ∙ ap (λ l. f1 ++ l) (sym (faults-append ss os b1 i1))
            ∙ sym (faults-append is (ss ++ os) b 0);
      },
    )
