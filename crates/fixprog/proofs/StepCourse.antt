-- The course of a step's words.
use Rattle.std.proofs.Common.{◌≡◌, ℕ, ◌+◌, Bool, true, false, List, [], ◌∷◌, ◌++◌, length, Option}
use Rattle.std.proofs.Common.{Some, None, refl, ap, ◌∙◌, append_assoc, append-nil, if◌then◌else◌}
use Rattle.std.proofs.Math.Bool.{Bool-set}
use Rattle.std.specs.List.{list_all}
use Rattle.std.specs.Char.{is_ascii_digit}
use Rattle.script_words.specs.declared.class.Symbol.{Symbol}
use Rattle.script_words.specs.declared.class.Symbol.TheVariants as s
use Rattle.script_judge.specs.Fault.{is_reserved}
use Rattle.fixprog.specs.declared.program.Joint.{Joint}
use Rattle.fixprog.specs.declared.program.Joint.TheVariants as joint
use Rattle.fixprog.specs.declared.program.Shift.{Shift}
use Rattle.fixprog.specs.declared.program.Shift.TheVariants as shift
use Rattle.fixprog.specs.Words.{Name, name, literal, format, sign, colon, right, left}
use Rattle.fixprog.specs.Grammar.{Operand, named, given, operand_words, Digits, Operation, copy}
use Rattle.fixprog.specs.Grammar.{negation, sum, difference, product, shift_right, shift_left}
use Rattle.fixprog.specs.Grammar.{operation_words, Input, Way, called, reserved, reserved_out}
use Rattle.fixprog.specs.Grammar.{Reserved, way_words, Step, step_words, Statement, step, output}
use Rattle.fixprog.specs.Grammar.{output_words}
use Rattle.fixprog.specs.Faults.{Fault, Before, after, output_faults, new_name_faults}
use Rattle.fixprog.specs.Faults.{weight_faults, format_faults, step_faults, operation_faults}
use Rattle.fixprog.specs.Faults.{operand_faults, shift_faults}
use Rattle.fixprog.specs.Standing.{Part, between, step_way, step_equal, step_operand, step_negated}
use Rattle.fixprog.specs.Standing.{step_operator, step_second, step_places, step_end, Head, Begun}
use Rattle.fixprog.specs.Standing.{headed, directed, stepped, joined, shifted, digits_if, digits_of}
use Rattle.fixprog.specs.Standing.{reserved_if, is_semicolon, way_in}
use Rattle.fixprog.proofs.Standing.{joint_words, shift_words}
use Rattle.fixprog.proofs.Finding.{Course, course_of, at_word}
use Rattle.fixprog.specs.Finding.{way_finds}
use Rattle.fixprog.proofs.Courses.{course_of-append}
use Rattle.fixprog.proofs.InputCourse.{at}

-- ---- facts that words carry

digits_by : (text : List ℕ) (b : Bool) (e : list_all is_ascii_digit text
    ≡ b) (d : list_all is_ascii_digit text ≡ true) → digits_if text b e
    ≡ Some (record { text = text; decimal = d })
digits_by text true e d = ap (λ f. Some (record { text = text; decimal = f })) (Bool-set _ _ e d)
digits_by text false e d = absurd (cc)

pub digits_are : (k : Digits) → digits_of k.text ≡ Some k
digits_are k = digits_by k.text (list_all is_ascii_digit k.text) refl k.decimal

reserved_by : (g : Symbol) (b : Bool) (e : is_reserved g ≡ b) (d : is_reserved g ≡ true)
    → reserved_if g b e ≡ Some (reserved (record { sign = g; reserved = d }))
reserved_by g true e d = ap (λ f. Some (reserved (record { sign = g; reserved = f })))
    (Bool-set _ _ e d)
reserved_by g false e d = absurd (cc)

reserved_is : (r : Reserved) → way_in (sign r.sign) ≡ Some (reserved r)
reserved_is r = reserved_by r.sign (is_reserved r.sign) refl r.reserved

-- nothing ends here
abbrev nothing_if : Bool → Option Statement
nothing_if b = if b then None else None

ends_none : (b : Bool) → nothing_if b ≡ None
ends_none true = refl
ends_none false = refl

-- the words before a step's direction
head_course : (is : List Input) (ss : List Step) (b : Before) (i : ℕ) (h : Head) (fs : List Fault)
    → course_of (Some (at is ss [] b between i fs))
    (name h.name ∷ (colon ∷ (format h.format ∷ [])))
    ≡ Some (at is ss [] b (step_way h) i (((fs
    ++ (new_name_faults b i h.name ++ weight_faults b 1 i)) ++ [])
    ++ format_faults (i + 2) h.format))
head_course is [] b i h fs = refl
head_course is (x ∷ ss) b i h fs = refl

-- ---- the parts of a step

module _ (is : List Input) (ss : List Step) (b : Before) (i : ℕ) where
  -- where the reading stands
  abbrev here : Part → List Fault → Option Course
  here p fs = Some (at is ss [] b p i fs)

  way_course : (h : Head) (v : Way) (fs : List Fault)
      → course_of (here (step_way h) fs) (way_words v)
      ≡ here (step_equal (directed h v)) (fs ++ way_finds (at_word i (step_way h)) (Some v))
  way_course h (called text) fs = refl
  way_course h reserved_out fs = refl
  way_course h (reserved r) fs = rw (reserved_is r, ends_none (is_semicolon (sign r.sign))) refl

  first_course : (g : Begun) (a : Operand) (fs : List Fault)
      → course_of (here (step_operand g) fs) (operand_words a)
      ≡ here (step_operator g a) (fs ++ operand_faults b (i + 5) a)
  first_course g (named text) fs = refl
  first_course g (given text) fs = refl

  negated_course : (g : Begun) (a : Operand) (fs : List Fault)
      → course_of (here (step_negated g) fs) (operand_words a)
      ≡ here (step_end (stepped g (negation a))) (fs ++ operand_faults b (i + 5 + 1) a)
  negated_course g (named text) fs = refl
  negated_course g (given text) fs = refl

  second_course : (g : Begun) (a : Operand) (j : Joint) (c : Operand) (fs : List Fault)
      → course_of (here (step_second g a j) fs) (operand_words c)
      ≡ here (step_end (stepped g (joined a j c))) (fs ++ operand_faults b (i + 5 + 2) c)
  second_course g a j (named text) fs = refl
  second_course g a j (given text) fs = refl

  places_course : (g : Begun) (a : Operand) (k : Shift) (n : Digits) (fs : List Fault)
      → course_of (here (step_places g a k) fs) (literal n.text ∷ [])
      ≡ here (step_end (stepped g (shifted a k n))) (fs ++ shift_faults (i + 5 + 2) n)
  places_course g a k n fs = rw (digits_are n) refl

  -- a step that its `;` ends
  abbrev ended_at : Begun → Operation → List Fault → Option Course
  ended_at g o fs = Some (at is (ss ++ (stepped g o ∷ [])) [] (after b (step (stepped g o)))
      between (i + length (step_words (stepped g o))) fs)

  joint_course : (g : Begun) (a : Operand) (j : Joint) (c : Operand) (fs : List Fault)
      → course_of (here (step_operand g) fs) (operand_words a
      ++ (joint_words j ++ (operand_words c ++ (sign s.Semicolon ∷ []))))
      ≡ ended_at g (joined a j c) (fs ++ (operand_faults b (i + 5) a
      ++ operand_faults b (i + 5 + 2) c))
  joint_course g a j c fs =
      course_of-append (operand_words a) _ (here (step_operand g) fs)
      ∙ ap (λ o. course_of o (joint_words j ++ (operand_words c ++ (sign s.Semicolon ∷ []))))
      (first_course g a fs)
      ∙ by_joint j (fs ++ operand_faults b (i + 5) a)
      ∙ course_of-append (operand_words c) (sign s.Semicolon ∷ [])
      (here (step_second g a j) (fs ++ operand_faults b (i + 5) a))
      ∙ ap (λ o. course_of o (sign s.Semicolon ∷ []))
      (second_course g a j c (fs ++ operand_faults b (i + 5) a))
      ∙ ap (ended_at g (joined a j c)) (simp (append_assoc, append-nil))
    where
      by_joint : (j : Joint) (gs : List Fault)
          → course_of (here (step_operator g a) gs) (joint_words j
          ++ (operand_words c ++ (sign s.Semicolon ∷ [])))
          ≡ course_of (here (step_second g a j) gs) (operand_words c ++ (sign s.Semicolon ∷ []))
      by_joint joint.Plus gs = ap (λ l. course_of (here (step_second g a joint.Plus) l)
          (operand_words c ++ (sign s.Semicolon ∷ []))) (append-nil gs)
      by_joint joint.Minus gs = ap (λ l. course_of (here (step_second g a joint.Minus) l)
          (operand_words c ++ (sign s.Semicolon ∷ []))) (append-nil gs)
      by_joint joint.Times gs = ap (λ l. course_of (here (step_second g a joint.Times) l)
          (operand_words c ++ (sign s.Semicolon ∷ []))) (append-nil gs)

  shift_course : (g : Begun) (a : Operand) (k : Shift) (n : Digits) (fs : List Fault)
      → course_of (here (step_operand g) fs) (operand_words a
      ++ (shift_words k ++ (literal n.text ∷ (sign s.Semicolon ∷ []))))
      ≡ ended_at g (shifted a k n) (fs ++ (operand_faults b (i + 5) a
      ++ shift_faults (i + 5 + 2) n))
  shift_course g a k n fs =
      course_of-append (operand_words a) _ (here (step_operand g) fs)
      ∙ ap (λ o. course_of o (shift_words k ++ (literal n.text ∷ (sign s.Semicolon ∷ []))))
      (first_course g a fs)
      ∙ by_shift k (fs ++ operand_faults b (i + 5) a)
      ∙ ap (λ o. course_of o (sign s.Semicolon ∷ []))
      (places_course g a k n (fs ++ operand_faults b (i + 5) a))
      ∙ ap (ended_at g (shifted a k n)) (simp (append_assoc, append-nil))
    where
      by_shift : (k : Shift) (gs : List Fault)
          → course_of (here (step_operator g a) gs) (shift_words k
          ++ (literal n.text ∷ (sign s.Semicolon ∷ [])))
          ≡ course_of (here (step_places g a k) gs) (literal n.text ∷ (sign s.Semicolon ∷ []))
      by_shift shift.Right gs = ap (λ l. course_of (here (step_places g a shift.Right) l)
          (literal n.text ∷ (sign s.Semicolon ∷ []))) (append-nil gs)
      by_shift shift.Left gs = ap (λ l. course_of (here (step_places g a shift.Left) l)
          (literal n.text ∷ (sign s.Semicolon ∷ []))) (append-nil gs)

  operation_course : (g : Begun) (o : Operation) (fs : List Fault)
      → course_of (here (step_operand g) fs) (operation_words o ++ (sign s.Semicolon ∷ []))
      ≡ ended_at g o (fs ++ operation_faults b (i + 5) o)
  operation_course g (copy a) fs =
      course_of-append (operand_words a) _ (here (step_operand g) fs)
      ∙ ap (λ o. course_of o (sign s.Semicolon ∷ [])) (first_course g a fs)
      ∙ ap (ended_at g (copy a)) (append-nil _)
  operation_course g (negation a) fs =
      ap (λ l. course_of (here (step_negated g) l) (operand_words a ++ (sign s.Semicolon ∷ [])))
      (append-nil fs)
      ∙ course_of-append (operand_words a) _ (here (step_negated g) fs)
      ∙ ap (λ o. course_of o (sign s.Semicolon ∷ [])) (negated_course g a fs)
      ∙ ap (ended_at g (negation a)) (append-nil _)
  operation_course g (sum a c) fs = ap (course_of (here (step_operand g) fs))
      (append_assoc (operand_words a) (sign s.Plus ∷ operand_words c) (sign s.Semicolon ∷ []))
      ∙ joint_course g a joint.Plus c fs
  operation_course g (difference a c) fs = ap (course_of (here (step_operand g) fs))
      (append_assoc (operand_words a) (sign s.Minus ∷ operand_words c) (sign s.Semicolon ∷ []))
      ∙ joint_course g a joint.Minus c fs
  operation_course g (product a c) fs = ap (course_of (here (step_operand g) fs))
      (append_assoc (operand_words a) (sign s.Star ∷ operand_words c) (sign s.Semicolon ∷ []))
      ∙ joint_course g a joint.Times c fs
  operation_course g (shift_right a k) fs = ap (course_of (here (step_operand g) fs))
      (append_assoc (operand_words a) (right ∷ (literal k.text ∷ [])) (sign s.Semicolon ∷ []))
      ∙ shift_course g a shift.Right k fs
  operation_course g (shift_left a k) fs = ap (course_of (here (step_operand g) fs))
      (append_assoc (operand_words a) (left ∷ (literal k.text ∷ [])) (sign s.Semicolon ∷ []))
      ∙ shift_course g a shift.Left k fs

  pub step_course : (x : Step) (fs : List Fault) → course_of (here between fs) (step_words x)
      ≡ Some (at is (ss ++ (x ∷ [])) [] (after b (step x)) between (i + length (step_words x)) (fs
      ++ step_faults b i x))
  step_course x fs =
      let h = headed x.name x.format in
      let g = directed h x.way in
      let behind = operation_words x.operation ++ (sign s.Semicolon ∷ []) in
      let named = fs ++ ((new_name_faults b i x.name ++ weight_faults b 1 i)
      ++ format_faults (i + 2) x.format) in
      let ways = named ++ way_finds (at_word i (step_way h)) (Some x.way) in
      ap (λ o. course_of o (way_words x.way ++ (sign s.Equal ∷ behind)))
      (head_course is ss b i h fs)
      ∙ ap (λ l. course_of (here (step_way h) l) (way_words x.way ++ (sign s.Equal ∷ behind)))
      (lead fs (new_name_faults b i x.name ++ weight_faults b 1 i)
      (format_faults (i + 2) x.format))
      ∙ course_of-append (way_words x.way) (sign s.Equal ∷ behind) (here (step_way h) named)
      ∙ ap (λ o. course_of o (sign s.Equal ∷ behind)) (way_course h x.way named)
      ∙ ap (λ l. course_of (here (step_operand g) l) behind) (append-nil ways)
      ∙ operation_course g x.operation ways
      ∙ ap (λ l. Some (at is (ss ++ (x ∷ [])) [] (after b (step x)) between (i
      + length (step_words x)) l)) (simp append_assoc)
    where
      lead : (fs ns ms : List Fault) → ((fs ++ ns) ++ []) ++ ms ≡ fs ++ (ns ++ ms)
      lead fs ns ms = simp (append_assoc, append-nil)

-- ---- outputs

pub output_course : (is : List Input) (ss : List Step) (os : List Name) (b : Before) (i : ℕ)
    (n : Name) (fs : List Fault)
    → course_of (Some (at is ss os b between i fs)) (output_words n)
    ≡ Some (at is ss (os ++ (n ∷ [])) (after b (output n)) between (i
    + length (output_words n)) (fs ++ output_faults b i n))
output_course is [] [] b i n fs = simp (append_assoc, append-nil)
output_course is [] (o ∷ os) b i n fs = simp (append_assoc, append-nil)
output_course is (x ∷ ss) [] b i n fs = simp (append_assoc, append-nil)
output_course is (x ∷ ss) (o ∷ os) b i n fs = simp (append_assoc, append-nil)
