-- The course of an input's words.
use Rattle.std.proofs.Common.{◌≡◌, ℕ, ◌+◌, List, [], ◌∷◌, ◌++◌, length, Some, append_assoc}
use Rattle.std.proofs.Common.{append-nil}
use Rattle.fixprog.specs.declared.program.Mark.{Mark}
use Rattle.fixprog.specs.declared.program.Mark.TheVariants as mark
use Rattle.fixprog.specs.Words.{Name}
use Rattle.fixprog.specs.Grammar.{Input, input_words, Step, input}
use Rattle.fixprog.specs.Faults.{Fault, Before, after, input_faults}
use Rattle.fixprog.specs.Standing.{Part, between, bound_of, Standing}
use Rattle.fixprog.proofs.Finding.{Course, course_of}

-- where the reading stands
abbrev pub standing : List Input → List Step → List Name → Before → Part → Standing
standing is ss os b p = record { inputs = is; steps = ss; outputs = os; before = b; part = p }

abbrev pub at : List Input → List Step → List Name → Before → Part → ℕ → List Fault → Course
at is ss os b p i fs = record { stands = standing is ss os b p; begin = i; faults = fs }

-- ---- inputs

pub input_course : (n f : List ℕ) (m k : Mark) (t u : List ℕ) (is : List Input) (b : Before)
    (i : ℕ) (fs : List Fault)
    → let x : Input = record { name = n; format = f; lower = bound_of m t; upper = bound_of k u } in
    course_of (Some (at is [] [] b between i fs)) (input_words x)
    ≡ Some (at (is ++ (x ∷ [])) [] [] (after b (input x)) between (i + length (input_words x))
    (fs ++ input_faults b i x))
input_course n f mark.Unmarked mark.Unmarked t u is b i fs = simp (append_assoc, append-nil)
input_course n f mark.Unmarked mark.Plus t u is b i fs = simp (append_assoc, append-nil)
input_course n f mark.Unmarked mark.Minus t u is b i fs = simp (append_assoc, append-nil)
input_course n f mark.Plus mark.Unmarked t u is b i fs = simp (append_assoc, append-nil)
input_course n f mark.Plus mark.Plus t u is b i fs = simp (append_assoc, append-nil)
input_course n f mark.Plus mark.Minus t u is b i fs = simp (append_assoc, append-nil)
input_course n f mark.Minus mark.Unmarked t u is b i fs = simp (append_assoc, append-nil)
input_course n f mark.Minus mark.Plus t u is b i fs = simp (append_assoc, append-nil)
input_course n f mark.Minus mark.Minus t u is b i fs = simp (append_assoc, append-nil)
