-- Laws of what specs/Finding defines.
use Rattle.std.specs.Prelude.{ℕ, ◌+◌, List, [], ◌∷◌, ◌++◌, length, Option, Some, None, Bool}
use Rattle.std.specs.Prelude.{if◌then◌else◌}
use Rattle.std.specs.Option.{option_map}
use Rattle.fixprog.specs.declared.fault.ProgKind.{ProgKind}
use Rattle.fixprog.specs.declared.fault.ProgKind.TheVariants as kind
use Rattle.fixprog.specs.declared.fault.ProgFault.{ProgFault}
use Rattle.fixprog.specs.declared.token.ProgramToken.{ProgramToken}
use Rattle.fixprog.specs.Words.{Word}
use Rattle.fixprog.specs.Grammar.{mark_words, bound_words, Statement, statement_words}
use Rattle.fixprog.specs.Faults.{Fault}
use Rattle.fixprog.specs.First.{fault, start_of}
use Rattle.fixprog.specs.Standing.{Part, between, input_name, input_format, lower, lower_marked}
use Rattle.fixprog.specs.Standing.{upper, upper_marked, step_format, step_way, step_operand}
use Rattle.fixprog.specs.Standing.{step_negated, step_second, step_places, output_name, ended}
use Rattle.fixprog.specs.Standing.{Standing, nothing_read, stands_after}
use Rattle.fixprog.proofs.Standing.{part_words}
use Rattle.fixprog.specs.Finding.{finds}

-- the number of the word that is due, where the statement's first has the number i, as
-- `statement_faults` has it
abbrev pub due : ℕ → Part → ℕ
due i between = i
due i input_name = i + 1
due i (input_format n) = i + 3
due i (lower h) = i + 5 + 0
due i (lower_marked h m) = i + 5 + length (mark_words m)
due i (upper h a) = i + 5 + length (bound_words a) + 1 + 0
due i (upper_marked h a m) = i + 5 + length (bound_words a) + 1 + length (mark_words m)
due i (step_format n) = i + 2
due i (step_way h) = i + 3
due i (step_operand b) = i + 5
due i (step_negated b) = i + 5 + 1
due i (step_second b a j) = i + 5 + 2
due i (step_places b a k) = i + 5 + 2
due i output_name = i + 1
due i p = i + length (part_words p)

-- The number of the first word of the bound that the due word is in; outside of bounds, the due
-- word's own.
abbrev pub bound_due : ℕ → Part → ℕ
bound_due i (lower h) = i + 5
bound_due i (lower_marked h m) = i + 5
bound_due i (upper h a) = i + 5 + length (bound_words a) + 1
bound_due i (upper_marked h a m) = i + 5 + length (bound_words a) + 1
bound_due i p = due i p

-- A fault by the byte at which its word's token begins, in place of the word's number.
abbrev pub placed : List ProgramToken → Fault → ProgFault
placed tokens f = fault f.kind (start_of tokens f.word)

-- A fault of the due word, or, where `e` holds, of its bound's first word; it is the due word that
-- tells it.
abbrev pub at_word : ℕ → Part → Bool → ProgKind → Fault
at_word i p e k = record { kind = k; word = if e then bound_due i p else due i p; told = due i p }

-- A standing, the number of the first word of its statement, and the faults so far.
pub record Course : Type 0 where
  pub stands : Standing
  pub begin : ℕ
  pub faults : List Fault

-- The number of the first word of the statement under way, after one that began at `i` has ended or
-- hasn't.
abbrev pub begin_after : ℕ → Option Statement → ℕ
begin_after i None = i
begin_after i (Some x) = i + length (statement_words x)

-- The course with one more word and the faults that it tells; none where the word has no place
-- there.
abbrev pub course_after : Course → Word → Option Course
course_after c w =
    option_map (λ s. record {
      stands = s;
      begin = begin_after c.begin (ended c.stands.part w);
      faults = c.faults ++ finds (at_word c.begin c.stands.part) c.stands.before c.stands.part w;
    }) (stands_after c.stands w)

-- The course with one more word; where an earlier word had no place, there is none anymore.
abbrev pub goes_on : Option Course → Word → Option Course
goes_on None w = None
goes_on (Some c) w = course_after c w

-- the course of some words
abbrev pub course_of : Option Course → List Word → Option Course
course_of o [] = o
course_of o (w ∷ ws) = course_of (goes_on o w) ws

-- The course before the first word, without a statement and without a fault.
abbrev pub nothing_judged : Course
nothing_judged = record { stands = nothing_read; begin = 0; faults = [] }
