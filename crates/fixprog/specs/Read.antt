-- What the reader's steps do.
use Rattle.std.specs.Prelude.{◌≡◌, ℕ, List, [], Some, None, Result, Ok, Err}
use Rattle.fixprog.specs.declared.fault.ProgFault.{ProgFault}
use Rattle.fixprog.specs.declared.program.Program.{Program as CodeProgram}
use Rattle.fixprog.specs.declared.reader.ProgramReader.{ProgramReader}
use Rattle.fixprog.specs.Words.{Word}
use Rattle.fixprog.specs.Grammar.{Program}
use Rattle.fixprog.specs.Faults.{program_faults}
use Rattle.fixprog.specs.First.{IsFirstFault, Spells}
use Rattle.fixprog.specs.Standing.{stands_after}
use Rattle.fixprog.specs.Finding.{found, first_from}
use Rattle.fixprog.specs.Views.{standing_of, program_of}

-- The word that begins at this byte has a place, and its faults are told.
pub record IsTaken (old new : ProgramReader) (w : Word) (at : ℕ) : Type 0 where
  pub stands : stands_after (standing_of old) w ≡ Some (standing_of new)
  pub first : new.first ≡ first_from old.first
      (found (standing_of old).before (standing_of old).part w old.last at)
  pub last : new.last ≡ at

-- The word has no place.
pub record IsStuck (old new : ProgramReader) (w : Word) : Type 0 where
  pub stands : stands_after (standing_of old) w ≡ None
  pub same : new ≡ old

-- The statements are those of the program that the text spells, in which nothing is wrong.
pub record IsProgramOf (text : List ℕ) (p : CodeProgram) : Type 0 where
  pub tree : Program
  pub same : program_of p ≡ Some tree
  pub spelled : Spells text tree
  pub faultless : program_faults tree ≡ []

-- the program that the text spells, or its first fault
abbrev pub IsRead : List ℕ → Result CodeProgram ProgFault → Type 0
IsRead text (Ok p) = IsProgramOf text p
IsRead text (Err f) = IsFirstFault text (Some f)
