-- The printed lines, as bytes. Each ends with a line feed.
use Rattle.std.specs.Prelude.{ℕ, ◌++◌, codes, List}
use Rattle.std.specs.Fmt.{decimal}
use Rattle.fixprog.specs.declared.fault.ProgKind.{ProgKind}
use Rattle.fixprog.specs.declared.fault.ProgKind.TheVariants as kind
use Rattle.fixprog.specs.declared.fault.ProgFault.{ProgFault}

-- of a turned program: how many steps and outputs it has
abbrev pub fix_line : ℕ → ℕ → List ℕ
fix_line steps outs = codes "fix: " ++ (decimal steps ++ (codes " steps, "
    ++ (decimal outs ++ codes " outputs\n")))

-- the kind's name
abbrev pub kind_text : ProgKind → List ℕ
kind_text kind.NotText = codes "NotText"
kind_text kind.BadToken = codes "BadToken"
kind_text kind.Unexpected = codes "Unexpected"
kind_text kind.BadFormat = codes "BadFormat"
kind_text kind.Undefined = codes "Undefined"
kind_text kind.NameUsed = codes "NameUsed"
kind_text kind.BadRange = codes "BadRange"
kind_text kind.LiteralLimit = codes "LiteralLimit"
kind_text kind.BadDirection = codes "BadDirection"
kind_text kind.Limit = codes "Limit"

-- of a text that is no program: why, and at which byte, counted from 0
abbrev pub program_fault_line : ProgFault → List ℕ
program_fault_line f =
    codes "program: " ++ kind_text f.kind ++ codes " at " ++ decimal f.at ++ codes "\n"
