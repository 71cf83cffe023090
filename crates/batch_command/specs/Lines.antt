-- The printed lines, as bytes. Each ends with a line feed.
use Rattle.std.specs.Prelude.{ℕ, ◌++◌, codes, List}
use Rattle.std.specs.Fmt.{decimal}
use Rattle.name_list.specs.declared.fault.ListFault.{ListFault}
use Rattle.name_list.specs.declared.fault.ListKind.{ListKind}
use Rattle.name_list.specs.declared.fault.ListKind.TheVariants as kind

-- above what is printed of a script: its name
abbrev pub script_line : List ℕ → List ℕ
script_line name = codes "script " ++ name ++ codes "\n"

-- the kind's name
abbrev pub kind_text : ListKind → List ℕ
kind_text kind.NotText = codes "NotText"
kind_text kind.EmptyName = codes "EmptyName"
kind_text kind.Limit = codes "Limit"

-- of a text that is no list: why, and at which byte, counted from 0
abbrev pub list_fault_line : ListFault → List ℕ
list_fault_line f =
    codes "list: " ++ kind_text f.kind ++ codes " at " ++ decimal f.at ++ codes "\n"
